use Rattle.durable.proofs.Playing.{PlayedOn}
use Rattle.durable.proofs.store.Store.play.Given as goal

-- so many calls were made, and after each of them the others went on from there
abbrev pub invariant-loop-place : goal.invariant-loop-place
invariant-loop-place g l = PlayedOn l.fn.self.known l.self.known (g.D.Disk.device l.fn.self.disk) (g.D.Disk.device l.self.disk) l.calls l.place
