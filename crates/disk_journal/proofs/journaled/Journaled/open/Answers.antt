use Rattle.std.proofs.Common.{inl, inr, sym, subst}
use Rattle.block_disk.specs.Device.{Device}
use Rattle.disk_journal.specs.Refusals.{StandsThrough}
use Rattle.disk_journal.proofs.journaled.Journaled.open.Goals as goal

pub returns-in-Ok-clause-left : goal.returns-in-Ok-clause-left
returns-in-Ok-clause-left g c = subst (λ (d : Device). StandsThrough (g.D.Disk.device c.args.disk) d) (sym c.holding.ensures.disk) c.in-Ok.ensures.left

pub returns-in-Ok-clause-unlabelled : goal.returns-in-Ok-clause-unlabelled
returns-in-Ok-clause-unlabelled g c = λ none. elim (c.in-Ok.ensures.unlabelled none) [ inl is ↦ absurd (cc) | inr is ↦ absurd (cc) ]
