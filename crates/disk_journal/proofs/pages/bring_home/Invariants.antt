use Rattle.std.proofs.Common.{length, ◌-◌, ◌≤◌}
use Rattle.disk_journal.proofs.PageLemmas.{Brought}
use Rattle.disk_journal.proofs.pages.bring_home.Given as goal

-- the entries so far are brought to their places
abbrev pub invariant-loop-done : goal.invariant-loop-done
invariant-loop-done g l = record {
  within : l.done ≤ length l.entries;
  brought : Brought l.areas l.entries l.done (g.D.Disk.device l.fn.disk) (g.D.Disk.device l.disk);
}

abbrev pub decreases-loop-done : goal.decreases-loop-done
decreases-loop-done g l = length l.entries - l.done
