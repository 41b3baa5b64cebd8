use Rattle.std.proofs.Common.{◌≡◌, ◌≤◌, ◌-◌, List}
use Rattle.block_disk.specs.Memory.{Stop}
use Rattle.disk_deferred.specs.Deferred.{onto}
use Rattle.disk_deferred.specs.Joined.{IsAtSync, join_units}
use Rattle.disk_deferred.proofs.disk.keep_units.Given as goal

-- so many are kept
abbrev pub invariant-loop-done : goal.invariant-loop-done
invariant-loop-done l = record {
  few : l.done ≤ l.count;
  kept : (before : List Stop) → IsAtSync before → onto before l.calls.items ≡ join_units l.done l.at l.units (onto before l.initial.calls.items);
}

abbrev pub decreases-loop-done : goal.decreases-loop-done
decreases-loop-done l = l.count - l.done
