use Rattle.std.proofs.Common.{◌≡◌, ℕ, ◌-◌, length}
use Rattle.block_disk.specs.Device.{Device}
use Rattle.disk_journal.specs.Disks.{SameBelow}
use Rattle.host_journal.specs.Gathered.{IsCounted, IsGathering, TakesOn}
use Rattle.host_journal.proofs.taking.take_all.Given as goal

abbrev pub invariant-loop-parts : goal.invariant-loop-parts
invariant-loop-parts l = record {
  counted : IsCounted l.parts;
  keeps : (heap : Device) (base : ℕ) → IsGathering heap base l.initial.parts → TakesOn heap l.initial.parts → IsGathering heap base l.parts × TakesOn heap l.parts;
  below : SameBelow l.initial.parts.disk l.parts.disk;
  words : l.parts.words ≡ l.initial.parts.words;
  turns : l.parts.turns ≡ l.initial.parts.turns;
}

abbrev pub decreases-loop-parts : goal.decreases-loop-parts
decreases-loop-parts l = length l.parts.group.items - l.parts.moved
