use Rattle.std.proofs.Common.{◌≡◌, ◌-◌, drop, length}
use Rattle.store_round_sections.specs.Sections.{needed_of}
use Rattle.store_round_sections.proofs.sections.needed.Given as goal

-- so many records the fields take from the end on
abbrev pub invariant-loop-done : goal.invariant-loop-done
invariant-loop-done l = record { sum : l.records ≡ needed_of l.guards (drop (length l.changed - l.done) l.changed) }
