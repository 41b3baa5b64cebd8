use Rattle.std.proofs.Common.{◌≡◌, ◌-◌, ◌<◌, ◌≤◌, ◌^◌, ℕ, get_or}
use Rattle.store_round_image.specs.declared.cells.HomeValue.{HomeValue}
use Rattle.store_round_sections.specs.Sections.{guard_of}
use Rattle.store_round_sections.proofs.sections.run_start.Given as goal

-- the fields from here to the end have the last one's guard
abbrev pub invariant-loop-run : goal.invariant-loop-run
invariant-loop-run l = record {
  same : (k : ℕ) (d : HomeValue) → l.end - l.run ≤ k → k < l.end → (guard_of l.guards (get_or l.changed k d)).0 ≡ l.guard.0;
  words : (k : ℕ) (d : HomeValue) → l.end - l.run ≤ k → k < l.end → (get_or l.changed k d).value < 2 ^ 64;
}
