use Rattle.std.proofs.Common.{◌≡◌, ◌+◌, ◌<◌, ◌≤◌, ◌^◌, ◌++◌, ℕ, drop, get_or, length}
use Rattle.std.specs.Prelude.{All}
use Rattle.std.specs.Vec.{vec_capacity, vec_len}
use Rattle.store_round_image.specs.declared.cells.HomeValue.{HomeValue}
use Rattle.store_round_making.specs.Helper.{HasValueIn}
use Rattle.store_round_sections.specs.Sections.{needed_of, sections_of}
use Rattle.store_round_sections.proofs.Made.{made}
use Rattle.store_round_sections.proofs.Runs.{EndsApart}
use Rattle.store_round_sections.proofs.sections.push_sections.Given as goal

-- the sections of the fields from here on stand, and before here a run ends
abbrev pub invariant-loop-end : goal.invariant-loop-end
invariant-loop-end l = record {
  within : l.end ≤ length l.changed;
  ends : EndsApart l.guards l.first l.changed l.end;
  items : (heap : ℕ → ℕ) → All (HasValueIn heap) l.changed → l.records.items ≡ l.initial.records.items ++ made heap (sections_of l.guards l.first (drop l.end l.changed));
  len : vec_len l.records ≡ vec_len l.initial.records + needed_of l.guards (drop l.end l.changed);
  words : (k : ℕ) (d : HomeValue) → l.end ≤ k → k < length l.changed → (get_or l.changed k d).value < 2 ^ 64;
  capacity : vec_capacity l.records ≡ vec_capacity l.initial.records;
}

abbrev pub decreases-loop-end : goal.decreases-loop-end
decreases-loop-end l = l.end
