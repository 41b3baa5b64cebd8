use Rattle.std.proofs.Common.{◌≡◌, ◌<◌, ℕ, length, slice_index}
use Rattle.guards.specs.Schema.{first_of}
use Rattle.store_image.proofs.formatting.first_values.Given as goal

-- the values of the fields so far
abbrev pub invariant-loop-field : goal.invariant-loop-field
invariant-loop-field l = record {
  size : length l.values.items ≡ l.field;
  each : (f : ℕ) → f < l.field → slice_index l.values.items f ≡ first_of l.schema f;
}
