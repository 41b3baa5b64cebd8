use Rattle.std.proofs.Common.{◌≡◌, ◌<◌, ◌≤◌, ℕ, not, length, slice_index, slice_index_or, vec_len, vec_capacity}
use Rattle.image_parts.specs.declared.guard_row.GuardRow.{GuardRow}
use Rattle.store_memory.specs.Memory.{field_in}
use Rattle.store_rounds.proofs.beginning.fields_of.Given as goal

-- the fields so far have their guards and values
abbrev pub invariant-loop-place : goal.invariant-loop-place
invariant-loop-place l = record {
  size : length l.fields.items ≡ l.place;
  len : vec_len l.fields ≡ l.place;
  room : length l.guards ≤ vec_capacity l.fields;
  guards : (f : ℕ) (d : GuardRow) → f < l.place → (field_in l.fields.items f).guard ≡ (slice_index_or l.guards f d).guard;
  marks : (f : ℕ) (d : GuardRow) → f < l.place → (field_in l.fields.items f).is_logged ≡ not (slice_index_or l.guards f d).transient;
  values : (f : ℕ) → f < l.place → (field_in l.fields.items f).value ≡ slice_index l.heap f;
  logged : (f : ℕ) → f < l.place → (field_in l.fields.items f).logged ≡ slice_index l.heap f;
}
