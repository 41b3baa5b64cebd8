use Rattle.std.proofs.Common.{◌≡◌, ◌<◌, ◌≤◌, ℕ, length, slice_index_or, vec_len, vec_capacity}
use Rattle.heap_model.specs.declared.ids.ObjectId.{ObjectId}
use Rattle.image_parts.specs.declared.guard_row.GuardRow.{GuardRow}
use Rattle.store_rounds.proofs.beginning.guards_of.Given as goal

-- the objects so far are the rows' guards
abbrev pub invariant-loop-row : goal.invariant-loop-row
invariant-loop-row l = record {
  size : length l.objects.items ≡ l.row-index;
  len : vec_len l.objects ≡ l.row-index;
  room : length l.guards ≤ vec_capacity l.objects;
  each : (f : ℕ) (o : ObjectId) (row : GuardRow) → f < l.row-index → slice_index_or l.objects.items f o ≡ (slice_index_or l.guards f row).guard;
}
