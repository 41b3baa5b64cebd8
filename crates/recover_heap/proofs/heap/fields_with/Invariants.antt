use Rattle.std.proofs.Common.{ℕ, ◌≢◌, ◌<◌, None}
use Rattle.std.specs.Prelude.{slice_index_or}
use Rattle.recover_heap.specs.Heap.{AreFields}
use Rattle.recover_heap.proofs.heap.fields_with.Given as goal

abbrev pub invariant-loop-field : goal.invariant-loop-field
invariant-loop-field l = AreFields (λ (f : ℕ). (f < l.field) × (slice_index_or l.before f None ≢ None)) l.fields.items
