use Rattle.std.proofs.Common.{ℕ, ◌<◌}
use Rattle.std.specs.List.{slice_index_or}
use Rattle.law_hosted.specs.Copies.{copy_of}
use Rattle.zelamiku.specs.LayoutDoors.{TellsField}
use Rattle.zelamiku.specs.declared.words.Field.{Field}
use Rattle.zelamiku.proofs.layout_calls.tell_fields.Given as goal

-- the entries so far tell of the fields of their places
abbrev pub invariant-loop-i : goal.invariant-loop-i
invariant-loop-i l = (k : ℕ) (d : Field) → k < l.i → TellsField (copy_of l.heap.helper.store.disk) l.layout.fields k (slice_index_or l.fields k d)
