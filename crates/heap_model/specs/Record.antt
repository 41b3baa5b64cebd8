-- What a record keeps, and what it says of its lane's section.
use Rattle.std.specs.Prelude.{◌≡◌, ℕ}
use Rattle.heap_model.specs.declared.record.Record.{Record}
use Rattle.heap_model.specs.declared.record.Record.TheVariants.{Acq, Rel, WaitRel, Put}
use Rattle.heap_model.specs.declared.record.UndoRecord.{UndoRecord}
use Rattle.heap_model.specs.declared.record.UndoRecord.TheVariants as undo

-- the record without the new value of a store: what an undo log keeps (Atlas)
abbrev pub undo_of : Record → UndoRecord
undo_of (Acq object number) = undo.Acq object number
undo_of (Rel object number) = undo.Rel object number
undo_of (WaitRel object number) = undo.WaitRel object number
undo_of (Put field before after) = undo.Put field before

-- the record gives up the last of the monitors that its thread holds: an outermost critical section ends (Atlas), at a wait too (this project's own)
abbrev pub EndsSection : Record → (held : ℕ) → Type 0
EndsSection (Acq object number) held = ⊥
EndsSection (Rel object number) held = held ≡ 1
EndsSection (WaitRel object number) held = held ≡ 1
EndsSection (Put field before after) held = ⊥
