-- Where the places after a lane's sections are noted (this project's own).
use Rattle.std.specs.Prelude.{ℕ, ◌≤◌, if◌then◌else◌, Bool, List}
use Rattle.heap_model.specs.declared.record.Record.{Record}
use Rattle.heap_model.specs.declared.record.Record.TheVariants.{Acq, Rel, WaitRel, Put}
use Rattle.store_memory.specs.Ends.{slot_of, with_slot}

-- only a release ends a section of its lane, so that there are more than before
abbrev pub MayEnd : Record → (before after : ℕ) → Type 0
MayEnd (Acq o n) before after = after ≤ before
MayEnd (Rel o n) before after = Unit {0}
MayEnd (WaitRel o n) before after = Unit {0}
MayEnd (Put f old new) before after = after ≤ before

-- the table after a lane's record: if its section of this number ended, the table has the place after it
abbrev pub ends_after : (capacity lanes lane : ℕ) → (has_ended : Bool) → (section place : ℕ) → List ℕ → List ℕ
ends_after c k l has_ended section place ends = if has_ended then with_slot ends (slot_of c k l section) place else ends
