-- What C is told of what an open heap has: its layout, and its fields (this project's own).
use Rattle.std.specs.Prelude.{ℕ, ◌≡◌, ◌<◌, ◌≤◌, List, length}
use Rattle.std.specs.List.{slice_index_or}
use Rattle.block_disk.specs.Bytes.{part}
use Rattle.law_hosted.specs.Copies.{copy_of}
use Rattle.image_parts.specs.Guards.{SpellsGuard, mark_of}
use Rattle.image_parts.specs.Layout.{guard_at}
use Rattle.image_parts.specs.declared.guard_row.GuardRow.{GuardRow}
use Rattle.zelamiku.specs.Handles.{OfHeap, heap_held}
use Rattle.zelamiku.specs.HeadDoors.{head_of}
use Rattle.zelamiku.specs.Own.{Held}
use Rattle.zelamiku.specs.declared.state.Open.{Open}
use Rattle.zelamiku.specs.declared.status.TheConstants.{OK}
use Rattle.zelamiku.specs.declared.words.Field.{Field}
use Rattle.zelamiku.specs.declared.words.Head.{Head}

-- a field as C sees it, by its guard row
abbrev pub field_of : GuardRow → Field
field_of r = record { owner = r.owner.0; guard = r.guard.0; first = r.first; transient = mark_of r.transient }

-- what stands where a heap has no more fields
abbrev pub no_field : Field
no_field = record { owner = 0; guard = 0; first = 0; transient = 0 }

-- the field is told that the guard row at this place of the image spells
abbrev pub TellsRow : (image : List ℕ) (at : ℕ) (told : Field) → Type 0
TellsRow image at told = (r : GuardRow) → SpellsGuard (part at 16 image) r → told ≡ field_of r

-- a field is told as its guard row in the image spells it; past so many fields none is
abbrev pub TellsField : (image : List ℕ) (count f : ℕ) (told : Field) → Type 0
TellsField image count f told = (f < count → TellsRow image (guard_at f) told) × (count ≤ f → told ≡ no_field)

-- each is
abbrev pub TellsFields : (image : List ℕ) (count : ℕ) (told : List Field) → Type 0
TellsFields image count told = (f : ℕ) (d : Field) → f < length told → TellsField image count f (slice_index_or told f d)

-- `zelamiku_fields`: of a heap that runs its layout is told, and as many of its fields as there is room for, and it stays as it was
abbrev pub TellsLayoutAt : (head : Head) (fields : List Field) → Open → (after : Held) → (status : ℕ) → Type 0
TellsLayoutAt head fields = OfHeap (λ x after status. (head ≡ head_of x.helper.store.known.layout)
    × TellsFields (copy_of x.helper.store.disk) x.helper.store.known.layout.fields fields × (status ≡ OK) × (after ≡ heap_held x))
