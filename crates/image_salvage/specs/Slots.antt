-- What is written of an image's heap by one slot of its control: a schema file.
use Rattle.std.specs.Prelude.{ℕ, ◌≡◌, Option, Result, List, [], slice_set}
use Rattle.std.specs.Io.KnownBytes.{Appends}
use Rattle.guards.specs.Schema.{Declarations}
use Rattle.image_parts.specs.Slots.{other, slot_at}
use Rattle.image_parts.specs.declared.slot.Slot.{Slot}
use Rattle.image_schema.specs.Dumping.{dumped}
use Rattle.image_schema.specs.OfImage.{FitsImage, named_as}
use Rattle.image_schema.specs.declared.error.DumpError.{DumpError}
use Rattle.image_schema.specs.declared.error.DumpError.TheVariants as dump_error
use Rattle.inspect.specs.Written.{AppendsPart, WritesOr}
use Rattle.recover.specs.Reading.{RefusesImage}
use Rattle.recover.specs.Study.{IsStudyOf}
use Rattle.recover_heap.specs.declared.error.RecoverError.TheVariants.{NoMemory}
use Rattle.recover.specs.declared.studied.Study.{Study}
use Rattle.image_salvage.specs.Notes.{noted_text, slot_note}

-- the image in which the other slot's gate is closed, so that this slot counts, or none
abbrev pub alone : Slot → (image : List ℕ) → List ℕ
alone slot image = slice_set image (slot_at (other slot)) 0

-- the schema that was given, or else that of numbers, is that of the image that was studied
abbrev pub FitsStudy : Option Declarations → Study → Type 0
FitsStudy given s = FitsImage (named_as given s) s.layout s.guards.items

-- the note, and the schema file whose fields begin with the heap that was found
abbrev pub slot_text : Slot → Option Declarations → Study → List ℕ
slot_text slot given s = noted_text (slot_note slot) (dumped given s)

-- the file of the study was written: of a schema that is the image's
pub record DumpsStudied (slot : Slot) (given : Option Declarations) (s : Study) (old new : Option (List ℕ)) : Type 0 where
  pub fits : FitsStudy given s
  pub written : Appends old new (slot_text slot given s)

-- a beginning of it was written
pub record DumpsStudiedPart (slot : Slot) (given : Option Declarations) (s : Study) (old new : Option (List ℕ)) : Type 0 where
  pub fits : FitsStudy given s
  pub written : AppendsPart old new (slot_text slot given s)

-- what each refusal says of the study
abbrev pub RefusesStudied : Slot → Option Declarations → Study → (old new : Option (List ℕ)) → DumpError → Type 0
RefusesStudied slot given s old new (dump_error.Study why) = (why ≡ NoMemory) × Appends old new []
RefusesStudied slot given s old new dump_error.OtherSchema = (FitsStudy given s → ⊥) × Appends old new []
RefusesStudied slot given s old new dump_error.Write = DumpsStudiedPart slot given s old new

-- the file of the image's heap by this slot was written
pub record DumpsSlot (slot : Slot) (given : Option Declarations) (image : List ℕ) (old new : Option (List ℕ)) : Type 0 where
  pub study : Study
  pub studied : IsStudyOf (alone slot image) study
  pub fits : FitsStudy given study
  pub written : Appends old new (slot_text slot given study)

-- a beginning of it was written
pub record DumpsSlotPart (slot : Slot) (given : Option Declarations) (image : List ℕ) (old new : Option (List ℕ)) : Type 0 where
  pub study : Study
  pub studied : IsStudyOf (alone slot image) study
  pub fits : FitsStudy given study
  pub written : AppendsPart old new (slot_text slot given study)

-- the schema that was given isn't the image's
pub record IsOtherBySlot (slot : Slot) (given : Option Declarations) (image : List ℕ) : Type 0 where
  pub study : Study
  pub studied : IsStudyOf (alone slot image) study
  pub other : FitsStudy given study → ⊥

-- what each refusal says of the image, of the schema that was given, and of what was written
abbrev pub RefusesSlot : Slot → Option Declarations → List ℕ → (old new : Option (List ℕ)) → DumpError → Type 0
RefusesSlot slot given image old new (dump_error.Study why) = RefusesImage (alone slot image) why × Appends old new []
RefusesSlot slot given image old new dump_error.OtherSchema = IsOtherBySlot slot given image × Appends old new []
RefusesSlot slot given image old new dump_error.Write = DumpsSlotPart slot given image old new

-- what each answer says of a study by a slot whose schema file was to be written
abbrev pub DumpedStudied : {W T : Type 0} → Slot → Option Declarations → Study → (contents : W → Option (List ℕ)) (old new : W)
    → Result T DumpError → Type 0
DumpedStudied slot given s contents old new result =
    WritesOr (DumpsStudied slot given s) (RefusesStudied slot given s) contents old new result

-- what each answer says of an image that was to be dumped by a slot
abbrev pub DumpedSlot : {W T : Type 0} → Slot → Option Declarations → List ℕ → (contents : W → Option (List ℕ)) (old new : W)
    → Result T DumpError → Type 0
DumpedSlot slot given image contents old new result =
    WritesOr (DumpsSlot slot given image) (RefusesSlot slot given image) contents old new result
