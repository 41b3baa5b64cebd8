-- What is written of an image's sections: a graph, by the names of a schema file.
use Rattle.std.specs.Prelude.{ℕ, ◌≡◌, Option, None, Some, Result, List, []}
use Rattle.std.specs.Io.KnownBytes.{Appends}
use Rattle.block_disk.specs.Device.{Device}
use Rattle.guards.specs.Schema.{Declarations}
use Rattle.inspect.specs.Inspection.{WritesOfImage}
use Rattle.inspect.specs.WholeGraph.{picture_text}
use Rattle.inspect.specs.Written.{AppendsPart, WritesOr}
use Rattle.recover.specs.Reading.{RefusesImage}
use Rattle.recover.specs.Study.{IsStudyOf}
use Rattle.recover_heap.specs.declared.error.RecoverError.TheVariants.{Fault, NoMemory}
use Rattle.recover.specs.declared.studied.Study.{Study}
use Rattle.image_schema.specs.OfImage.{FitsImage}
use Rattle.image_schema.specs.declared.error.DumpError.{DumpError}
use Rattle.image_schema.specs.declared.error.DumpError.TheVariants as dump_error

-- the schema that was given, if one was, is the image's
abbrev pub FitsGiven : Option Declarations → Study → Type 0
FitsGiven None s = Unit {0}
FitsGiven (Some schema) s = FitsImage schema s.layout s.guards.items

-- the graph of the study was written, by the names of its schema
pub record DrawsStudy (given : Option Declarations) (last : ℕ) (s : Study) (old new : Option (List ℕ)) : Type 0 where
  pub fits : FitsGiven given s
  pub written : Appends old new (picture_text given last s)

-- a beginning of it was written
pub record DrawsStudyPart (given : Option Declarations) (last : ℕ) (s : Study) (old new : Option (List ℕ)) : Type 0 where
  pub fits : FitsGiven given s
  pub written : AppendsPart old new (picture_text given last s)

-- what each refusal says of the study
abbrev pub RefusesDrawnStudy : Option Declarations → (last : ℕ) → Study → (old new : Option (List ℕ)) → DumpError → Type 0
RefusesDrawnStudy given last s old new (dump_error.Study why) = (why ≡ NoMemory) × Appends old new []
RefusesDrawnStudy given last s old new dump_error.OtherSchema = (FitsGiven given s → ⊥) × Appends old new []
RefusesDrawnStudy given last s old new dump_error.Write = DrawsStudyPart given last s old new

-- the graph of the image was written
pub record Draws (given : Option Declarations) (last : ℕ) (image : List ℕ) (old new : Option (List ℕ)) : Type 0 where
  pub study : Study
  pub studied : IsStudyOf image study
  pub fits : FitsGiven given study
  pub written : Appends old new (picture_text given last study)

-- a beginning of it was written
pub record DrawsPart (given : Option Declarations) (last : ℕ) (image : List ℕ) (old new : Option (List ℕ)) : Type 0 where
  pub study : Study
  pub studied : IsStudyOf image study
  pub fits : FitsGiven given study
  pub written : AppendsPart old new (picture_text given last study)

-- the schema that was given isn't the image's
pub record IsOfOther (given : Option Declarations) (image : List ℕ) : Type 0 where
  pub study : Study
  pub studied : IsStudyOf image study
  pub other : FitsGiven given study → ⊥

-- what each refusal says of the image, of the schema that was given, and of what was written
abbrev pub RefusesDrawing : Option Declarations → (last : ℕ) → List ℕ → (old new : Option (List ℕ)) → DumpError → Type 0
RefusesDrawing given last image old new (dump_error.Study why) = RefusesImage image why × Appends old new []
RefusesDrawing given last image old new dump_error.OtherSchema = IsOfOther given image × Appends old new []
RefusesDrawing given last image old new dump_error.Write = DrawsPart given last image old new

-- what each answer says of a study whose graph was to be written
abbrev pub DrawnStudy : {W T : Type 0} → Option Declarations → (last : ℕ) → Study → (contents : W → Option (List ℕ)) (old new : W)
    → Result T DumpError → Type 0
DrawnStudy given last s contents old new result =
    WritesOr (DrawsStudy given last s) (RefusesDrawnStudy given last s) contents old new result

-- what each answer says of a device's image whose graph was to be written
abbrev pub Drawn : {M W T : Type 0} → Option Declarations → (last : ℕ) → (device : M → Device) (before after : M)
    (contents : W → Option (List ℕ)) (old new : W) → Result T DumpError → Type 0
Drawn given last device before after contents old new result =
    WritesOfImage (Draws given last) (RefusesDrawing given last) (dump_error.Study Fault) device before after contents old new result
