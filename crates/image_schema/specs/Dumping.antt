-- What is written of an image's heap: a schema file.
use Rattle.std.specs.Prelude.{ℕ, ◌≡◌, ◌<◌, ◌^◌, Option, None, Some, Result, List, [], slice_index}
use Rattle.std.specs.Io.KnownBytes.{Appends}
use Rattle.block_disk.specs.Device.{Device}
use Rattle.script_declarations.specs.SchemaFiles.{DeclaresLines}
use Rattle.script_declarations.specs.SchemaText.{HasNames, beginning_with, schema_text}
use Rattle.guards.specs.Schema.{Declarations, IsSchema, nothing}
use Rattle.inspect.specs.Inspection.{WritesOfImage}
use Rattle.inspect.specs.Written.{AppendsPart, WritesOr}
use Rattle.recover.specs.Reading.{RefusesImage}
use Rattle.recover.specs.Study.{IsStudyOf}
use Rattle.recover_heap.specs.declared.error.RecoverError.TheVariants.{Fault, NoMemory}
use Rattle.recover.specs.declared.studied.Study.{Study}
use Rattle.script_lines.specs.Lines.{lines_of}
use Rattle.image_schema.specs.OfImage.{FitsImage, named_as}
use Rattle.image_schema.specs.declared.error.DumpError.{DumpError}
use Rattle.image_schema.specs.declared.error.DumpError.TheVariants as dump_error

-- the schema that was given or that of numbers, beginning with the heap that recovery gives
abbrev pub dumped : Option Declarations → Study → Declarations
dumped given s = beginning_with s.heap.items (named_as given s)

-- its schema file
abbrev pub dump_text : Option Declarations → Study → List ℕ
dump_text given s = schema_text (dumped given s)

-- the file of the study was written: of a schema that is the image's
pub record DumpsStudy (given : Option Declarations) (s : Study) (old new : Option (List ℕ)) : Type 0 where
  pub fits : FitsImage (named_as given s) s.layout s.guards.items
  pub written : Appends old new (dump_text given s)

-- a beginning of it was written
pub record DumpsStudyPart (given : Option Declarations) (s : Study) (old new : Option (List ℕ)) : Type 0 where
  pub fits : FitsImage (named_as given s) s.layout s.guards.items
  pub written : AppendsPart old new (dump_text given s)

-- what each refusal says of the study
abbrev pub RefusesStudy : Option Declarations → Study → (old new : Option (List ℕ)) → DumpError → Type 0
RefusesStudy given s old new (dump_error.Study why) = (why ≡ NoMemory) × Appends old new []
RefusesStudy given s old new dump_error.OtherSchema = (FitsImage (named_as given s) s.layout s.guards.items → ⊥) × Appends old new []
RefusesStudy given s old new dump_error.Write = DumpsStudyPart given s old new

-- it is the file of the image's own schema that was written
pub record Dumps (given : Option Declarations) (image : List ℕ) (old new : Option (List ℕ)) : Type 0 where
  pub study : Study
  pub studied : IsStudyOf image study
  pub fits : FitsImage (named_as given study) study.layout study.guards.items
  pub written : Appends old new (dump_text given study)

-- a beginning of it was written
pub record DumpsPart (given : Option Declarations) (image : List ℕ) (old new : Option (List ℕ)) : Type 0 where
  pub study : Study
  pub studied : IsStudyOf image study
  pub fits : FitsImage (named_as given study) study.layout study.guards.items
  pub written : AppendsPart old new (dump_text given study)

-- the schema that was given isn't the image's
pub record IsOther (given : Option Declarations) (image : List ℕ) : Type 0 where
  pub study : Study
  pub studied : IsStudyOf image study
  pub other : FitsImage (named_as given study) study.layout study.guards.items → ⊥

-- what each refusal says of the image, of the schema that was given, and of what was written
abbrev pub RefusesDump : Option Declarations → List ℕ → (old new : Option (List ℕ)) → DumpError → Type 0
RefusesDump given image old new (dump_error.Study why) = RefusesImage image why × Appends old new []
RefusesDump given image old new dump_error.OtherSchema = IsOther given image × Appends old new []
RefusesDump given image old new dump_error.Write = DumpsPart given image old new

-- what each answer says of a study whose schema file was to be written
abbrev pub DumpedStudy : {W T : Type 0} → Option Declarations → Study → (contents : W → Option (List ℕ)) (old new : W)
    → Result T DumpError → Type 0
DumpedStudy given s contents old new result = WritesOr (DumpsStudy given s) (RefusesStudy given s) contents old new result

-- what each answer says of a device's image whose schema file was to be written
abbrev pub Dumped : {M W T : Type 0} → Option Declarations → (device : M → Device) (before after : M)
    (contents : W → Option (List ℕ)) (old new : W) → Result T DumpError → Type 0
Dumped given device before after contents old new result =
    WritesOfImage (Dumps given) (RefusesDump given) (dump_error.Study Fault) device before after contents old new result

-- the schema that was given is one of a file
abbrev pub IsOfFile : Option Declarations → Type 0
IsOfFile None = Unit {0}
IsOfFile (Some schema) = IsSchema schema × HasNames schema

-- What is written of an image declares the image's schema, beginning with the heap that recovery gives, and no other: so `format`
-- of it makes an image with that heap.
abbrev pub DumpLaw : Type 0
DumpLaw = (given : Option Declarations) (image : List ℕ) (s : Study) → IsStudyOf image s → ((f : ℕ) → f < s.layout.fields → slice_index s.heap.items f < 2 ^ 64)
    → IsOfFile given → FitsImage (named_as given s) s.layout s.guards.items
    → DeclaresLines nothing (lines_of (dump_text given s)) (dumped given s)
    × ((other : Declarations) → DeclaresLines nothing (lines_of (dump_text given s)) other → other ≡ dumped given s)
