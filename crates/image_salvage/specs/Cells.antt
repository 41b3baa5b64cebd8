-- What is read of an image's home cells, and what is written of them: a schema file (docs/FORMAT.md, "Image").
use Rattle.std.specs.Prelude.{ℕ, ◌≡◌, Option, None, Some, Result, List, []}
use Rattle.std.specs.Io.KnownBytes.{Appends}
use Rattle.script_declarations.specs.SchemaText.{beginning_with}
use Rattle.block_disk.specs.Device.{Device}
use Rattle.guards.specs.Schema.{Declarations}
use Rattle.image_parts.specs.Cells.{HasHomes}
use Rattle.image_parts.specs.declared.guard_row.GuardRow.{GuardRow}
use Rattle.image_parts.specs.declared.layout.Layout.{Layout}
use Rattle.image_schema.specs.OfImage.{FitsImage}
use Rattle.image_schema.specs.declared.error.DumpError.{DumpError}
use Rattle.image_schema.specs.declared.error.DumpError.TheVariants as dump_error
use Rattle.inspect.specs.Inspection.{WritesOfImage}
use Rattle.inspect.specs.Written.{AppendsPart, WritesOr}
use Rattle.image_parts.specs.NumberedRows.{numbered}
use Rattle.recover.specs.Reading.{HasBadHeader, HasFront, RefusesLayout}
use Rattle.recover_heap.specs.declared.error.RecoverError.{RecoverError}
use Rattle.recover_heap.specs.declared.error.RecoverError.TheVariants.{Fault, NotFormatted, BadHeader, TooSmall, NoMemory}
use Rattle.image_salvage.specs.Notes.{cells_note, noted_text}
use Rattle.image_salvage.specs.declared.home_cells.Cells.{Cells}

-- the image has this layout and these guard rows, and its fields have these values at home
pub record HasCells (image : List ℕ) (cells : Cells) : Type 0 where
  pub front : HasFront image cells.layout cells.guards.items
  pub homes : HasHomes cells.layout cells.guards.items image cells.values.items

-- they are those of some image
pub record AreOfImage (cells : Cells) : Type 0 where
  pub image : List ℕ
  pub had : HasCells image cells

-- what each refusal to read them says of the image: header and guard rows alone are tested
abbrev pub RefusesToRead : List ℕ → RecoverError → Type 0
RefusesToRead image Fault = Unit {0}
RefusesToRead image NotFormatted = RefusesLayout image NotFormatted
RefusesToRead image BadHeader = HasBadHeader image
RefusesToRead image TooSmall = RefusesLayout image TooSmall
RefusesToRead image NoMemory = Unit {0}
RefusesToRead image _ = ⊥

-- the schema that was given, or else that of numbers alone
abbrev pub named_by : Option Declarations → Layout → List GuardRow → Declarations
named_by (Some schema) layout rows = schema
named_by None layout rows = numbered layout.objects rows

-- it is that of the image
abbrev pub FitsCells : Option Declarations → Cells → Type 0
FitsCells given c = FitsImage (named_by given c.layout c.guards.items) c.layout c.guards.items

-- the note, and the schema file whose fields begin with what the home cells hold
abbrev pub cells_text : Option Declarations → Cells → List ℕ
cells_text given c = noted_text cells_note (beginning_with c.values.items (named_by given c.layout c.guards.items))

-- the file of the cells that were read was written: of a schema that is the image's
pub record DumpsRead (given : Option Declarations) (c : Cells) (old new : Option (List ℕ)) : Type 0 where
  pub fits : FitsCells given c
  pub written : Appends old new (cells_text given c)

-- a beginning of it was written
pub record DumpsReadPart (given : Option Declarations) (c : Cells) (old new : Option (List ℕ)) : Type 0 where
  pub fits : FitsCells given c
  pub written : AppendsPart old new (cells_text given c)

-- what each refusal says of the cells that were read
abbrev pub RefusesRead : Option Declarations → Cells → (old new : Option (List ℕ)) → DumpError → Type 0
RefusesRead given c old new (dump_error.Study why) = (why ≡ NoMemory) × Appends old new []
RefusesRead given c old new dump_error.OtherSchema = (FitsCells given c → ⊥) × Appends old new []
RefusesRead given c old new dump_error.Write = DumpsReadPart given c old new

-- the file of the image's home cells was written
pub record DumpsCells (given : Option Declarations) (image : List ℕ) (old new : Option (List ℕ)) : Type 0 where
  pub cells : Cells
  pub had : HasCells image cells
  pub fits : FitsCells given cells
  pub written : Appends old new (cells_text given cells)

-- a beginning of it was written
pub record DumpsCellsPart (given : Option Declarations) (image : List ℕ) (old new : Option (List ℕ)) : Type 0 where
  pub cells : Cells
  pub had : HasCells image cells
  pub fits : FitsCells given cells
  pub written : AppendsPart old new (cells_text given cells)

-- the schema that was given isn't the image's
pub record HasOtherCells (given : Option Declarations) (image : List ℕ) : Type 0 where
  pub cells : Cells
  pub had : HasCells image cells
  pub other : FitsCells given cells → ⊥

-- what each refusal says of the image, of the schema that was given, and of what was written
abbrev pub RefusesCells : Option Declarations → List ℕ → (old new : Option (List ℕ)) → DumpError → Type 0
RefusesCells given image old new (dump_error.Study why) = RefusesToRead image why × Appends old new []
RefusesCells given image old new dump_error.OtherSchema = HasOtherCells given image × Appends old new []
RefusesCells given image old new dump_error.Write = DumpsCellsPart given image old new

-- what each answer says of home cells whose schema file was to be written
abbrev pub DumpedRead : {W T : Type 0} → Option Declarations → Cells → (contents : W → Option (List ℕ)) (old new : W)
    → Result T DumpError → Type 0
DumpedRead given cells contents old new result = WritesOr (DumpsRead given cells) (RefusesRead given cells) contents old new result

-- what each answer says of a device's image whose home cells were to be dumped
abbrev pub DumpedCells : {M W T : Type 0} → Option Declarations → (device : M → Device) (before after : M)
    (contents : W → Option (List ℕ)) (old new : W) → Result T DumpError → Type 0
DumpedCells given device before after contents old new result =
    WritesOfImage (DumpsCells given) (RefusesCells given) (dump_error.Study Fault) device before after contents old new result
