-- What making an image for the schema of a file gives and refuses (docs/SCRIPTS.md, "The program's fault texts").
use Rattle.std.specs.Prelude.{◌≡◌, ◌⊎◌, ℕ, List, [], ◌∷◌, Option, IfSome, codes, replicate}
use Rattle.std.specs.Fmt.{decimal}
use Rattle.std.specs.Io.KnownBytes.{Appends}
use Rattle.block_disk.specs.Device.{Device, new_device}
use Rattle.disk_file.specs.declared.error.FileError.{FileError}
use Rattle.disk_file.specs.declared.error.FileError.TheVariants as disks
use Rattle.disk_sectors.specs.declared.error.PlacesError.{PlacesError}
use Rattle.disk_sectors.specs.declared.error.PlacesError.TheVariants as places
use Rattle.disk_sector_file.specs.declared.image_kind.ImageKind.{ImageKind}
use Rattle.disk_sector_file.specs.ImageDisks.{room_for}
use Rattle.guards.specs.Schema.{Declarations}
use Rattle.image_parts.specs.Calls.{after}
use Rattle.image_parts.specs.Format.{format_calls}
use Rattle.image_parts.specs.Layout.{size_of}
use Rattle.image_parts.specs.declared.layout.Layout.{Layout}
use Rattle.inspect.specs.Pieces.{line}
use Rattle.inspect.specs.Written.{AppendsPart}
use Rattle.store_image.specs.Formatting.{AreLimits, layout_with}
use Rattle.script_declarations.specs.declared.schema_fault.SchemaFault.{SchemaFault}
use Rattle.script_declarations.specs.declared.schema_fault.SchemaFaultKind.{SchemaFaultKind}
use Rattle.script_declarations.specs.declared.schema_fault.SchemaFaultKind.TheVariants as kinds
use Rattle.script_declarations.specs.SchemaFiles.{DeclaresSchema, RefusesSchema}
use Rattle.image_file.specs.Images.{IsThere, Stays}
use Rattle.image_file.specs.declared.new_image.NewImage.{NewImage}
use Rattle.image_file.specs.declared.error.FileFault.{FileFault}
use Rattle.image_file.specs.declared.error.FileFault.TheVariants as files
use Rattle.image_file.specs.declared.error.FormatError.{FormatError}
use Rattle.image_file.specs.declared.error.FormatError.TheVariants as errors

-- how a refusal of the schema file is told
abbrev pub told_by_kind : SchemaFaultKind → SchemaFault → FormatError
told_by_kind kinds.Read fault = errors.Fault
told_by_kind kinds.Memory fault = errors.NoMemory
told_by_kind _ fault = errors.Schema fault

abbrev pub told_of_schema : SchemaFault → FormatError
told_of_schema fault = told_by_kind fault.why fault

-- that there is no disk over a file
abbrev pub told_of_disk : FileError → FileFault
told_of_disk disks.Fault = files.Fault
told_of_disk disks.NoMemory = files.NoMemory

-- that there is no disk in two places or behind a journal on a file
abbrev pub told_of_places : PlacesError → FileFault
told_of_places places.Fault = files.Fault
told_of_places places.NoMemory = files.NoMemory
told_of_places places.TooSmall = files.NotImage

-- how a refusal of the image file is told
abbrev pub told_of_file : FileFault → FormatError
told_of_file files.Fault = errors.Fault
told_of_file files.NoMemory = errors.NoMemory
told_of_file files.InUse = errors.InUse
told_of_file files.NotImage = errors.NotImage

-- the device holds the image of this schema that was asked for. It had room for it, and all its bytes were zero
pub record IsImageFor (schema : Declarations) (asked : NewImage) (layout : Layout) (d : Device) : Type 0 where
  pub limits : AreLimits asked.lanes asked.capacity
  pub layout_is : layout ≡ layout_with schema asked.lanes asked.capacity
  pub made : d ≡ after (format_calls layout schema) (new_device (replicate (room_for asked.kind (size_of layout)) 0))

-- such an image lies as was asked, where it is known how it lies
abbrev pub LiesSo : NewImage → Option ImageKind → Type 0
LiesSo asked lies = IfSome lies (λ there. there ≡ asked.kind)

-- the image that was there is there still, or a whole new one of this schema is
abbrev pub StaysOrIsMade : (schema : Declarations) (asked : NewImage) (had has : Option (List ℕ)) → Type 0
StaysOrIsMade schema asked had has = Stays had has ⊎ ((layout : Layout) × (d : Device) × IsImageFor schema asked layout d × IsThere d.now.bytes has)

-- the same where it isn't known of which schema
abbrev pub MayBeMade : (asked : NewImage) (had has : Option (List ℕ)) → Type 0
MayBeMade asked had has = Stays had has ⊎ ((schema : Declarations) × (layout : Layout) × (d : Device) × IsImageFor schema asked layout d × IsThere d.now.bytes has)

-- the line that tells an image's size, in bytes
abbrev pub formatted_line : ℕ → List ℕ
formatted_line size = line (codes "formatted " ∷ decimal size ∷ [])

-- the size was written, on a line of its own
abbrev pub PrintsSize : ℕ → (old new : Option (List ℕ)) → Type 0
PrintsSize size old new = Appends old new (formatted_line size)

-- the image that was asked for is there, of a schema that is one of these, and its size was written
pub record FormatsAt (declared : Declarations → Type 0) (asked : NewImage) (has : Option (List ℕ)) (lies : Option ImageKind) (old new : Option (List ℕ)) : Type 0 where
  pub schema : Declarations
  pub so : declared schema
  pub layout : Layout
  pub device : Device
  pub image : IsImageFor schema asked layout device
  pub there : IsThere device.now.bytes has
  pub lies_so : LiesSo asked lies
  pub printed : PrintsSize (size_of layout) old new

-- the same where it isn't known of which schema
abbrev pub MakesAt : (asked : NewImage) (has : Option (List ℕ)) (lies : Option ImageKind) (old new : Option (List ℕ)) → Type 0
MakesAt asked has lies old new = FormatsAt (λ schema. Unit {0}) asked has lies old new

-- a beginning of that line was written, and not all. The schema is one of these
pub record PrintsPart (declared : Declarations → Type 0) (lanes capacity : ℕ) (old new : Option (List ℕ)) : Type 0 where
  pub schema : Declarations
  pub so : declared schema
  pub limits : AreLimits lanes capacity
  pub printed : AppendsPart old new (formatted_line (size_of (layout_with schema lanes capacity)))

-- nothing was written, or a beginning of that line
abbrev pub PrintsLessOf : (declared : Declarations → Type 0) → (lanes capacity : ℕ) → (old new : Option (List ℕ)) → Type 0
PrintsLessOf declared lanes capacity old new = Appends old new [] ⊎ PrintsPart declared lanes capacity old new

-- the same where it isn't known which schema
abbrev pub PrintsLess : (lanes capacity : ℕ) → (old new : Option (List ℕ)) → Type 0
PrintsLess lanes capacity old new = PrintsLessOf (λ schema. Unit {0}) lanes capacity old new

-- the refusals that come before the image file is touched
abbrev pub IsBeforeFile : FormatError → Type 0
IsBeforeFile (errors.Schema fault) = Unit {0}
IsBeforeFile errors.BadHeader = Unit {0}
IsBeforeFile _ = ⊥

-- the refusals that come before anything is written
abbrev pub IsSilent : FormatError → Type 0
IsSilent (errors.Schema fault) = Unit {0}
IsSilent errors.BadHeader = Unit {0}
IsSilent errors.NoMemory = Unit {0}
IsSilent errors.InUse = Unit {0}
IsSilent errors.NotImage = Unit {0}
IsSilent _ = ⊥

-- what each refusal says of what was read; a fault and want of memory may come at any time, and what is said of the file's bytes and of
-- other processes is nothing that was read here
abbrev pub RefusesImage : (old new : Option (List ℕ)) → (lanes capacity : ℕ) → FormatError → Type 0
RefusesImage old new lanes capacity (errors.Schema fault) = RefusesSchema old new fault × (told_of_schema fault ≡ errors.Schema fault)
RefusesImage old new lanes capacity errors.BadHeader = (schema : Declarations) × DeclaresSchema old new schema × (AreLimits lanes capacity → ⊥)
RefusesImage old new lanes capacity _ = Unit {0}

-- the numbers of lanes and of records are blamed only where they are past their limits
abbrev pub MayBlameNumbers : (lanes capacity : ℕ) → FormatError → Type 0
MayBlameNumbers lanes capacity errors.BadHeader = AreLimits lanes capacity → ⊥
MayBlameNumbers lanes capacity _ = Unit {0}
