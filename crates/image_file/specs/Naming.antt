-- What is told of an image by the names that a schema file gives.
use Rattle.std.specs.Prelude.{ℕ, ◌≡◌, ◌⊎◌, Option, None, Some, List, []}
use Rattle.std.specs.Io.KnownBytes.{Appends}
use Rattle.guards.specs.Schema.{Declarations}
use Rattle.script_declarations.specs.declared.schema_fault.SchemaFault.{SchemaFault}
use Rattle.script_declarations.specs.declared.schema_fault.SchemaFaultKind.{SchemaFaultKind}
use Rattle.script_declarations.specs.declared.schema_fault.SchemaFaultKind.TheVariants as kinds
use Rattle.image_schema.specs.declared.error.DumpError.{DumpError}
use Rattle.image_schema.specs.declared.error.DumpError.TheVariants as dumps
use Rattle.recover_heap.specs.declared.error.RecoverError.TheVariants.{Fault, NoMemory}
use Rattle.image_file.specs.Images.{MayNotBeHad}
use Rattle.image_file.specs.Showing.{told_of_attaching}
use Rattle.image_file.specs.declared.error.FileFault.{FileFault}
use Rattle.image_file.specs.declared.error.ImageFault.TheVariants as images
use Rattle.image_file.specs.declared.error.NamedFault.{NamedFault}
use Rattle.image_file.specs.declared.error.NamedFault.TheVariants as named

-- a schema is given where a file is named
abbrev pub IsNamedBy : {P : Type 0} (path : Option P) → Option Declarations → Type 0
IsNamedBy None given = given ≡ None
IsNamedBy (Some path) given = (schema : Declarations) × (given ≡ Some schema)

-- how a refusal to tell by these names is told
abbrev pub told_of_naming : DumpError → NamedFault
told_of_naming (dumps.Study why) = named.Image (images.Image why)
told_of_naming dumps.OtherSchema = named.OtherSchema
told_of_naming dumps.Write = named.Image (images.Image Fault)

-- how a refusal of the schema file is told
abbrev pub named_by_kind : SchemaFaultKind → SchemaFault → NamedFault
named_by_kind kinds.Read fault = named.Image (images.Image Fault)
named_by_kind kinds.Memory fault = named.Image (images.Image NoMemory)
named_by_kind _ fault = named.Schema fault

abbrev pub told_of_names : SchemaFault → NamedFault
told_of_names fault = named_by_kind fault.why fault

-- why the schema file gives no names: it can't be read, there was no memory, or it is refused
abbrev pub IsOfSchemaFile : NamedFault → Type 0
IsOfSchemaFile (named.Image (images.Image why)) = (why ≡ Fault) ⊎ (why ≡ NoMemory)
IsOfSchemaFile (named.Image images.InUse) = ⊥
IsOfSchemaFile (named.Schema fault) = Unit {0}
IsOfSchemaFile named.OtherSchema = ⊥

-- it gives none, and nothing was written
pub record IsNotNamed (old new : Option (List ℕ)) (fault : NamedFault) : Type 0 where
  pub why : IsOfSchemaFile fault
  pub silent : Appends old new []

-- the image that is there was not had, and nothing was written
pub record IsNotHadToName (had old new : Option (List ℕ)) (fault : NamedFault) : Type 0 where
  pub why : FileFault
  pub may : MayNotBeHad why had
  pub told : fault ≡ named.Image (told_of_attaching why)
  pub silent : Appends old new []
