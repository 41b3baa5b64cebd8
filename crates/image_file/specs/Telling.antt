-- What is told of an image: the report on its recovery (docs/SCRIPTS.md).
use Rattle.std.specs.Prelude.{ℕ, ◌⊎◌, Option, List, []}
use Rattle.std.specs.Io.KnownBytes.{Appends}
use Rattle.inspect.specs.Inspection.{InspectsPart}
use Rattle.inspect.specs.ReportText.{report_text}
use Rattle.recover.specs.Recovery.{IsTooOld}
use Rattle.recover_heap.specs.declared.error.RecoverError.TheVariants.{OldVersion}
use Rattle.recover.specs.declared.studied.Study.{Study}
use Rattle.recover.specs.declared.versions.Versions.{Versions}
use Rattle.image_file.specs.declared.error.ImageFault.{ImageFault}
use Rattle.image_file.specs.declared.error.ImageFault.TheVariants as images

-- the report on an image, by the study of it
abbrev pub report_of : Study → List ℕ
report_of s = report_text s.report s.heap.items s.layout.lanes

-- nothing was written, or a beginning of the report on some image, which is of one of these versions
abbrev pub TellsLessOfVersions : (versions : Versions) → (old new : Option (List ℕ)) → Type 0
TellsLessOfVersions versions old new = Appends old new [] ⊎ ((image : List ℕ) × (IsTooOld versions image → ⊥) × InspectsPart report_of image old new)

-- an image is refused as too old only where these versions leave one out: an upgrade refuses none so
abbrev pub MayBeRefusedBy : (versions : Versions) → ImageFault → Type 0
MayBeRefusedBy versions (images.Image OldVersion) = (image : List ℕ) × IsTooOld versions image
MayBeRefusedBy versions _ = Unit {0}
