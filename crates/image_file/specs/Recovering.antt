-- What recovering an image gives and tells, beside what it makes of the device, and what is refused (docs/SCRIPTS.md, "Lines").
use Rattle.std.specs.Prelude.{ℕ, ◌≡◌, Option, List, IfSome}
use Rattle.std.specs.Io.KnownBytes.{Appends}
use Rattle.block_disk.specs.Device.{Device, new_device}
use Rattle.image_parts.specs.Header.{IsFormatted}
use Rattle.recover_heap.specs.declared.error.RecoverError.TheVariants.{NotFormatted}
use Rattle.recover.specs.Recovery.{IsMadeBy, IsOnTheWay, IsTooOld}
use Rattle.recover.specs.Study.{IsStudyOf}
use Rattle.recover.specs.declared.studied.Study.{Study}
use Rattle.recover.specs.declared.versions.Versions.{Versions}
use Rattle.image_file.specs.Images.{IsThere}
use Rattle.image_file.specs.declared.error.ImageFault.{ImageFault}
use Rattle.image_file.specs.declared.error.ImageFault.TheVariants as images
use Rattle.image_file.specs.Telling.{report_of}

-- the image was recovered, which was of one of these versions, and this is the report on it
pub record IsToldOf (versions : Versions) (old new : Device) (text : List ℕ) : Type 0 where
  pub taken : IsTooOld versions old.now.bytes → ⊥
  pub study : Study
  pub of : IsStudyOf old.now.bytes study
  pub made : IsMadeBy study old new
  pub text_is : text ≡ report_of study

-- an image is the one that was there, or one on recovery's way from it
pub record IsOnTheWayFrom (was there : List ℕ) : Type 0 where
  -- Recovery gives the same heap of it.
  pub same : (s : Study) → IsStudyOf was s → IsOnTheWay s there
  -- An image that recovery refuses for its bytes keeps each of them.
  pub stays : ((s : Study) → IsStudyOf was s → ⊥) → there ≡ was

-- so it is with what was at a path, and what is there
abbrev pub IsOnTheWayAt : (had has : Option (List ℕ)) → Type 0
IsOnTheWayAt had has = IfSome had (λ was. IfSome has (IsOnTheWayFrom was))

-- the image that is there is refused as not formatted only where it doesn't begin with an image's name and an open gate
abbrev pub MayBlameBytes : ImageFault → (had : Option (List ℕ)) → Type 0
MayBlameBytes (images.Image NotFormatted) had = IfSome had (λ image. IsFormatted image → ⊥)
MayBlameBytes _ had = Unit {0}

-- the image that was at a path was recovered so, and what recovery makes of it is there now
pub record IsRecoveredAt (versions : Versions) (had has : Option (List ℕ)) (text : List ℕ) : Type 0 where
  pub image : List ℕ
  pub was : IsThere image had
  pub device : Device
  pub told : IsToldOf versions (new_device image) device text
  pub left : IsThere device.now.bytes has
  pub way : IsOnTheWayAt had has

-- and the report on it was written
pub record RecoversAt (versions : Versions) (had has old new : Option (List ℕ)) : Type 0 where
  pub text : List ℕ
  pub recovered : IsRecoveredAt versions had has text
  pub written : Appends old new text
