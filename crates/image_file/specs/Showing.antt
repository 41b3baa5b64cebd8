-- What showing an image writes (docs/SCRIPTS.md, "The inspector's lines").
use Rattle.std.specs.Prelude.{ℕ, ◌≡◌, ◌⊎◌, Option, List, [], Result, Ok, Err}
use Rattle.std.specs.Io.KnownBytes.{Appends, Consumes, IsAtEnd}
use Rattle.image_file.specs.Images.{BeginsThere, MayNotBeHad}
use Rattle.image_file.specs.declared.error.FileFault.{FileFault}
use Rattle.image_file.specs.declared.error.FileFault.TheVariants as files
use Rattle.image_file.specs.declared.error.ImageFault.{ImageFault}
use Rattle.image_file.specs.declared.error.ImageFault.TheVariants as images
use Rattle.inspect.specs.Inspection.{Inspects, Refuses}
use Rattle.inspect.specs.declared.error.InspectError.{InspectError}
use Rattle.inspect.specs.declared.error.InspectError.TheVariants as inspections
use Rattle.recover_heap.specs.declared.error.RecoverError.{RecoverError}
use Rattle.recover_heap.specs.declared.error.RecoverError.TheVariants.{Fault, NoMemory, NotFormatted}
use Rattle.recover.specs.declared.studied.Study.{Study}

-- all that the reader had left was read: this image
pub record ReadsImage (old new : Option (List ℕ)) (image : List ℕ) : Type 0 where
  pub taken : Consumes old new image
  pub whole : IsAtEnd new

-- how it is told that an image isn't had
abbrev pub told_of_attaching : FileFault → ImageFault
told_of_attaching files.Fault = images.Image Fault
told_of_attaching files.NoMemory = images.Image NoMemory
told_of_attaching files.InUse = images.InUse
told_of_attaching files.NotImage = images.Image NotFormatted

-- how a refusal to inspect an image is told
abbrev pub told_of_inspection : InspectError → RecoverError
told_of_inspection (inspections.Study why) = why
told_of_inspection inspections.Write = Fault

-- this text of a study of the image that is there was written
pub record Shows (text : Study → List ℕ) (had old new : Option (List ℕ)) : Type 0 where
  pub image : List ℕ
  pub begins : BeginsThere image had
  pub shown : Inspects text image old new

-- the image that is there was not had, and nothing was written
pub record IsNotHad (had old new : Option (List ℕ)) (fault : ImageFault) : Type 0 where
  pub why : FileFault
  pub may : MayNotBeHad why had
  pub told : fault ≡ told_of_attaching why
  pub silent : Appends old new []

-- the image that is there is refused, or the writer failed
pub record IsNotShown (text : Study → List ℕ) (had old new : Option (List ℕ)) (fault : ImageFault) : Type 0 where
  pub image : List ℕ
  pub begins : BeginsThere image had
  pub reason : InspectError
  pub told : fault ≡ images.Image (told_of_inspection reason)
  pub refused : Refuses text image old new reason

-- how it ends, by the image that was there before and is now, and by what was written before and is now
abbrev pub ShowsBy : (text : Study → List ℕ) → Result (Unit {0}) ImageFault → (had has old new : Option (List ℕ)) → Type 0
ShowsBy text (Ok done) had has old new = Shows text had old new × (has ≡ had)
ShowsBy text (Err fault) had has old new = (IsNotHad had old new fault ⊎ IsNotShown text had old new fault) × (has ≡ had)
