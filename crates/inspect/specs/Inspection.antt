-- What inspecting an image writes: a text of its study.
use Rattle.std.specs.Prelude.{ℕ, Option, Result, OnOk, IfErr, List, []}
use Rattle.std.specs.Io.KnownBytes.{Appends}
use Rattle.block_disk.specs.Device.{Device, HasCause, SameMoments}
use Rattle.recover.specs.Reading.{RefusesImage}
use Rattle.recover.specs.Study.{IsStudyOf}
use Rattle.recover.specs.declared.studied.Study.{Study}
use Rattle.inspect.specs.declared.error.InspectError.{InspectError}
use Rattle.inspect.specs.declared.error.InspectError.TheVariants as inspect_error
use Rattle.recover_heap.specs.declared.error.RecoverError.TheVariants.{Fault, NoMemory}
use Rattle.inspect.specs.Written.{AppendsPart, WritesOr}

-- this text of a study of the image was written
pub record Inspects (text : Study → List ℕ) (image : List ℕ) (old new : Option (List ℕ)) : Type 0 where
  pub study : Study
  pub studied : IsStudyOf image study
  pub written : Appends old new (text study)

-- a beginning of it was written
pub record InspectsPart (text : Study → List ℕ) (image : List ℕ) (old new : Option (List ℕ)) : Type 0 where
  pub study : Study
  pub studied : IsStudyOf image study
  pub written : AppendsPart old new (text study)

-- what each refusal says of the image, and of what was written: nothing, or a beginning of the text
abbrev pub Refuses : (text : Study → List ℕ) → List ℕ → Option (List ℕ) → Option (List ℕ) → InspectError → Type 0
Refuses text image old new (inspect_error.Study e) = RefusesImage image e × Appends old new []
Refuses text image old new inspect_error.Write = InspectsPart text image old new

-- what each refusal to write a study says of what was written
abbrev pub IsNotShown : Option (List ℕ) → Option (List ℕ) → (text : List ℕ) → InspectError → Type 0
IsNotShown old new text (inspect_error.Study NoMemory) = Appends old new []
IsNotShown old new text (inspect_error.Study e) = ⊥
IsNotShown old new text inspect_error.Write = AppendsPart old new text

-- what each answer says of a device's image of which something was to be written: that it was, or why it wasn't
pub record WritesOfImage {M W T E : Type 0} (writes : List ℕ → Option (List ℕ) → Option (List ℕ) → Type 0)
    (refuses : List ℕ → Option (List ℕ) → Option (List ℕ) → E → Type 0) (fault : E) (device : M → Device) (before after : M)
    (contents : W → Option (List ℕ)) (old new : W) (result : Result T E) : Type 0 where
  -- What is written is of the image that the device has.
  pub ok : OnOk result (writes (device before).now.bytes (contents old) (contents new))
  -- What is answered to an image is the image's own refusal, and nothing is written, or a beginning.
  pub refused : IfErr result (refuses (device before).now.bytes (contents old) (contents new))
  -- The device is left as it was.
  pub same : SameMoments (device before) (device after)
  -- A fault is answered only where the device has failed.
  pub cause : HasCause (device before).failures (device after).failures fault result

-- what each answer says of a device's image whose study was to be written as this text
abbrev pub ShowsImage : {M W T : Type 0} (text : Study → List ℕ) (device : M → Device) (before after : M)
    (contents : W → Option (List ℕ)) (old new : W) → Result T InspectError → Type 0
ShowsImage text device before after contents old new result =
    WritesOfImage (Inspects text) (Refuses text) (inspect_error.Study Fault) device before after contents old new result

-- what each answer says of a study that was to be written as this text
abbrev pub ShowsStudy : {W T : Type 0} (contents : W → Option (List ℕ)) (old new : W) (text : List ℕ) → Result T InspectError → Type 0
ShowsStudy contents old new text result =
    WritesOr (λ had has. Appends had has text) (λ had has. IsNotShown had has text) contents old new result
