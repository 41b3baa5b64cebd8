-- From the study that is written to the image that it is of.
use Rattle.std.proofs.Common.{ℕ, Option, List, Result, Ok, Err, IfErr}
use Rattle.recover.specs.Study.{IsStudyOf}
use Rattle.recover.specs.declared.studied.Study.{Study as Studied}
use Rattle.recover_heap.specs.declared.error.RecoverError.TheVariants.{Fault, NotFormatted, BadHeader, TooSmall, NoControl, BadControl, OldVersion, Worn, BadRecord, IllegalLog, NoMemory}
use Rattle.inspect.specs.declared.error.InspectError.{InspectError}
use Rattle.inspect.specs.declared.error.InspectError.TheVariants.{Study, Write}
use Rattle.inspect.specs.Inspection.{IsNotShown, Refuses}

refuses : (text : Studied → List ℕ) (image : List ℕ) (old new : Option (List ℕ)) (s : Studied) → IsStudyOf image s → (e : InspectError) → IsNotShown old new (text s) e → Refuses text image old new e
refuses text image old new s is (Study Fault) h = absurd h
refuses text image old new s is (Study NotFormatted) h = absurd h
refuses text image old new s is (Study BadHeader) h = absurd h
refuses text image old new s is (Study TooSmall) h = absurd h
refuses text image old new s is (Study NoControl) h = absurd h
refuses text image old new s is (Study BadControl) h = absurd h
refuses text image old new s is (Study OldVersion) h = absurd h
refuses text image old new s is (Study Worn) h = absurd h
refuses text image old new s is (Study (BadRecord lane place)) h = absurd h
refuses text image old new s is (Study (IllegalLog lane place)) h = absurd h
refuses text image old new s is (Study NoMemory) h = (tt, h)
refuses text image old new s is Write h = record { study = s; studied = is; written = h }

pub refuses_all : {T : Type 0} (text : Studied → List ℕ) (image : List ℕ) (old new : Option (List ℕ)) (s : Studied) → IsStudyOf image s → (r : Result T InspectError) → IfErr r (IsNotShown old new (text s)) → IfErr r (Refuses text image old new)
refuses_all text image old new s is (Ok x) h = tt
refuses_all text image old new s is (Err e) h = refuses text image old new s is e h
