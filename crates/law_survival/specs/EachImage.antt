-- Each image of bytes has a study, or is refused by a reason of its own (this project's own).
use Rattle.std.specs.Prelude.{ℕ, ◌≢◌, ◌<◌, All, List}
use Rattle.recover.specs.Reading.{Holds, RefusesImage}
use Rattle.recover.specs.Study.{IsStudyOf}
use Rattle.recover_heap.specs.declared.error.RecoverError.{RecoverError}
use Rattle.recover_heap.specs.declared.error.RecoverError.TheVariants.{Fault, NoMemory}
use Rattle.recover.specs.declared.logged_image.LoggedImage.{LoggedImage}
use Rattle.recover.specs.declared.studied.Study.{Study}

-- the image has bytes alone
abbrev pub IsOfBytes : List ℕ → Type 0
IsOfBytes image = All (λ b. b < 256) image

-- An image that nothing is wrong with has a study.
abbrev pub HeldStudyLaw : Type 0
HeldStudyLaw = (image : List ℕ) (found : LoggedImage) → IsOfBytes image → Holds image found → (study : Study) × IsStudyOf image study

-- There is no image that has no study and that no reason of its own refuses.
abbrev pub EachImageLaw : Type 0
EachImageLaw = (image : List ℕ) → IsOfBytes image → ((study : Study) → IsStudyOf image study → ⊥)
    → ((reason : RecoverError) → reason ≢ Fault → reason ≢ NoMemory → RefusesImage image reason → ⊥) → ⊥
