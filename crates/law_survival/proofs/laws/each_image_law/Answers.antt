use Rattle.std.proofs.lemmas.List.Elements.{All-get_or}
use Rattle.std.proofs.Common.{ℕ, ◌<◌, List, length, inl, inr, subst, sym, arith}
use Rattle.std.proofs.lemmas.Bool.{cases_lt}
use Rattle.std.proofs.lemmas.List.{get_or_past}
use Rattle.image_parts.proofs.Numbers.{AreBytes}
use Rattle.law_survival.specs.EachImage.{IsOfBytes}
use Rattle.law_survival.proofs.EachImage.{one_holds}
use Rattle.law_survival.proofs.Held.{study_held}
use Rattle.law_survival.proofs.laws.each_image_law.Goals as goal

bytes_of : (image : List ℕ) → IsOfBytes image → AreBytes image
bytes_of image all i = elim (cases_lt i (length image)) [
  | inl lt ↦ All-get_or (λ b. b < 256) image i 0 lt all
  | inr past ↦ subst (λ (b : ℕ). b < 256) (sym (get_or_past image i 0 past)) (omega arith)
]

pub returns-clause-held : goal.returns-clause-held
returns-clause-held c = λ image found all holds. study_held image (bytes_of image all) found holds

pub returns-clause-each : goal.returns-clause-each
returns-clause-each c = λ image all none no. one_holds image no (λ found holds. let held = study_held image (bytes_of image all) found holds in none held.0 held.1)
