-- Each moment is on one side of another.
use Rattle.std.proofs.Common.{◌⊎◌, inl, inr, ⊎_elim, ℕ, List, [], ◌∷◌, length, arith}
use Rattle.std.proofs.lemmas.Bool.{cases_lt}
use Rattle.block_disk.specs.Device.{Moment, LeftIn}
use Rattle.durable.specs.Moments.{LeftBetween}
use Rattle.law_survival.specs.Sides.{SidesLaw}

side : (t u : ℕ) (ms : List Moment) (image : List ℕ) → LeftIn t ms image → LeftBetween t u ms image ⊎ LeftIn u ms image
side t u [] image left = absurd left
side t u (m ∷ before) image (inl now) = elim (cases_lt (length before) u) [
  | inl lt ↦ inl (inl (now.0, omega (arith, lt), now.1))
  | inr from ↦ inr (inl (from, now.1))
]
side t u (m ∷ before) image (inr was) = ⊎_elim (λ early. inl (inr early)) (λ late. inr (inr late)) (side t u before image was)

pub sides : SidesLaw
sides first between last image left = side (length first.past) (length between.past) (last.now ∷ last.past) image left
