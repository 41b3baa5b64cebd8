-- Sessions of the lanes from the first one on, one each, are complete.
use Rattle.std.proofs.Common.{ℕ, zero, suc, ◌≡◌, ◌+◌, ◌<◌, ◌≤◌, if◌then◌else◌, Bool, List, [], ◌∷◌, drop, refl, sym, ap, subst, inl, inr, arith}
use Rattle.std.proofs.lemmas.Bool.Decides.{eqb_tells}
use Rattle.std.specs.List.{range_with_len}
use Rattle.trim_helper.specs.Endings.{IsComplete, count_lane, lanes_ended}
use Rattle.trim_helper.specs.declared.ended.Ended.{Ended}

abbrev head_of : List ℕ → ℕ
head_of [] = 0
head_of (n ∷ ns) = n

-- sessions of the lanes from this one on, one each
tails : (a n : ℕ) (m : ℕ) (ns : List ℕ) → m ∷ ns ≡ range_with_len a n → (k : ℕ) × (n ≡ suc k) × (m ≡ a) × (ns ≡ range_with_len (a + 1) k)
tails a zero m ns is = absurd cc
tails a (suc k) m ns is = (k, refl, ap (λ (l : List ℕ). head_of l) is, ap (λ (l : List ℕ). drop 1 l) is)

none_before : (l : ℕ) (es : List Ended) (a n : ℕ) → lanes_ended es ≡ range_with_len a n → l < a → count_lane l es ≡ 0
none_before l [] a n is low = refl
none_before l (e ∷ es) a n is low =
    let parts = tails a n e.lane.0 (lanes_ended es) is in
    let here = parts.2 in
    let rest = none_before l es (a + 1) parts.0 parts.3 (omega (arith, low)) in
    elim (eqb_tells e.lane.0 l) [
      | inl here_is ↦ (let same = here_is.1 in absurd (omega (arith, same, here, low)))
      | inr not_here ↦ subst (λ (b : Bool). (if b then count_lane l es + 1 else count_lane l es) ≡ 0) (sym not_here.0) rest
    ]

one_each : (l : ℕ) (es : List Ended) (a n : ℕ) → lanes_ended es ≡ range_with_len a n → a ≤ l → l < a + n → count_lane l es ≡ 1
one_each l [] a zero is low high = absurd (omega (arith, low, high))
one_each l [] a (suc n) is low high = absurd cc
one_each l (e ∷ es) a n is low high =
    let parts = tails a n e.lane.0 (lanes_ended es) is in
    let more = parts.1 in
    let here = parts.2 in
    elim (eqb_tells e.lane.0 l) [
      | inl here_is ↦ (
          let same = here_is.1 in
          let rest : count_lane l es ≡ 0 = none_before l es (a + 1) parts.0 parts.3 (omega (arith, same, here)) in
          subst (λ (b : Bool). (if b then count_lane l es + 1 else count_lane l es) ≡ 1) (sym here_is.0) (ap (λ (k : ℕ). k + 1) rest))
      | inr not_here ↦ (
          let other = not_here.1 in
          let rest : count_lane l es ≡ 1 = one_each l es (a + 1) parts.0 parts.3 (omega (arith, other, here, low)) (omega (arith, high, more)) in
          subst (λ (b : Bool). (if b then count_lane l es + 1 else count_lane l es) ≡ 1) (sym not_here.0) rest)
    ]

pub complete_of : (lanes : ℕ) (es : List Ended) → lanes_ended es ≡ range_with_len 0 lanes → IsComplete lanes es
complete_of lanes es is = λ l low. one_each l es 0 lanes is (omega arith) (omega (arith, low))
