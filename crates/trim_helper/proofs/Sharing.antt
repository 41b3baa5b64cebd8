-- Equal parts of what remains of a bound.
use Rattle.std.proofs.Common.{ℕ, zero, suc, ◌≡◌, ◌+◌, ◌-◌, ◌*◌, ◌/◌, ◌<◌, ◌≤◌, sym, subst, inl, inr, arith}
use Rattle.std.proofs.Math.Nat.{div-le_self, div-mul-le_self, mul-le-mul_right}
use Rattle.std.proofs.lemmas.Bool.{cases_lt}
use Rattle.std.proofs.lemmas.Nat.{le-div}
use Rattle.trim_helper.specs.Bounds.{IsShare}

-- nothing remains
pub share_none : (remaining lanes : ℕ) → remaining ≡ 0 → 0 < lanes → IsShare remaining lanes 0
share_none remaining zero none some = absurd (omega arith)
share_none remaining (suc k) none some = record {
  within = omega arith;
  some = λ more. absurd (omega arith);
  least = λ part le. omega (arith, le, none);
  rest = λ part others is le.
      let same : k ≡ others = omega (arith, is) in
      subst (λ m. part * m + 0 ≤ remaining) same (omega (arith, le));
}

least_part : (part r lanes : ℕ) → 0 < r → 0 < lanes → part * lanes ≤ r → part ≤ (r - 1) / lanes + 1
least_part zero r lanes more some le = omega arith
least_part (suc q) r lanes more some le = let low : q ≤ (r - 1) / lanes = le-div q (r - 1) lanes some (omega (arith, le)) in omega (arith, low)

-- the others' parts and this one are what remains, at most
rest_part : (part d k r : ℕ) → 0 < r → part * (k + 1) ≤ r → d * (k + 1) ≤ r - 1 → part ≤ d + 1 → part * k + (d + 1) ≤ r
rest_part part d k r more le low least = elim (cases_lt d part) [
  | inl above ↦ omega (arith, le, above, least)
  | inr not_above ↦ let few : part ≤ d = omega (arith, not_above) in let each : part * k ≤ d * k = mul-le-mul_right k few in omega (arith, each, low, more)
]

-- something remains
pub share_some : (remaining lanes : ℕ) → 0 < remaining → 0 < lanes → IsShare remaining lanes ((remaining - 1) / lanes + 1)
share_some remaining lanes more some = record {
  within = let low : (remaining - 1) / lanes ≤ remaining - 1 = div-le_self (remaining - 1) lanes in omega (arith, low, more);
  some = λ left. omega arith;
  least = λ part le. least_part part remaining lanes more some le;
  rest = λ part others is le.
      rest_part part ((remaining - 1) / lanes) others remaining more (subst (λ m. part * m ≤ remaining) is le)
      (subst (λ m. (remaining - 1) / lanes * m ≤ remaining - 1) is (div-mul-le_self (remaining - 1) lanes)) (least_part part remaining lanes more some le);
}

-- all lanes have their parts in the bound
pub parts_start : (most lanes k : ℕ) → k ≡ lanes → most / lanes * k ≤ most - 0
parts_start most lanes k is =
    let le : most / lanes * k ≤ most = subst (λ m. most / lanes * m ≤ most) (sym is) (div-mul-le_self most lanes) in
    omega (arith, le)

pub parts_less : (part k r : ℕ) → part * (k + 1) ≤ r → part * k ≤ r
parts_less part k r le = omega (arith, le)
