-- Sums over the lanes.
use Rattle.std.proofs.Common.{ℕ, zero, suc, ◌≡◌, ◌≢◌, ◌+◌, ◌-◌, ◌*◌, ◌<◌, ◌≤◌, ◌==◌, if◌then◌else◌, true, false, List, [], ◌∷◌, length, sym, ap, subst, inl, inr, arith}
use Rattle.std.proofs.lemmas.Bool.{cases_eq, cases_lt, ne_eqb, eq-eqb}
use Rattle.std.proofs.Math.Nat.{mul-le-mul_left}
use Rattle.heap_model.specs.Log.{lane}
use Rattle.heap_model.specs.Sections.{Action, Takes, Frees, Stores, without, holding, ended}
use Rattle.dependence.specs.Trace.{in_all, growth}

pub in_all_le : (n : ℕ) (f g : ℕ → ℕ) → ((l : ℕ) → l < n → f l ≤ g l) → in_all n f ≤ in_all n g
in_all_le zero f g le = omega arith
in_all_le (suc n) f g le = omega (arith, in_all_le n f g (λ l lt. le l (omega arith)), le n (omega arith))

pub in_all_none : (n : ℕ) → in_all n (λ l. 0) ≡ 0
in_all_none zero = omega arith
in_all_none (suc n) = omega (arith, in_all_none n)

-- the first lanes alone
pub in_all_part : (n m : ℕ) (f : ℕ → ℕ) → n ≤ m → in_all n f ≤ in_all m f
in_all_part n zero f le = let none : n ≡ 0 = omega arith in omega (arith, ap (λ (k : ℕ). in_all k f) none)
in_all_part n (suc m) f le = elim (cases_lt n (suc m)) [
  | inl lt ↦ omega (arith, in_all_part n m f (omega arith))
  | inr ge ↦ let all : n ≡ suc m = omega arith in omega (arith, ap (λ (k : ℕ). in_all k f) all)
]

-- one lane has one more
in_all_one : (n k : ℕ) (f g : ℕ → ℕ) → ((l : ℕ) → l ≢ k → g l ≤ f l) → g k ≤ f k + 1 → in_all n g ≤ in_all n f + 1
in_all_one zero k f g others at = omega arith
in_all_one (suc n) k f g others at = elim (cases_eq n k) [
  | inl e ↦
      let here : g n ≤ f n + 1 = subst (λ (m : ℕ). g m ≤ f m + 1) (sym e) at in
      omega (arith, in_all_le n g f (λ l lt. others l (λ same. omega arith)))
  | inr ne ↦ omega (arith, in_all_one n k f g others at, others n ne)
]

-- a cut has nothing beyond itself
pub growth_none : (lanes : ℕ) (cut : ℕ → ℕ) → growth lanes cut cut ≡ 0
growth_none lanes cut = omega (arith, in_all_none lanes, in_all_le lanes (λ l. cut l - cut l) (λ l. 0) (λ l lt. omega arith))

pub growth_le : (lanes : ℕ) (cut whole before : ℕ → ℕ) → ((l : ℕ) → cut l ≤ whole l) → growth lanes cut before ≤ growth lanes whole before
growth_le lanes cut whole before le = in_all_le lanes (λ l. cut l - before l) (λ l. whole l - before l) (λ l lt. omega (arith, le l))

pub growth_less : (lanes : ℕ) (whole before cut : ℕ → ℕ) → ((l : ℕ) → before l ≤ cut l) → growth lanes whole cut ≤ growth lanes whole before
growth_less lanes whole before cut le = in_all_le lanes (λ l. whole l - cut l) (λ l. whole l - before l) (λ l lt. omega (arith, le l))

pub twice_each : (m : ℕ) → m + m ≤ m * (m + 1)
twice_each zero = omega arith
twice_each (suc m) = omega (arith, mul-le-mul_left {m = 2} {n = suc m + 1} (suc m) (omega arith))

-- a record ends at most one section
ended_one : (a : Action) (older : List Action) → ended (a ∷ older) ≤ ended older + 1
ended_one (Takes o n) older = omega arith
ended_one (Frees o n) older = elim (length (without o (holding older)) == 0) as (λ b. (if b then ended older + 1 else ended older) ≤ ended older + 1) [ true ↦ omega arith | false ↦ omega arith ]
ended_one Stores older = omega arith

ended_own : (l : ℕ) (x : ℕ × Action) (older : List (ℕ × Action)) → x.0 ≡ l → ended (lane l (x ∷ older)) ≤ ended (lane l older) + 1
ended_own l x older e =
    let own : ended (lane l (x ∷ older)) ≡ ended (x.1 ∷ lane l older) = ap (λ b. ended (if b then x.1 ∷ lane l older else lane l older)) (eq-eqb x.0 l e) in
    omega (arith, ended_one x.1 (lane l older))

ended_else : (l : ℕ) (x : ℕ × Action) (older : List (ℕ × Action)) → (x.0 ≡ l → ⊥) → ended (lane l (x ∷ older)) ≤ ended (lane l older)
ended_else l x older ne =
    let same : ended (lane l (x ∷ older)) ≡ ended (lane l older) = ap (λ b. ended (if b then x.1 ∷ lane l older else lane l older)) (ne_eqb x.0 l ne) in
    omega arith

-- no more sections have ended than there are records
pub sections_few : (n : ℕ) (log : List (ℕ × Action)) → in_all n (λ l. ended (lane l log)) ≤ length log
sections_few n [] = omega (arith, in_all_none n)
sections_few n (x ∷ older) = omega (
  arith,
  sections_few n older,
  in_all_one n x.0 (λ l. ended (lane l older)) (λ l. ended (lane l (x ∷ older))) (λ l ne. ended_else l x older (λ e. ne (sym e))) (ended_own x.0 x older (λ i. x.0)),
)
