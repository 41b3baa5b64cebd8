-- A part of a whole closed cut may be left out.
use Rattle.std.proofs.Common.{ℕ, ◌≡◌, ◌+◌, ◌-◌, ◌<◌, ◌≤◌, List, sym, ap, ◌∙◌, subst, inl, inr, arith}
use Rattle.std.proofs.lemmas.Bool.{cases_lt}
use Rattle.heap_model.specs.Log.{lane}
use Rattle.heap_model.specs.Sections.{Action, Takes, Frees, ended, Did, Earlier, Took}
use Rattle.heap_model.specs.Cuts.{Counts, IsWhole, IsClosed, IsStable}
use Rattle.heap_model.specs.Base.{since}
use Rattle.law_cuts.proofs.Trimmed.{since_counts, shifted, lowered, raised, did_before, did_since, did_some, same_shifted}

-- how far a cut goes past the base
abbrev past : (base other : ℕ → ℕ) → ℕ → ℕ
past base other l = other l - base l

-- what is past the base of a closed cut is closed in what was done since
past_closed : (log : List (ℕ × Action)) (base other : ℕ → ℕ) → IsClosed log other → IsClosed (since base log) (past base other)
past_closed log base other closed a b counted (Earlier e lt) =
    let same : past base other a.lane ≡ past base other b.lane = ap (past base other) e in omega (arith, same)
past_closed log base other closed a b counted (Took o n took freed differ) =
    let some : 0 < a.number = did_some (since base log) a (Takes o (n + 1)) took in
    let low : Counts other (shifted base b) = closed (shifted base a) (shifted base b) (omega arith)
    (Took o n (did_before base log a _ took) (did_before base log b _ freed) (λ e. differ (same_shifted base a b e))) in
    omega (arith, low)

past_whole : (log : List (ℕ × Action)) (base other : ℕ → ℕ) → ((l : ℕ) → base l ≤ ended (lane l log)) → IsWhole log other → IsWhole (since base log) (past base other)
past_whole log base other low whole l = omega (arith, whole l, low l, since_counts base l log (low l))

module _ (log : List (ℕ × Action)) (top base cut : ℕ → ℕ) (whole : IsWhole log top) (closed : IsClosed log top) (part : (l : ℕ) → base l ≤ top l) (stable : IsStable (since base log) cut) where
  low : (l : ℕ) → base l ≤ ended (lane l log)
  low l = omega (arith, part l, whole l)

  -- the whole closed cut is no further than the stable one
  inside : (l : ℕ) → top l ≤ base l + cut l
  inside l = omega (arith, stable.greatest (past base top) (past_whole log base top low whole) (past_closed log base top closed) l)

  both_closed : IsClosed log (λ l. base l + cut l)
  both_closed a b counted (Earlier e lt) = let same : base a.lane + cut a.lane ≡ base b.lane + cut b.lane = ap (λ l. base l + cut l) e in omega arith
  both_closed a b counted (Took o n took freed differ) = elim (cases_lt (base b.lane) b.number) [
    | inr le ↦ omega arith
    | inl above ↦ elim (cases_lt (base a.lane) a.number) [
      | inr le ↦ let in_top : Counts top b = closed a b (omega (arith, part a.lane)) (Took o n took freed differ) in omega (arith, inside b.lane)
      | inl high ↦
          let took_since : Did (since base log) (lowered base a) (Takes o (n + 1)) = did_since base log (lowered base a) _ (subst (λ x. Did log x (Takes o (n + 1))) (raised base a high) took) (omega arith) in
          let freed_since : Did (since base log) (lowered base b) (Frees o n) = did_since base log (lowered base b) _ (subst (λ x. Did log x (Frees o n)) (raised base b above) freed) (omega arith) in
          let counts : Counts cut (lowered base b) = stable.closed (lowered base a) (lowered base b) (omega arith)
          (Took o n took_since freed_since (λ e. differ (raised base a high ∙ ap (shifted base) e ∙ sym (raised base b above)))) in
          omega (arith, counts)
    ]
  ]

  pub part_trim_stable : IsStable log (λ l. base l + cut l)
  part_trim_stable = record {
    whole = λ l. omega (arith, stable.whole l, since_counts base l log (low l));
    closed = both_closed;
    greatest = λ other other_whole other_closed l. omega (arith, stable.greatest (past base other) (past_whole log base other low other_whole) (past_closed log base other other_closed) l);
  }
