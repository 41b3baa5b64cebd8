-- Each list has a stable cut: sections that can't stay are left out until all others can.
use Rattle.std.proofs.Common.{ℕ, zero, suc, ◌≡◌, ◌≢◌, ◌+◌, ◌-◌, ◌<◌, ◌≤◌, ◌⊎◌, if◌then◌else◌, true, false, List, [], ◌∷◌, length, get_or, Contains, All, refl, sym, ap, ◌∙◌, subst, inl, inr, arith}
use Rattle.std.specs.List.{list_any, Any}
use Rattle.std.proofs.lemmas.Bool.{leb-true, le-leb, lt-leb, cases_Bool, eq-eqb, ne_eqb}
use Rattle.std.proofs.lemmas.List.Folds.{Any-from_list_any, list_any_at}
use Rattle.heap_model.specs.Log.{lane}
use Rattle.heap_model.specs.Sections.{Action, ended, Section}
use Rattle.heap_model.specs.Cuts.{IsStable}
use Rattle.heap_model.specs.State.{with_at}
use Rattle.law_cuts.specs.Plain.{Reading, counts, IsClosedOver, IsGreatest, IsNumbered}
use Rattle.law_cuts.proofs.Greatest.{blockers, blocked_stays_out, blocked_is_counted, free_is_closed, lowered_below, lowered_above}
use Rattle.law_cuts.proofs.PlainStable.{plain_stable}

-- what a section did
record Deed : Type 0 where
  section : Section
  act : Action

abbrev deed_reading : Reading Deed
deed_reading = record { section = λ d. d.section; act = λ d. d.act }

abbrev deeds_of : List (ℕ × Action) → List Deed
deeds_of [] = []
deeds_of (x ∷ older) = record { section = record { lane = x.0; number = ended (lane x.0 older) + 1 }; act = x.1 } ∷ deeds_of older

numbered_deeds : (log : List (ℕ × Action)) → IsNumbered deed_reading (deeds_of log) log
numbered_deeds [] = tt
numbered_deeds (x ∷ older) = (refl, refl, numbered_deeds older)

deeds_count : (log : List (ℕ × Action)) → (k : ℕ) (d : Deed) → k < length (deeds_of log) → get_or (deeds_of log) k d ≡ d → 0 < d.section.number
deeds_count [] k d lt e = absurd (omega arith)
deeds_count (x ∷ older) zero d lt e = let n : ended (lane x.0 older) + 1 ≡ d.section.number = ap (λ y. y.section.number) e in omega arith
deeds_count (x ∷ older) (suc k) d lt e = deeds_count older k d (omega arith) e

-- how many steps a cut counts
abbrev counted : (ℕ → ℕ) → List Deed → ℕ
counted cut [] = 0
counted cut (d ∷ ds) = if counts deed_reading cut d then suc (counted cut ds) else counted cut ds

fewer : (low high : ℕ → ℕ) (ds : List Deed) → ((l : ℕ) → low l ≤ high l) → counted low ds ≤ counted high ds
fewer low high [] below = omega arith
fewer low high (d ∷ ds) below = elim (cases_Bool (counts deed_reading low d)) [
  | inl t ↦
      let high_too : counts deed_reading high d ≡ true = le-leb _ _ (omega (arith, leb-true _ _ t, below d.section.lane)) in
      subst (λ b. (if b then suc (counted low ds) else counted low ds) ≤ (if counts deed_reading high d then suc (counted high ds) else counted high ds)) (sym t)
      (subst (λ b. suc (counted low ds) ≤ (if b then suc (counted high ds) else counted high ds)) (sym high_too) (omega (arith, fewer low high ds below)))
  | inr t ↦
      subst (λ b. (if b then suc (counted low ds) else counted low ds) ≤ (if counts deed_reading high d then suc (counted high ds) else counted high ds)) (sym t)
      (elim (counts deed_reading high d) as (λ b. counted low ds ≤ (if b then suc (counted high ds) else counted high ds)) [ true ↦ omega (arith, fewer low high ds below) | false ↦ fewer low high ds below ])
]

one_fewer : (low high : ℕ → ℕ) (ds : List Deed) (k : ℕ) (d : Deed) → ((l : ℕ) → low l ≤ high l) → k < length ds → get_or ds k d ≡ d →
    counts deed_reading high d ≡ true → counts deed_reading low d ≡ false → counted low ds < counted high ds
one_fewer low high [] k d below lt e was now = absurd (omega arith)
one_fewer low high (c ∷ ds) zero d below lt e was now =
    let was_here : counts deed_reading high c ≡ true = ap (counts deed_reading high) e ∙ was in
    let now_here : counts deed_reading low c ≡ false = ap (counts deed_reading low) e ∙ now in
    subst (λ b. (if b then suc (counted low ds) else counted low ds) < (if counts deed_reading high c then suc (counted high ds) else counted high ds)) (sym now_here)
    (subst (λ b. counted low ds < (if b then suc (counted high ds) else counted high ds)) (sym was_here) (omega (arith, fewer low high ds below)))
one_fewer low high (c ∷ ds) (suc k) d below lt e was now =
    let rest : counted low ds < counted high ds = one_fewer low high ds k d below (omega arith) e was now in
    elim (cases_Bool (counts deed_reading low c)) [
      | inl t ↦
          let high_too : counts deed_reading high c ≡ true = le-leb _ _ (omega (arith, leb-true _ _ t, below c.section.lane)) in
          subst (λ b. (if b then suc (counted low ds) else counted low ds) < (if counts deed_reading high c then suc (counted high ds) else counted high ds)) (sym t)
          (subst (λ b. suc (counted low ds) < (if b then suc (counted high ds) else counted high ds)) (sym high_too) (omega arith))
      | inr t ↦
          subst (λ b. (if b then suc (counted low ds) else counted low ds) < (if counts deed_reading high c then suc (counted high ds) else counted high ds)) (sym t)
          (elim (counts deed_reading high c) as (λ b. counted low ds < (if b then suc (counted high ds) else counted high ds)) [ true ↦ omega arith | false ↦ rest ])
    ]

module _ (ds : List Deed) (numbered : (k : ℕ) (d : Deed) → k < length ds → get_or ds k d ≡ d → 0 < d.section.number) (whole : ℕ → ℕ) where
  -- each closed cut of whole sections is below this one
  abbrev IsAbove : (ℕ → ℕ) → Type 0
  IsAbove cut = (other : ℕ → ℕ) → ((l : ℕ) → other l ≤ whole l) → IsClosedOver deed_reading ds other → (l : ℕ) → other l ≤ cut l

  -- a smaller cut that is still above each closed one
  record Lower (cut : ℕ → ℕ) : Type 0 where
    new : ℕ → ℕ
    fewer : counted new ds < counted cut ds
    below : (l : ℕ) → new l ≤ cut l
    above : IsAbove new

  lower_one : (cut : ℕ → ℕ) → IsAbove cut → Any (λ s. blockers deed_reading ds cut s ≡ true) ds → Lower cut
  lower_one cut above blocked =
      let d : Deed = blocked.1 in
      let here : Contains ds d = (blocked.0, blocked.2, blocked.3) in
      let number : 0 < d.section.number = numbered blocked.0 d blocked.2 blocked.3 in
      let was : d.section.number ≤ cut d.section.lane = blocked_is_counted deed_reading ds cut d blocked.4 in
      let new : ℕ → ℕ = with_at cut d.section.lane (d.section.number - 1) in
      let at : new d.section.lane ≡ d.section.number - 1 = ap (λ b. if b then d.section.number - 1 else cut d.section.lane) (eq-eqb d.section.lane d.section.lane refl) in
      let one_less : new d.section.lane + 1 ≡ d.section.number = omega arith in
      let others : (m : ℕ) → m ≢ d.section.lane → new m ≡ cut m = λ m differ. ap (λ b. if b then d.section.number - 1 else cut m) (ne_eqb d.section.lane m (λ e. differ (sym e))) in
      let below : (l : ℕ) → new l ≤ cut l = lowered_below cut new d.section.lane d.section.number was one_less others in
      record {
        new = new;
        fewer = one_fewer new cut ds blocked.0 d below blocked.2 blocked.3 (le-leb _ _ was) (lt-leb _ _ (omega arith));
        below = below;
        above = λ other le closed. lowered_above cut new other d.section.lane d.section.number (blocked_stays_out deed_reading ds cut other d here blocked.4 closed (above other le closed)) one_less others (above other le closed);
      }

  -- either no step is blocked, or one is
  blocked_or_free : (cut : ℕ → ℕ) → Any (λ s. blockers deed_reading ds cut s ≡ true) ds ⊎ All (λ s. blockers deed_reading ds cut s ≡ false) ds
  blocked_or_free cut = elim (cases_Bool (list_any (blockers deed_reading ds cut) ds)) [
    | inl some ↦ inl (Any-from_list_any (blockers deed_reading ds cut) ds some)
    | inr none ↦ inr (λ k s lt. elim (cases_Bool (blockers deed_reading ds cut (get_or ds k s))) [
      | inl blocked ↦ absurd (let some : list_any (blockers deed_reading ds cut) ds ≡ true = list_any_at (blockers deed_reading ds cut) ds k s lt blocked in cc)
      | inr free ↦ free
    ])
  ]

  search_from : (fuel : ℕ) (cut : ℕ → ℕ) → counted cut ds ≤ fuel → ((l : ℕ) → cut l ≤ whole l) → IsAbove cut → (found : ℕ → ℕ) × IsGreatest deed_reading ds whole found
  search_from zero cut le below above = elim (blocked_or_free cut) [
    | inl blocked ↦ absurd (omega (arith, (lower_one cut above blocked).fewer))
    | inr free ↦ (cut, record { below = below; closed = free_is_closed deed_reading ds cut free; greatest = above })
  ]
  search_from (suc fuel) cut le below above = elim (blocked_or_free cut) [
    | inl blocked ↦
        let lower : Lower cut = lower_one cut above blocked in
        search_from fuel lower.new (omega (arith, lower.fewer)) (λ l. omega (arith, below l, lower.below l)) lower.above
    | inr free ↦ (cut, record { below = below; closed = free_is_closed deed_reading ds cut free; greatest = above })
  ]

pub stable_exists : (log : List (ℕ × Action)) → (cut : ℕ → ℕ) × IsStable log cut
stable_exists log =
    let ds : List Deed = deeds_of log in
    let whole : ℕ → ℕ = λ l. ended (lane l log) in
    let found : (cut : ℕ → ℕ) × IsGreatest deed_reading (deeds_of log) (λ l. ended (lane l log)) cut =
    search_from (deeds_of log) (deeds_count log) (λ l. ended (lane l log)) (counted (λ l. ended (lane l log)) (deeds_of log)) (λ l. ended (lane l log)) (omega arith) (λ l. omega arith) (λ other le closed. le) in
    (found.0, plain_stable deed_reading log (deeds_of log) found.0 (numbered_deeds log) found.1)

pub stable_once : (log : List (ℕ × Action)) (c d : ℕ → ℕ) → IsStable log c → IsStable log d → (l : ℕ) → c l ≡ d l
stable_once log c d hc hd l = omega (arith, hc.greatest d hd.whole hd.closed l, hd.greatest c hc.whole hc.closed l)
