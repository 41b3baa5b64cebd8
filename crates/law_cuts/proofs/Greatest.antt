-- Steps towards the greatest cut under which no step is blocked.
use Rattle.std.proofs.Common.{ℕ, ◌≡◌, ◌≢◌, ◌+◌, ◌<◌, ◌≤◌, ◌&&◌, Bool, true, false, not, List, Contains, All, refl, sym, subst, inl, inr, arith}
use Rattle.std.specs.List.{list_any, Any}
use Rattle.std.proofs.lemmas.Bool.{and_parts, leb-true, leb-false, lt-leb, cases_Bool, cases_eq, not-true}
use Rattle.std.proofs.lemmas.List.Folds.{Any-from_list_any, list_any-from_Any}
use Rattle.law_cuts.specs.Plain.{Reading, is_blocked_by, takes_after, counts, IsClosedOver}

module _ {A : Type 0} (r : Reading A) (steps : List A) where
  -- a step of the list by which a counted step is blocked
  abbrev pub blockers : (ℕ → ℕ) → A → Bool
  blockers cut s = list_any (λ t. is_blocked_by r cut s t) steps

  -- a closed cut that isn't above a cut counts no step that is blocked in that
  pub blocked_stays_out : (cut other : ℕ → ℕ) (s : A) → Contains steps s → blockers cut s ≡ true → IsClosedOver r steps other → ((l : ℕ) → other l ≤ cut l) →
      other (r.section s).lane < (r.section s).number
  blocked_stays_out cut other s here blocked closed below =
      let any : Any (λ t. is_blocked_by r cut s t ≡ true) steps = Any-from_list_any (λ t. is_blocked_by r cut s t) steps blocked in
      let t : A = any.1 in
      let parts : (counts r cut s ≡ true) × ((takes_after (r.act s) (r.act t) && not (counts r cut t)) ≡ true) = and_parts _ _ any.4 in
      let parts_too : (takes_after (r.act s) (r.act t) ≡ true) × (not (counts r cut t) ≡ true) = and_parts _ _ parts.1 in
      let out : cut (r.section t).lane < (r.section t).number = leb-false _ _ (not-true _ parts_too.1) in
      let out_too : counts r other t ≡ false = lt-leb _ _ (omega (arith, below (r.section t).lane)) in
      let there : Contains steps t = (any.0, any.2, any.3) in
      elim (cases_Bool (counts r other s)) [
        | inl counted ↦
            let closed_here : (counts r other s && (takes_after (r.act s) (r.act t) && not (counts r other t))) ≡ false = closed s t here there in
            let now : (counts r other s && (takes_after (r.act s) (r.act t) && not (counts r other t))) ≡ true = rw (counted, parts_too.0, out_too) refl in
            absurd cc
        | inr outside ↦ leb-false _ _ outside
      ]

  pub blocked_is_counted : (cut : ℕ → ℕ) (s : A) → blockers cut s ≡ true → (r.section s).number ≤ cut (r.section s).lane
  blocked_is_counted cut s blocked =
      let any : Any (λ t. is_blocked_by r cut s t ≡ true) steps = Any-from_list_any (λ t. is_blocked_by r cut s t) steps blocked in
      let parts : (counts r cut s ≡ true) × ((takes_after (r.act s) (r.act any.1) && not (counts r cut any.1)) ≡ true) = and_parts _ _ any.4 in
      leb-true _ _ parts.0

  -- where no step is blocked the cut is closed
  pub free_is_closed : (cut : ℕ → ℕ) → All (λ s. blockers cut s ≡ false) steps → IsClosedOver r steps cut
  free_is_closed cut free s t here there =
      elim (cases_Bool (is_blocked_by r cut s t)) [
        | inl blocked ↦
            let some : blockers cut s ≡ true = list_any-from_Any (λ u. is_blocked_by r cut s u) steps (there.0, t, there.1, there.2, blocked) in
            let P : A → Type 0 = λ v. blockers cut v ≡ false in
            let none : blockers cut s ≡ false = subst P here.2 (free here.0 s here.1) in
            absurd cc
        | inr clear ↦ clear
      ]

-- one lane's count falls below a section
pub lowered_below : (old new : ℕ → ℕ) (l section : ℕ) → section ≤ old l → new l + 1 ≡ section → ((m : ℕ) → m ≢ l → new m ≡ old m) → (m : ℕ) → new m ≤ old m
lowered_below old new l section le e others m = elim (cases_eq m l) [
  | inl same ↦ let P : ℕ → Type 0 = λ k. new k ≤ old k in subst P (sym same) (omega arith)
  | inr differ ↦ omega (arith, others m differ)
]

pub lowered_above : (old new other : ℕ → ℕ) (l section : ℕ) → other l < section → new l + 1 ≡ section → ((m : ℕ) → m ≢ l → new m ≡ old m) → ((m : ℕ) → other m ≤ old m) → (m : ℕ) → other m ≤ new m
lowered_above old new other l section lt e others below m = elim (cases_eq m l) [
  | inl same ↦ let P : ℕ → Type 0 = λ k. other k ≤ new k in subst P (sym same) (omega arith)
  | inr differ ↦ omega (arith, others m differ, below m)
]
