-- What is known of the records goes on being known, as records come and as some are forgotten.
use Rattle.std.proofs.Common.{ℕ, ◌≡◌, ◌+◌, ◌<◌, ◌≤◌, ◌==◌, if◌then◌else◌, Bool, true, false, List, ◌∷◌, Contains, length, max, slice_index, slice_set, sym, ap, ◌∙◌, subst, inl, inr, arith, length-set, get_or-set_same, get_or-set_other}
use Rattle.std.proofs.lemmas.Bool.{cases_eq}
use Rattle.std.proofs.lemmas.Bool.Decides.{eqb_tells}
use Rattle.heap_model.specs.Log.{lane}
use Rattle.heap_model.specs.Sections.{Action, Takes, Frees, Stores, without, holding, ended}
use Rattle.heap_model.specs.declared.cut.Cut.{Cut}
use Rattle.heap_model.specs.Cuts.{counts_of, IsWhole}
use Rattle.heap_model.specs.Base.{since}
use Rattle.law_cuts.proofs.Trimmed.{since_counts}
use Rattle.dependence.specs.Trace.{Trace, base_of, beyond, IsStableOf}
use Rattle.dependence.proofs.Coming.{first_held, later_held, still_held}
use Rattle.dependence.proofs.Trimming.{below_since, holding_since}
use Rattle.dependence.proofs.Legal.{below_wider}
use Rattle.model_tests.specs.Known.{IsOf, IsKnown, Follows}

-- a number that is set where it doesn't fall
set_rises : (xs : List ℕ) (o n p : ℕ) → o < length xs → slice_index xs o ≤ n → slice_index xs p ≤ slice_index (slice_set xs o n) p
set_rises xs o n p lt le = elim (cases_eq p o) [
  | inl e ↦ omega (arith, ap (slice_index (slice_set xs o n)) e ∙ get_or-set_same xs o n 0 lt, ap (slice_index xs) e)
  | inr ne ↦ omega (arith, get_or-set_other xs o p n 0 ne)
]

-- what a lane did, of its own and of another
in_lane : (l m : ℕ) (a : Action) (log : List (ℕ × Action)) (P : List Action → Type 0) → (l ≡ m → P (a ∷ lane m log)) → ((l ≡ m → ⊥) → P (lane m log)) → P (lane m ((l, a) ∷ log))
in_lane l m a log P own other = elim (eqb_tells l m) [
  | inl e ↦ subst (λ (b : Bool). P (if b then a ∷ lane m log else lane m log)) (sym e.0) (own e.1)
  | inr e ↦ subst (λ (b : Bool). P (if b then a ∷ lane m log else lane m log)) (sym e.0) (other e.1)
]

ended_one : (a : Action) (older : List Action) → ended (a ∷ older) ≤ ended older + 1
ended_one (Takes o n) older = omega arith
ended_one (Frees o n) older = elim (length (without o (holding older)) == 0) as (λ b. (if b then ended older + 1 else ended older) ≤ ended older + 1) [ true ↦ omega arith | false ↦ omega arith ]
ended_one Stores older = omega arith

-- one record more, and one section more at most
pub one_more : (base : ℕ → ℕ) (log : List (ℕ × Action)) (taken freed holders taken' freed' holders' : List ℕ) (sections l : ℕ) (a : Action) → IsKnown base log taken freed holders sections → Follows taken freed holders l a taken' freed' holders' →
    IsKnown base ((l, a) ∷ log) taken' freed' holders' (sections + 1)
one_more base log taken freed holders taken' freed' holders' sections l a known follows = record {
  of = follows.then log known.of;
  fits = λ m. in_lane l m a log (λ xs. base m + ended xs ≤ sections + 1) (λ _. omega (arith, known.fits m, ended_one a (lane m log))) (λ _. omega (arith, known.fits m));
}

pub take_follows : (taken freed holders : List ℕ) (l o n : ℕ) → o < 16 → slice_index taken o ≤ n → slice_index freed o ≤ n →
    Follows taken freed holders l (Takes o n) (slice_set taken o (n + 1)) freed (slice_set holders o (l + 1))
take_follows taken freed holders l o n small le le' = record {
  next = λ log of. below_wider o (slice_index taken o) (slice_index freed o) n n log le le' (of.below o small);
  then = λ log of. record {
    sized = (length-set taken o (n + 1) ∙ of.sized.0, of.sized.1, length-set holders o (l + 1) ∙ of.sized.2);
    below = λ p lt. (
      (λ e. omega (arith, ap (slice_index (slice_set taken o (n + 1))) (sym e) ∙ get_or-set_same taken o (n + 1) 0 (omega (arith, of.sized.0)))),
      below_wider p (slice_index taken p) (slice_index freed p) (slice_index (slice_set taken o (n + 1)) p) (slice_index freed p) log (set_rises taken o (n + 1) p (omega (arith, of.sized.0)) (omega arith)) (omega arith) (of.below p lt),
    );
    held = λ p m is. held log of p m is;
  };
}
  where
    held : (log : List (ℕ × Action)) → IsOf log taken freed holders → (p m : ℕ) → slice_index (slice_set holders o (l + 1)) p ≡ m + 1 → Contains (holding (lane m ((l, Takes o n) ∷ log))) p
    held log of p m is = elim (cases_eq p o) [
      | inl e ↦
          let same : l + 1 ≡ m + 1 = sym (get_or-set_same holders o (l + 1) 0 (omega (arith, of.sized.2))) ∙ ap (slice_index (slice_set holders o (l + 1))) (sym e) ∙ is in
          in_lane l m (Takes o n) log (λ xs. Contains (holding xs) p) (λ _. first_held p o (holding (lane m log)) (sym e)) (λ ne. absurd (ne (omega arith)))
      | inr ne ↦
          let before : Contains (holding (lane m log)) p = of.held p m (sym (get_or-set_other holders o p (l + 1) 0 ne) ∙ is) in
          in_lane l m (Takes o n) log (λ xs. Contains (holding xs) p) (λ _. later_held p o (holding (lane m log)) before) (λ _. before)
    ]

pub release_follows : (taken freed holders : List ℕ) (l o n : ℕ) → o < 16 → slice_index holders o ≡ l + 1 → slice_index taken o ≤ n + 1 → slice_index freed o ≤ n →
    Follows taken freed holders l (Frees o n) taken (slice_set freed o (n + 1)) (slice_set holders o 0)
release_follows taken freed holders l o n small holds le le' = record {
  next = λ log of. (of.held o l holds, below_wider o (slice_index taken o) (slice_index freed o) (n + 1) n log le le' (of.below o small));
  then = λ log of. record {
    sized = (of.sized.0, length-set freed o (n + 1) ∙ of.sized.1, length-set holders o 0 ∙ of.sized.2);
    below = λ p lt. (
      (λ e. omega (arith, ap (slice_index (slice_set freed o (n + 1))) (sym e) ∙ get_or-set_same freed o (n + 1) 0 (omega (arith, of.sized.1)))),
      below_wider p (slice_index taken p) (slice_index freed p) (slice_index taken p) (slice_index (slice_set freed o (n + 1)) p) log (omega arith) (set_rises freed o (n + 1) p (omega (arith, of.sized.1)) (omega arith)) (of.below p lt),
    );
    held = λ p m is. held log of p m is;
  };
}
  where
    held : (log : List (ℕ × Action)) → IsOf log taken freed holders → (p m : ℕ) → slice_index (slice_set holders o 0) p ≡ m + 1 → Contains (holding (lane m ((l, Frees o n) ∷ log))) p
    held log of p m is = elim (cases_eq p o) [
      | inl e ↦ absurd (let none : 0 ≡ m + 1 = sym (get_or-set_same holders o 0 0 (omega (arith, of.sized.2))) ∙ ap (slice_index (slice_set holders o 0)) (sym e) ∙ is in omega arith)
      | inr ne ↦
          let before : Contains (holding (lane m log)) p = of.held p m (sym (get_or-set_other holders o p 0 0 ne) ∙ is) in
          in_lane l m (Frees o n) log (λ xs. Contains (holding xs) p) (λ _. still_held p o (holding (lane m log)) (λ e. ne (sym e)) before) (λ _. before)
    ]

pub store_follows : (taken freed holders : List ℕ) (l : ℕ) → Follows taken freed holders l Stores taken freed holders
store_follows taken freed holders l = record {
  next = λ log of. tt;
  then = λ log of. record {
    sized = of.sized;
    below = of.below;
    held = λ p m is. in_lane l m Stores log (λ xs. Contains (holding xs) p) (λ _. of.held p m is) (λ _. of.held p m is);
  };
}

-- what is left when whole sections are forgotten
pub known_since : (base next more : ℕ → ℕ) (log : List (ℕ × Action)) (taken freed holders : List ℕ) (sections : ℕ) → ((l : ℕ) → next l ≡ base l + more l) → IsWhole log more → IsKnown base log taken freed holders sections → IsKnown next (since more log) taken freed holders sections
known_since base next more log taken freed holders sections at whole known = record {
  of = record {
    sized = known.of.sized;
    below = λ o lt. below_since o (slice_index taken o) (slice_index freed o) more log (known.of.below o lt);
    held = λ o l is. subst (λ (xs : List ℕ). Contains xs o) (sym (holding_since more l log (whole l))) (known.of.held o l is);
  };
  fits = λ l. omega (arith, at l, since_counts more l log (whole l), known.fits l);
}

pub known_left : (old new left : Trace) (cut part : Cut) (taken freed holders : List ℕ) (sections : ℕ) → new.log ≡ old.log → new.base ≡ old.base → IsStableOf old (counts_of cut) → ((l : ℕ) → counts_of part l ≤ counts_of cut l) →
    left.log ≡ since (beyond new part) new.log → ((l : ℕ) → base_of left l ≡ max (base_of new l) (counts_of part l)) → IsKnown (base_of old) old.log taken freed holders sections → IsKnown (base_of left) left.log taken freed holders sections
known_left old new left cut part taken freed holders sections log base stable le left_log left_base known =
    let base_is : (l : ℕ) → base_of new l ≡ base_of old l = λ l. ap (λ (xs : List ℕ). slice_index xs l) base in
    subst (λ (xs : List (ℕ × Action)). IsKnown (base_of left) xs taken freed holders sections) (sym (left_log ∙ ap (since (beyond new part)) log))
    (known_since (base_of old) (base_of left) (beyond new part) old.log taken freed holders sections (λ l. omega (arith, left_base l, base_is l)) (λ l. omega (arith, le l, stable.counts l, base_is l, stable.stable.whole l)) known)
