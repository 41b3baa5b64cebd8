-- The greatest cut over the steps is the stable one.
use Rattle.std.proofs.Common.{ℕ, ◌≡◌, ◌+◌, ◌-◌, ◌<◌, ◌≤◌, ◌&&◌, Bool, not, List, [], ◌∷◌, length, get_or, reverse, slice_index, Contains, refl, sym, ap, ◌∙◌, inl, inr, arith}
use Rattle.std.proofs.lemmas.Bool.{lt-leb, le-leb, cases_lt}
use Rattle.std.proofs.lemmas.List.{get_or-reverse, length-reverse}
use Rattle.heap_model.specs.Log.{lane}
use Rattle.heap_model.specs.Sections.{undo_action, ended}
use Rattle.heap_model.specs.Cuts.{IsStable}
use Rattle.law_cuts.specs.Plain.{Reading, takes_after, counts, is_blocked_by, IsClosedOver, IsGreatest, IsNumbered}
use Rattle.law_cuts.proofs.PlainStable.{plain_stable}
use Rattle.dependence.specs.declared.step.Step.{Step}
use Rattle.dependence.specs.Steps.{reading, log_of, HasSections}
use Rattle.dependence.proofs.Falling.{lane_is, section_is}
use Rattle.dependence.proofs.Counted.{past_base}

-- how a step tells its section, by its number since what was forgotten
abbrev pub reading_since : (base : ℕ → ℕ) → Reading Step
reading_since base = record { section = λ s. record { lane = s.lane.0; number = s.section - base s.lane.0 }; act = λ s. undo_action s.entry }

numbered_since : (base : ℕ → ℕ) (steps : List Step) → HasSections base steps → IsNumbered (reading_since base) steps (log_of steps)
numbered_since base [] h = tt
numbered_since base (s ∷ older) h =
    let number : s.section - base s.lane.0 ≡ ended (lane s.lane.0 (log_of older)) + 1 = omega (arith, h.0) in
    ((λ i. record { lane = s.lane.0; number = number i }), refl, numbered_since base older h.1)

-- a step of the list, backwards
contains_back : (steps : List Step) (s : Step) → Contains (reverse steps) s → Contains steps s
contains_back steps s here =
    let lt : here.0 < length steps = omega (arith, here.1, length-reverse steps) in
    (length steps - 1 - here.0, omega arith, sym (get_or-reverse steps here.0 s lt) ∙ here.2)

contains_reverse : (steps : List Step) (s : Step) → Contains steps s → Contains (reverse steps) s
contains_reverse steps s here =
    let lt : here.0 < length steps = here.1 in
    let back : length steps - 1 - (length steps - 1 - here.0) ≡ here.0 = omega arith in
    (length steps - 1 - here.0, omega (arith, length-reverse steps), get_or-reverse steps (length steps - 1 - here.0) s (omega arith) ∙ ap (λ (k : ℕ). get_or steps k s) back ∙ here.2)

module _ (base : ℕ → ℕ) (steps : List Step) (numbered : HasSections base (reverse steps)) where
  pub step_past : (s : Step) → Contains steps s → base s.lane.0 < s.section
  step_past s here =
      let at : base (slice_index _ here.0) ≡ base s.lane.0 = ap base (lane_is steps here.0 s here.1 here.2) in
      omega (arith, past_base base steps numbered here.0 here.1, section_is steps here.0 s here.1 here.2)

  -- counted by both numbers
  counts_same : (cut other : ℕ → ℕ) (s : Step) → Contains steps s → cut s.lane.0 ≡ base s.lane.0 + other s.lane.0 → counts reading cut s ≡ counts (reading_since base) other s
  counts_same cut other s here e = elim (cases_lt (cut s.lane.0) s.section) [
    | inl out ↦ lt-leb s.section (cut s.lane.0) out ∙ sym (lt-leb (s.section - base s.lane.0) (other s.lane.0) (omega (arith, step_past s here)))
    | inr inside ↦ le-leb s.section (cut s.lane.0) inside ∙ sym (le-leb (s.section - base s.lane.0) (other s.lane.0) (omega (arith, step_past s here)))
  ]

  blocked_same : (cut other : ℕ → ℕ) → ((l : ℕ) → cut l ≡ base l + other l) → (s t : Step) → Contains steps s → Contains steps t → is_blocked_by reading cut s t ≡ is_blocked_by (reading_since base) other s t
  blocked_same cut other e s t here there =
      ap (λ (b : Bool). b && (takes_after (undo_action s.entry) (undo_action t.entry) && not (counts reading cut t))) (counts_same cut other s here (e s.lane.0))
      ∙ ap (λ (b : Bool). counts (reading_since base) other s && (takes_after (undo_action s.entry) (undo_action t.entry) && not b)) (counts_same cut other t there (e t.lane.0))

  closed_forth : (cut other : ℕ → ℕ) → ((l : ℕ) → cut l ≡ base l + other l) → IsClosedOver (reading_since base) (reverse steps) other → IsClosedOver reading steps cut
  closed_forth cut other e closed s t here there = blocked_same cut other e s t here there ∙ closed s t (contains_reverse steps s here) (contains_reverse steps t there)

  closed_back : (cut other : ℕ → ℕ) → ((l : ℕ) → cut l ≡ base l + other l) → IsClosedOver reading steps cut → IsClosedOver (reading_since base) (reverse steps) other
  closed_back cut other e closed s t here there = sym (blocked_same cut other e s t (contains_back steps s here) (contains_back steps t there)) ∙ closed s t (contains_back steps s here) (contains_back steps t there)

  -- nothing past the base
  closed_base : IsClosedOver reading steps base
  closed_base s t here there = ap (λ (b : Bool). b && (takes_after (undo_action s.entry) (undo_action t.entry) && not (counts reading base t))) (lt-leb s.section (base s.lane.0) (step_past s here))

  module _ (whole cut : ℕ → ℕ) (is_whole : (l : ℕ) → whole l ≡ ended (lane l (log_of (reverse steps))) + base l) (greatest : IsGreatest reading steps whole cut) where
    pub above_base : (l : ℕ) → base l ≤ cut l
    above_base l = greatest.greatest base (λ m. omega (arith, is_whole m)) closed_base l

    apart : (l : ℕ) → cut l ≡ base l + (cut l - base l)
    apart l = omega (arith, above_base l)

    pub stable_since : IsStable (log_of (reverse steps)) (λ l. cut l - base l)
    stable_since = plain_stable (reading_since base) (log_of (reverse steps)) (reverse steps) (λ l. cut l - base l) (numbered_since base (reverse steps) numbered) (record {
      below = λ l. omega (arith, greatest.below l, is_whole l);
      closed = closed_back cut (λ l. cut l - base l) apart greatest.closed;
      greatest = λ other below closed l. (let up : base l + other l ≤ cut l = greatest.greatest (λ m. base m + other m) (λ m. omega (arith, below m, is_whole m)) (closed_forth (λ m. base m + other m) other (λ m. refl) closed) l in omega arith);
    })
