-- What is counted by lane, with one more action; and the sections of the steps.
use Rattle.std.proofs.Common.{ℕ, zero, suc, ◌≡◌, ◌≢◌, ◌+◌, ◌-◌, ◌<◌, ◌≤◌, ◌==◌, if◌then◌else◌, Bool, true, false, List, [], ◌∷◌, length, get_or, reverse, slice_index, slice_set, Contains, All, refl, sym, ap, ◌∙◌, inl, inr, arith, get_or-set_same, get_or-set_other}
use Rattle.std.proofs.lemmas.Bool.{eq-eqb, ne_eqb, cases_eq}
use Rattle.std.proofs.lemmas.Bool.Decides.{eqb_tells}
use Rattle.std.proofs.lemmas.List.{get_or-map, length-reverse}
use Rattle.heap_model.specs.Log.{lane}
use Rattle.heap_model.specs.Sections.{Action, Takes, Frees, Stores, without, holding, ended}
use Rattle.law_cuts.proofs.Stores.{ended_rises}
use Rattle.dependence.specs.declared.step.Step.{Step}
use Rattle.dependence.specs.Counts.{held_after, ended_after, IsHeldBy}
use Rattle.dependence.specs.Next.{IsNext}
use Rattle.dependence.specs.Steps.{did, log_of, HasSections}
use Rattle.dependence.specs.Links.{lanes_in, sections_in}
use Rattle.dependence.specs.Kept.{IsCounted, IsInOrder}
use Rattle.dependence.specs.Search.{IsSorted}
use Rattle.dependence.proofs.Places.{at_reverse, map_reverse, length_map, pick}

-- what is freed was held once
pub without_length : (o : ℕ) (held : List ℕ) → Contains held o → length (without o held) + 1 ≡ length held
without_length o [] here = absurd (let lt : here.0 < length {A = ℕ} [] = here.1 in omega arith)
without_length o (p ∷ ps) here = elim (eqb_tells p o) [
  | inl e ↦ ap (λ (b : Bool). length (if b then ps else p ∷ without o ps) + 1) e.0 ∙ omega arith
  | inr e ↦ ap (λ (b : Bool). length (if b then ps else p ∷ without o ps) + 1) e.0 ∙ (let rest : length (without o ps) + 1 ≡ length ps = without_length o ps (later e.1 here.0 here.1 here.2) in omega arith)
]
  where
    later : p ≢ o → (k : ℕ) → k < length (p ∷ ps) → get_or (p ∷ ps) k o ≡ o → Contains ps o
    later ne zero lt is = absurd (ne is)
    later ne (suc k) lt is = (k, omega arith, is)

lane_same : (l : ℕ) (a : Action) (log : List (ℕ × Action)) → lane l ((l, a) ∷ log) ≡ a ∷ lane l log
lane_same l a log = ap (λ (b : Bool). if b then a ∷ lane l log else lane l log) (eq-eqb l l refl)

lane_other : (m l : ℕ) (a : Action) (log : List (ℕ × Action)) → m ≢ l → lane m ((l, a) ∷ log) ≡ lane m log
lane_other m l a log ne = ap (λ (b : Bool). if b then a ∷ lane m log else lane m log) (ne_eqb l m (λ e. ne (sym e)))

held_is : (a : Action) (log : List (ℕ × Action)) (l h : ℕ) → IsNext log l a → h ≡ length (holding (lane l log)) → held_after a h ≡ length (holding (a ∷ lane l log))
held_is (Takes o n) log l h next e = omega arith
held_is (Frees o n) log l h next e = omega (arith, without_length o (holding (lane l log)) next.0)
held_is Stores log l h next e = e

ended_is : (a : Action) (log : List (ℕ × Action)) (l h e b : ℕ) → IsNext log l a → h ≡ length (holding (lane l log)) → e ≡ ended (lane l log) + b → ended_after a h e ≡ ended (a ∷ lane l log) + b
ended_is (Takes o n) log l h e b next eh ee = ee
ended_is Stores log l h e b next eh ee = ee
ended_is (Frees o n) log l h e b next eh ee =
    let less : length (without o (holding (lane l log))) + 1 ≡ length (holding (lane l log)) = without_length o (holding (lane l log)) next.0 in
    elim (eqb_tells h 1) [
      | inl one ↦
          let none : (length (without o (holding (lane l log))) == 0) ≡ true = eq-eqb _ _ (let it : h ≡ 1 = one.1 in omega arith) in
          ap (λ (t : Bool). if t then e + 1 else e) one.0 ∙ (let step : e + 1 ≡ ended (lane l log) + 1 + b = omega arith in step) ∙ sym (ap (λ (t : Bool). (if t then ended (lane l log) + 1 else ended (lane l log)) + b) none)
      | inr more ↦
          let some : (length (without o (holding (lane l log))) == 0) ≡ false = ne_eqb _ _ (λ z. more.1 (omega arith)) in
          ap (λ (t : Bool). if t then e + 1 else e) more.0 ∙ ee ∙ sym (ap (λ (t : Bool). (if t then ended (lane l log) + 1 else ended (lane l log)) + b) some)
    ]

pub counted_push : (base : ℕ → ℕ) (log : List (ℕ × Action)) (e h e' h' : List ℕ) (l : ℕ) (a : Action) → length e ≡ 32 → length h ≡ 32 → l < 32 → IsNext log l a → IsCounted base log e h →
    h' ≡ slice_set h l (held_after a (slice_index h l)) → e' ≡ slice_set e l (ended_after a (slice_index h l) (slice_index e l)) → IsCounted base ((l, a) ∷ log) e' h'
counted_push base log e h e' h' l a le lh low next old eh ee = record {
  whole = λ m. elim (cases_eq m l) [
    | inl same ↦
        ap (λ (xs : List ℕ). slice_index xs m) ee ∙ ap (slice_index (slice_set e l (ended_after a (slice_index h l) (slice_index e l)))) same ∙ get_or-set_same e l (ended_after a (slice_index h l) (slice_index e l)) 0 (omega arith)
        ∙ ended_is a log l (slice_index h l) (slice_index e l) (base l) next (old.held l) (old.whole l)
        ∙ ap (λ (xs : List Action). ended xs + base l) (sym (lane_same l a log)) ∙ ap (λ (k : ℕ). ended (lane k ((l, a) ∷ log)) + base k) (sym same)
    | inr ne ↦ ap (λ (xs : List ℕ). slice_index xs m) ee ∙ get_or-set_other e l m (ended_after a (slice_index h l) (slice_index e l)) 0 ne ∙ old.whole m ∙ ap (λ (xs : List Action). ended xs + base m) (sym (lane_other m l a log ne))
  ];
  held = λ m. elim (cases_eq m l) [
    | inl same ↦
        ap (λ (xs : List ℕ). slice_index xs m) eh ∙ ap (slice_index (slice_set h l (held_after a (slice_index h l)))) same ∙ get_or-set_same h l (held_after a (slice_index h l)) 0 (omega arith)
        ∙ held_is a log l (slice_index h l) next (old.held l)
        ∙ ap (λ (xs : List Action). length (holding xs)) (sym (lane_same l a log)) ∙ ap (λ (k : ℕ). length (holding (lane k ((l, a) ∷ log)))) (sym same)
    | inr ne ↦ ap (λ (xs : List ℕ). slice_index xs m) eh ∙ get_or-set_other h l m (held_after a (slice_index h l)) 0 ne ∙ old.held m ∙ ap (λ (xs : List Action). length (holding xs)) (sym (lane_other m l a log ne))
  ];
}

pub is_held : (a : Action) (log : List (ℕ × Action)) (l h : ℕ) → IsNext log l a → h ≡ length (holding (lane l log)) → IsHeldBy a h
is_held (Takes o n) log l h next e = tt
is_held (Frees o n) log l h next e = omega (arith, without_length o (holding (lane l log)) next.0)
is_held Stores log l h next e = tt

-- a lane holds no more objects than there are records
without_short : (o : ℕ) (held : List ℕ) → length (without o held) ≤ length held
without_short o [] = omega arith
without_short o (p ∷ ps) = elim (p == o) as (λ b. length (if b then ps else p ∷ without o ps) ≤ length (p ∷ ps)) [ true ↦ omega arith | false ↦ omega (arith, without_short o ps) ]

holding_short : (acts : List Action) → length (holding acts) ≤ length acts
holding_short [] = omega arith
holding_short (Takes o n ∷ older) = omega (arith, holding_short older)
holding_short (Frees o n ∷ older) = omega (arith, holding_short older, without_short o (holding older))
holding_short (Stores ∷ older) = omega (arith, holding_short older)

lane_short : (l : ℕ) (log : List (ℕ × Action)) → length (lane l log) ≤ length log
lane_short l [] = omega arith
lane_short l (x ∷ older) = elim (x.0 == l) as (λ b. length (if b then x.1 ∷ lane l older else lane l older) ≤ length (x ∷ older)) [ true ↦ omega (arith, lane_short l older) | false ↦ omega (arith, lane_short l older) ]

pub held_short : (steps : List Step) (l : ℕ) → length (holding (lane l (log_of (reverse steps)))) ≤ length steps
held_short steps l = omega (arith, holding_short (lane l (log_of (reverse steps))), lane_short l (log_of (reverse steps)), length_map did (reverse steps), length-reverse steps)

pub order_next : (log : List (ℕ × Action)) (l : ℕ) (a : Action) → IsNext log l a → IsInOrder log a
order_next log l (Takes o n) h = h
order_next log l (Frees o n) h = h.1
order_next log l Stores h = tt

-- sections rise in each lane
pub ended_cons : (x : ℕ × Action) (log : List (ℕ × Action)) (l : ℕ) → ended (lane l log) ≤ ended (lane l (x ∷ log))
ended_cons x log l = elim (x.0 == l) as (λ b. ended (lane l log) ≤ ended (if b then x.1 ∷ lane l log else lane l log)) [ true ↦ ended_rises x.1 (lane l log) | false ↦ omega arith ]

section_low : (base : ℕ → ℕ) (steps : List Step) → HasSections base steps → (m : ℕ) → m < length steps →
    slice_index (sections_in steps) m ≤ ended (lane (slice_index (lanes_in steps) m) (log_of steps)) + 1 + base (slice_index (lanes_in steps) m)
section_low base [] h m lt = absurd (omega arith)
section_low base (s ∷ older) h zero lt = omega (arith, h.0, ended_cons (did s) (log_of older) s.lane.0)
section_low base (s ∷ older) h (suc m) lt = omega (arith, section_low base older h.1 m (omega arith), ended_cons (did s) (log_of older) (slice_index (lanes_in older) m))

section_some : (base : ℕ → ℕ) (steps : List Step) → HasSections base steps → (m : ℕ) → m < length steps → base (slice_index (lanes_in steps) m) < slice_index (sections_in steps) m
section_some base [] h m lt = absurd (omega arith)
section_some base (s ∷ older) h zero lt = omega (arith, h.0)
section_some base (s ∷ older) h (suc m) lt = section_some base older h.1 m (omega arith)

section_falls : (base : ℕ → ℕ) (steps : List Step) → HasSections base steps → (k m : ℕ) → k ≤ m → m < length steps → slice_index (lanes_in steps) k ≡ slice_index (lanes_in steps) m →
    slice_index (sections_in steps) m ≤ slice_index (sections_in steps) k
section_falls base [] h k m le lt same = absurd (omega arith)
section_falls base (s ∷ older) h zero zero le lt same = omega arith
section_falls base (s ∷ older) h zero (suc m) le lt same =
    let here : ended (lane s.lane.0 (log_of older)) ≡ ended (lane (slice_index (lanes_in older) m) (log_of older)) = ap (λ (l : ℕ). ended (lane l (log_of older))) same in
    let there : base s.lane.0 ≡ base (slice_index (lanes_in older) m) = ap base same in
    omega (arith, h.0, section_low base older h.1 m (omega arith))
section_falls base (s ∷ older) h (suc k) zero le lt same = absurd (omega arith)
section_falls base (s ∷ older) h (suc k) (suc m) le lt same = section_falls base older h.1 k m (omega arith) (omega arith) same

module _ (base : ℕ → ℕ) (steps : List Step) (numbered : HasSections base (reverse steps)) where
  back : ℕ → ℕ
  back i = length steps - 1 - i

  lane_back : (i : ℕ) → i < length steps → slice_index (lanes_in (reverse steps)) (length steps - 1 - i) ≡ slice_index (lanes_in steps) i
  lane_back i lt = ap (λ (xs : List ℕ). slice_index xs (length steps - 1 - i)) (map_reverse (λ (s : Step). s.lane.0) steps)
      ∙ ap (λ (n : ℕ). slice_index (reverse (lanes_in steps)) (n - 1 - i)) (sym (length_map (λ (s : Step). s.lane.0) steps)) ∙ at_reverse (lanes_in steps) i 0 (omega (arith, length_map (λ (s : Step). s.lane.0) steps))

  section_back : (i : ℕ) → i < length steps → slice_index (sections_in (reverse steps)) (length steps - 1 - i) ≡ slice_index (sections_in steps) i
  section_back i lt = ap (λ (xs : List ℕ). slice_index xs (length steps - 1 - i)) (map_reverse (λ (s : Step). s.section) steps)
      ∙ ap (λ (n : ℕ). slice_index (reverse (sections_in steps)) (n - 1 - i)) (sym (length_map (λ (s : Step). s.section) steps)) ∙ at_reverse (sections_in steps) i 0 (omega (arith, length_map (λ (s : Step). s.section) steps))

  pub past_base : (i : ℕ) → i < length steps → base (slice_index (lanes_in steps) i) < slice_index (sections_in steps) i
  past_base i lt =
      let at : base (slice_index (lanes_in (reverse steps)) (length steps - 1 - i)) ≡ base (slice_index (lanes_in steps) i) = ap base (lane_back i lt) in
      omega (arith, section_some base (reverse steps) numbered (length steps - 1 - i) (omega (arith, length-reverse steps)), section_back i lt)

  pub sorted : (lanes : ℕ) → ((i : ℕ) → i < length steps → slice_index (lanes_in steps) i < lanes) → IsSorted steps lanes
  sorted lanes low = record {
    low = low;
    some = λ i lt. omega (arith, past_base i lt);
    rise = λ i j le lt same. omega (
      arith,
      section_falls base (reverse steps) numbered (length steps - 1 - j) (length steps - 1 - i) (omega arith) (omega (arith, length-reverse steps)) (lane_back j lt ∙ sym same ∙ sym (lane_back i (omega arith))),
      section_back i (omega arith),
      section_back j lt,
    );
  }

pub lanes_low : (steps : List Step) (lanes : ℕ) → All (λ s. s.lane.0 < lanes) steps → (i : ℕ) → i < length steps → slice_index (lanes_in steps) i < lanes
lanes_low steps lanes low i lt =
    let s : (s : Step) × (get_or steps i s ≡ s) = pick steps i lt in
    omega (arith, get_or-map (λ (t : Step). t.lane.0) steps i s.0 0 lt, low i s.0 lt)
