-- A trim keeps the stable cut.
use Rattle.std.proofs.Common.{ℕ, ◌≡◌, ◌+◌, ◌-◌, ◌<◌, ◌≤◌, ◌==◌, if◌then◌else◌, Bool, true, false, List, [], ◌∷◌, length, max, refl, sym, ap, ◌∙◌, subst, inl, inr, arith, nat_lt}
use Rattle.std.proofs.lemmas.Bool.{cond_both, eqb-true, lt-ltb, le-ltb, cases_lt}
use Rattle.std.proofs.lemmas.Bool.Decides.{eqb_tells}
use Rattle.heap_model.specs.Log.{lane}
use Rattle.heap_model.specs.Sections.{Action, Takes, Frees, Stores, without, holding, ended, Section, Did, Earlier, Took}
use Rattle.heap_model.specs.Cuts.{Counts, IsWhole, IsClosed, IsStable, union}
use Rattle.heap_model.specs.Base.{since}
use Rattle.law_cuts.proofs.Cuts.{union_closed}
use Rattle.law_cuts.proofs.Stores.{ended_rises}

-- a lane's records of the sections past b
abbrev past : ℕ → List Action → List Action
past b [] = []
past b (a ∷ older) = if nat_lt (ended older) b then past b older else a ∷ past b older

lane_since : (base : ℕ → ℕ) (l : ℕ) (log : List (ℕ × Action)) → lane l (since base log) ≡ past (base l) (lane l log)
lane_since base l [] = refl
lane_since base l ((m, a) ∷ older) = elim (eqb_tells m l) [
  | inl e ↦
      let kept : Bool = nat_lt (ended (lane m older)) (base m) in
      let same : kept ≡ nat_lt (ended (lane l older)) (base l) = ap (λ k. nat_lt (ended (lane k older)) (base k)) e.1 in
      let step : lane l (if kept then since base older else (m, a) ∷ since base older) ≡ (if kept then past (base l) (lane l older) else a ∷ past (base l) (lane l older)) =
      elim kept as (λ b. lane l (if b then since base older else (m, a) ∷ since base older) ≡ (if b then past (base l) (lane l older) else a ∷ past (base l) (lane l older))) [
        | true ↦ lane_since base l older
        | false ↦ ap (λ b. if b then a ∷ lane l (since base older) else lane l (since base older)) e.0 ∙ ap (λ x. a ∷ x) (lane_since base l older)
      ] in
      step ∙ ap (λ b. if b then past (base l) (lane l older) else a ∷ past (base l) (lane l older)) same ∙ ap (λ b. past (base l) (if b then a ∷ lane l older else lane l older)) (sym e.0)
  | inr e ↦
      let kept : Bool = nat_lt (ended (lane m older)) (base m) in
      let step : lane l (if kept then since base older else (m, a) ∷ since base older) ≡ lane l (since base older) =
      elim kept as (λ b. lane l (if b then since base older else (m, a) ∷ since base older) ≡ lane l (since base older)) [
        | true ↦ refl
        | false ↦ ap (λ b. if b then a ∷ lane l (since base older) else lane l (since base older)) e.0
      ] in
      step ∙ lane_since base l older ∙ ap (λ b. past (base l) (if b then a ∷ lane l older else lane l older)) (sym e.0)
]

past_none : (b : ℕ) (xs : List Action) → ended xs < b → past b xs ≡ []
past_none b [] lt = refl
past_none b (a ∷ older) lt =
    let below : ended older < b = omega (arith, ended_rises a older) in
    ap (λ t. if t then past b older else a ∷ past b older) (lt-ltb (ended older) b below) ∙ past_none b older below

-- a section ends where nothing is held
pub ends_free : (a : Action) (older : List Action) → ended older < ended (a ∷ older) → (holding (a ∷ older) ≡ []) × (ended (a ∷ older) ≡ ended older + 1)
ends_free (Takes o n) older lt = absurd (omega arith)
ends_free Stores older lt = absurd (omega arith)
ends_free (Frees o n) older lt = elim (length (without o (holding older)) == 0) as (λ b. (length (without o (holding older)) == 0) ≡ b → ended older < (if b then ended older + 1 else ended older) → (without o (holding older) ≡ []) × ((if b then ended older + 1 else ended older) ≡ ended older + 1)) [
  | true ↦ λ e h. (nothing (without o (holding older)) (eqb-true _ _ e), refl)
  | false ↦ λ e h. absurd (omega arith)
] refl lt
  where
    nothing : (xs : List ℕ) → length xs ≡ 0 → xs ≡ []
    nothing [] h = refl
    nothing (x ∷ xs) h = absurd (omega arith)

-- what a lane holds, and how many sections have ended, by the records past b
pub record Past (b : ℕ) (xs : List Action) : Type 0 where
  pub counts : ended (past b xs) + b ≡ ended xs
  pub holds : holding (past b xs) ≡ holding xs

past_step : (a : Action) (xs ys : List Action) (b : ℕ) → holding ys ≡ holding xs → ended ys + b ≡ ended xs → (ended (a ∷ ys) + b ≡ ended (a ∷ xs)) × (holding (a ∷ ys) ≡ holding (a ∷ xs))
past_step (Takes o n) xs ys b e d = (d, ap (λ h. o ∷ h) e)
past_step Stores xs ys b e d = (d, e)
past_step (Frees o n) xs ys b e d = (
  ap (λ h. (if length (without o h) == 0 then ended ys + 1 else ended ys) + b) e ∙ (elim (length (without o (holding xs)) == 0) as (λ t. (if t then ended ys + 1 else ended ys) + b ≡ (if t then ended xs + 1 else ended xs)) [ true ↦ omega arith | false ↦ d ]),
  ap (without o) e,
)

past_counts : (b : ℕ) (xs : List Action) → b ≤ ended xs → Past b xs
past_counts b [] le = record { counts = omega arith; holds = refl }
past_counts b (a ∷ older) le = elim (cases_lt (ended older) b) [
  | inl lt ↦
      let free : (holding (a ∷ older) ≡ []) × (ended (a ∷ older) ≡ ended older + 1) = ends_free a older (omega arith) in
      let none : past b (a ∷ older) ≡ [] = ap (λ t. if t then past b older else a ∷ past b older) (lt-ltb (ended older) b lt) ∙ past_none b older lt in
      record { counts = ap (λ x. ended x + b) none ∙ omega (arith, free.1); holds = ap holding none ∙ sym free.0 }
  | inr ge ↦
      let before : Past b older = past_counts b older ge in
      let more : past b (a ∷ older) ≡ a ∷ past b older = ap (λ t. if t then past b older else a ∷ past b older) (le-ltb (ended older) b ge) in
      let step : (ended (a ∷ past b older) + b ≡ ended (a ∷ older)) × (holding (a ∷ past b older) ≡ holding (a ∷ older)) = past_step a older (past b older) b before.holds before.counts in
      record { counts = ap (λ x. ended x + b) more ∙ step.0; holds = ap holding more ∙ step.1 }
]

pub since_counts : (base : ℕ → ℕ) (l : ℕ) (log : List (ℕ × Action)) → base l ≤ ended (lane l log) → ended (lane l (since base log)) + base l ≡ ended (lane l log)
since_counts base l log le = ap (λ x. ended x + base l) (lane_since base l log) ∙ (past_counts (base l) (lane l log) le).counts

abbrev pub shifted : (ℕ → ℕ) → Section → Section
shifted base a = record { lane = a.lane; number = a.number + base a.lane }

-- what a section did since, it did
pub did_before : (base : ℕ → ℕ) (log : List (ℕ × Action)) (a : Section) (act : Action) → Did (since base log) a act → Did log (shifted base a) act
did_before base [] a act h = elim h [ ]
did_before base (x ∷ older) a act h = elim (cases_lt (ended (lane x.0 older)) (base x.0)) [
  | inl lt ↦ inr (did_before base older a act (subst (λ t. Did (if t then since base older else x ∷ since base older) a act) (lt-ltb _ _ lt) h))
  | inr ge ↦ elim (subst (λ t. Did (if t then since base older else x ∷ since base older) a act) (le-ltb _ _ ge) h) [
    | inl i ↦ inl (
      ap (shifted base) i.0 ∙ (let counts : ended (lane x.0 (since base older)) + base x.0 ≡ ended (lane x.0 older) = since_counts base x.0 older ge in
          let numbers : ended (lane x.0 (since base older)) + 1 + base x.0 ≡ ended (lane x.0 older) + 1 = omega arith in
          λ j. record { lane = x.0; number = numbers j }),
      i.1,
    )
    | inr i ↦ inr (did_before base older a act i)
  ]
]

-- what a section past the base did, it did since
pub did_since : (base : ℕ → ℕ) (log : List (ℕ × Action)) (a : Section) (act : Action) → Did log (shifted base a) act → 0 < a.number → Did (since base log) a act
did_since base [] a act h some = elim h [ ]
did_since base (x ∷ older) a act (inl h) some =
    let lanes : a.lane ≡ x.0 = ap (λ s. s.lane) h.0 in
    let numbers : a.number + base a.lane ≡ ended (lane x.0 older) + 1 = ap (λ s. s.number) h.0 in
    let at : base a.lane ≡ base x.0 = ap base lanes in
    let ge : base x.0 ≤ ended (lane x.0 older) = omega arith in
    let counts : ended (lane x.0 (since base older)) + base x.0 ≡ ended (lane x.0 older) = since_counts base x.0 older ge in
    let own : a.number ≡ ended (lane x.0 (since base older)) + 1 = omega arith in
    subst (λ t. Did (if t then since base older else x ∷ since base older) a act) (sym (le-ltb _ _ ge)) (inl ((λ j. record { lane = lanes j; number = own j }), h.1))
did_since base (x ∷ older) a act (inr h) some =
    cond_both (nat_lt (ended (lane x.0 older)) (base x.0)) (since base older) (x ∷ since base older) (λ log. Did log a act)
    (λ e. did_since base older a act h some) (λ e. inr (did_since base older a act h some))

pub did_some : (log : List (ℕ × Action)) (a : Section) (act : Action) → Did log a act → 0 < a.number
did_some [] a act h = elim h [ ]
did_some (x ∷ older) a act (inl h) = let e : a.number ≡ ended (lane x.0 older) + 1 = ap (λ s. s.number) h.0 in omega arith
did_some (x ∷ older) a act (inr h) = did_some older a act h

-- the section, by its number since
abbrev pub lowered : (ℕ → ℕ) → Section → Section
lowered base a = record { lane = a.lane; number = a.number - base a.lane }

pub raised : (base : ℕ → ℕ) (a : Section) → base a.lane < a.number → a ≡ shifted base (lowered base a)
raised base a lt = let e : a.number ≡ a.number - base a.lane + base a.lane = omega arith in λ i. record { lane = a.lane; number = e i }

closed_above : (base cut : ℕ → ℕ) (log : List (ℕ × Action)) → IsClosed log base → IsClosed (since base log) cut → IsClosed log (λ l. base l + cut l)
closed_above base cut log closed closed_since a b counted (Earlier e lt) =
    let same : base a.lane + cut a.lane ≡ base b.lane + cut b.lane = ap (λ l. base l + cut l) e in omega arith
closed_above base cut log closed closed_since a b counted (Took o n took freed differ) = elim (cases_lt (base b.lane) b.number) [
  | inr le ↦ omega arith
  | inl above ↦ elim (cases_lt (base a.lane) a.number) [
    | inr le ↦ let low : Counts base b = closed a b le (Took o n took freed differ) in omega (arith, low)
    | inl high ↦
        let took_since : Did (since base log) (lowered base a) (Takes o (n + 1)) = did_since base log (lowered base a) _ (subst (λ x. Did log x (Takes o (n + 1))) (raised base a high) took) (omega arith) in
        let freed_since : Did (since base log) (lowered base b) (Frees o n) = did_since base log (lowered base b) _ (subst (λ x. Did log x (Frees o n)) (raised base b above) freed) (omega arith) in
        let low : Counts cut (lowered base b) = closed_since (lowered base a) (lowered base b) (omega arith)
        (Took o n took_since freed_since (λ e. differ (raised base a high ∙ ap (shifted base) e ∙ sym (raised base b above)))) in
        omega (arith, low)
  ]
]

-- sections with the same number before have the same number since
pub same_shifted : (base : ℕ → ℕ) (a b : Section) → shifted base a ≡ shifted base b → a ≡ b
same_shifted base a b e =
    let lanes : a.lane ≡ b.lane = ap (λ s. s.lane) e in
    let numbers : a.number + base a.lane ≡ b.number + base b.lane = ap (λ s. s.number) e in
    let at : base a.lane ≡ base b.lane = ap base lanes in
    let own : a.number ≡ b.number = omega arith in
    λ i. record { lane = lanes i; number = own i }

-- how far a cut goes past the base
abbrev beyond : (ℕ → ℕ) → (ℕ → ℕ) → ℕ → ℕ
beyond base other l = max (other l) (base l) - base l

closed_beyond : (base other : ℕ → ℕ) (log : List (ℕ × Action)) → IsClosed log base → IsClosed log other → IsClosed (since base log) (beyond base other)
closed_beyond base other log closed closed_too a b counted (Earlier e lt) =
    let same : beyond base other a.lane ≡ beyond base other b.lane = ap (beyond base other) e in omega (arith, same)
closed_beyond base other log closed closed_too a b counted (Took o n took freed differ) =
    let low : Counts (union other base) (shifted base b) = union_closed log other base closed_too closed (shifted base a) (shifted base b) (omega arith)
    (Took o n (did_before base log a _ took) (did_before base log b _ freed) (λ e. differ (same_shifted base a b e))) in
    omega (arith, low)

pub trim_stable : (log : List (ℕ × Action)) (base cut : ℕ → ℕ) → IsWhole log base → IsClosed log base → IsStable (since base log) cut → IsStable log (λ l. base l + cut l)
trim_stable log base cut whole closed stable = record {
  whole = λ l. omega (arith, stable.whole l, since_counts base l log (whole l));
  closed = closed_above base cut log closed stable.closed;
  greatest = λ other other_whole other_closed l. omega (
    arith,
    stable.greatest (beyond base other) (λ m. omega (arith, other_whole m, whole m, since_counts base m log (whole m))) (closed_beyond base other log closed other_closed) l,
  );
}
