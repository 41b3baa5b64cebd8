-- The heap of a cut, from the heap of a smaller one and the records since.
use Rattle.std.proofs.Common.{ℕ, ◌≡◌, ◌+◌, ◌-◌, ◌<◌, ◌≤◌, ◌==◌, if◌then◌else◌, true, false, List, [], ◌∷◌, ◌++◌, length, map, refl, sym, ap, ◌∙◌, subst, inl, inr, arith}
use Rattle.std.proofs.lemmas.Bool.{ltb-true, ltb-false, lt-ltb, le-ltb, cases_lt}
use Rattle.std.proofs.lemmas.Bool.Decides.{eqb_tells}
use Rattle.heap_model.specs.declared.record.Record.{Record}
use Rattle.heap_model.specs.declared.record.Record.TheVariants.{Acq, Rel, WaitRel, Put}
use Rattle.heap_model.specs.Setting.{Setting}
use Rattle.heap_model.specs.Log.{lane, value, IsLegal}
use Rattle.heap_model.specs.Sections.{Action, Takes, Frees, Stores, action, actions, without, holding, ended}
use Rattle.heap_model.specs.Cuts.{IsWhole, IsClosed, is_counted}
use Rattle.heap_model.specs.KeptHeap.{kept_value}
use Rattle.heap_model.specs.Base.{records_since, records_until}
use Rattle.law_cuts.proofs.Stores.{HasStore}
use Rattle.law_histories.proofs.Order.{kept_is_last, last_elsewhere, last_once}
use Rattle.law_cuts.proofs.Lanes.{lane_actions, ended_in_lane, lane_append}
use Rattle.law_cuts.proofs.Trimmed.{ends_free}
use Rattle.law_histories.proofs.Parts.{lane_until, value_until}
use Rattle.law_histories.proofs.Reorder.{split_lane, rest_after_until}

pub holding_add : (xs ys : List Action) → holding ys ≡ [] → holding (xs ++ ys) ≡ holding xs
holding_add [] ys e = e
holding_add (Takes o n ∷ xs) ys e = ap (λ (hs : List ℕ). o ∷ hs) (holding_add xs ys e)
holding_add (Frees o n ∷ xs) ys e = ap (without o) (holding_add xs ys e)
holding_add (Stores ∷ xs) ys e = holding_add xs ys e

-- sections add up where nothing is held between
pub ended_add : (xs ys : List Action) → holding ys ≡ [] → ended (xs ++ ys) ≡ ended xs + ended ys
ended_add [] ys e = omega arith
ended_add (Takes o n ∷ xs) ys e = ended_add xs ys e
ended_add (Frees o n ∷ xs) ys e =
    let before : ended (xs ++ ys) ≡ ended xs + ended ys = ended_add xs ys e in
    ap (λ (hs : List ℕ). if length (without o hs) == 0 then ended (xs ++ ys) + 1 else ended (xs ++ ys)) (holding_add xs ys e)
    ∙ elim (length (without o (holding xs)) == 0) as (λ b. (if b then ended (xs ++ ys) + 1 else ended (xs ++ ys)) ≡ (if b then ended xs + 1 else ended xs) + ended ys) [ true ↦ omega arith | false ↦ before ]
ended_add (Stores ∷ xs) ys e = ended_add xs ys e

-- the records of a lane are just its first sections
abbrev EndsAs : (ℕ → ℕ) → ℕ → List (ℕ × Record) → Type 0
EndsAs base l part = (holding (lane l (actions part)) ≡ []) × (ended (lane l (actions part)) ≡ base l)

pub until_ends : (base : ℕ → ℕ) (l : ℕ) (log : List (ℕ × Record)) → base l ≤ ended (lane l (actions log)) → EndsAs base l (records_until base log)
until_ends base l [] le = (refl, omega arith)
until_ends base l ((m, r) ∷ older) le = elim (eqb_tells m l) [
  | inl e ↦
      let here : lane l (actions ((m, r) ∷ older)) ≡ action r ∷ lane l (actions older) = ap (λ b. if b then action r ∷ lane l (actions older) else lane l (actions older)) e.0 in
      let lanes : ended (lane m (actions older)) ≡ ended (lane l (actions older)) = ap (λ x. ended (lane x (actions older))) e.1 in
      let bases : base m ≡ base l = ap base e.1 in
      elim (is_counted base m (actions older)) as (λ t. is_counted base m (actions older) ≡ t → EndsAs base l (if t then (m, r) ∷ records_until base older else records_until base older)) [
        | true ↦ λ t.
            let lt : ended (lane l (actions older)) < base l = omega (arith, ltb-true _ _ t) in
            let now : ended (lane l (actions ((m, r) ∷ older))) ≡ ended (action r ∷ lane l (actions older)) = ap ended here in
            let free = ends_free (action r) (lane l (actions older)) (omega (arith, now)) in
            let same : lane l (actions (records_until base older)) ≡ lane l (actions older) = lane_actions l (records_until base older) ∙ ap (map action) (lane_until base l older lt) ∙ sym (lane_actions l older) in
            let all : lane l (actions ((m, r) ∷ records_until base older)) ≡ action r ∷ lane l (actions older) =
            ap (λ b. if b then action r ∷ lane l (actions (records_until base older)) else lane l (actions (records_until base older))) e.0 ∙ ap (λ (xs : List Action). action r ∷ xs) same in
            (ap holding all ∙ free.0, ap ended all ∙ free.1 ∙ omega (arith, free.1, now))
        | false ↦ λ t. let before = until_ends base l older (omega (arith, ltb-false _ _ t)) in before
      ] refl
  | inr e ↦
      let here : ended (lane l (actions ((m, r) ∷ older))) ≡ ended (lane l (actions older)) = ap (λ b. ended (if b then action r ∷ lane l (actions older) else lane l (actions older))) e.0 in
      let before = until_ends base l older (omega (arith, here)) in
      let skip : lane l (actions ((m, r) ∷ records_until base older)) ≡ lane l (actions (records_until base older)) = ap (λ b. if b then action r ∷ lane l (actions (records_until base older)) else lane l (actions (records_until base older))) e.0 in
      elim (is_counted base m (actions older)) as (λ t. EndsAs base l (if t then (m, r) ∷ records_until base older else records_until base older)) [
        | true ↦ (ap holding skip ∙ before.0, ap ended skip ∙ before.1)
        | false ↦ before
      ]
]

module _ (s : Setting) (base cut : ℕ → ℕ) (log : List (ℕ × Record)) (legal : IsLegal s log) (whole : IsWhole (actions log) base) (closed : IsClosed (actions log) base) (more : (l : ℕ) → base l ≤ cut l) where
  -- the cut, counted from the smaller one
  abbrev pub beyond : ℕ → ℕ
  beyond l = cut l - base l

  sections_add : (l : ℕ) (xs : List (ℕ × Record)) → ended (lane l (actions (xs ++ records_until base log))) ≡ ended (lane l (actions xs)) + base l
  sections_add l xs =
      let ends = until_ends base l log (whole l) in
      ap ended (lane_append_actions xs)
      ∙ ended_add (lane l (actions xs)) (lane l (actions (records_until base log))) ends.0
      ∙ (λ i. ended (lane l (actions xs)) + ends.1 i)
    where
      lane_append_actions : (xs : List (ℕ × Record)) → lane l (actions (xs ++ records_until base log)) ≡ lane l (actions xs) ++ lane l (actions (records_until base log))
      lane_append_actions xs = ap (lane l) (actions_append xs) ∙ lane_append l (actions xs) (actions (records_until base log))
        where
          actions_append : (xs : List (ℕ × Record)) → actions (xs ++ records_until base log) ≡ actions xs ++ actions (records_until base log)
          actions_append [] = refl
          actions_append (x ∷ xs) = ap (λ (ys : List (ℕ × Action)). (x.0, action x.1) ∷ ys) (actions_append xs)

  same_test : (l : ℕ) (xs : List (ℕ × Record)) → is_counted cut l (actions (xs ++ records_until base log)) ≡ is_counted beyond l (actions xs)
  same_test l xs = elim (cases_lt (ended (lane l (actions xs))) (beyond l)) [
    | inl lt ↦ lt-ltb _ _ (omega (arith, sections_add l xs, more l, lt)) ∙ sym (lt-ltb _ _ lt)
    | inr le ↦ le-ltb _ _ (omega (arith, sections_add l xs, more l, le)) ∙ sym (le-ltb _ _ le)
  ]

  kept_over : (f : ℕ) (xs : List (ℕ × Record)) → kept_value s.first cut f (xs ++ records_until base log) ≡ kept_value (λ g. kept_value s.first cut g (records_until base log)) beyond f xs
  kept_over f [] = refl
  kept_over f ((l, Acq o n) ∷ xs) = kept_over f xs
  kept_over f ((l, Rel o n) ∷ xs) = kept_over f xs
  kept_over f ((l, WaitRel o n) ∷ xs) = kept_over f xs
  kept_over f ((l, Put g before after) ∷ xs) = λ i. if g.0 == f then (if same_test l xs i then after else kept_over f xs i) else kept_over f xs i

  -- the order doesn't matter
  kept_reordered : (f : ℕ) → kept_value s.first cut f log ≡ kept_value s.first cut f (records_since base log ++ records_until base log)
  kept_reordered f =
      let moved : (l : ℕ) → lane l (records_since base log ++ records_until base log) ≡ lane l log = λ l. lane_append l (records_since base log) (records_until base log) ∙ split_lane base l log in
      last_once (s.guard f) f (λ l. lane l (records_since base log ++ records_until base log)) cut (s.first f) _ _
      (last_elsewhere (s.guard f) f (λ l. lane l log) (λ l. lane l (records_since base log ++ records_until base log)) cut (s.first f) _
      (λ l k h le. subst (λ x. HasStore (s.guard f) f x k) (sym (moved l)) h)
      (λ l k h le. subst (λ x. HasStore (s.guard f) f x k) (moved l) h)
      (kept_is_last s log cut f legal))
      (kept_is_last s (records_since base log ++ records_until base log) cut f (rest_after_until s base log legal closed))

  -- all of the smaller cut's stores are kept
  kept_until : (f : ℕ) (log : List (ℕ × Record)) → kept_value s.first cut f (records_until base log) ≡ value s.first f (records_until base log)
  kept_until f [] = refl
  kept_until f ((l, Acq o n) ∷ older) = elim (is_counted base l (actions older)) as (λ t. kept_value s.first cut f (if t then (l, Acq o n) ∷ records_until base older else records_until base older) ≡ value s.first f (if t then (l, Acq o n) ∷ records_until base older else records_until base older)) [ true ↦ kept_until f older | false ↦ kept_until f older ]
  kept_until f ((l, Rel o n) ∷ older) = elim (is_counted base l (actions older)) as (λ t. kept_value s.first cut f (if t then (l, Rel o n) ∷ records_until base older else records_until base older) ≡ value s.first f (if t then (l, Rel o n) ∷ records_until base older else records_until base older)) [ true ↦ kept_until f older | false ↦ kept_until f older ]
  kept_until f ((l, WaitRel o n) ∷ older) = elim (is_counted base l (actions older)) as (λ t. kept_value s.first cut f (if t then (l, WaitRel o n) ∷ records_until base older else records_until base older) ≡ value s.first f (if t then (l, WaitRel o n) ∷ records_until base older else records_until base older)) [ true ↦ kept_until f older | false ↦ kept_until f older ]
  kept_until f ((l, Put g before after) ∷ older) =
      elim (is_counted base l (actions older)) as (λ t. is_counted base l (actions older) ≡ t → kept_value s.first cut f (if t then (l, Put g before after) ∷ records_until base older else records_until base older) ≡ value s.first f (if t then (l, Put g before after) ∷ records_until base older else records_until base older)) [
        | true ↦ λ t.
            let lt : ended (lane l (actions older)) < base l = ltb-true _ _ t in
            let same : ended (lane l (actions (records_until base older))) ≡ ended (lane l (actions older)) =
            ended_in_lane l (records_until base older) ∙ ap (λ (xs : List Record). ended (map action xs)) (lane_until base l older lt) ∙ sym (ended_in_lane l older) in
            let test : is_counted cut l (actions (records_until base older)) ≡ true = lt-ltb _ _ (omega (arith, same, lt, more l)) in
            λ i. if g.0 == f then (if test i then after else kept_value s.first cut f (records_until base older)) else kept_until f older i
        | false ↦ λ t. kept_until f older
      ] refl

  -- from the smaller cut's heap over the records since
  pub kept_since : (f : ℕ) → kept_value s.first cut f log ≡ kept_value (λ g. kept_value s.first base g log) beyond f (records_since base log)
  kept_since f = kept_reordered f ∙ kept_over f (records_since base log) ∙ (λ i. kept_value (λ g. (kept_until g log ∙ value_until s.first base g log) i) beyond f (records_since base log))
