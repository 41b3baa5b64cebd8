-- The records of a closed cut may come first, and the others after them.
use Rattle.std.proofs.Common.{ℕ, ◌≡◌, ◌<◌, ◌≤◌, ◌==◌, if◌then◌else◌, true, false, List, [], ◌∷◌, ◌++◌, refl, sym, ap, ◌∙◌, subst, inl, inr, arith, append_assoc}
use Rattle.std.proofs.lemmas.Bool.{ltb-true, ltb-false, cases_lt}
use Rattle.std.proofs.lemmas.Bool.Decides.{eqb_tells}
use Rattle.heap_model.specs.declared.record.Record.{Record}
use Rattle.heap_model.specs.Setting.{Setting}
use Rattle.heap_model.specs.Log.{lane, IsLegal, IsLaneWisePrefix}
use Rattle.heap_model.specs.Sections.{action, actions, ended}
use Rattle.heap_model.specs.Cuts.{IsClosed, is_counted}
use Rattle.heap_model.specs.Base.{records_since, records_until}
use Rattle.law_cuts.proofs.Stores.{ended_rises}
use Rattle.law_cuts.proofs.Lanes.{ended_in_lane, lane_append, ended_grown}
use Rattle.law_histories.proofs.NextStore.{next_legal}
use Rattle.law_histories.proofs.Parts.{lane_until, until_legal}

-- a lane whose next record is counted has none past the cut
none_past : (base : ℕ → ℕ) (l : ℕ) (older : List (ℕ × Record)) → ended (lane l (actions older)) < base l → lane l (records_since base older) ≡ []
none_past base l [] lt = refl
none_past base l ((m, r) ∷ older) lt = elim (eqb_tells m l) [
  | inl e ↦
      let here : ended (lane l (actions ((m, r) ∷ older))) ≡ ended (action r ∷ lane l (actions older)) = ap (λ b. ended (if b then action r ∷ lane l (actions older) else lane l (actions older))) e.0 in
      let below : ended (lane l (actions older)) < base l = omega (arith, here, ended_rises (action r) (lane l (actions older))) in
      let lanes : ended (lane m (actions older)) ≡ ended (lane l (actions older)) = ap (λ x. ended (lane x (actions older))) e.1 in
      let bases : base m ≡ base l = ap base e.1 in
      elim (is_counted base m (actions older)) as (λ t. is_counted base m (actions older) ≡ t → lane l (if t then records_since base older else (m, r) ∷ records_since base older) ≡ []) [
        | true ↦ λ t. none_past base l older below
        | false ↦ λ t. absurd (omega (arith, ltb-false _ _ t))
      ] refl
  | inr e ↦
      let here : ended (lane l (actions ((m, r) ∷ older))) ≡ ended (lane l (actions older)) = ap (λ b. ended (if b then action r ∷ lane l (actions older) else lane l (actions older))) e.0 in
      let before : lane l (records_since base older) ≡ [] = none_past base l older (omega (arith, here)) in
      elim (is_counted base m (actions older)) as (λ t. lane l (if t then records_since base older else (m, r) ∷ records_since base older) ≡ []) [
        | true ↦ before
        | false ↦ ap (λ b. if b then r ∷ lane l (records_since base older) else lane l (records_since base older)) e.0 ∙ before
      ]
]

-- a lane is its counted records and then the others
pub split_lane : (base : ℕ → ℕ) (l : ℕ) (log : List (ℕ × Record)) → lane l (records_since base log) ++ lane l (records_until base log) ≡ lane l log
split_lane base l [] = refl
split_lane base l ((m, r) ∷ older) = elim (eqb_tells m l) [
  | inl e ↦
      let lanes : ended (lane m (actions older)) ≡ ended (lane l (actions older)) = ap (λ x. ended (lane x (actions older))) e.1 in
      let bases : base m ≡ base l = ap base e.1 in
      let one : (xs : List Record) → (if m == l then r ∷ xs else xs) ≡ r ∷ xs = λ xs. ap (λ b. if b then r ∷ xs else xs) e.0 in
      elim (is_counted base m (actions older)) as (λ t. is_counted base m (actions older) ≡ t → lane l (if t then records_since base older else (m, r) ∷ records_since base older) ++ lane l (if t then (m, r) ∷ records_until base older else records_until base older) ≡ lane l ((m, r) ∷ older)) [
        | true ↦ λ t. let lt : ended (lane l (actions older)) < base l = omega (arith, ltb-true _ _ t) in
            ap (λ (xs : List Record). xs ++ (if m == l then r ∷ lane l (records_until base older) else lane l (records_until base older))) (none_past base l older lt)
            ∙ ap (λ (xs : List Record). if m == l then r ∷ xs else xs) (lane_until base l older lt)
        | false ↦ λ t. ap (λ (xs : List Record). xs ++ lane l (records_until base older)) (one (lane l (records_since base older))) ∙ ap (λ (xs : List Record). r ∷ xs) (split_lane base l older) ∙ sym (one (lane l older))
      ] refl
  | inr e ↦
      let skip : (xs : List Record) → (if m == l then r ∷ xs else xs) ≡ xs = λ xs. ap (λ b. if b then r ∷ xs else xs) e.0 in
      elim (is_counted base m (actions older)) as (λ t. lane l (if t then records_since base older else (m, r) ∷ records_since base older) ++ lane l (if t then (m, r) ∷ records_until base older else records_until base older) ≡ lane l ((m, r) ∷ older)) [
        | true ↦ ap (λ (xs : List Record). lane l (records_since base older) ++ xs) (skip (lane l (records_until base older))) ∙ split_lane base l older ∙ sym (skip (lane l older))
        | false ↦ ap (λ (xs : List Record). xs ++ lane l (records_until base older)) (skip (lane l (records_since base older))) ∙ split_lane base l older ∙ sym (skip (lane l older))
      ]
]

-- what was counted is counted still
until_more : (base : ℕ → ℕ) (l : ℕ) (newer older : List (ℕ × Record)) → (more : List Record) × (lane l (records_until base (newer ++ older)) ≡ more ++ lane l (records_until base older))
until_more base l [] older = ([], refl)
until_more base l ((m, r) ∷ newer) older =
    let before = until_more base l newer older in
    elim (is_counted base m (actions (newer ++ older))) as (λ t. (more : List Record) × (lane l (if t then (m, r) ∷ records_until base (newer ++ older) else records_until base (newer ++ older)) ≡ more ++ lane l (records_until base older))) [
      | true ↦ elim (m == l) as (λ b. (more : List Record) × ((if b then r ∷ lane l (records_until base (newer ++ older)) else lane l (records_until base (newer ++ older))) ≡ more ++ lane l (records_until base older))) [
        | true ↦ (r ∷ before.0, ap (λ (xs : List Record). r ∷ xs) before.1)
        | false ↦ before
      ]
      | false ↦ before
    ]

-- and where a lane's sections all have ended, no more
until_same : (base : ℕ → ℕ) (l : ℕ) (newer older : List (ℕ × Record)) → base l ≤ ended (lane l (actions older)) → lane l (records_until base (newer ++ older)) ≡ lane l (records_until base older)
until_same base l [] older le = refl
until_same base l ((m, r) ∷ newer) older le =
    let before = until_same base l newer older le in
    elim (eqb_tells m l) [
      | inl e ↦
          let lanes : ended (lane m (actions (newer ++ older))) ≡ ended (lane l (actions (newer ++ older))) = ap (λ x. ended (lane x (actions (newer ++ older)))) e.1 in
          let bases : base m ≡ base l = ap base e.1 in
          elim (is_counted base m (actions (newer ++ older))) as (λ t. is_counted base m (actions (newer ++ older)) ≡ t → lane l (if t then (m, r) ∷ records_until base (newer ++ older) else records_until base (newer ++ older)) ≡ lane l (records_until base older)) [
            | true ↦ λ t. absurd (omega (arith, ltb-true _ _ t, ended_grown newer older l, ended_in_lane l older, ended_in_lane l (newer ++ older)))
            | false ↦ λ t. before
          ] refl
      | inr e ↦ elim (is_counted base m (actions (newer ++ older))) as (λ t. lane l (if t then (m, r) ∷ records_until base (newer ++ older) else records_until base (newer ++ older)) ≡ lane l (records_until base older)) [
        | true ↦ ap (λ b. if b then r ∷ lane l (records_until base (newer ++ older)) else lane l (records_until base (newer ++ older))) e.0 ∙ before
        | false ↦ before
      ]
    ]

module _ (s : Setting) (base : ℕ → ℕ) (log : List (ℕ × Record)) (legal : IsLegal s log) (closed : IsClosed (actions log) base) where
  abbrev applied : List (ℕ × Record) → List (ℕ × Record)
  applied older = records_since base older ++ records_until base log

  -- a lane that is past the cut is there as far as it was reached
  at_past : (newer older : List (ℕ × Record)) → newer ++ older ≡ log → (m : ℕ) → base m ≤ ended (lane m (actions older)) → lane m (applied older) ≡ lane m older
  at_past newer older is m le =
      lane_append m (records_since base older) (records_until base log)
      ∙ ap (λ (xs : List Record). lane m (records_since base older) ++ xs) (ap (λ (x : List (ℕ × Record)). lane m (records_until base x)) (sym is) ∙ until_same base m newer older le)
      ∙ split_lane base m older

  -- another is there as far as it is counted
  at_below : (newer older : List (ℕ × Record)) → newer ++ older ≡ log → (m : ℕ) → ended (lane m (actions older)) < base m → lane m (applied older) ≡ lane m (records_until base log)
  at_below newer older is m lt = lane_append m (records_since base older) (records_until base log) ∙ ap (λ (xs : List Record). xs ++ lane m (records_until base log)) (none_past base m older lt)

  below : (newer older : List (ℕ × Record)) → newer ++ older ≡ log → IsLaneWisePrefix (applied older) log
  below newer older is m = elim (cases_lt (ended (lane m (actions older))) (base m)) [
    | inl lt ↦ (lane m (records_since base log), sym (split_lane base m log) ∙ ap (λ (xs : List Record). lane m (records_since base log) ++ xs) (sym (at_below newer older is m lt)))
    | inr le ↦ (lane m newer, ap (lane m) (sym is) ∙ lane_append m newer older ∙ ap (λ (xs : List Record). lane m newer ++ xs) (sym (at_past newer older is m le)))
  ]

  above : (newer older : List (ℕ × Record)) → newer ++ older ≡ log → IsLaneWisePrefix older (applied older)
  above newer older is m = elim (cases_lt (ended (lane m (actions older))) (base m)) [
    | inl lt ↦
        let more = until_more base m newer older in
        (more.0, at_below newer older is m lt ∙ ap (λ (x : List (ℕ × Record)). lane m (records_until base x)) (sym is) ∙ more.1 ∙ ap (λ (xs : List Record). more.0 ++ xs) (lane_until base m older lt))
    | inr le ↦ ([], at_past newer older is m le)
  ]

  pub reordered : (newer older : List (ℕ × Record)) → newer ++ older ≡ log → IsLegal s (applied older)
  reordered newer [] is = until_legal s base log legal closed
  reordered newer ((l, r) ∷ older) is =
      let is' : (newer ++ (l, r) ∷ []) ++ older ≡ log = append_assoc newer ((l, r) ∷ []) older ∙ is in
      let before : IsLegal s (applied older) = reordered (newer ++ (l, r) ∷ []) older is' in
      elim (is_counted base l (actions older)) as (λ t. is_counted base l (actions older) ≡ t → IsLegal s ((if t then records_since base older else (l, r) ∷ records_since base older) ++ records_until base log)) [
        | true ↦ λ t. before
        | false ↦ λ t. next_legal s newer older (applied older) l r (subst (IsLegal s) (sym is) legal) before
            (subst (λ (x : List (ℕ × Record)). IsLaneWisePrefix (applied older) x) (sym is) (below (newer ++ (l, r) ∷ []) older is')) (above (newer ++ (l, r) ∷ []) older is')
            (at_past (newer ++ (l, r) ∷ []) older is' l (ltb-false _ _ t))
      ] refl

-- the records past the cut are legal after those of the cut
pub rest_after_until : (s : Setting) (base : ℕ → ℕ) (log : List (ℕ × Record)) → IsLegal s log → IsClosed (actions log) base → IsLegal s (records_since base log ++ records_until base log)
rest_after_until s base log legal closed = reordered s base log legal closed [] log refl
