-- Putting back what a closed cut drops gives the heap that it keeps.
use Rattle.std.proofs.Common.{ℕ, ◌≡◌, ◌+◌, ◌<◌, ◌≤◌, ◌==◌, if◌then◌else◌, Bool, true, false, List, [], ◌∷◌, length, map, Some, refl, sym, ap, ◌∙◌, subst, inl, inr, arith}
use Rattle.std.proofs.lemmas.Bool.{cond_both, eqb-true, ltb-true, ltb-false, lt-ltb}
use Rattle.std.proofs.lemmas.Bool.Decides.{eqb_tells}
use Rattle.heap_model.specs.declared.ids.FieldId.{FieldId}
use Rattle.heap_model.specs.declared.record.Record.{Record}
use Rattle.heap_model.specs.declared.record.Record.TheVariants.{Acq, Rel, WaitRel, Put}
use Rattle.heap_model.specs.Setting.{Setting}
use Rattle.heap_model.specs.Log.{lane, holder, number, value, IsLegal}
use Rattle.heap_model.specs.Sections.{Action, Takes, Stores, action, actions, ended, Section, Did, DependsOn, Earlier, Took}
use Rattle.heap_model.specs.Cuts.{IsClosed, is_counted}
use Rattle.heap_model.specs.KeptHeap.{kept_value, put_back}
use Rattle.law_cuts.proofs.Stores.{under, Mark, IsStore, HasStore, has_cons, has_older, holder_knows, lane_same, ended_more}
use Rattle.law_histories.proofs.Order.{stores_past}
use Rattle.law_cuts.proofs.Lanes.{ended_in_lane}
use Rattle.law_cuts.proofs.Chain.{current, holder_took, took_had, closed_down}

-- The record is a store under its guard's number.
new_store : (s : Setting) (older : List (ℕ × Record)) (f l : ℕ) (g : FieldId) (before after : ℕ) → IsLegal s ((l, Put g before after) ∷ older) → g.0 ≡ f →
    IsStore (s.guard f) f (lane l older) (Put g before after) (record { number = number (s.guard f) older; place = length (lane l older); section = ended (map action (lane l older)) + 1; value = after })
new_store s older f l g before after legal e =
    (e, holder_knows s older (s.guard f) l legal.0 (ap (λ x. holder (s.guard x) older) (sym e) ∙ legal.1.0), refl, refl, refl)

-- The section of a store took the guard at its number.
pub store_took : (s : Setting) (log : List (ℕ × Record)) (f l : ℕ) (k : Mark) → IsLegal s log → HasStore (s.guard f) f (lane l log) k →
    Did (actions log) (record { lane = l; number = k.section }) (Takes (s.guard f) k.number)
store_took s [] f l k legal h = elim h [ ]
store_took s ((m, Acq p n) ∷ older) f l k legal h = elim (has_cons (s.guard f) f l m (Acq p n) older k h) [ inl i ↦ elim i.1 [ ] | inr i ↦ inr (store_took s older f l k legal.0 i) ]
store_took s ((m, Rel p n) ∷ older) f l k legal h = elim (has_cons (s.guard f) f l m (Rel p n) older k h) [ inl i ↦ elim i.1 [ ] | inr i ↦ inr (store_took s older f l k legal.0 i) ]
store_took s ((m, WaitRel p n) ∷ older) f l k legal h = elim (has_cons (s.guard f) f l m (WaitRel p n) older k h) [ inl i ↦ elim i.1 [ ] | inr i ↦ inr (store_took s older f l k legal.0 i) ]
store_took s ((m, Put g before after) ∷ older) f l k legal h = elim (has_cons (s.guard f) f l m (Put g before after) older k h) [
  | inl i ↦
      let mine : holder (s.guard f) older ≡ Some l = ap (λ x. holder (s.guard x) older) (sym i.1.0) ∙ legal.1.0 ∙ ap Some i.0 in
      let known : under (s.guard f) (lane l older) ≡ Some (number (s.guard f) older) = holder_knows s older (s.guard f) l legal.0 mine in
      let told : under (s.guard f) (lane l older) ≡ Some k.number = i.1.1 in
      let numbers : number (s.guard f) older ≡ k.number = cc in
      let sections : ended (lane l (actions older)) + 1 ≡ k.section = ap (λ x. x + 1) (ended_in_lane l older) ∙ sym i.1.3 in
      inr (subst (λ x. Did (actions older) (record { lane = l; number = x }) (Takes (s.guard f) k.number)) sections
      (subst (λ x. Did (actions older) (current older l) (Takes (s.guard f) x)) numbers (holder_took s older (s.guard f) l legal.0 mine)))
  | inr i ↦ inr (store_took s older f l k legal.0 i)
]

-- On no field does a store of a counted section follow one of another.
pub counted_before : (s : Setting) (log : List (ℕ × Record)) (cut : ℕ → ℕ) (f m l : ℕ) (j k : Mark) → IsLegal s log → IsClosed (actions log) cut →
    HasStore (s.guard f) f (lane m log) j → HasStore (s.guard f) f (lane l log) k → k.section ≤ cut l → j.number < k.number → j.section ≤ cut m
counted_before s log cut f m l j k legal closed hj hk counted lt =
    let took : Did (actions log) (record { lane = l; number = k.section }) (Takes (s.guard f) k.number) = store_took s log f l k legal hk in
    let upto : k.number ≤ number (s.guard f) log = elim (took_had s log (s.guard f) k.number (record { lane = l; number = k.section }) legal took) [ inl p ↦ omega (arith, p.0) | inr p ↦ omega (arith, p.0) ] in
    elim (took_had s log (s.guard f) j.number (record { lane = m; number = j.section }) legal (store_took s log f m j legal hj)) [
      | inl p ↦ closed_down s log cut (s.guard f) k.number (record { lane = l; number = k.section }) legal closed took counted upto j.number (record { lane = m; number = j.section }) lt p.1
      | inr p ↦ absurd (omega (arith, p.0))
    ]

section_at_most : (o f : ℕ) (older : List Record) (k : Mark) → HasStore o f older k → k.section ≤ ended (map action older) + 1
section_at_most o f [] k h = elim h [ ]
section_at_most o f (Acq p n ∷ older) k (inl h) = elim h [ ]
section_at_most o f (Rel p n ∷ older) k (inl h) = elim h [ ]
section_at_most o f (WaitRel p n ∷ older) k (inl h) = elim h [ ]
section_at_most o f (Put g before after ∷ older) k (inl h) = omega (arith, h.3)
section_at_most o f (r ∷ older) k (inr h) = omega (arith, section_at_most o f older k h, ended_more (r ∷ []) older)

older_depends : (x : ℕ × Action) (log : List (ℕ × Action)) (a b : Section) → DependsOn log a b → DependsOn (x ∷ log) a b
older_depends x log a b (Earlier e lt) = Earlier e lt
older_depends x log a b (Took o n took freed differ) = Took o n (inr took) (inr freed) differ

pub closed_older : (x : ℕ × Action) (log : List (ℕ × Action)) (cut : ℕ → ℕ) → IsClosed (x ∷ log) cut → IsClosed log cut
closed_older x log cut closed a b counted depends = closed a b counted (older_depends x log a b depends)

-- where each store of the field is counted nothing is put back
nothing_back : (s : Setting) (log : List (ℕ × Record)) (cut : ℕ → ℕ) (f v : ℕ) → IsLegal s log →
    ((m : ℕ) (j : Mark) → HasStore (s.guard f) f (lane m log) j → j.section ≤ cut m) → put_back cut f v log ≡ v
nothing_back s [] cut f v legal counted = refl
nothing_back s ((l, Acq p n) ∷ older) cut f v legal counted = nothing_back s older cut f v legal.0 (λ m j h. counted m j (has_older (s.guard f) f m l (Acq p n) older j h))
nothing_back s ((l, Rel p n) ∷ older) cut f v legal counted = nothing_back s older cut f v legal.0 (λ m j h. counted m j (has_older (s.guard f) f m l (Rel p n) older j h))
nothing_back s ((l, WaitRel p n) ∷ older) cut f v legal counted = nothing_back s older cut f v legal.0 (λ m j h. counted m j (has_older (s.guard f) f m l (WaitRel p n) older j h))
nothing_back s ((l, Put g before after) ∷ older) cut f v legal counted =
    let stays : (if g.0 == f then (if is_counted cut l (actions older) then v else before) else v) ≡ v =
    cond_both (g.0 == f) (if is_counted cut l (actions older) then v else before) v (λ x. x ≡ v)
    (λ e. cond_both (is_counted cut l (actions older)) v before (λ x. x ≡ v) (λ t. refl)
    (λ t. absurd (omega (
      arith,
      ltb-false _ _ t,
      ended_in_lane l older,
      counted l (record { number = number (s.guard f) older; place = length (lane l older); section = ended (map action (lane l older)) + 1; value = after })
          (subst (λ x. HasStore (s.guard f) f x (record { number = number (s.guard f) older; place = length (lane l older); section = ended (map action (lane l older)) + 1; value = after }))
          (sym (lane_same l l (Put g before after) older refl)) (inl (new_store s older f l g before after legal (eqb-true g.0 f e)))),
    ))))
    (λ e. refl) in
    ap (λ x. put_back cut f x older) stays ∙ nothing_back s older cut f v legal.0 (λ m j h. counted m j (has_older (s.guard f) f m l (Put g before after) older j h))

-- where each store of the field is counted the cut keeps all of it
pub all_kept_value : (s : Setting) (log : List (ℕ × Record)) (cut : ℕ → ℕ) (f : ℕ) → IsLegal s log →
    ((m : ℕ) (j : Mark) → HasStore (s.guard f) f (lane m log) j → j.section ≤ cut m) → value s.first f log ≡ kept_value s.first cut f log
all_kept_value s [] cut f legal counted = refl
all_kept_value s ((l, Acq p n) ∷ older) cut f legal counted = all_kept_value s older cut f legal.0 (λ m j h. counted m j (has_older (s.guard f) f m l (Acq p n) older j h))
all_kept_value s ((l, Rel p n) ∷ older) cut f legal counted = all_kept_value s older cut f legal.0 (λ m j h. counted m j (has_older (s.guard f) f m l (Rel p n) older j h))
all_kept_value s ((l, WaitRel p n) ∷ older) cut f legal counted = all_kept_value s older cut f legal.0 (λ m j h. counted m j (has_older (s.guard f) f m l (WaitRel p n) older j h))
all_kept_value s ((l, Put g before after) ∷ older) cut f legal counted =
    let rest : value s.first f older ≡ kept_value s.first cut f older = all_kept_value s older cut f legal.0 (λ m j h. counted m j (has_older (s.guard f) f m l (Put g before after) older j h)) in
    let here : g.0 ≡ f → ended (map action (lane l older)) < cut l = λ e.
    let k : Mark = record { number = number (s.guard f) older; place = length (lane l older); section = ended (map action (lane l older)) + 1; value = after } in
    omega (arith, counted l k (subst (λ x. HasStore (s.guard f) f x k) (sym (lane_same l l (Put g before after) older refl)) (inl (new_store s older f l g before after legal e)))) in
    let kept : ℕ = kept_value s.first cut f older in
    elim (eqb_tells g.0 f) [
      | inl e ↦ subst (λ b. (if b then after else value s.first f older) ≡ (if b then (if is_counted cut l (actions older) then after else kept) else kept)) (sym e.0)
          (sym (ap (λ t. if t then after else kept) (lt-ltb _ _ (omega (arith, ended_in_lane l older, here e.1)))))
      | inr e ↦ subst (λ b. (if b then after else value s.first f older) ≡ (if b then (if is_counted cut l (actions older) then after else kept) else kept)) (sym e.0) rest
    ]

-- before a counted store all stores of its field are counted
pub all_counted : (s : Setting) (older : List (ℕ × Record)) (cut : ℕ → ℕ) (f l : ℕ) (g : FieldId) (before after : ℕ) → IsLegal s ((l, Put g before after) ∷ older) → IsClosed (actions ((l, Put g before after) ∷ older)) cut →
    g.0 ≡ f → ended (map action (lane l older)) < cut l → (m : ℕ) (j : Mark) → HasStore (s.guard f) f (lane m older) j → j.section ≤ cut m
all_counted s older cut f l g before after legal closed e lt m j h =
    let k : Mark = record { number = number (s.guard f) older; place = length (lane l older); section = ended (map action (lane l older)) + 1; value = after } in
    let here : HasStore (s.guard f) f (lane l ((l, Put g before after) ∷ older)) k =
    subst (λ x. HasStore (s.guard f) f x k) (sym (lane_same l l (Put g before after) older refl)) (inl (new_store s older f l g before after legal e)) in
    elim (stores_past s older f m j legal.0 h) [
      | inl p ↦ counted_before s ((l, Put g before after) ∷ older) cut f m l j k legal closed (has_older (s.guard f) f m l (Put g before after) older j h) here (omega arith) p
      | inr p ↦
          let mine : holder (s.guard f) older ≡ Some l = ap (λ x. holder (s.guard x) older) (sym e) ∙ legal.1.0 in
          let theirs : holder (s.guard f) older ≡ Some m = p.1 in
          let lanes : l ≡ m = cc in
          subst (λ x. j.section ≤ cut x) lanes (omega (arith, section_at_most (s.guard f) f (lane l older) j (subst (λ x. HasStore (s.guard f) f (lane x older) j) (sym lanes) h)))
    ]

pub undo_is_kept : (s : Setting) (log : List (ℕ × Record)) (cut : ℕ → ℕ) (f : ℕ) → IsLegal s log → IsClosed (actions log) cut →
    put_back cut f (value s.first f log) log ≡ kept_value s.first cut f log
undo_is_kept s [] cut f legal closed = refl
undo_is_kept s ((l, Acq p n) ∷ older) cut f legal closed = undo_is_kept s older cut f legal.0 (closed_older _ _ cut closed)
undo_is_kept s ((l, Rel p n) ∷ older) cut f legal closed = undo_is_kept s older cut f legal.0 (closed_older _ _ cut closed)
undo_is_kept s ((l, WaitRel p n) ∷ older) cut f legal closed = undo_is_kept s older cut f legal.0 (closed_older _ _ cut closed)
undo_is_kept s ((l, Put g before after) ∷ older) cut f legal closed =
    let was : ℕ = value s.first f older in
    let kept : ℕ = kept_value s.first cut f older in
    let test : Bool = is_counted cut l (actions older) in
    let rest : put_back cut f was older ≡ kept = undo_is_kept s older cut f legal.0 (closed_older (l, Stores) _ cut closed) in
    elim (eqb_tells g.0 f) [
      | inl e ↦ subst (λ b. put_back cut f (if b then (if test then (if b then after else was) else before) else (if b then after else was)) older ≡ (if b then (if test then after else kept) else kept)) (sym e.0)
          (elim test as (λ t. test ≡ t → put_back cut f (if t then after else before) older ≡ (if t then after else kept)) [
            | true ↦ λ t. nothing_back s older cut f after legal.0 (all_counted s older cut f l g before after legal closed e.1 (omega (arith, ended_in_lane l older, ltb-true _ _ t)))
            | false ↦ λ t. ap (λ x. put_back cut f x older) (sym legal.1.1 ∙ ap (λ x. value s.first x older) e.1) ∙ rest
          ] refl)
      | inr e ↦ subst (λ b. put_back cut f (if b then (if test then (if b then after else was) else before) else (if b then after else was)) older ≡ (if b then (if test then after else kept) else kept)) (sym e.0) rest
    ]
