-- The first store beyond a cut has the value that the cut keeps.
use Rattle.std.proofs.Common.{ℕ, ◌≡◌, ◌+◌, ◌<◌, ◌≤◌, ◌⊎◌, ◌==◌, if◌then◌else◌, true, false, List, [], ◌∷◌, length, map, Option, Some, None, refl, sym, ap, ◌∙◌, subst, inl, inr, arith, nat_lt}
use Rattle.std.proofs.lemmas.Bool.{cond_both, eqb-true, eqb-false, ltb-true, ltb-false}
use Rattle.heap_model.specs.declared.ids.FieldId.{FieldId}
use Rattle.heap_model.specs.declared.record.Record.{Record}
use Rattle.heap_model.specs.declared.record.Record.TheVariants.{Acq, Rel, WaitRel, Put}
use Rattle.heap_model.specs.declared.record.UndoRecord.{UndoRecord}
use Rattle.heap_model.specs.declared.record.UndoRecord.TheVariants as undo
use Rattle.heap_model.specs.Setting.{Setting}
use Rattle.heap_model.specs.Record.{undo_of}
use Rattle.heap_model.specs.Log.{lane, holder, number, value, IsLegal}
use Rattle.heap_model.specs.Sections.{action, actions, ended, undo_action}
use Rattle.heap_model.specs.Cuts.{IsClosed}
use Rattle.heap_model.specs.KeptHeap.{kept_value, put_back}
use Rattle.law_cuts.proofs.Lanes.{ended_in_lane}
use Rattle.law_cuts.proofs.Stores.{under, Mark, HasStore, lane_same, holder_knows, place_below, ended_rises}
use Rattle.law_histories.proofs.Order.{stores_past}
use Rattle.law_histories.proofs.Undo.{undo_is_kept}
use Rattle.undo_log.specs.OldValues.{held_since, OldValue, IsOld, HasOld, IsNoLater, TakesBack, NothingBack, FirstBack, Holds, IsBeyond, IsUnsettled}
use Rattle.undo_log.specs.Dropped.{undo_logs, records_in, IsDropped}

action_undo : (r : Record) → undo_action (undo_of r) ≡ action r
action_undo (Acq o n) = refl
action_undo (Rel o n) = refl
action_undo (WaitRel o n) = refl
action_undo (Put f before after) = refl

pub actions_undo : (xs : List Record) → map undo_action (map undo_of xs) ≡ map action xs
actions_undo [] = refl
actions_undo (r ∷ xs) = λ i. action_undo r i ∷ actions_undo xs i

pub length_undo : (xs : List Record) → length (map undo_of xs) ≡ length xs
length_undo [] = refl
length_undo (r ∷ xs) = omega (arith, length_undo xs)

under_undo : (o : ℕ) (xs : List Record) → held_since o (map undo_of xs) ≡ under o xs
under_undo o [] = refl
under_undo o (Acq p n ∷ xs) = ap (λ x. if p.0 == o then Some n else x) (under_undo o xs)
under_undo o (Rel p n ∷ xs) = ap (λ (x : Option ℕ). if p.0 == o then None else x) (under_undo o xs)
under_undo o (WaitRel p n ∷ xs) = ap (λ (x : Option ℕ). if p.0 == o then None else x) (under_undo o xs)
under_undo o (Put g before after ∷ xs) = under_undo o xs

abbrev mark : OldValue → ℕ → Mark
mark k v = record { number = k.number; place = k.place; section = k.section; value = v }

-- with the new value, it is a store of the model
pub as_store : (o f : ℕ) (xs : List Record) (k : OldValue) → HasOld o f (map undo_of xs) k → (v : ℕ) × HasStore o f xs (mark k v)
as_store o f [] k h = elim h [ ]
as_store o f (Acq p n ∷ xs) k (inl h) = elim h [ ]
as_store o f (Rel p n ∷ xs) k (inl h) = elim h [ ]
as_store o f (WaitRel p n ∷ xs) k (inl h) = elim h [ ]
as_store o f (Put g before after ∷ xs) k (inl h) =
    (after, inl (h.0, sym (under_undo o xs) ∙ h.1, h.2 ∙ length_undo xs, h.3 ∙ ap (λ x. ended x + 1) (actions_undo xs), refl))
as_store o f (r ∷ xs) k (inr h) = let rest = as_store o f xs k h in (rest.0, inr rest.1)

pub old_cons : (o f l m : ℕ) (r : Record) (older : List (ℕ × Record)) (k : OldValue) → HasOld o f (undo_logs ((m, r) ∷ older) l) k →
    ((m ≡ l) × IsOld o f (undo_logs older l) (undo_of r) k) ⊎ HasOld o f (undo_logs older l) k
old_cons o f l m r older k h =
    elim (m == l) as (λ b. (m == l) ≡ b → HasOld o f (map undo_of (if b then r ∷ lane l older else lane l older)) k → ((m ≡ l) × IsOld o f (undo_logs older l) (undo_of r) k) ⊎ HasOld o f (undo_logs older l) k) [
      | true ↦ λ e i. elim i [ inl s ↦ inl (eqb-true m l e, s) | inr s ↦ inr s ]
      | false ↦ λ e i. inr i
    ] refl h

pub old_older : (o f l m : ℕ) (r : Record) (older : List (ℕ × Record)) (k : OldValue) → HasOld o f (undo_logs older l) k → HasOld o f (undo_logs ((m, r) ∷ older) l) k
old_older o f l m r older k h = elim (m == l) as (λ b. HasOld o f (map undo_of (if b then r ∷ lane l older else lane l older)) k) [ true ↦ inr h | false ↦ h ]

-- It depends on the stores that are out alone.
pub takes_elsewhere : (o f : ℕ) (lanes others : ℕ → List UndoRecord) (IsOut IsOutToo : ℕ → OldValue → Type 0) (IsHome : ℕ → Type 0) (v : ℕ) →
    ((l : ℕ) (k : OldValue) → HasOld o f (lanes l) k → IsOut l k → HasOld o f (others l) k × IsOutToo l k) →
    ((l : ℕ) (k : OldValue) → HasOld o f (others l) k → IsOutToo l k → HasOld o f (lanes l) k × IsOut l k) →
    TakesBack o f lanes IsOut IsHome v → TakesBack o f others IsOutToo IsHome v
takes_elsewhere o f lanes others IsOut IsOutToo IsHome v there back (NothingBack none e) =
    NothingBack (λ l k h out. let b = back l k h out in none l k b.0 b.1) e
takes_elsewhere o f lanes others IsOut IsOutToo IsHome v there back (FirstBack l k h out e first) =
    let t = there l k h out in
    FirstBack l k t.0 t.1 e (λ m j i outj. let b = back m j i outj in first m j b.0 b.1)

takes_skip : (o f : ℕ) (IsOut : ℕ → OldValue → Type 0) (IsHome : ℕ → Type 0) (v m : ℕ) (r : Record) (older : List (ℕ × Record)) →
    ((k : OldValue) → IsOld o f (undo_logs older m) (undo_of r) k → IsOut m k → ⊥) →
    TakesBack o f (undo_logs older) IsOut IsHome v → TakesBack o f (undo_logs ((m, r) ∷ older)) IsOut IsHome v
takes_skip o f IsOut IsHome v m r older other takes = takes_elsewhere o f (undo_logs older) (undo_logs ((m, r) ∷ older)) IsOut IsOut IsHome v
    (λ l k h out. (old_older o f l m r older k h, out))
    (λ l k h out. elim (old_cons o f l m r older k h) [
      | inl i ↦ absurd (other k (subst (λ x. IsOld o f (undo_logs older x) (undo_of r) k) (sym i.0) i.1) (subst (λ x. IsOut x k) (sym i.0) out))
      | inr i ↦ (i, out)
    ])
    takes

module _ (s : Setting) (older : List (ℕ × Record)) (cut : ℕ → ℕ) (f m : ℕ) (g : FieldId) (before after : ℕ)
    (legal : IsLegal s ((m, Put g before after) ∷ older)) (is_field : g.0 ≡ f) where
  abbrev new : OldValue
  new = record { number = number (s.guard f) older; place = length (undo_logs older m); section = ended (map undo_action (undo_logs older m)) + 1; before = before }

  mine : holder (s.guard f) older ≡ Some m
  mine = ap (λ x. holder (s.guard x) older) (sym is_field) ∙ legal.1.0

  known : under (s.guard f) (lane m older) ≡ Some (number (s.guard f) older)
  known = holder_knows s older (s.guard f) m legal.0 mine

  pub stands_here : HasOld (s.guard f) f (undo_logs ((m, Put g before after) ∷ older) m) new
  stands_here = subst (λ x. HasOld (s.guard f) f (map undo_of x) new) (sym (lane_same m m (Put g before after) older refl))
      (inl (is_field, under_undo (s.guard f) (lane m older) ∙ known, refl, refl, refl))

  -- no store is later
  upto_new : (l : ℕ) (j : OldValue) → HasOld (s.guard f) f (undo_logs ((m, Put g before after) ∷ older) l) j → IsNoLater l j m new
  upto_new l j h = elim (old_cons (s.guard f) f l m (Put g before after) older j h) [
    | inl i ↦
        let told : held_since (s.guard f) (undo_logs older l) ≡ Some j.number = i.1.1 in
        let there : under (s.guard f) (lane l older) ≡ Some (number (s.guard f) older) = subst (λ x. under (s.guard f) (lane x older) ≡ Some (number (s.guard f) older)) i.0 known in
        let same : held_since (s.guard f) (undo_logs older l) ≡ under (s.guard f) (lane l older) = under_undo (s.guard f) (lane l older) in
        let place : length (undo_logs older l) ≡ length (undo_logs older m) = ap (λ x. length (undo_logs older x)) (sym i.0) in
        inr (cc, sym i.0, omega (arith, i.1.2))
    | inr i ↦
        let store = as_store (s.guard f) f (lane l older) j i in
        elim (stores_past s older f l (mark j store.0) legal.0 store.1) [
          | inl p ↦ inl p
          | inr p ↦
              let ml : l ≡ m = let theirs : holder (s.guard f) older ≡ Some l = p.1 in let mine_too = mine in cc in
              let place : length (undo_logs older l) ≡ length (undo_logs older m) = ap (λ x. length (undo_logs older x)) ml in
              inr (p.0, ml, omega (arith, place_below (s.guard f) f (lane l older) (mark j store.0) store.1, length_undo (lane l older)))
        ]
  ]

  -- a store that is the only one out, since none before it is
  only_new : (l : ℕ) (j : OldValue) → ((k : OldValue) → HasOld (s.guard f) f (undo_logs older l) k → IsBeyond cut l k → ⊥) → HasOld (s.guard f) f (undo_logs ((m, Put g before after) ∷ older) l) j → IsBeyond cut l j → IsNoLater m new l j
  only_new l j none h out = elim (old_cons (s.guard f) f l m (Put g before after) older j h) [
    | inl i ↦
        let told : held_since (s.guard f) (undo_logs older l) ≡ Some j.number = i.1.1 in
        let there : under (s.guard f) (lane l older) ≡ Some (number (s.guard f) older) = subst (λ x. under (s.guard f) (lane x older) ≡ Some (number (s.guard f) older)) i.0 known in
        let same : held_since (s.guard f) (undo_logs older l) ≡ under (s.guard f) (lane l older) = under_undo (s.guard f) (lane l older) in
        let place : length (undo_logs older l) ≡ length (undo_logs older m) = ap (λ x. length (undo_logs older x)) (sym i.0) in
        inr (cc, i.0, omega (arith, i.1.2))
    | inr i ↦ absurd (none j i out)
  ]

  pub takes_new : (w v : ℕ) → cut m < new.section → TakesBack (s.guard f) f (undo_logs older) (IsBeyond cut) (Holds before) v →
      TakesBack (s.guard f) f (undo_logs ((m, Put g before after) ∷ older)) (IsBeyond cut) (Holds w) v
  takes_new w v out (NothingBack none e) = FirstBack m new stands_here out e (λ l j h outj. only_new l j (none l) h outj)
  takes_new w v out (FirstBack l k h outk e first) =
      FirstBack l k (old_older (s.guard f) f l m (Put g before after) older k h) outk e
      (λ n j i outj. elim (old_cons (s.guard f) f n m (Put g before after) older j i) [
        | inl a ↦
            let up = upto_new l k (old_older (s.guard f) f l m (Put g before after) older k h) in
            let told : held_since (s.guard f) (undo_logs older n) ≡ Some j.number = a.1.1 in
            let there : under (s.guard f) (lane n older) ≡ Some (number (s.guard f) older) = subst (λ x. under (s.guard f) (lane x older) ≡ Some (number (s.guard f) older)) a.0 known in
            let same : held_since (s.guard f) (undo_logs older n) ≡ under (s.guard f) (lane n older) = under_undo (s.guard f) (lane n older) in
            let numbers : j.number ≡ number (s.guard f) older = cc in
            let place : length (undo_logs older n) ≡ length (undo_logs older m) = ap (λ x. length (undo_logs older x)) (sym a.0) in
            elim up [
              | inl p ↦ inl (omega arith)
              | inr p ↦ inr (p.0 ∙ sym numbers, p.1 ∙ a.0, omega (arith, p.2, a.1.2))
            ]
        | inr a ↦ first n j a outj
      ])

-- What is put back is the old value of the first store beyond the cut.
pub back_is_first : (s : Setting) (log : List (ℕ × Record)) (cut : ℕ → ℕ) (f v : ℕ) → IsLegal s log →
    TakesBack (s.guard f) f (undo_logs log) (IsBeyond cut) (Holds v) (put_back cut f v log)
back_is_first s [] cut f v legal = NothingBack (λ l k h out. elim h [ ]) refl
back_is_first s ((m, Acq p n) ∷ older) cut f v legal = takes_skip _ f _ _ _ m (Acq p n) older (λ k h out. elim h [ ]) (back_is_first s older cut f v legal.0)
back_is_first s ((m, Rel p n) ∷ older) cut f v legal = takes_skip _ f _ _ _ m (Rel p n) older (λ k h out. elim h [ ]) (back_is_first s older cut f v legal.0)
back_is_first s ((m, WaitRel p n) ∷ older) cut f v legal = takes_skip _ f _ _ _ m (WaitRel p n) older (λ k h out. elim h [ ]) (back_is_first s older cut f v legal.0)
back_is_first s ((m, Put g before after) ∷ older) cut f v legal =
    let section : ℕ = ended (lane m (actions older)) in
    let sections : ended (map undo_action (undo_logs older m)) ≡ section = ap ended (actions_undo (lane m older)) ∙ sym (ended_in_lane m older) in
    let goes : ℕ → Type 0 = λ w. TakesBack (s.guard f) f (undo_logs ((m, Put g before after) ∷ older)) (IsBeyond cut) (Holds v) (put_back cut f w older) in
    cond_both (g.0 == f) (if nat_lt section (cut m) then v else before) v goes
    (λ e. cond_both (nat_lt section (cut m)) v before goes
    (λ t. takes_skip _ f _ _ _ m (Put g before after) older (λ k h out. omega (arith, h.3, out, sections, ltb-true section (cut m) t)) (back_is_first s older cut f v legal.0))
    (λ t. takes_new s older cut f m g before after legal (eqb-true g.0 f e) v _ (omega (arith, sections, ltb-false section (cut m) t)) (back_is_first s older cut f before legal.0)))
    (λ e. takes_skip _ f _ _ _ m (Put g before after) older (λ k h out. eqb-false g.0 f e h.0) (back_is_first s older cut f v legal.0))

-- A store is past the place of the cut just where its section is beyond it.
ended_undo_rises : (r : UndoRecord) (xs : List UndoRecord) → ended (map undo_action xs) ≤ ended (map undo_action (r ∷ xs))
ended_undo_rises r xs = ended_rises (undo_action r) (map undo_action xs)

in_at_most : (n : ℕ) (xs : List UndoRecord) → records_in n xs ≤ length xs
in_at_most n [] = omega arith
in_at_most n (r ∷ xs) = cond_both (nat_lt (ended (map undo_action xs)) n) (length xs + 1) (records_in n xs) (λ x. x ≤ length (r ∷ xs))
    (λ t. omega arith) (λ t. omega (arith, in_at_most n xs))

section_upto : (o f : ℕ) (xs : List UndoRecord) (k : OldValue) → HasOld o f xs k → (k.section ≤ ended (map undo_action xs) + 1) × (k.place < length xs)
section_upto o f [] k h = elim h [ ]
section_upto o f (undo.Acq p n ∷ xs) k (inl h) = elim h [ ]
section_upto o f (undo.Rel p n ∷ xs) k (inl h) = elim h [ ]
section_upto o f (undo.WaitRel p n ∷ xs) k (inl h) = elim h [ ]
section_upto o f (undo.Put g before ∷ xs) k (inl h) = (omega (arith, h.3), omega (arith, h.2))
section_upto o f (r ∷ xs) k (inr h) = let rest = section_upto o f xs k h in (omega (arith, rest.0, ended_undo_rises r xs), omega (arith, rest.1))

pub past_is_beyond : (o f n : ℕ) (xs : List UndoRecord) (k : OldValue) → HasOld o f xs k → (n < k.section → records_in n xs ≤ k.place) × (records_in n xs ≤ k.place → n < k.section)
past_is_beyond o f n [] k h = elim h [ ]
past_is_beyond o f n (r ∷ xs) k h = cond_both (nat_lt (ended (map undo_action xs)) n) (length xs + 1) (records_in n xs) (λ x. (n < k.section → x ≤ k.place) × (x ≤ k.place → n < k.section))
    (λ t. let lt = ltb-true _ _ t in let here = section_at o f r xs k h in
    ((λ a. absurd (omega (arith, a, here.0))), (λ a. absurd (omega (arith, a, here.1)))))
    (λ t. elim h [
      | inl i ↦ let at = new_at o f r xs k i in ((λ a. omega (arith, at.1, in_at_most n xs)), (λ a. omega (arith, at.0, ltb-false _ _ t)))
      | inr i ↦ past_is_beyond o f n xs k i
    ])
  where
    new_at : (o f : ℕ) (r : UndoRecord) (xs : List UndoRecord) (k : OldValue) → IsOld o f xs r k → (k.section ≡ ended (map undo_action xs) + 1) × (k.place ≡ length xs)
    new_at o f (undo.Put g before) xs k h = (h.3, h.2)
    new_at o f (undo.Acq p n) xs k h = elim h [ ]
    new_at o f (undo.Rel p n) xs k h = elim h [ ]
    new_at o f (undo.WaitRel p n) xs k h = elim h [ ]

    section_at : (o f : ℕ) (r : UndoRecord) (xs : List UndoRecord) (k : OldValue) → HasOld o f (r ∷ xs) k → (k.section ≤ ended (map undo_action xs) + 1) × (k.place < length xs + 1)
    section_at o f r xs k (inl i) = let at = new_at o f r xs k i in (omega (arith, at.0), omega (arith, at.1))
    section_at o f r xs k (inr i) = let rest = section_upto o f xs k i in (rest.0, omega (arith, rest.1))

-- so what is out by section is out by place, and the other way round
pub by_place : (o f : ℕ) (lanes : ℕ → List UndoRecord) (cut : ℕ → ℕ) (IsHome : ℕ → Type 0) (v : ℕ) → TakesBack o f lanes (IsBeyond cut) IsHome v →
    TakesBack o f lanes (IsUnsettled (λ l. records_in (cut l) (lanes l))) IsHome v
by_place o f lanes cut IsHome v takes = takes_elsewhere o f lanes lanes (IsBeyond cut) (IsUnsettled (λ l. records_in (cut l) (lanes l))) IsHome v
    (λ l k h out. (h, (past_is_beyond o f (cut l) (lanes l) k h).0 out))
    (λ l k h out. (h, (past_is_beyond o f (cut l) (lanes l) k h).1 out))
    takes

pub by_section : (o f : ℕ) (lanes : ℕ → List UndoRecord) (cut : ℕ → ℕ) (IsHome : ℕ → Type 0) (v : ℕ) → TakesBack o f lanes (IsUnsettled (λ l. records_in (cut l) (lanes l))) IsHome v →
    TakesBack o f lanes (IsBeyond cut) IsHome v
by_section o f lanes cut IsHome v takes = takes_elsewhere o f lanes lanes (IsUnsettled (λ l. records_in (cut l) (lanes l))) (IsBeyond cut) IsHome v
    (λ l k h out. (h, (past_is_beyond o f (cut l) (lanes l) k h).1 out))
    (λ l k h out. (h, (past_is_beyond o f (cut l) (lanes l) k h).0 out))
    takes

-- Whether a field has a store beyond the cut, and that otherwise the cut keeps the value after all stores.
pub dropped_or_same : (s : Setting) (log : List (ℕ × Record)) (cut : ℕ → ℕ) (f : ℕ) → IsLegal s log → IsClosed (actions log) cut →
    IsDropped (s.guard f) f log cut ⊎ (value s.first f log ≡ kept_value s.first cut f log)
dropped_or_same s log cut f legal closed = elim (back_is_first s log cut f (value s.first f log) legal) [
  | NothingBack none e ↦ inr (sym e ∙ undo_is_kept s log cut f legal closed)
  | FirstBack l k h out e first ↦ inl (record { lane = l; store = k; logged = h; beyond = out })
]

-- Whatever the cells of dropped fields hold, the heap that the cut keeps is put back.
pub stands : (s : Setting) (log : List (ℕ × Record)) → IsLegal s log → (cut : ℕ → ℕ) → IsClosed (actions log) cut → (f : ℕ) (IsHome : ℕ → Type 0) →
    IsDropped (s.guard f) f log cut ⊎ IsHome (kept_value s.first cut f log) →
    TakesBack (s.guard f) f (undo_logs log) (IsBeyond cut) IsHome (kept_value s.first cut f log)
stands s log legal cut closed f IsHome known =
    let v : ℕ = value s.first f log in
    let back : TakesBack (s.guard f) f (undo_logs log) (IsBeyond cut) (Holds v) (kept_value s.first cut f log) =
    subst (λ (w : ℕ). TakesBack (s.guard f) f (undo_logs log) (IsBeyond cut) (Holds v) w) (undo_is_kept s log cut f legal closed) (back_is_first s log cut f v legal) in
    elim back [
      | FirstBack l k h out e first ↦ FirstBack l k h out e first
      | NothingBack none e ↦ elim known [
        | inl d ↦ absurd (none d.lane d.store d.logged d.beyond)
        | inr home ↦ NothingBack none home
      ]
    ]
