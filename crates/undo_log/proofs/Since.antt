-- The records since a base put back what all records do.
use Rattle.std.proofs.Common.{ℕ, ◌≡◌, ◌+◌, ◌-◌, ◌<◌, ◌≤◌, ◌⊎◌, ◌==◌, if◌then◌else◌, true, false, List, [], ◌∷◌, ◌++◌, length, map, Option, Some, None, refl, sym, ap, ◌∙◌, subst, inl, inr, arith, length-append}
use Rattle.std.proofs.lemmas.Bool.{ltb-true}
use Rattle.std.proofs.lemmas.Bool.Decides.{eqb_tells}
use Rattle.heap_model.specs.declared.record.Record.{Record}
use Rattle.heap_model.specs.declared.record.UndoRecord.{UndoRecord}
use Rattle.heap_model.specs.declared.record.UndoRecord.TheVariants.{Acq, Rel, WaitRel, Put}
use Rattle.heap_model.specs.Record.{undo_of}
use Rattle.heap_model.specs.Log.{lane}
use Rattle.heap_model.specs.Sections.{Action, actions, without, holding, ended, undo_action}
use Rattle.heap_model.specs.Cuts.{IsWhole, is_counted}
use Rattle.heap_model.specs.Base.{records_since, records_until}
use Rattle.law_cuts.proofs.Lanes.{lane_actions, ended_in_lane}
use Rattle.law_histories.proofs.Parts.{lane_until}
use Rattle.law_histories.proofs.Reorder.{split_lane}
use Rattle.law_histories.proofs.Rebase.{ended_add, until_ends}
use Rattle.undo_log.specs.OldValues.{held_since, OldValue, IsOld, HasOld, TakesBack, NothingBack, FirstBack, IsBeyond}
use Rattle.undo_log.specs.Dropped.{undo_logs}
use Rattle.undo_log.proofs.Back.{actions_undo, old_cons}

map_append : (xs ys : List Record) → map undo_of (xs ++ ys) ≡ map undo_of xs ++ map undo_of ys
map_append [] ys = refl
map_append (x ∷ xs) ys = ap (λ (zs : List UndoRecord). undo_of x ∷ zs) (map_append xs ys)

data In (o : ℕ) : List ℕ → Type 0 where
  Here : (os : List ℕ) → In o (o ∷ os)
  There : (p : ℕ) (os : List ℕ) → In o os → In o (p ∷ os)

in_without : (o p : ℕ) (os : List ℕ) → (p ≡ o → ⊥) → In o os → In o (without p os)
in_without o p [] ne h = elim h [ ]
in_without o p (q ∷ qs) ne (Here os) = elim (eqb_tells q p) [
  | inl e ↦ absurd (ne (sym e.1))
  | inr e ↦ subst (λ b. In q (if b then qs else q ∷ without p qs)) (sym e.0) (Here (without p qs))
]
in_without o p (q ∷ qs) ne (There r os i) = elim (q == p) as (λ b. In o (if b then qs else q ∷ without p qs)) [ true ↦ i | false ↦ There q (without p qs) (in_without o p qs ne i) ]

-- what is held under a number is held
held_in : (o n : ℕ) (xs : List UndoRecord) → held_since o xs ≡ Some n → In o (holding (map undo_action xs))
held_in o n [] h = absurd (let no : None ≡ Some n = h in cc)
held_in o n (Acq p k ∷ xs) h = elim (eqb_tells p.0 o) [
  | inl e ↦ subst (λ q. In o (q ∷ holding (map undo_action xs))) (sym e.1) (Here _)
  | inr e ↦ There _ _ (held_in o n xs (subst (λ b. (if b then Some k else held_since o xs) ≡ Some n) e.0 h))
]
held_in o n (Rel p k ∷ xs) h = elim (eqb_tells p.0 o) [
  | inl e ↦ absurd (let no : None ≡ Some n = subst (λ b. (if b then None else held_since o xs) ≡ Some n) e.0 h in cc)
  | inr e ↦ in_without o p.0 _ e.1 (held_in o n xs (subst (λ b. (if b then None else held_since o xs) ≡ Some n) e.0 h))
]
held_in o n (WaitRel p k ∷ xs) h = elim (eqb_tells p.0 o) [
  | inl e ↦ absurd (let no : None ≡ Some n = subst (λ b. (if b then None else held_since o xs) ≡ Some n) e.0 h in cc)
  | inr e ↦ in_without o p.0 _ e.1 (held_in o n xs (subst (λ b. (if b then None else held_since o xs) ≡ Some n) e.0 h))
]
held_in o n (Put f v ∷ xs) h = held_in o n xs h

none_held : (o : ℕ) (us : List UndoRecord) → holding (map undo_action us) ≡ [] → held_since o us ≡ None
none_held o us e = elim (held_since o us) as (λ v. held_since o us ≡ v → v ≡ None) [
  | None ↦ λ h. refl
  | Some n ↦ λ h. absurd (let i : In o [] = subst (In o) e (held_in o n us h) in elim i [ ])
] refl

under_add : (o : ℕ) (xs us : List UndoRecord) → held_since o us ≡ None → held_since o (xs ++ us) ≡ held_since o xs
under_add o [] us e = e
under_add o (Acq p n ∷ xs) us e = ap (λ (v : Option ℕ). if p.0 == o then Some n else v) (under_add o xs us e)
under_add o (Rel p n ∷ xs) us e = ap (λ (v : Option ℕ). if p.0 == o then None else v) (under_add o xs us e)
under_add o (WaitRel p n ∷ xs) us e = ap (λ (v : Option ℕ). if p.0 == o then None else v) (under_add o xs us e)
under_add o (Put f v ∷ xs) us e = under_add o xs us e

map_actions : (xs us : List UndoRecord) → map undo_action (xs ++ us) ≡ map undo_action xs ++ map undo_action us
map_actions [] us = refl
map_actions (x ∷ xs) us = ap (λ (ys : List Action). undo_action x ∷ ys) (map_actions xs us)

-- a store, counted from further back
abbrev pub further : ℕ → ℕ → OldValue → OldValue
further places sections k = record { number = k.number; place = k.place + places; section = k.section + sections; before = k.before }

-- a store, counted from further on
abbrev pub nearer : ℕ → ℕ → OldValue → OldValue
nearer places sections k = record { number = k.number; place = k.place - places; section = k.section - sections; before = k.before }

module _ (o f : ℕ) (us : List UndoRecord) (free : holding (map undo_action us) ≡ []) where
  sections_more : (xs : List UndoRecord) → ended (map undo_action (xs ++ us)) ≡ ended (map undo_action xs) + ended (map undo_action us)
  sections_more xs = ap ended (map_actions xs us) ∙ ended_add (map undo_action xs) (map undo_action us) free

  old_up : (xs : List UndoRecord) (k : OldValue) → HasOld o f xs k → HasOld o f (xs ++ us) (further (length us) (ended (map undo_action us)) k)
  old_up [] k h = elim h [ ]
  old_up (Acq p n ∷ xs) k (inl h) = elim h [ ]
  old_up (Rel p n ∷ xs) k (inl h) = elim h [ ]
  old_up (WaitRel p n ∷ xs) k (inl h) = elim h [ ]
  old_up (Put g v ∷ xs) k (inl h) = inl (h.0, under_add o xs us (none_held o us free) ∙ h.1, omega (arith, h.2, length-append xs us), omega (arith, h.3, sections_more xs), h.4)
  old_up (r ∷ xs) k (inr h) = inr (old_up xs k h)

  old_down : (xs : List UndoRecord) (k : OldValue) → HasOld o f (xs ++ us) k → HasOld o f us k ⊎ (HasOld o f xs (nearer (length us) (ended (map undo_action us)) k) × (length us ≤ k.place) × (ended (map undo_action us) < k.section))
  old_down [] k h = inl h
  old_down (Acq p n ∷ xs) k (inl h) = elim h [ ]
  old_down (Rel p n ∷ xs) k (inl h) = elim h [ ]
  old_down (WaitRel p n ∷ xs) k (inl h) = elim h [ ]
  old_down (Put g v ∷ xs) k (inl h) = inr (
    inl (h.0, sym (under_add o xs us (none_held o us free)) ∙ h.1, omega (arith, h.2, length-append xs us), omega (arith, h.3, sections_more xs), h.4),
    omega (arith, h.2, length-append xs us),
    omega (arith, h.3, sections_more xs),
  )
  old_down (r ∷ xs) k (inr h) = elim (old_down xs k h) [ inl i ↦ inl i | inr i ↦ inr (inr i.0, i.1, i.2) ]

-- a counted store's section is counted
until_upto : (o f : ℕ) (base : ℕ → ℕ) (l : ℕ) (log : List (ℕ × Record)) (k : OldValue) → HasOld o f (undo_logs (records_until base log) l) k → k.section ≤ base l
until_upto o f base l [] k h = elim h [ ]
until_upto o f base l ((m, r) ∷ older) k h =
    elim (is_counted base m (actions older)) as (λ t. is_counted base m (actions older) ≡ t → HasOld o f (undo_logs (if t then (m, r) ∷ records_until base older else records_until base older) l) k → k.section ≤ base l) [
      | true ↦ λ t i. elim (old_cons o f l m r (records_until base older) k i) [
        | inl a ↦
            let lt : ended (lane m (actions older)) < base m = ltb-true _ _ t in
            let own : ended (lane m (actions older)) ≡ ended (lane l (actions older)) = ap (λ x. ended (lane x (actions older))) a.0 in
            let bases : base m ≡ base l = ap base a.0 in
            let below : ended (lane l (actions older)) < base l = omega (arith, own, bases, lt) in
            let here : ended (map undo_action (undo_logs (records_until base older) l)) ≡ ended (lane l (actions older)) =
            ap (λ (xs : List Record). ended (map undo_action (map undo_of xs))) (lane_until base l older below) ∙ ap ended (actions_undo (lane l older)) ∙ sym (ended_in_lane l older) in
            omega (arith, section_of (undo_of r) (undo_logs (records_until base older) l) a.1, here, below)
        | inr a ↦ until_upto o f base l older k a
      ]
      | false ↦ λ t i. until_upto o f base l older k i
    ] refl h
  where
    section_of : (u : UndoRecord) (xs : List UndoRecord) → IsOld o f xs u k → k.section ≡ ended (map undo_action xs) + 1
    section_of (Put g v) xs i = i.3
    section_of (Acq p n) xs i = elim i [ ]
    section_of (Rel p n) xs i = elim i [ ]
    section_of (WaitRel p n) xs i = elim i [ ]

module _ (o f : ℕ) (base cut : ℕ → ℕ) (log : List (ℕ × Record)) (whole : IsWhole (actions log) base) (more : (l : ℕ) → base l ≤ cut l) where
  abbrev beyond : ℕ → ℕ
  beyond l = cut l - base l

  abbrev gone : ℕ → List UndoRecord
  gone l = undo_logs (records_until base log) l

  parts : (l : ℕ) → undo_logs (records_since base log) l ++ gone l ≡ undo_logs log l
  parts l = sym (map_append (lane l (records_since base log)) (lane l (records_until base log))) ∙ ap (map undo_of) (split_lane base l log)

  actions_gone : (l : ℕ) → map undo_action (gone l) ≡ lane l (actions (records_until base log))
  actions_gone l = actions_undo (lane l (records_until base log)) ∙ sym (lane_actions l (records_until base log))

  free : (l : ℕ) → holding (map undo_action (gone l)) ≡ []
  free l = ap holding (actions_gone l) ∙ (until_ends base l log (whole l)).0

  counts : (l : ℕ) → ended (map undo_action (gone l)) ≡ base l
  counts l = ap ended (actions_gone l) ∙ (until_ends base l log (whole l)).1

  there : (l : ℕ) (k : OldValue) → HasOld o f (undo_logs log l) k → IsBeyond cut l k →
      HasOld o f (undo_logs (records_since base log) l) (nearer (length (gone l)) (ended (map undo_action (gone l))) k) × (length (gone l) ≤ k.place) × (beyond l < k.section - ended (map undo_action (gone l)))
  there l k h out = elim (old_down o f (gone l) (free l) (undo_logs (records_since base log) l) k (subst (λ xs. HasOld o f xs k) (sym (parts l)) h)) [
    | inl i ↦ absurd (omega (arith, until_upto o f base l log k i, more l, out))
    | inr i ↦ (i.0, i.1, omega (arith, counts l, more l, out, i.2))
  ]

  back : (l : ℕ) (k : OldValue) → HasOld o f (undo_logs (records_since base log) l) k → beyond l < k.section →
      HasOld o f (undo_logs log l) (further (length (gone l)) (ended (map undo_action (gone l))) k) × (cut l < k.section + ended (map undo_action (gone l)))
  back l k h out = (subst (λ xs. HasOld o f xs (further (length (gone l)) (ended (map undo_action (gone l))) k)) (parts l) (old_up o f (gone l) (free l) (undo_logs (records_since base log) l) k h), omega (arith, counts l, more l, out))

  -- what recovery puts back is the same, read from the records since
  pub takes_since : (IsHome : ℕ → Type 0) (v : ℕ) → TakesBack o f (undo_logs log) (IsBeyond cut) IsHome v → TakesBack o f (undo_logs (records_since base log)) (IsBeyond beyond) IsHome v
  takes_since IsHome v (NothingBack none e) = NothingBack (λ l k h out. let b = back l k h out in none l _ b.0 b.1) e
  takes_since IsHome v (FirstBack l k h out e first) =
      let t = there l k h out in
      FirstBack l (nearer (length (gone l)) (ended (map undo_action (gone l))) k) t.0 t.2 e
      (λ m j i outj. let b = back m j i outj in
      elim (first m (further (length (gone m)) (ended (map undo_action (gone m))) j) b.0 b.1) [
        | inl less ↦ inl less
        | inr same ↦ let lanes : length (gone l) ≡ length (gone m) = ap (λ x. length (gone x)) same.1 in
            inr (same.0, same.1, omega (arith, same.2, lanes, t.1))
      ])
