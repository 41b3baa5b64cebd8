-- The first stores that aren't settled, in the lanes' records and in their replay.
use Rattle.std.proofs.Common.{ℕ, take, drop, zero, suc, Contains, ◌++◌, get_or, slice_index, length-append, ◌≡◌, ◌≢◌, ◌↔◌, ◌+◌, ◌<◌, ◌≤◌, ◌==◌, if◌then◌else◌, ◌⊎◌, Bool, true, false, List, [], ◌∷◌, length, map, refl, sym, ap, ◌∙◌, subst, inl, inr, arith, Option, Some, None}
use Rattle.std.specs.Prelude.{nat_le, nat_lt}
use Rattle.std.proofs.lemmas.Bool.{cases_eq, cases_lt, eq-eqb, le-leb, le-ltb, lt-leb, lt-ltb}
use Rattle.std.proofs.lemmas.Bool.Decides.{eqb_tells, leb_tells}
use Rattle.std.specs.List.Sorted.{IsStrictlyIncreasing}
use Rattle.std.proofs.Math.Seq.{get_or-append_seam, take-append_seam}
use Rattle.std.proofs.lemmas.List.{get_or_append_left, get_or-map, length-map, map-append}
use Rattle.std.proofs.lemmas.List.Elements.{Contains-push, Contains-push_cases, Contains-append_left}
use Rattle.heap_model.specs.Log.{lane}
use Rattle.heap_model.specs.Sections.{ended, undo_action}
use Rattle.heap_model.specs.declared.ids.FieldId.{FieldId}
use Rattle.heap_model.specs.declared.ids.Lane.{Lane}
use Rattle.heap_model.specs.declared.ids.ObjectId.{ObjectId}
use Rattle.heap_model.specs.declared.record.UndoRecord.{UndoRecord}
use Rattle.heap_model.specs.declared.record.UndoRecord.TheVariants.{Acq, Rel, WaitRel, Put}
use Rattle.undo_log.specs.OldValues.{held_since, OldValue, IsOld, HasOld, IsNoLater, TakesBack, NothingBack, FirstBack, IsUnsettled}
use Rattle.recover_logs.specs.Monitors.{MayStore}
use Rattle.recover_logs.specs.Replay.{holder, number, IsAllowed, IsGreedy, Replays}
use Rattle.recover_heap.specs.Heap.{stored, earlier, first_old, AreFields, IsOldOrHome, IsUndone}

-- a lane's stores with one more record of some lane
old_cons : (o f l m : ℕ) (r : UndoRecord) (older : List (ℕ × UndoRecord)) (k : OldValue) → HasOld o f (lane l ((m, r) ∷ older)) k → ((m ≡ l) × IsOld o f (lane l older) r k) ⊎ HasOld o f (lane l older) k
old_cons o f l m r older k h = elim (eqb_tells m l) [
  | inl e ↦ elim (subst (λ (t : Bool). HasOld o f (if t then r ∷ lane l older else lane l older) k) e.0 h) [ inl s ↦ inl (e.1, s) | inr s ↦ inr s ]
  | inr e ↦ inr (subst (λ (t : Bool). HasOld o f (if t then r ∷ lane l older else lane l older) k) e.0 h)
]

old_older : (o f l m : ℕ) (r : UndoRecord) (older : List (ℕ × UndoRecord)) (k : OldValue) → HasOld o f (lane l older) k → HasOld o f (lane l ((m, r) ∷ older)) k
old_older o f l m r older k h = elim (m == l) as (λ t. HasOld o f (if t then r ∷ lane l older else lane l older) k) [ true ↦ inr h | false ↦ h ]

old_now : (o f m : ℕ) (r : UndoRecord) (older : List (ℕ × UndoRecord)) (k : OldValue) → IsOld o f (lane m older) r k → HasOld o f (lane m ((m, r) ∷ older)) k
old_now o f m r older k h = subst (λ (t : Bool). HasOld o f (if t then r ∷ lane m older else lane m older) k) (sym (eq-eqb m m refl)) (inl h)

place_at : (o f : ℕ) (r : UndoRecord) (xs : List UndoRecord) (k : OldValue) → IsOld o f xs r k → k.place ≡ length xs
place_at o f (Put g before) xs k h = h.2
place_at o f (Acq p n) xs k h = absurd h
place_at o f (Rel p n) xs k h = absurd h
place_at o f (WaitRel p n) xs k h = absurd h

place_in : (o f : ℕ) (xs : List UndoRecord) (k : OldValue) → HasOld o f xs k → k.place < length xs
place_in o f [] k h = absurd h
place_in o f (r ∷ xs) k (inl h) = omega (arith, place_at o f r xs k h)
place_in o f (r ∷ xs) k (inr h) = omega (arith, place_in o f xs k h)

abbrev number_of : Option Lane → ℕ
number_of None = 0
number_of (Some l) = l.0

one_lane : (l m : ℕ) → (let a : Option Lane = Some (record { 0 = l }) in let b : Option Lane = Some (record { 0 = m }) in a ≡ b) → l ≡ m
one_lane l m e = ap number_of e

-- the lane knows since which number it holds what it holds
module _ (need : ℕ → Option ObjectId) (guard : ℕ → ℕ) (agree : (f : ℕ) (o : ObjectId) → need f ≡ Some o → guard f ≡ o.0) (first : ℕ → ℕ) (lanes : ℕ → List UndoRecord) where
  -- a lane that may store to a field holds its guard
  may_hold : (f m : ℕ) (older : List (ℕ × UndoRecord)) → MayStore (need f) older m → holder (guard f) older ≡ Some (record { 0 = m })
  may_hold f m older may = by (need f) refl may
    where
      by : (w : Option ObjectId) → need f ≡ w → MayStore w older m → holder (guard f) older ≡ Some (record { 0 = m })
      by None is may = absurd may
      by (Some o) is may = ap (λ (i : ℕ). holder i older) (agree f o is) ∙ may

  -- and logs keep the field's stores
  may_need : (f m : ℕ) (older : List (ℕ × UndoRecord)) → MayStore (need f) older m → (o : ObjectId) × (need f ≡ Some o)
  may_need f m older may = by (need f) refl may
    where
      by : (w : Option ObjectId) → need f ≡ w → MayStore w older m → (o : ObjectId) × (need f ≡ Some o)
      by None is may = absurd may
      by (Some o) is may = (o, is)

  -- a record that says nothing of the object
  passes : (o l m : ℕ) (r : UndoRecord) (older : List (ℕ × UndoRecord)) (v : Option ℕ) → held_since o (r ∷ lane l older) ≡ held_since o (lane l older) → held_since o (lane l older) ≡ v → held_since o (lane l ((m, r) ∷ older)) ≡ v
  passes o l m r older v same is = elim (m == l) as (λ t. held_since o (if t then r ∷ lane l older else lane l older) ≡ v) [ true ↦ same ∙ is | false ↦ is ]

  -- the object's number, the lane having freed another
  freed_other : (o p n l m : ℕ) (r : UndoRecord) (older : List (ℕ × UndoRecord)) → ((p == o) ≡ false → held_since o (r ∷ lane l older) ≡ held_since o (lane l older)) →
      (holder o older ≡ Some (record { 0 = l }) → held_since o (lane l older) ≡ Some (number first o older)) → (if p == o then None else holder o older) ≡ Some (record { 0 = l }) →
      held_since o (lane l ((m, r) ∷ older)) ≡ Some (if p == o then n + 1 else number first o older)
  freed_other o p n l m r older other knows h = elim (eqb_tells p o) [
    | inl e ↦ let h1 = subst (λ (t : Bool). (if t then None else holder o older) ≡ Some (record { 0 = l })) e.0 h in absurd cc
    | inr e ↦ subst (λ (t : Bool). held_since o (lane l ((m, r) ∷ older)) ≡ Some (if t then n + 1 else number first o older)) (sym e.0)
        (passes o l m r older (Some (number first o older)) (other e.0) (knows (subst (λ (t : Bool). (if t then None else holder o older) ≡ Some (record { 0 = l })) e.0 h)))
  ]

  holder_knows : (done : List (ℕ × UndoRecord)) (o l : ℕ) → IsGreedy need first lanes done → holder o done ≡ Some (record { 0 = l }) → held_since o (lane l done) ≡ Some (number first o done)
  holder_knows [] o l greedy h = absurd cc
  holder_knows ((m, Acq p n) ∷ older) o l greedy h = elim (eqb_tells p.0 o) [
    | inl e ↦
        let same : m ≡ l = one_lane m l (subst (λ (t : Bool). (if t then Some (record { 0 = m }) else holder o older) ≡ Some (record { 0 = l })) e.0 h) in
        let at : n ≡ number first o older = sym greedy.1.allowed.1 ∙ ap (λ (k : ℕ). number first k older) e.1 in
        subst (λ (t : Bool). held_since o (if t then Acq p n ∷ lane l older else lane l older) ≡ Some (number first o older)) (sym (eq-eqb m l same))
        (ap (λ (t : Bool). if t then Some n else held_since o (lane l older)) e.0 ∙ ap (λ (k : ℕ). Some k) at)
    | inr e ↦ passes o l m (Acq p n) older (Some (number first o older)) (ap (λ (t : Bool). if t then Some n else held_since o (lane l older)) e.0)
        (holder_knows older o l greedy.0 (subst (λ (t : Bool). (if t then Some (record { 0 = m }) else holder o older) ≡ Some (record { 0 = l })) e.0 h))
  ]
  holder_knows ((m, Rel p n) ∷ older) o l greedy h = freed_other o p.0 n l m (Rel p n) older (λ e. ap (λ (t : Bool). if t then None else held_since o (lane l older)) e) (holder_knows older o l greedy.0) h
  holder_knows ((m, WaitRel p n) ∷ older) o l greedy h = freed_other o p.0 n l m (WaitRel p n) older (λ e. ap (λ (t : Bool). if t then None else held_since o (lane l older)) e) (holder_knows older o l greedy.0) h
  holder_knows ((m, Put g before) ∷ older) o l greedy h = passes o l m (Put g before) older (Some (number first o older)) refl (holder_knows older o l greedy.0 h)

  -- the hold in which this lane stored is over, or is the one that lasts
  abbrev IsPast : (o l : ℕ) → OldValue → List (ℕ × UndoRecord) → Type 0
  IsPast o l k done = (k.number < number first o done) ⊎ ((k.number ≡ number first o done) × (holder o done ≡ Some (record { 0 = l })))

  past_freed : (o p n l : ℕ) (k : OldValue) (older : List (ℕ × UndoRecord)) → number first p older ≡ n → IsPast o l k older →
      (k.number < (if p == o then n + 1 else number first o older)) ⊎ ((k.number ≡ (if p == o then n + 1 else number first o older)) × ((if p == o then None else holder o older) ≡ Some (record { 0 = l })))
  past_freed o p n l k older at past = elim (eqb_tells p o) [
    | inl e ↦
        let same : number first p older ≡ number first o older = ap (λ (i : ℕ). number first i older) e.1 in
        let upto : k.number ≤ number first o older = elim past [ inl lt ↦ omega arith | inr now ↦ omega (arith, now.0) ] in
        inl (subst (λ (t : Bool). k.number < (if t then n + 1 else number first o older)) (sym e.0) (omega arith))
    | inr e ↦ subst (λ (t : Bool). (k.number < (if t then n + 1 else number first o older)) ⊎ ((k.number ≡ (if t then n + 1 else number first o older)) × ((if t then None else holder o older) ≡ Some (record { 0 = l })))) (sym e.0) past
  ]

  -- what the newest record tells of a store
  newest : (f m : ℕ) (r : UndoRecord) (older : List (ℕ × UndoRecord)) (k : OldValue) → IsGreedy need first lanes older → IsAllowed need first older m r → IsOld (guard f) f (lane m older) r k →
      (k.number ≡ number first (guard f) older) × (holder (guard f) older ≡ Some (record { 0 = m }))
  newest f m (Acq p n) older k greedy allowed h = absurd h
  newest f m (Rel p n) older k greedy allowed h = absurd h
  newest f m (WaitRel p n) older k greedy allowed h = absurd h
  newest f m (Put g before) older k greedy allowed h =
      let holds : holder (guard f) older ≡ Some (record { 0 = m }) = ap (λ (i : ℕ). holder (guard i) older) (sym h.0) ∙ may_hold g.0 m older allowed in
      let knows = holder_knows older (guard f) m greedy holds in
      let told : held_since (guard f) (lane m older) ≡ Some k.number = h.1 in
      let both : (let a : Option ℕ = Some k.number in let b : Option ℕ = Some (number first (guard f) older) in a ≡ b) = sym told ∙ knows in
      (cc, holds)

  stores_past : (done : List (ℕ × UndoRecord)) (f l : ℕ) (k : OldValue) → IsGreedy need first lanes done → HasOld (guard f) f (lane l done) k → IsPast (guard f) l k done
  stores_past [] f l k greedy h = absurd h
  stores_past ((m, Acq p n) ∷ older) f l k greedy h = elim (old_cons (guard f) f l m (Acq p n) older k h) [
    | inl i ↦ absurd i.1
    | inr i ↦ elim (stores_past older f l k greedy.0 i) [
      | inl lt ↦ inl lt
      | inr now ↦ elim (eqb_tells p.0 (guard f)) [
        | inl e ↦ let free : holder (guard f) older ≡ None = ap (λ (j : ℕ). holder j older) (sym e.1) ∙ greedy.1.allowed.0 in let held = now.1 in absurd cc
        | inr e ↦ inr (now.0, ap (λ (t : Bool). if t then Some (record { 0 = m }) else holder (guard f) older) e.0 ∙ now.1)
      ]
    ]
  ]
  stores_past ((m, Rel p n) ∷ older) f l k greedy h = elim (old_cons (guard f) f l m (Rel p n) older k h) [
    | inl i ↦ absurd i.1
    | inr i ↦ past_freed (guard f) p.0 n l k older greedy.1.allowed.1 (stores_past older f l k greedy.0 i)
  ]
  stores_past ((m, WaitRel p n) ∷ older) f l k greedy h = elim (old_cons (guard f) f l m (WaitRel p n) older k h) [
    | inl i ↦ absurd i.1
    | inr i ↦ past_freed (guard f) p.0 n l k older greedy.1.allowed.1 (stores_past older f l k greedy.0 i)
  ]
  stores_past ((m, Put g before) ∷ older) f l k greedy h = elim (old_cons (guard f) f l m (Put g before) older k h) [
    | inl i ↦
        let here = newest f m (Put g before) older k greedy.0 greedy.1.allowed (subst (λ (j : ℕ). IsOld (guard f) f (lane j older) (Put g before) k) (sym i.0) i.1) in
        inr (here.0, here.1 ∙ ap (λ (j : ℕ). Some (record { 0 = j })) i.0)
    | inr i ↦ stores_past older f l k greedy.0 i
  ]

  -- a lane stored to a field only where logs keep its stores
  stores_need : (done : List (ℕ × UndoRecord)) (f l : ℕ) (k : OldValue) → IsGreedy need first lanes done → HasOld (guard f) f (lane l done) k → (o : ObjectId) × (need f ≡ Some o)
  stores_need [] f l k greedy h = absurd h
  stores_need ((m, Acq p n) ∷ older) f l k greedy h = elim (old_cons (guard f) f l m (Acq p n) older k h) [ inl i ↦ absurd i.1 | inr i ↦ stores_need older f l k greedy.0 i ]
  stores_need ((m, Rel p n) ∷ older) f l k greedy h = elim (old_cons (guard f) f l m (Rel p n) older k h) [ inl i ↦ absurd i.1 | inr i ↦ stores_need older f l k greedy.0 i ]
  stores_need ((m, WaitRel p n) ∷ older) f l k greedy h = elim (old_cons (guard f) f l m (WaitRel p n) older k h) [ inl i ↦ absurd i.1 | inr i ↦ stores_need older f l k greedy.0 i ]
  stores_need ((m, Put g before) ∷ older) f l k greedy h = elim (old_cons (guard f) f l m (Put g before) older k h) [
    | inl i ↦ let found = may_need g.0 m older greedy.1.allowed in (found.0, ap need (sym i.1.0) ∙ found.1)
    | inr i ↦ stores_need older f l k greedy.0 i
  ]

  -- an older store is no later than the newest record's
  before_newest : (f l m : ℕ) (r : UndoRecord) (older : List (ℕ × UndoRecord)) (k j : OldValue) → IsGreedy need first lanes older → IsAllowed need first older m r →
      HasOld (guard f) f (lane l older) k → IsOld (guard f) f (lane m older) r j → IsNoLater l k m j
  before_newest f l m r older k j greedy allowed had new =
      let here = newest f m r older j greedy allowed new in
      elim (stores_past older f l k greedy had) [
        | inl lt ↦ inl (omega (arith, here.0))
        | inr now ↦
            let same : l ≡ m = one_lane l m (sym now.1 ∙ here.1) in
            let long : length (lane l older) ≡ length (lane m older) = ap (λ (i : ℕ). length (lane i older)) same in
            inr (now.0 ∙ sym here.0, same, omega (arith, place_in (guard f) f (lane l older) k had, place_at (guard f) f r (lane m older) j new))
      ]

  -- what is the value before the first of the field's stores that isn't settled, if it has one
  abbrev IsFirst : (settled : ℕ → ℕ) (f : ℕ) → List (ℕ × UndoRecord) → Option ℕ → Type 0
  IsFirst settled f done None = (l : ℕ) (k : OldValue) → HasOld (guard f) f (lane l done) k → IsUnsettled settled l k → ⊥
  IsFirst settled f done (Some v) = TakesBack (guard f) f (λ l. lane l done) (IsUnsettled settled) (λ w. ⊥) v

  -- with one more record that is no such store
  none_more : (settled : ℕ → ℕ) (f m : ℕ) (r : UndoRecord) (older : List (ℕ × UndoRecord)) → IsFirst settled f older None → ((k : OldValue) → IsOld (guard f) f (lane m older) r k → settled m ≤ length (lane m older) → ⊥) →
      IsFirst settled f ((m, r) ∷ older) None
  none_more settled f m r older none other l k h out = elim (old_cons (guard f) f l m r older k h) [
    | inl a ↦
        let new : IsOld (guard f) f (lane m older) r k = subst (λ (i : ℕ). IsOld (guard f) f (lane i older) r k) (sym a.0) a.1 in
        let here : settled m ≤ k.place = subst (λ (i : ℕ). settled i ≤ k.place) (sym a.0) out in
        other k new (omega (arith, place_at (guard f) f r (lane m older) k new))
    | inr a ↦ none l k a out
  ]

  -- with one more that is the first
  some_more : (settled : ℕ → ℕ) (f m before : ℕ) (g : FieldId) (older : List (ℕ × UndoRecord)) → IsGreedy need first lanes older → IsAllowed need first older m (Put g before) → g.0 ≡ f → settled m ≤ length (lane m older) →
      IsFirst settled f older None → IsFirst settled f ((m, Put g before) ∷ older) (Some before)
  some_more settled f m before g older greedy allowed is_field late none =
      let new : OldValue = record { number = number first (guard f) older; place = length (lane m older); section = ended (map undo_action (lane m older)) + 1; before = before } in
      let holds : holder (guard f) older ≡ Some (record { 0 = m }) = ap (λ (i : ℕ). holder (guard i) older) (sym is_field) ∙ may_hold g.0 m older allowed in
      FirstBack m new (old_now (guard f) f m (Put g before) older new (is_field, holder_knows older (guard f) m greedy holds, refl, refl, refl)) late refl
      (λ n j h out. elim (old_cons (guard f) f n m (Put g before) older j h) [
        | inl a ↦
            let same : IsOld (guard f) f (lane m older) (Put g before) j = subst (λ (i : ℕ). IsOld (guard f) f (lane i older) (Put g before) j) (sym a.0) a.1 in
            let here = newest f m (Put g before) older j greedy allowed same in
            inr (sym here.0, a.0, omega (arith, place_at (guard f) f (Put g before) (lane m older) j same))
        | inr a ↦ absurd (none n j a out)
      ])

  -- with one more past the place up to which its lane is settled
  late_more : (settled : ℕ → ℕ) (f m : ℕ) (r : UndoRecord) (older : List (ℕ × UndoRecord)) → IsGreedy need first lanes older → IsAllowed need first older m r → settled m ≤ length (lane m older) →
      IsFirst settled f older None → IsFirst settled f ((m, r) ∷ older) (stored f r)
  late_more settled f m (Acq p n) older greedy allowed late none = none_more settled f m (Acq p n) older none (λ k h le. h)
  late_more settled f m (Rel p n) older greedy allowed late none = none_more settled f m (Rel p n) older none (λ k h le. h)
  late_more settled f m (WaitRel p n) older greedy allowed late none = none_more settled f m (WaitRel p n) older none (λ k h le. h)
  late_more settled f m (Put g before) older greedy allowed late none = elim (eqb_tells g.0 f) [
    | inl e ↦ subst (λ (t : Bool). IsFirst settled f ((m, Put g before) ∷ older) (if t then Some before else None)) (sym e.0) (some_more settled f m before g older greedy allowed e.1 late none)
    | inr e ↦ subst (λ (t : Bool). IsFirst settled f ((m, Put g before) ∷ older) (if t then Some before else None)) (sym e.0) (none_more settled f m (Put g before) older none (λ k h le. e.1 h.0))
  ]

  first_more : (settled : ℕ → ℕ) (f m : ℕ) (r : UndoRecord) (older : List (ℕ × UndoRecord)) (w : Option ℕ) → IsGreedy need first lanes older → IsAllowed need first older m r → IsFirst settled f older w →
      IsFirst settled f ((m, r) ∷ older) (earlier w (if nat_le (settled m) (length (lane m older)) then stored f r else None))
  first_more settled f m r older None greedy allowed none = elim (leb_tells (settled m) (length (lane m older))) [
    | inl e ↦ subst (λ (t : Bool). IsFirst settled f ((m, r) ∷ older) (if t then stored f r else None)) (sym e.0) (late_more settled f m r older greedy allowed e.1 none)
    | inr e ↦ subst (λ (t : Bool). IsFirst settled f ((m, r) ∷ older) (if t then stored f r else None)) (sym e.0) (none_more settled f m r older none (λ k h le. absurd (omega (arith, e.1))))
  ]
  first_more settled f m r older (Some v) greedy allowed (NothingBack none home) = absurd home
  first_more settled f m r older (Some v) greedy allowed (FirstBack l k h out is least) = FirstBack l k (old_older (guard f) f l m r older k h) out is
      (λ n j had outj. elim (old_cons (guard f) f n m r older j had) [
        | inl a ↦ subst (λ (i : ℕ). IsNoLater l k i j) a.0 (before_newest f l m r older k j greedy allowed h (subst (λ (i : ℕ). IsOld (guard f) f (lane i older) r j) (sym a.0) a.1))
        | inr a ↦ least n j a outj
      ])

  -- a replay meets the first such store first
  first_is : (settled : ℕ → ℕ) (f : ℕ) (done : List (ℕ × UndoRecord)) → IsGreedy need first lanes done → IsFirst settled f done (first_old settled f done)
  first_is settled f [] greedy = λ l k h out. h
  first_is settled f ((m, r) ∷ older) greedy = first_more settled f m r older (first_old settled f older) greedy.0 greedy.1.allowed (first_is settled f older greedy.0)

-- what the walk finds is what the field takes back
pub takes_back : (need : ℕ → Option ObjectId) (guard : ℕ → ℕ) (agree : (f : ℕ) (o : ObjectId) → need f ≡ Some o → guard f ≡ o.0) (settled : ℕ → ℕ) (lanes : ℕ → List UndoRecord) (done : List (ℕ × UndoRecord)) (f v : ℕ) (IsHome : ℕ → Type 0) → Replays need lanes done → IsOldOrHome (first_old settled f done) IsHome v →
    TakesBack (guard f) f lanes (IsUnsettled settled) IsHome v
takes_back need guard agree settled lanes done f v IsHome replays is = by_first (first_old settled f done) (first_is need guard agree replays.replay.first lanes settled f done replays.replay.greedy) is
  where
    by_first : (w : Option ℕ) → IsFirst need guard agree replays.replay.first lanes settled f done w → IsOldOrHome w IsHome v → TakesBack (guard f) f lanes (IsUnsettled settled) IsHome v
    by_first None none home = NothingBack (λ l k h out. none l k (subst (λ (xs : List UndoRecord). HasOld (guard f) f xs k) (replays.all l) h) out) home
    by_first (Some b) (NothingBack none home) same = absurd home
    by_first (Some b) (FirstBack l k h out e least) same = FirstBack l k (subst (λ (xs : List UndoRecord). HasOld (guard f) f xs k) (sym (replays.all l)) h) out (same ∙ e)
        (λ m j had outj. least m j (subst (λ (xs : List UndoRecord). HasOld (guard f) f xs j) (replays.all m) had) outj)

-- the fields for which it finds something are those with such a store
pub undone_is : (need : ℕ → Option ObjectId) (guard : ℕ → ℕ) (agree : (f : ℕ) (o : ObjectId) → need f ≡ Some o → guard f ≡ o.0) (settled : ℕ → ℕ) (lanes : ℕ → List UndoRecord) (done : List (ℕ × UndoRecord)) (f : ℕ) → Replays need lanes done → (first_old settled f done ≢ None) ↔ IsUndone (guard f) f lanes settled
undone_is need guard agree settled lanes done f replays =
    let is = first_is need guard agree replays.replay.first lanes settled f done replays.replay.greedy in (
      (λ some. by_some (first_old settled f done) is some),
      (λ undone none. by_none (first_old settled f done) is none undone),
    )
  where
    by_some : (w : Option ℕ) → IsFirst need guard agree replays.replay.first lanes settled f done w → w ≢ None → IsUndone (guard f) f lanes settled
    by_some None none some = absurd (some refl)
    by_some (Some b) (NothingBack none home) some = absurd home
    by_some (Some b) (FirstBack l k h out e least) some = record { lane = l; store = k; had = subst (λ (xs : List UndoRecord). HasOld (guard f) f xs k) (sym (replays.all l)) h; out = out }

    by_none : (w : Option ℕ) → IsFirst need guard agree replays.replay.first lanes settled f done w → w ≡ None → IsUndone (guard f) f lanes settled → ⊥
    by_none None none e undone = none undone.lane undone.store (subst (λ (xs : List UndoRecord). HasOld (guard f) f xs undone.store) (replays.all undone.lane) undone.had) undone.out
    by_none (Some b) is e undone = absurd cc

-- only fields whose stores logs keep have stores in the lanes of a replay
pub stored_needs : (need : ℕ → Option ObjectId) (guard : ℕ → ℕ) (agree : (f : ℕ) (o : ObjectId) → need f ≡ Some o → guard f ≡ o.0) (lanes : ℕ → List UndoRecord) (done : List (ℕ × UndoRecord)) (f l : ℕ) (k : OldValue) → Replays need lanes done →
    HasOld (guard f) f (lanes l) k → (o : ObjectId) × (need f ≡ Some o)
stored_needs need guard agree lanes done f l k replays h = stores_need need guard agree replays.replay.first lanes done f l k replays.replay.greedy (subst (λ (xs : List UndoRecord). HasOld (guard f) f xs k) (replays.all l) h)

-- a list of fields with one more behind
rises_more : (ns : List ℕ) (i : ℕ) → IsStrictlyIncreasing ns → ((k : ℕ) → k < length ns → slice_index ns k < i) → IsStrictlyIncreasing (ns ++ i ∷ [])
rises_more ns i rising below k lt = elim (cases_lt (k + 1) (length ns)) [
  | inl low ↦ omega (arith, rising k low, get_or_append_left ns (i ∷ []) 0 k (omega arith), get_or_append_left ns (i ∷ []) 0 (k + 1) low)
  | inr le ↦
      let long : length (ns ++ i ∷ []) ≡ length ns + 1 = length-append ns (i ∷ []) in
      let last : k + 1 ≡ length ns = omega arith in
      let here : slice_index (ns ++ i ∷ []) (k + 1) ≡ i = ap (slice_index (ns ++ i ∷ [])) last ∙ get_or-append_seam ns i [] 0 in
      omega (arith, here, below k (omega arith), get_or_append_left ns (i ∷ []) 0 k (omega arith))
]

-- the fields below i that are such, with i if it is one
pub fields_next : (P : ℕ → Type 0) (i : ℕ) (xs ys : List FieldId) → AreFields (λ (f : ℕ). (f < i) × P f) xs → (P i × (ys ≡ xs ++ record { 0 = i } ∷ [])) ⊎ ((P i → ⊥) × (ys ≡ xs)) → AreFields (λ (f : ℕ). (f < i + 1) × P f) ys
fields_next P i xs ys are (inr isnt) = subst (AreFields (λ (f : ℕ). (f < i + 1) × P f)) (sym isnt.1) (record {
  rising = are.rising;
  each = λ f. (
    (λ h. let in_it = (are.each f).0 h in (omega (arith, in_it.0), in_it.1)),
    (λ h. elim (cases_eq f.0 i) [
      | inl e ↦ absurd (isnt.0 (subst P e h.1))
      | inr ne ↦ (are.each f).1 (omega (arith, h.0), h.1)
    ]),
  );
})
fields_next P i xs ys are (inl is) = subst (AreFields (λ (f : ℕ). (f < i + 1) × P f)) (sym is.1) (record {
  rising = subst IsStrictlyIncreasing (sym (map-append (λ (f : FieldId). f.0) xs (new ∷ []))) (rises_more (map (λ (f : FieldId). f.0) xs) i are.rising
      (λ k lt.
      let low : k < length xs = omega (arith, length-map {A = FieldId} {B = ℕ} xs (λ (f : FieldId). f.0)) in
      let at : slice_index (map (λ (f : FieldId). f.0) xs) k ≡ (get_or xs k new).0 = get_or-map (λ (f : FieldId). f.0) xs k new 0 low in
      let in_it : Contains xs (get_or xs k new) = (k, low, get_or_default xs k low) in
      omega (arith, at, ((are.each (get_or xs k new)).0 in_it).0)));
  each = λ f. (
    (λ h. elim (Contains-push_cases xs new f h) [
      | inl in_it ↦ let was = (are.each f).0 in_it in (omega (arith, was.0), was.1)
      | inr e ↦ let same : i ≡ f.0 = ap (λ (g : FieldId). g.0) e in (omega (arith, same), subst P same is.0)
    ]),
    (λ h. elim (cases_eq f.0 i) [
      | inl e ↦ subst (Contains (xs ++ new ∷ [])) (λ j. record { 0 = sym e j }) (Contains-push xs new)
      | inr ne ↦ Contains-append_left xs (new ∷ []) f ((are.each f).1 (omega (arith, h.0), h.1))
    ]),
  );
})
  where
    new : FieldId
    new = record { 0 = i }

    get_or_default : (zs : List FieldId) (k : ℕ) → k < length zs → get_or zs k (get_or zs k new) ≡ get_or zs k new
    get_or_default [] k lt = absurd (omega arith)
    get_or_default (z ∷ zs) zero lt = refl
    get_or_default (z ∷ zs) (suc k) lt = get_or_default zs k (omega arith)

pub fields_as : (P Q : ℕ → Type 0) (xs : List FieldId) → ((f : ℕ) → P f ↔ Q f) → AreFields P xs → AreFields Q xs
fields_as P Q xs same are = record { rising = are.rising; each = λ f. ((λ h. (same f.0).0 ((are.each f).0 h)), (λ h. (are.each f).1 ((same f.0).1 h))) }

-- what is kept of a field, with one more record
kept_or_not : {A : Type 0} (place settled : ℕ) (is_settled : Bool) (x y : A) → is_settled ≡ nat_lt place settled → (if is_settled then y else x) ≡ (if nat_le settled place then x else y)
kept_or_not {A} place settled is_settled x y is = elim (cases_lt place settled) [
  | inl lt ↦ ap (λ (t : Bool). if t then y else x) (is ∙ lt-ltb place settled lt) ∙ sym (ap (λ (t : Bool). if t then x else y) (lt-leb settled place lt))
  | inr le ↦ ap (λ (t : Bool). if t then y else x) (is ∙ le-ltb place settled le) ∙ sym (ap (λ (t : Bool). if t then x else y) (le-leb settled place le))
]

pub old_more : (settled : ℕ → ℕ) (done : List (ℕ × UndoRecord)) (l f : ℕ) (r : UndoRecord) (old new : Option ℕ) (is_settled : Bool) → old ≡ first_old settled f done → is_settled ≡ nat_lt (length (lane l done)) (settled l) →
    new ≡ earlier old (if is_settled then None else stored f r) → new ≡ first_old settled f ((l, r) ∷ done)
old_more settled done l f r old new is_settled was is now =
    now ∙ ap (λ (w : Option ℕ). earlier w (if is_settled then None else stored f r)) was ∙ ap (earlier (first_old settled f done)) (kept_or_not (length (lane l done)) (settled l) is_settled (stored f r) None is)

-- what a slice of the whole list writes back
pub written_back : {A : Type 0} (xs ys : List A) (n : ℕ) → length xs ≡ n → take n (xs ++ drop (length xs) ys) ≡ xs
written_back xs ys n long = ap (λ (k : ℕ). take k (xs ++ drop (length xs) ys)) (sym long) ∙ take-append_seam xs (drop (length xs) ys)
