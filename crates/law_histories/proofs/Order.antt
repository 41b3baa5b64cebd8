-- The stores to one field are ordered by its guard's numbers, so lanes tell which is the last.
use Rattle.std.proofs.Common.{ℕ, ◌≡◌, ◌+◌, ◌<◌, ◌≤◌, ◌⊎◌, ◌==◌, if◌then◌else◌, List, [], ◌∷◌, length, map, Some, None, refl, sym, ap, ◌∙◌, subst, inl, inr, arith, nat_lt}
use Rattle.std.proofs.lemmas.Bool.Decides.{eqb_tells}
use Rattle.std.proofs.lemmas.Bool.{cond_both, eqb-true, eqb-false, ltb-true, ltb-false}
use Rattle.heap_model.specs.declared.ids.FieldId.{FieldId}
use Rattle.heap_model.specs.declared.record.Record.{Record}
use Rattle.heap_model.specs.declared.record.Record.TheVariants.{Acq, Rel, WaitRel, Put}
use Rattle.law_cuts.proofs.Lanes.{ended_in_lane}
use Rattle.heap_model.specs.Setting.{Setting}
use Rattle.heap_model.specs.Log.{lane, holder, number, IsLegal}
use Rattle.heap_model.specs.Sections.{action, actions, ended}
use Rattle.heap_model.specs.KeptHeap.{kept_value}
use Rattle.law_cuts.proofs.Stores.{under, Mark, IsStore, HasStore, place_below, same_place, has_cons, has_older, holder_knows, lane_same}

-- Number n was passed, or the lane holds the object under it.
abbrev pub IsPast : List (ℕ × Record) → ℕ → ℕ → ℕ → Type 0
IsPast log o l n = (n < number o log) ⊎ ((n ≡ number o log) × (holder o log ≡ Some l))

-- A release passes the number, and other records leave it past.
past_freed : (older : List (ℕ × Record)) (o l k : ℕ) (p n : ℕ) → (number p older ≡ n) → IsPast older o l k →
    (k < (if p == o then n + 1 else number o older)) ⊎ ((k ≡ (if p == o then n + 1 else number o older)) × ((if p == o then None else holder o older) ≡ Some l))
past_freed older o l k p n e h = elim (eqb_tells p o) [
  | inl t ↦ inl (subst (λ b. k < (if b then n + 1 else number o older)) (sym t.0)
      (let same : number o older ≡ n = ap (λ x. number x older) (sym t.1) ∙ e in
      elim h [ inl a ↦ omega arith | inr a ↦ omega (arith, a.0) ]))
  | inr t ↦ subst (λ b. (k < (if b then n + 1 else number o older)) ⊎ ((k ≡ (if b then n + 1 else number o older)) × ((if b then None else holder o older) ≡ Some l))) (sym t.0) h
]

past_taken : (older : List (ℕ × Record)) (o l k m p : ℕ) → (holder p older ≡ None) → IsPast older o l k →
    (k < number o older) ⊎ ((k ≡ number o older) × ((if p == o then Some m else holder o older) ≡ Some l))
past_taken older o l k m p e (inl h) = inl h
past_taken older o l k m p e (inr h) = elim (eqb_tells p o) [
  | inl t ↦ let free : holder o older ≡ None = ap (λ x. holder x older) (sym t.1) ∙ e in
      let held_by : holder o older ≡ Some l = h.1 in cc
  | inr t ↦ inr (h.0, ap (λ b. if b then Some m else holder o older) t.0 ∙ h.1)
]

-- A store's number is past.
pub stores_past : (s : Setting) (log : List (ℕ × Record)) (f l : ℕ) (k : Mark) → IsLegal s log → HasStore (s.guard f) f (lane l log) k → IsPast log (s.guard f) l k.number
stores_past s [] f l k legal h = elim h [ ]
stores_past s ((m, Acq p n) ∷ older) f l k legal h = elim (has_cons (s.guard f) f l m (Acq p n) older k h) [
  | inl i ↦ elim i.1 [ ]
  | inr i ↦ past_taken older (s.guard f) l k.number m p.0 legal.1.0 (stores_past s older f l k legal.0 i)
]
stores_past s ((m, Rel p n) ∷ older) f l k legal h = elim (has_cons (s.guard f) f l m (Rel p n) older k h) [
  | inl i ↦ elim i.1 [ ]
  | inr i ↦ past_freed older (s.guard f) l k.number p.0 n legal.1.1 (stores_past s older f l k legal.0 i)
]
stores_past s ((m, WaitRel p n) ∷ older) f l k legal h = elim (has_cons (s.guard f) f l m (WaitRel p n) older k h) [
  | inl i ↦ elim i.1 [ ]
  | inr i ↦ past_freed older (s.guard f) l k.number p.0 n legal.1.1 (stores_past s older f l k legal.0 i)
]
stores_past s ((m, Put g before after) ∷ older) f l k legal h = elim (has_cons (s.guard f) f l m (Put g before after) older k h) [
  | inl i ↦
      let mine : holder (s.guard f) older ≡ Some l = ap (λ x. holder (s.guard x) older) (sym i.1.0) ∙ legal.1.0 ∙ ap Some i.0 in
      let known : under (s.guard f) (lane l older) ≡ Some (number (s.guard f) older) = holder_knows s older (s.guard f) l legal.0 mine in
      let told : under (s.guard f) (lane l older) ≡ Some k.number = i.1.1 in
      inr (cc, mine)
  | inr i ↦ stores_past s older f l k legal.0 i
]

-- the store j of lane m is no later than k of lane l
abbrev pub IsNoLater : ℕ → Mark → ℕ → Mark → Type 0
IsNoLater m j l k = (j.number < k.number) ⊎ ((j.number ≡ k.number) × (m ≡ l) × (j.place ≤ k.place))

-- The value is that of the last store of the cut, or the first where there is none.
pub data IsLast (o f : ℕ) (lanes : ℕ → List Record) (cut : ℕ → ℕ) (first v : ℕ) : Type 0 where
  None_kept : ((l : ℕ) (k : Mark) → HasStore o f (lanes l) k → k.section ≤ cut l → ⊥) → v ≡ first → IsLast o f lanes cut first v
  Last_kept : (l : ℕ) (k : Mark) → HasStore o f (lanes l) k → k.section ≤ cut l → v ≡ k.value →
      ((m : ℕ) (j : Mark) → HasStore o f (lanes m) j → j.section ≤ cut m → IsNoLater m j l k) → IsLast o f lanes cut first v

-- It depends on the stores of the cut alone.
pub last_elsewhere : (o f : ℕ) (lanes others : ℕ → List Record) (cut : ℕ → ℕ) (first v : ℕ) →
    ((l : ℕ) (k : Mark) → HasStore o f (lanes l) k → k.section ≤ cut l → HasStore o f (others l) k) →
    ((l : ℕ) (k : Mark) → HasStore o f (others l) k → k.section ≤ cut l → HasStore o f (lanes l) k) →
    IsLast o f lanes cut first v → IsLast o f others cut first v
last_elsewhere o f lanes others cut first v there back (None_kept none e) = None_kept (λ l k h le. none l k (back l k h le) le) e
last_elsewhere o f lanes others cut first v there back (Last_kept l k h le e last) =
    Last_kept l k (there l k h le) le e (λ m j i lej. last m j (back m j i lej) lej)

-- There is one last store.
pub last_once : (o f : ℕ) (lanes : ℕ → List Record) (cut : ℕ → ℕ) (first v w : ℕ) → IsLast o f lanes cut first v → IsLast o f lanes cut first w → v ≡ w
last_once o f lanes cut first v w (None_kept a e) (None_kept b i) = e ∙ sym i
last_once o f lanes cut first v w (None_kept a e) (Last_kept l k h le i last) = absurd (a l k h le)
last_once o f lanes cut first v w (Last_kept l k h le i last) (None_kept a e) = absurd (a l k h le)
last_once o f lanes cut first v w (Last_kept l k h le e last) (Last_kept m j i lej d last_too) =
    elim (last m j i lej) [
      | inl a ↦ elim (last_too l k h le) [ inl b ↦ absurd (omega arith) | inr b ↦ absurd (omega (arith, b.0)) ]
      | inr a ↦ elim (last_too l k h le) [
        | inl b ↦ absurd (omega (arith, a.0))
        | inr b ↦ e ∙ same_place o f (lanes m) k j (subst (λ x. HasStore o f (lanes x) k) b.1 h) i (omega (arith, a.2, b.2)) ∙ sym d
      ]
    ]

-- a record that is no kept store of the field changes nothing
last_skip : (o f : ℕ) (cut : ℕ → ℕ) (first v m : ℕ) (r : Record) (older : List (ℕ × Record)) →
    ((k : Mark) → IsStore o f (lane m older) r k → k.section ≤ cut m → ⊥) →
    IsLast o f (λ l. lane l older) cut first v → IsLast o f (λ l. lane l ((m, r) ∷ older)) cut first v
last_skip o f cut first v m r older other last = last_elsewhere o f (λ l. lane l older) (λ l. lane l ((m, r) ∷ older)) cut first v
    (λ l k h le. has_older o f l m r older k h)
    (λ l k h le. elim (has_cons o f l m r older k h) [
      | inl i ↦ absurd (other k (subst (λ x. IsStore o f (lane x older) r k) (sym i.0) i.1) (subst (λ x. k.section ≤ cut x) (sym i.0) le))
      | inr i ↦ i
    ])
    last

-- A new store of the cut is the last.
put_is_last : (s : Setting) (older : List (ℕ × Record)) (cut : ℕ → ℕ) (f m : ℕ) (g : FieldId) (before after : ℕ) → IsLegal s ((m, Put g before after) ∷ older) →
    g.0 ≡ f → ended (map action (lane m older)) < cut m →
    IsLast (s.guard f) f (λ l. lane l ((m, Put g before after) ∷ older)) cut (s.first f) after
put_is_last s older cut f m g before after legal e lt =
    let mine : holder (s.guard f) older ≡ Some m = ap (λ x. holder (s.guard x) older) (sym e) ∙ legal.1.0 in
    let known : under (s.guard f) (lane m older) ≡ Some (number (s.guard f) older) = holder_knows s older (s.guard f) m legal.0 mine in
    let mark : Mark = record { number = number (s.guard f) older; place = length (lane m older); section = ended (map action (lane m older)) + 1; value = after } in
    let new : IsStore (s.guard f) f (lane m older) (Put g before after) mark = (e, known, refl, refl, refl) in
    Last_kept m mark
    (subst (λ x. HasStore (s.guard f) f x mark) (sym (lane_same m m (Put g before after) older refl)) (inl new))
    (omega arith) refl
    (λ l j h le. elim (has_cons (s.guard f) f l m (Put g before after) older j h) [
      | inl i ↦
          let told : under (s.guard f) (lane l older) ≡ Some j.number = i.1.1 in
          let there : under (s.guard f) (lane l older) ≡ Some (number (s.guard f) older) = subst (λ x. under (s.guard f) (lane x older) ≡ Some (number (s.guard f) older)) i.0 known in
          let place : length (lane l older) ≡ length (lane m older) = ap (λ x. length (lane x older)) (sym i.0) in
          inr (cc, sym i.0, omega (arith, i.1.2))
      | inr i ↦ elim (stores_past s older f l j legal.0 i) [
        | inl p ↦ inl p
        | inr p ↦
            let ml : l ≡ m = let theirs : holder (s.guard f) older ≡ Some l = p.1 in cc in
            let place : length (lane l older) ≡ length (lane m older) = ap (λ x. length (lane x older)) ml in
            inr (p.0, ml, omega (arith, place_below (s.guard f) f (lane l older) j i))
      ]
    ])

-- The value that a cut keeps is that of its last store.
pub kept_is_last : (s : Setting) (log : List (ℕ × Record)) (cut : ℕ → ℕ) (f : ℕ) → IsLegal s log →
    IsLast (s.guard f) f (λ l. lane l log) cut (s.first f) (kept_value s.first cut f log)
kept_is_last s [] cut f legal = None_kept (λ l k h le. elim h [ ]) refl
kept_is_last s ((m, Acq p n) ∷ older) cut f legal = last_skip _ f cut _ _ m (Acq p n) older (λ k h le. elim h [ ]) (kept_is_last s older cut f legal.0)
kept_is_last s ((m, Rel p n) ∷ older) cut f legal = last_skip _ f cut _ _ m (Rel p n) older (λ k h le. elim h [ ]) (kept_is_last s older cut f legal.0)
kept_is_last s ((m, WaitRel p n) ∷ older) cut f legal = last_skip _ f cut _ _ m (WaitRel p n) older (λ k h le. elim h [ ]) (kept_is_last s older cut f legal.0)
kept_is_last s ((m, Put g before after) ∷ older) cut f legal =
    let last : ℕ → Type 0 = IsLast (s.guard f) f (λ l. lane l ((m, Put g before after) ∷ older)) cut (s.first f) in
    let kept : ℕ = kept_value s.first cut f older in
    let section : ℕ = ended (lane m (actions older)) in
    cond_both (g.0 == f) (if nat_lt section (cut m) then after else kept) kept last
    (λ e. cond_both (nat_lt section (cut m)) after kept last
    (λ t. put_is_last s older cut f m g before after legal (eqb-true g.0 f e) (omega (arith, ended_in_lane m older, ltb-true section (cut m) t)))
    (λ t. last_skip _ f cut _ _ m (Put g before after) older (λ k h le. omega (arith, h.3, ended_in_lane m older, ltb-false section (cut m) t)) (kept_is_last s older cut f legal.0)))
    (λ e. last_skip _ f cut _ _ m (Put g before after) older (λ k h le. eqb-false g.0 f e h.0) (kept_is_last s older cut f legal.0))
