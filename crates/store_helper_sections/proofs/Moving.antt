-- Records that are legal behind one list are so behind another that leaves the monitors and the values alike.
use Rattle.std.proofs.Common.{ℕ, ◌≡◌, ◌≢◌, ◌+◌, ◌⊎◌, ◌==◌, if◌then◌else◌, true, false, List, [], ◌∷◌, ◌++◌, Option, Some, None, refl, sym, ap, ◌∙◌, subst, inl, inr}
use Rattle.std.proofs.lemmas.Bool.Decides.{eqb_tells}
use Rattle.heap_model.specs.declared.record.Record.{Record}
use Rattle.heap_model.specs.declared.record.Record.TheVariants.{Acq, Rel, WaitRel, Put}
use Rattle.heap_model.specs.Setting.{Setting}
use Rattle.heap_model.specs.Log.{holder, number, value, awaited, MayFollow, IsAllowed, IsRecordOf, IsLegal}
use Rattle.store_helper_sections.specs.Going.{from_heap}
use Rattle.store_helper_sections.specs.HelperSections.{earlier, first_taken}
use Rattle.store_helper_sections.proofs.Padding.{if_same, if_apart}

-- one of the records takes the object
abbrev pub Takes : (object : ℕ) → List (ℕ × Record) → Type 0
Takes o [] = ⊥
Takes o ((l, Acq p n) ∷ older) = (p.0 ≡ o) ⊎ Takes o older
Takes o ((l, Rel p n) ∷ older) = Takes o older
Takes o ((l, WaitRel p n) ∷ older) = Takes o older
Takes o ((l, Put f before after) ∷ older) = Takes o older

-- what is held behind a list that leaves all free was taken since
held_freed : (o l p : ℕ) (v : Option ℕ) → (if p == o then None else v) ≡ Some l → v ≡ Some l
held_freed o l p v h = elim (eqb_tells p o) [
  | inl e ↦ absurd (let none : None ≡ Some l = sym (if_same p o None v e.1) ∙ h in cc)
  | inr e ↦ sym (if_apart p o None v e.1) ∙ h
]

pub held_took : (o l : ℕ) (records before : List (ℕ × Record)) → holder o before ≡ None → holder o (records ++ before) ≡ Some l → Takes o records
held_took o l [] before free h = absurd (let none : None ≡ Some l = sym free ∙ h in cc)
held_took o l ((m, Acq p n) ∷ older) before free h = elim (eqb_tells p.0 o) [
  | inl e ↦ inl e.1
  | inr e ↦ inr (held_took o l older before free (sym (if_apart p.0 o (Some m) (holder o (older ++ before)) e.1) ∙ h))
]
held_took o l ((m, Rel p n) ∷ older) before free h = held_took o l older before free (held_freed o l p.0 (holder o (older ++ before)) h)
held_took o l ((m, WaitRel p n) ∷ older) before free h = held_took o l older before free (held_freed o l p.0 (holder o (older ++ before)) h)
held_took o l ((m, Put f v w) ∷ older) before free h = held_took o l older before free h

-- The first that takes an object takes it at the number that it has before.
module _ (s : Setting) (before : List (ℕ × Record)) (o : ℕ) (free : holder o before ≡ None) where
  abbrev Untouched : List (ℕ × Record) → Type 0
  Untouched records = (first_taken o records ≡ None) × (holder o (records ++ before) ≡ None) × (number o (records ++ before) ≡ number o before)

  released : (m p n : ℕ) (older : List (ℕ × Record)) → holder p (older ++ before) ≡ Some m → Untouched older →
      (first_taken o older ≡ None) × ((if p == o then None else holder o (older ++ before)) ≡ None) × ((if p == o then n + 1 else number o (older ++ before)) ≡ number o before)
  released m p n older held h = elim (eqb_tells p o) [
    | inl e ↦ absurd (let none : None ≡ Some m = sym h.1 ∙ ap (λ (q : ℕ). holder q (older ++ before)) (sym e.1) ∙ held in cc)
    | inr e ↦ (h.0, if_apart p o None (holder o (older ++ before)) e.1 ∙ h.1, if_apart p o (n + 1) (number o (older ++ before)) e.1 ∙ h.2)
  ]

  pub first_at : (records : List (ℕ × Record)) → IsLegal s (records ++ before) → Untouched records ⊎ (first_taken o records ≡ Some (number o before))
  first_at [] legal = inl (refl, free, refl)
  first_at ((m, Acq p n) ∷ older) legal = elim (first_at older legal.0) [
    | inr h ↦ inr (ap (λ (v : Option ℕ). earlier v (if p.0 == o then Some n else None)) h)
    | inl h ↦ elim (eqb_tells p.0 o) [
      | inl e ↦
          let at : n ≡ number o before = sym legal.1.1 ∙ ap (λ (q : ℕ). number q (older ++ before)) e.1 ∙ h.2 in
          inr (ap (λ (v : Option ℕ). earlier v (if p.0 == o then Some n else None)) h.0 ∙ if_same p.0 o (Some n) None e.1 ∙ ap (λ (i : ℕ). Some i) at)
      | inr e ↦ inl (
        ap (λ (v : Option ℕ). earlier v (if p.0 == o then Some n else None)) h.0 ∙ if_apart p.0 o (Some n) None e.1,
        if_apart p.0 o (Some m) (holder o (older ++ before)) e.1 ∙ h.1,
        h.2,
      )
    ]
  ]
  first_at ((m, Rel p n) ∷ older) legal = elim (first_at older legal.0) [ inr h ↦ inr h | inl h ↦ inl (released m p.0 n older legal.1.0 h) ]
  first_at ((m, WaitRel p n) ∷ older) legal = elim (first_at older legal.0) [ inr h ↦ inr h | inl h ↦ inl (released m p.0 n older legal.1.0 h) ]
  first_at ((m, Put f v w) ∷ older) legal = first_at older legal.0

-- what is taken has a first number
taken_first : (o : ℕ) (records : List (ℕ × Record)) → Takes o records → first_taken o records ≢ None
taken_first o [] h = absurd h
taken_first o ((l, Acq p n) ∷ older) (inl e) = λ none.
    let here : earlier (first_taken o older) (Some n) ≡ None = ap (λ (v : Option ℕ). earlier (first_taken o older) v) (sym (if_same p.0 o (Some n) None e)) ∙ none in
    never (first_taken o older) n here
  where
    never : (v : Option ℕ) (n : ℕ) → earlier v (Some n) ≡ None → ⊥
    never None n is = let no : Some n ≡ None = is in cc
    never (Some m) n is = let no : Some m ≡ None = is in cc
taken_first o ((l, Acq p n) ∷ older) (inr h) = λ none. never (first_taken o older) (if p.0 == o then Some n else None) (taken_first o older h) none
  where
    never : (v w : Option ℕ) → v ≢ None → earlier v w ≡ None → ⊥
    never None w some is = some refl
    never (Some m) w some is = let no : Some m ≡ None = is in cc
taken_first o ((l, Rel p n) ∷ older) h = taken_first o older h
taken_first o ((l, WaitRel p n) ∷ older) h = taken_first o older h
taken_first o ((l, Put f v w) ∷ older) h = taken_first o older h

pub first_number : (s : Setting) (records before : List (ℕ × Record)) (o : ℕ) → IsLegal s (records ++ before) → holder o before ≡ None → Takes o records → first_taken o records ≡ Some (number o before)
first_number s records before o legal free takes = elim (first_at s before o free records legal) [
  | inl h ↦ absurd (taken_first o records takes h.0)
  | inr h ↦ h
]

-- Behind lists that leave an object alike it stays so.
pub same_number : (o : ℕ) (records a b : List (ℕ × Record)) → number o a ≡ number o b → number o (records ++ a) ≡ number o (records ++ b)
same_number o [] a b e = e
same_number o ((l, Acq p n) ∷ older) a b e = same_number o older a b e
same_number o ((l, Rel p n) ∷ older) a b e = ap (λ (v : ℕ). if p.0 == o then n + 1 else v) (same_number o older a b e)
same_number o ((l, WaitRel p n) ∷ older) a b e = ap (λ (v : ℕ). if p.0 == o then n + 1 else v) (same_number o older a b e)
same_number o ((l, Put f v w) ∷ older) a b e = same_number o older a b e

same_holder : (o : ℕ) (records a b : List (ℕ × Record)) → holder o a ≡ holder o b → holder o (records ++ a) ≡ holder o (records ++ b)
same_holder o [] a b e = e
same_holder o ((l, Acq p n) ∷ older) a b e = ap (λ (v : Option ℕ). if p.0 == o then Some l else v) (same_holder o older a b e)
same_holder o ((l, Rel p n) ∷ older) a b e = ap (λ (v : Option ℕ). if p.0 == o then None else v) (same_holder o older a b e)
same_holder o ((l, WaitRel p n) ∷ older) a b e = ap (λ (v : Option ℕ). if p.0 == o then None else v) (same_holder o older a b e)
same_holder o ((l, Put f v w) ∷ older) a b e = same_holder o older a b e

same_value : (first other : ℕ → ℕ) (f : ℕ) (records a b : List (ℕ × Record)) → value first f a ≡ value other f b → value first f (records ++ a) ≡ value other f (records ++ b)
same_value first other f [] a b e = e
same_value first other f ((l, Acq p n) ∷ older) a b e = same_value first other f older a b e
same_value first other f ((l, Rel p n) ∷ older) a b e = same_value first other f older a b e
same_value first other f ((l, WaitRel p n) ∷ older) a b e = same_value first other f older a b e
same_value first other f ((l, Put g v w) ∷ older) a b e = ap (λ (x : ℕ). if g.0 == f then w else x) (same_value first other f older a b e)

-- a lane waits as it does behind the other, or for nothing
abbrev Waits : (l : ℕ) → (records a b : List (ℕ × Record)) → Type 0
Waits l records a b = (awaited l (records ++ a) ≡ awaited l (records ++ b)) ⊎ (awaited l (records ++ a) ≡ None)

waits_on : (l m : ℕ) (now : Option ℕ) (v w : Option ℕ) → (v ≡ w) ⊎ (v ≡ None) → ((if m == l then now else v) ≡ (if m == l then now else w)) ⊎ ((if m == l then now else v) ≡ None)
waits_on l m now v w h = elim (m == l) as (λ b. ((if b then now else v) ≡ (if b then now else w)) ⊎ ((if b then now else v) ≡ None)) [ true ↦ inl refl | false ↦ h ]

waits : (l : ℕ) (records a b : List (ℕ × Record)) → awaited l a ≡ None → Waits l records a b
waits l [] a b none = inr none
waits l ((m, Acq p n) ∷ older) a b none = waits_on l m None (awaited l (older ++ a)) (awaited l (older ++ b)) (waits l older a b none)
waits l ((m, Rel p n) ∷ older) a b none = waits_on l m None (awaited l (older ++ a)) (awaited l (older ++ b)) (waits l older a b none)
waits l ((m, WaitRel p n) ∷ older) a b none = waits_on l m (Some p.0) (awaited l (older ++ a)) (awaited l (older ++ b)) (waits l older a b none)
waits l ((m, Put f v w) ∷ older) a b none = waits_on l m None (awaited l (older ++ a)) (awaited l (older ++ b)) (waits l older a b none)

follows : (v w : Option ℕ) (r : Record) → (v ≡ w) ⊎ (v ≡ None) → MayFollow w r → MayFollow v r
follows v w r (inl e) h = subst (λ (x : Option ℕ). MayFollow x r) (sym e) h
follows v w r (inr none) h = subst (λ (x : Option ℕ). MayFollow x r) (sym none) tt

of_heap : (s : Setting) (heap : ℕ → ℕ) (r : Record) → IsRecordOf s r → IsRecordOf (from_heap s heap) r
of_heap s heap (Acq o n) h = h
of_heap s heap (Rel o n) h = h
of_heap s heap (WaitRel o n) h = h
of_heap s heap (Put f before after) h = h

module _ (s : Setting) (heap : ℕ → ℕ) (a b : List (ℕ × Record)) (freed : (o : ℕ) → holder o b ≡ None) (free : (o : ℕ) → holder o a ≡ None) (awake : (l : ℕ) → awaited l a ≡ None)
    (values : (f : ℕ) → value heap f a ≡ value s.first f b) where
  abbrev Numbers : List (ℕ × Record) → Type 0
  Numbers records = (o : ℕ) → Takes o records → number o a ≡ number o b

  allowed : (l : ℕ) (r : Record) (older : List (ℕ × Record)) → Numbers ((l, r) ∷ older) → IsAllowed s (older ++ b) l r → IsAllowed (from_heap s heap) (older ++ a) l r
  allowed l (Acq o n) older numbers h =
      (same_holder o.0 older a b (free o.0 ∙ sym (freed o.0)) ∙ h.0, same_number o.0 older a b (numbers o.0 (inl refl)) ∙ h.1, h.2)
  allowed l (Rel o n) older numbers h =
      (same_holder o.0 older a b (free o.0 ∙ sym (freed o.0)) ∙ h.0, same_number o.0 older a b (numbers o.0 (held_took o.0 l older b (freed o.0) h.0)) ∙ h.1)
  allowed l (WaitRel o n) older numbers h =
      (same_holder o.0 older a b (free o.0 ∙ sym (freed o.0)) ∙ h.0, same_number o.0 older a b (numbers o.0 (held_took o.0 l older b (freed o.0) h.0)) ∙ h.1)
  allowed l (Put f before after) older numbers h =
      (same_holder (s.guard f.0) older a b (free (s.guard f.0) ∙ sym (freed (s.guard f.0))) ∙ h.0, same_value heap s.first f.0 older a b (values f.0) ∙ h.1)

  older_takes : (l : ℕ) (r : Record) (older : List (ℕ × Record)) (o : ℕ) → Takes o older → Takes o ((l, r) ∷ older)
  older_takes l (Acq p n) older o h = inr h
  older_takes l (Rel p n) older o h = h
  older_takes l (WaitRel p n) older o h = h
  older_takes l (Put f before after) older o h = h

  pub moved : (records : List (ℕ × Record)) → IsLegal s (records ++ b) → IsLegal (from_heap s heap) a → Numbers records → IsLegal (from_heap s heap) (records ++ a)
  moved [] legal there numbers = there
  moved ((l, r) ∷ older) legal there numbers = (
    moved older legal.0 there (λ o h. numbers o (older_takes l r older o h)),
    allowed l r older numbers legal.1,
    follows (awaited l (older ++ a)) (awaited l (older ++ b)) r (waits l older a b (awake l)) legal.2,
    of_heap s heap r legal.3,
  )
