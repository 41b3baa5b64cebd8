-- The stores to one field, by what their own lane knows of them: their guard's number and their place.
use Rattle.std.proofs.Common.{ℕ, ◌≡◌, ◌+◌, ◌<◌, ◌≤◌, ◌⊎◌, ◌==◌, if◌then◌else◌, true, false, List, [], ◌∷◌, ◌++◌, length, map, Option, Some, None, refl, sym, ap, ◌∙◌, subst, inl, inr, arith}
use Rattle.std.proofs.lemmas.Bool.Decides.{eqb_tells}
use Rattle.heap_model.specs.declared.record.Record.{Record}
use Rattle.heap_model.specs.declared.record.Record.TheVariants.{Acq, Rel, WaitRel, Put}
use Rattle.heap_model.specs.Setting.{Setting}
use Rattle.heap_model.specs.Log.{lane, holder, number, IsLegal}
use Rattle.heap_model.specs.Sections.{Action, Takes, Frees, Stores, action, without, holding, ended}

-- the number under which a lane holds the object
abbrev pub under : ℕ → List Record → Option ℕ
under o [] = None
under o (Acq p n ∷ older) = if p.0 == o then Some n else under o older
under o (Rel p n ∷ older) = if p.0 == o then None else under o older
under o (WaitRel p n ∷ older) = if p.0 == o then None else under o older
under o (Put f before after ∷ older) = under o older

-- what a lane knows of a store
pub record Mark : Type 0 where
  pub number : ℕ
  pub place : ℕ
  pub section : ℕ
  pub value : ℕ

-- the record is this store to the field, whose guard is o
abbrev pub IsStore : ℕ → ℕ → List Record → Record → Mark → Type 0
IsStore o f older (Put g before after) k =
    (g.0 ≡ f) × (under o older ≡ Some k.number) × (k.place ≡ length older) × (k.section ≡ ended (map action older) + 1) × (k.value ≡ after)
IsStore o f older (Acq p n) k = ⊥
IsStore o f older (Rel p n) k = ⊥
IsStore o f older (WaitRel p n) k = ⊥

-- the lane has this store
abbrev pub HasStore : ℕ → ℕ → List Record → Mark → Type 0
HasStore o f [] k = ⊥
HasStore o f (r ∷ older) k = IsStore o f older r k ⊎ HasStore o f older k

pub has_more : (o f : ℕ) (more older : List Record) (k : Mark) → HasStore o f older k → HasStore o f (more ++ older) k
has_more o f [] older k h = h
has_more o f (r ∷ more) older k h = inr (has_more o f more older k h)

pub ended_rises : (a : Action) (older : List Action) → ended older ≤ ended (a ∷ older)
ended_rises (Takes o n) older = omega arith
ended_rises (Frees o n) older = elim (length (without o (holding older)) == 0) as (λ b. ended older ≤ (if b then ended older + 1 else ended older)) [ true ↦ omega arith | false ↦ omega arith ]
ended_rises Stores older = omega arith

pub ended_more : (more older : List Record) → ended (map action older) ≤ ended (map action (more ++ older))
ended_more [] older = omega arith
ended_more (r ∷ more) older = omega (arith, ended_more more older, ended_rises (action r) (map action (more ++ older)))

section_of_store : (o f : ℕ) (older : List Record) (r : Record) (k : Mark) → IsStore o f older r k → k.section ≡ ended (map action older) + 1
section_of_store o f older (Put g before after) k h = h.3
section_of_store o f older (Acq p n) k h = elim h [ ]
section_of_store o f older (Rel p n) k h = elim h [ ]
section_of_store o f older (WaitRel p n) k h = elim h [ ]

place_of_store : (o f : ℕ) (older : List Record) (r : Record) (k : Mark) → IsStore o f older r k → k.place ≡ length older
place_of_store o f older (Put g before after) k h = h.2
place_of_store o f older (Acq p n) k h = elim h [ ]
place_of_store o f older (Rel p n) k h = elim h [ ]
place_of_store o f older (WaitRel p n) k h = elim h [ ]

-- a store of a section that had ended was there already
pub has_less : (o f : ℕ) (more older : List Record) (k : Mark) → HasStore o f (more ++ older) k → k.section ≤ ended (map action older) → HasStore o f older k
has_less o f [] older k h le = h
has_less o f (r ∷ more) older k (inr h) le = has_less o f more older k h le
has_less o f (r ∷ more) older k (inl h) le =
    absurd (omega (arith, section_of_store o f (more ++ older) r k h, ended_more more older))

pub place_below : (o f : ℕ) (older : List Record) (k : Mark) → HasStore o f older k → k.place < length older
place_below o f [] k h = elim h [ ]
place_below o f (r ∷ older) k (inl h) = omega (arith, place_of_store o f older r k h)
place_below o f (r ∷ older) k (inr h) = omega (arith, place_below o f older k h)

same_record : (o f : ℕ) (older : List Record) (r : Record) (j k : Mark) → IsStore o f older r j → IsStore o f older r k → j.value ≡ k.value
same_record o f older (Put g before after) j k h i = h.4 ∙ sym i.4
same_record o f older (Acq p n) j k h i = elim h [ ]
same_record o f older (Rel p n) j k h i = elim h [ ]
same_record o f older (WaitRel p n) j k h i = elim h [ ]

-- one record stands at a place
pub same_place : (o f : ℕ) (older : List Record) (j k : Mark) → HasStore o f older j → HasStore o f older k → j.place ≡ k.place → j.value ≡ k.value
same_place o f [] j k h i e = elim h [ ]
same_place o f (r ∷ older) j k (inl h) (inl i) e = same_record o f older r j k h i
same_place o f (r ∷ older) j k (inl h) (inr i) e = absurd (omega (arith, place_of_store o f older r j h, place_below o f older k i))
same_place o f (r ∷ older) j k (inr h) (inl i) e = absurd (omega (arith, place_of_store o f older r k i, place_below o f older j h))
same_place o f (r ∷ older) j k (inr h) (inr i) e = same_place o f older j k h i e

pub lane_same : (l m : ℕ) (r : Record) (older : List (ℕ × Record)) → m ≡ l → lane l ((m, r) ∷ older) ≡ r ∷ lane l older
lane_same l m r older h = elim (eqb_tells m l) [
  | inl e ↦ ap (λ b. if b then r ∷ lane l older else lane l older) e.0
  | inr e ↦ absurd (e.1 h)
]

-- a store in a lane is its newest record or was there before
pub has_cons : (o f l m : ℕ) (r : Record) (older : List (ℕ × Record)) (k : Mark) → HasStore o f (lane l ((m, r) ∷ older)) k →
    ((m ≡ l) × IsStore o f (lane l older) r k) ⊎ HasStore o f (lane l older) k
has_cons o f l m r older k h = elim (eqb_tells m l) [
  | inl e ↦ elim (subst (λ b. HasStore o f (if b then r ∷ lane l older else lane l older) k) e.0 h) [ inl s ↦ inl (e.1, s) | inr s ↦ inr s ]
  | inr e ↦ inr (subst (λ b. HasStore o f (if b then r ∷ lane l older else lane l older) k) e.0 h)
]

pub has_older : (o f l m : ℕ) (r : Record) (older : List (ℕ × Record)) (k : Mark) → HasStore o f (lane l older) k → HasStore o f (lane l ((m, r) ∷ older)) k
has_older o f l m r older k h = elim (m == l) as (λ b. HasStore o f (if b then r ∷ lane l older else lane l older) k) [ true ↦ inr h | false ↦ h ]

-- a record that leaves what the lane holds leaves it in the list
under_skip : (o l m : ℕ) (r : Record) (older : List (ℕ × Record)) → ((xs : List Record) → under o (r ∷ xs) ≡ under o xs) → under o (lane l ((m, r) ∷ older)) ≡ under o (lane l older)
under_skip o l m r older h = elim (m == l) as (λ b. under o (if b then r ∷ lane l older else lane l older) ≡ under o (lane l older)) [ true ↦ h _ | false ↦ refl ]

-- The holder's lane knows the number.
pub holder_knows : (s : Setting) (log : List (ℕ × Record)) (o l : ℕ) → IsLegal s log → holder o log ≡ Some l → under o (lane l log) ≡ Some (number o log)
holder_knows s [] o l legal h = cc
holder_knows s ((m, Acq p n) ∷ older) o l legal h = elim (eqb_tells p.0 o) [
  | inl e ↦
      let same : Some m ≡ Some l = subst (λ b. (if b then Some m else holder o older) ≡ Some l) e.0 h in
      let ml : m ≡ l = cc in
      ap (under o) (lane_same l m (Acq p n) older ml) ∙ ap (λ b. if b then Some n else under o (lane l older)) e.0
      ∙ ap Some (sym legal.1.1 ∙ ap (λ x. number x older) e.1)
  | inr e ↦ under_skip o l m (Acq p n) older (λ xs. ap (λ b. if b then Some n else under o xs) e.0)
      ∙ holder_knows s older o l legal.0 (subst (λ b. (if b then Some m else holder o older) ≡ Some l) e.0 h)
]
holder_knows s ((m, Rel p n) ∷ older) o l legal h = elim (eqb_tells p.0 o) [
  | inl e ↦ let no : None ≡ Some l = subst (λ b. (if b then None else holder o older) ≡ Some l) e.0 h in cc
  | inr e ↦ under_skip o l m (Rel p n) older (λ xs. ap (λ b. if b then None else under o xs) e.0)
      ∙ holder_knows s older o l legal.0 (subst (λ b. (if b then None else holder o older) ≡ Some l) e.0 h)
      ∙ ap (λ b. Some (if b then n + 1 else number o older)) (sym e.0)
]
holder_knows s ((m, WaitRel p n) ∷ older) o l legal h = elim (eqb_tells p.0 o) [
  | inl e ↦ let no : None ≡ Some l = subst (λ b. (if b then None else holder o older) ≡ Some l) e.0 h in cc
  | inr e ↦ under_skip o l m (WaitRel p n) older (λ xs. ap (λ b. if b then None else under o xs) e.0)
      ∙ holder_knows s older o l legal.0 (subst (λ b. (if b then None else holder o older) ≡ Some l) e.0 h)
      ∙ ap (λ b. Some (if b then n + 1 else number o older)) (sym e.0)
]
holder_knows s ((m, Put f before after) ∷ older) o l legal h =
    under_skip o l m (Put f before after) older (λ xs. refl) ∙ holder_knows s older o l legal.0 h
