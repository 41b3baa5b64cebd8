-- How many monitors a lane holds after a record.
use Rattle.std.proofs.Common.{ℕ, ◌≡◌, ◌≢◌, ◌+◌, ◌==◌, ◌⊎◌, if◌then◌else◌, Bool, true, false, List, [], ◌∷◌, length, Option, Some, None, refl, sym, ap, ◌∙◌, subst, inl, inr, ⊎_elim, arith}
use Rattle.std.proofs.lemmas.Bool.{eq-eqb}
use Rattle.std.proofs.lemmas.Bool.Decides.{eqb_tells}
use Rattle.heap_model.specs.declared.record.Record.{Record}
use Rattle.heap_model.specs.declared.record.Record.TheVariants.{Acq, Rel, WaitRel, Put}
use Rattle.heap_model.specs.Setting.{Setting}
use Rattle.heap_model.specs.Log.{lane, holder, IsAllowed}
use Rattle.heap_model.specs.Sections.{Action, Takes, Frees, Stores, action, actions, without, holding}
use Rattle.store_memory.specs.Memory.{held_after}

-- the object is one of these
abbrev pub In : ℕ → List ℕ → Type 0
In o [] = ⊥
In o (p ∷ ps) = (p ≡ o) ⊎ In o ps

shorter : (o : ℕ) (ps : List ℕ) → In o ps → length (without o ps) + 1 ≡ length ps
shorter o [] h = elim h [ ]
shorter o (p ∷ ps) h = elim (eqb_tells p o) [
  | inl e ↦ ap (λ b. length (if b then ps else p ∷ without o ps) + 1) e.0 ∙ (omega arith)
  | inr e ↦ ap (λ b. length (if b then ps else p ∷ without o ps) + 1) e.0
      ∙ (let rest : In o ps = ⊎_elim (λ same. absurd (e.1 same)) (λ later. later) h in omega (arith, shorter o ps rest))
]

still_in : (o p : ℕ) (ps : List ℕ) → p ≢ o → In o ps → In o (without p ps)
still_in o p [] other h = elim h [ ]
still_in o p (q ∷ ps) other h = elim (eqb_tells q p) [
  | inl e ↦ subst (λ b. In o (if b then ps else q ∷ without p ps)) (sym e.0) (⊎_elim (λ same. absurd (other (sym e.1 ∙ same))) (λ later. later) h)
  | inr e ↦ subst (λ b. In o (if b then ps else q ∷ without p ps)) (sym e.0) (⊎_elim (λ same. inl same) (λ later. inr (still_in o p ps other later)) h)
]

-- another record than one that frees the object
freed_in : (l m o p : ℕ) (was : Option ℕ) (a : Action) (older : List (ℕ × Action)) → holding (a ∷ lane l older) ≡ without p (holding (lane l older)) → (was ≡ Some l → In o (holding (lane l older))) →
    (if p == o then None else was) ≡ Some l → In o (holding (lane l ((m, a) ∷ older)))
freed_in l m o p was a older frees rest held = elim (eqb_tells p o) [
  | inl e ↦ absurd (let no : None ≡ Some l = subst (λ (b : Bool). (if b then None else was) ≡ Some l) e.0 held in cc)
  | inr e ↦
      let before : In o (holding (lane l older)) = rest (subst (λ (b : Bool). (if b then None else was) ≡ Some l) e.0 held) in
      elim (m == l) as (λ b. In o (holding (if b then a ∷ lane l older else lane l older))) [
        | true ↦ subst (λ (xs : List ℕ). In o xs) (sym frees) (still_in o p (holding (lane l older)) e.1 before)
        | false ↦ before
      ]
]

-- the lane that holds an object has it among what it holds
pub held_in : (l o : ℕ) (log : List (ℕ × Record)) → holder o log ≡ Some l → In o (holding (lane l (actions log)))
held_in l o [] held = absurd cc
held_in l o ((m, Acq p k) ∷ older) held = elim (eqb_tells p.0 o) [
  | inl e ↦
      let same : m ≡ l = (let some : Some m ≡ Some l = subst (λ (b : Bool). (if b then Some m else holder o older) ≡ Some l) e.0 held in cc) in
      subst (λ (b : Bool). In o (holding (if b then Takes p.0 k ∷ lane l (actions older) else lane l (actions older)))) (sym (eq-eqb m l same)) (inl e.1)
  | inr e ↦
      let before : In o (holding (lane l (actions older))) = held_in l o older (subst (λ (b : Bool). (if b then Some m else holder o older) ≡ Some l) e.0 held) in
      elim (m == l) as (λ b. In o (holding (if b then Takes p.0 k ∷ lane l (actions older) else lane l (actions older)))) [ true ↦ inr before | false ↦ before ]
]
held_in l o ((m, Rel p k) ∷ older) held = freed_in l m o p.0 (holder o older) (Frees p.0 k) (actions older) refl (held_in l o older) held
held_in l o ((m, WaitRel p k) ∷ older) held = freed_in l m o p.0 (holder o older) (Frees p.0 k) (actions older) refl (held_in l o older) held
held_in l o ((m, Put f v w) ∷ older) held =
    let before : In o (holding (lane l (actions older))) = held_in l o older held in
    elim (m == l) as (λ b. In o (holding (if b then Stores ∷ lane l (actions older) else lane l (actions older)))) [ true ↦ before | false ↦ before ]

-- a record that is allowed changes the count by one at most
pub held_next : (s : Setting) (log : List (ℕ × Record)) (l : ℕ) (r : Record) → IsAllowed s log l r → length (holding (action r ∷ lane l (actions log))) ≡ held_after r (length (holding (lane l (actions log))))
held_next s log l (Acq o n) allowed = omega arith
held_next s log l (Rel o n) allowed = omega (arith, shorter o.0 (holding (lane l (actions log))) (held_in l o.0 log allowed.0))
held_next s log l (WaitRel o n) allowed = omega (arith, shorter o.0 (holding (lane l (actions log))) (held_in l o.0 log allowed.0))
held_next s log l (Put f v w) allowed = refl
