-- What a lane holds, by the list of all records and by its own.
use Rattle.std.proofs.Common.{ℕ, zero, suc, ◌≡◌, ◌<◌, ◌==◌, if◌then◌else◌, Bool, true, false, List, [], ◌∷◌, length, map, get_or, refl, sym, ap, ◌∙◌, subst, inl, inr, arith, Option, Some, None, Contains}
use Rattle.std.proofs.lemmas.Bool.{eq-eqb}
use Rattle.std.proofs.lemmas.Bool.Decides.{eqb_tells}
use Rattle.heap_model.specs.Log.{lane}
use Rattle.heap_model.specs.Sections.{Action, Takes, Frees, Stores, undo_action, without, holding}
use Rattle.heap_model.specs.declared.ids.Lane.{Lane}
use Rattle.heap_model.specs.declared.ids.ObjectId.{ObjectId}
use Rattle.heap_model.specs.declared.record.UndoRecord.{UndoRecord}
use Rattle.heap_model.specs.declared.record.UndoRecord.TheVariants.{Acq, Rel, WaitRel, Put}
use Rattle.recover_logs.specs.Lanes.{FreesHeld}
use Rattle.recover_logs.specs.Monitors.{holder, IsAllowed}

first_held : (o p : ℕ) (held : List ℕ) → p ≡ o → Contains (p ∷ held) o
first_held o p held e = (0, omega arith, e)

later_held : (o p : ℕ) (held : List ℕ) → Contains held o → Contains (p ∷ held) o
later_held o p held here = (suc here.0, omega (arith, here.1), here.2)

still_held : (o p : ℕ) (held : List ℕ) → (p ≡ o → ⊥) → Contains held o → Contains (without p held) o
still_held o p [] ne here = absurd (let lt : here.0 < length {A = ℕ} [] = here.1 in omega arith)
still_held o p (q ∷ held) ne here = elim (eqb_tells q p) [
  | inl e ↦ subst (λ (b : Bool). Contains (if b then held else q ∷ without p held) o) (sym e.0) (tail here.0 (λ same. ne (sym e.1 ∙ same)) here.1 here.2)
  | inr e ↦ subst (λ (b : Bool). Contains (if b then held else q ∷ without p held) o) (sym e.0) (kept here.0 here.1 here.2 (λ rest. still_held o p held ne rest))
]
  where
    tail : (k : ℕ) → (q ≡ o → ⊥) → k < length (q ∷ held) → get_or (q ∷ held) k o ≡ o → Contains held o
    tail zero differ lt is = absurd (differ is)
    tail (suc k) differ lt is = (k, omega arith, is)

    kept : (k : ℕ) → k < length (q ∷ held) → get_or (q ∷ held) k o ≡ o → (Contains held o → Contains (without p held) o) → Contains (q ∷ without p held) o
    kept zero lt is rest = first_held o q (without p held) is
    kept (suc k) lt is rest = later_held o q (without p held) (rest (k, omega arith, is))

-- a lane that holds an object has it among what it holds
held_by_freed : (l m o p : ℕ) (was : Option Lane) (a : Action) (acts : List Action) → holding (a ∷ acts) ≡ without p (holding acts) → (was ≡ Some (record { 0 = l }) → Contains (holding acts) o) →
    (if p == o then None else was) ≡ Some (record { 0 = l }) → (b : Bool) → Contains (holding (if b then a ∷ acts else acts)) o
held_by_freed l m o p was a acts frees rest held b = elim (eqb_tells p o) [
  | inl e ↦ absurd (let it : Option Lane = Some (record { 0 = l }) in let no : None ≡ it = subst (λ (t : Bool). (if t then None else was) ≡ it) e.0 held in cc)
  | inr e ↦
      let it : Option Lane = Some (record { 0 = l }) in
      let before : Contains (holding acts) o = rest (subst (λ (t : Bool). (if t then None else was) ≡ it) e.0 held) in
      elim b as (λ t. Contains (holding (if t then a ∷ acts else acts)) o) [
        | true ↦ subst (λ (xs : List ℕ). Contains xs o) (sym frees) (still_held o p (holding acts) e.1 before)
        | false ↦ before
      ]
]

map_lane : (l m : ℕ) (r : UndoRecord) (done : List (ℕ × UndoRecord)) (b : Bool) → map undo_action (if b then r ∷ lane l done else lane l done) ≡ (if b then undo_action r ∷ map undo_action (lane l done) else map undo_action (lane l done))
map_lane l m r done true = refl
map_lane l m r done false = refl

pub held_by : (l o : ℕ) (done : List (ℕ × UndoRecord)) → holder o done ≡ Some (record { 0 = l }) → Contains (holding (map undo_action (lane l done))) o
held_by l o [] held = absurd (let it : Option Lane = Some (record { 0 = l }) in let no : None ≡ it = held in cc)
held_by l o ((m, Acq p n) ∷ older) held =
    let it : Option Lane = Some (record { 0 = l }) in
    subst (λ (acts : List Action). Contains (holding acts) o) (sym (map_lane l m (Acq p n) older (m == l))) (elim (eqb_tells p.0 o) [
      | inl e ↦
          let same : m ≡ l = (let mine : Option Lane = Some (record { 0 = m }) in let some : mine ≡ it = subst (λ (t : Bool). (if t then mine else holder o older) ≡ it) e.0 held in
          let lanes : (let a : Lane = record { 0 = m } in let b : Lane = record { 0 = l } in a ≡ b) = cc in ap (λ (k : Lane). k.0) lanes) in
          subst (λ (t : Bool). Contains (holding (if t then Takes p.0 n ∷ map undo_action (lane l older) else map undo_action (lane l older))) o) (sym (eq-eqb m l same)) (first_held o p.0 (holding (map undo_action (lane l older))) e.1)
      | inr e ↦
          let mine : Option Lane = Some (record { 0 = m }) in
          let before : Contains (holding (map undo_action (lane l older))) o = held_by l o older (subst (λ (t : Bool). (if t then mine else holder o older) ≡ it) e.0 held) in
          elim (m == l) as (λ t. Contains (holding (if t then Takes p.0 n ∷ map undo_action (lane l older) else map undo_action (lane l older))) o) [ true ↦ later_held o p.0 (holding (map undo_action (lane l older))) before | false ↦ before ]
    ])
held_by l o ((m, Rel p n) ∷ older) held =
    subst (λ (acts : List Action). Contains (holding acts) o) (sym (map_lane l m (Rel p n) older (m == l))) (held_by_freed l m o p.0 (holder o older) (Frees p.0 n) (map undo_action (lane l older)) refl (held_by l o older) held (m == l))
held_by l o ((m, WaitRel p n) ∷ older) held =
    subst (λ (acts : List Action). Contains (holding acts) o) (sym (map_lane l m (WaitRel p n) older (m == l))) (held_by_freed l m o p.0 (holder o older) (Frees p.0 n) (map undo_action (lane l older)) refl (held_by l o older) held (m == l))
held_by l o ((m, Put f v) ∷ older) held =
    let before : Contains (holding (map undo_action (lane l older))) o = held_by l o older held in
    subst (λ (acts : List Action). Contains (holding acts) o) (sym (map_lane l m (Put f v) older (m == l)))
    (elim (m == l) as (λ t. Contains (holding (if t then Stores ∷ map undo_action (lane l older) else map undo_action (lane l older))) o) [ true ↦ before | false ↦ before ])

-- a record that is allowed frees what its lane holds
pub frees_one : (guard : ℕ → Option ObjectId) (first : ℕ → ℕ) (older : List (ℕ × UndoRecord)) (l : ℕ) (r : UndoRecord) → IsAllowed guard first older l r → FreesHeld (map undo_action (lane l older)) → FreesHeld (undo_action r ∷ map undo_action (lane l older))
frees_one guard first older l (Acq o n) allowed h = h
frees_one guard first older l (Rel o n) allowed h = (h, held_by l o.0 older allowed.0)
frees_one guard first older l (WaitRel o n) allowed h = (h, held_by l o.0 older allowed.0)
frees_one guard first older l (Put f v) allowed h = h
