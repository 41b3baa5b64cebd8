-- The old values that lanes' undo records keep, and which of them recovery puts back (Atlas; the order of the stores to a
-- field is this project's own). A lane's list has its newest record first.
use Rattle.std.specs.Prelude.{ℕ, ◌≡◌, ◌+◌, ◌<◌, ◌≤◌, ◌⊎◌, ◌==◌, if◌then◌else◌, List, [], ◌∷◌, length, map, Option, Some, None}
use Rattle.heap_model.specs.declared.record.UndoRecord.{UndoRecord}
use Rattle.heap_model.specs.declared.record.UndoRecord.TheVariants.{Acq, Rel, WaitRel, Put}
use Rattle.heap_model.specs.Sections.{ended, undo_action}

-- the number at which the lane's hold of the object began, if the lane holds it
abbrev pub held_since : (object : ℕ) → List UndoRecord → Option ℕ
held_since o [] = None
held_since o (Acq p n ∷ older) = if p.0 == o then Some n else held_since o older
held_since o (Rel p n ∷ older) = if p.0 == o then None else held_since o older
held_since o (WaitRel p n ∷ older) = if p.0 == o then None else held_since o older
held_since o (Put f before ∷ older) = held_since o older

-- what a lane's records tell of a store: the number at which the lane's hold of the guard began, how many of the lane's
-- records come before it, its section's number, and the value before it
pub record OldValue : Type 0 where
  pub number : ℕ
  pub place : ℕ
  pub section : ℕ
  pub before : ℕ

-- the record, which follows these of its lane, is this store to the field
abbrev pub IsOld : (guard field : ℕ) → (older : List UndoRecord) → UndoRecord → OldValue → Type 0
IsOld o f older (Put g before) k =
    (g.0 ≡ f) × (held_since o older ≡ Some k.number) × (k.place ≡ length older) × (k.section ≡ ended (map undo_action older) + 1) × (k.before ≡ before)
IsOld o f older (Acq p n) k = ⊥
IsOld o f older (Rel p n) k = ⊥
IsOld o f older (WaitRel p n) k = ⊥

-- the lane has this store to the field
abbrev pub HasOld : (guard field : ℕ) → List UndoRecord → OldValue → Type 0
HasOld o f [] k = ⊥
HasOld o f (r ∷ older) k = IsOld o f older r k ⊎ HasOld o f older k

-- store k of lane l is no later than j of lane m: by the number of the guard's hold, and within one hold by place
abbrev pub IsNoLater : (l : ℕ) → OldValue → (m : ℕ) → OldValue → Type 0
IsNoLater l k m j = (k.number < j.number) ⊎ ((k.number ≡ j.number) × (l ≡ m) × (k.place ≤ j.place))

-- The field takes the value before the first store to it that is out, or where none is out the one that it has at home.
pub data TakesBack (guard field : ℕ) (lanes : ℕ → List UndoRecord) (IsOut : ℕ → OldValue → Type 0) (IsHome : ℕ → Type 0) (v : ℕ) : Type 0 where
  NothingBack : ((l : ℕ) (k : OldValue) → HasOld guard field (lanes l) k → IsOut l k → ⊥) → IsHome v → TakesBack guard field lanes IsOut IsHome v
  FirstBack : (l : ℕ) (k : OldValue) → HasOld guard field (lanes l) k → IsOut l k → v ≡ k.before →
      ((m : ℕ) (j : OldValue) → HasOld guard field (lanes m) j → IsOut m j → IsNoLater l k m j) → TakesBack guard field lanes IsOut IsHome v

-- at home is the value that the field's cell holds
abbrev pub Holds : (cell : ℕ) → ℕ → Type 0
Holds cell v = v ≡ cell

-- out by place: at or past the place up to which the lane is settled
abbrev pub IsUnsettled : (settled : ℕ → ℕ) → (lane : ℕ) → OldValue → Type 0
IsUnsettled settled l k = settled l ≤ k.place

-- out by section: dropped by a cut, which doesn't count the section
abbrev pub IsBeyond : (cut : ℕ → ℕ) → (lane : ℕ) → OldValue → Type 0
IsBeyond cut l k = cut l < k.section
