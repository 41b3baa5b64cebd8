-- Which record may come next, with guards and values left out. An object's numbers may begin anywhere (this project's own).
use Rattle.std.specs.Prelude.{ℕ, ◌≡◌, ◌+◌, ◌<◌, List, [], ◌∷◌, Contains}
use Rattle.heap_model.specs.declared.record.UndoRecord.{UndoRecord}
use Rattle.heap_model.specs.declared.record.UndoRecord.TheVariants.{Acq, Rel, WaitRel, Put}
use Rattle.heap_model.specs.Log.{lane}
use Rattle.heap_model.specs.Sections.{Action, Takes, Frees, Stores, holding}

-- the object was taken at numbers below one and freed at numbers below the other
abbrev pub IsBelow : (object taken freed : ℕ) → List (ℕ × Action) → Type 0
IsBelow o t f [] = Unit {0}
IsBelow o t f ((l, Takes p n) ∷ older) = (p ≡ o → n < t) × IsBelow o t f older
IsBelow o t f ((l, Frees p n) ∷ older) = (p ≡ o → n < f) × IsBelow o t f older
IsBelow o t f ((l, Stores) ∷ older) = IsBelow o t f older

-- The lane may do this next: an object's numbers rise with each take, and a lane frees what it holds, at the take's number or above.
abbrev pub IsNext : List (ℕ × Action) → (lane : ℕ) → Action → Type 0
IsNext older l (Takes o n) = IsBelow o n n older
IsNext older l (Frees o n) = Contains (holding (lane l older)) o × IsBelow o (n + 1) n older
IsNext older l Stores = Unit {0}

-- the record's object, if it names one, is below the limit
abbrev pub IsObjectBelow : (limit : ℕ) → UndoRecord → Type 0
IsObjectBelow limit (Acq o n) = o.0 < limit
IsObjectBelow limit (Rel o n) = o.0 < limit
IsObjectBelow limit (WaitRel o n) = o.0 < limit
IsObjectBelow limit (Put f before) = Unit {0}
