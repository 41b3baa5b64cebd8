-- Sections and their dependence, by what the records do to monitors (Atlas). Lists have their newest element first.
use Rattle.std.specs.Prelude.{ℕ, ◌≡◌, ◌≢◌, ◌+◌, ◌<◌, ◌==◌, ◌⊎◌, if◌then◌else◌, List, [], ◌∷◌, map, length}
use Rattle.heap_model.specs.declared.record.Record.{Record}
use Rattle.heap_model.specs.declared.record.Record.TheVariants.{Acq, Rel, WaitRel, Put}
use Rattle.heap_model.specs.declared.record.UndoRecord.{UndoRecord}
use Rattle.heap_model.specs.declared.record.UndoRecord.TheVariants as undo
use Rattle.heap_model.specs.Log.{lane}

-- what a record does to the monitors: it takes the object, which has this number; it frees it; or neither
pub data Action : Type 0 where
  Takes : (object number : ℕ) → Action
  Frees : (object number : ℕ) → Action
  Stores : Action

-- what the record does
abbrev pub action : Record → Action
action (Acq o n) = Takes o.0 n
action (Rel o n) = Frees o.0 n
action (WaitRel o n) = Frees o.0 n
action (Put f before after) = Stores

-- what the record does, as an undo log keeps it
abbrev pub undo_action : UndoRecord → Action
undo_action (undo.Acq o n) = Takes o.0 n
undo_action (undo.Rel o n) = Frees o.0 n
undo_action (undo.WaitRel o n) = Frees o.0 n
undo_action (undo.Put f before) = Stores

-- what the records of a log do
abbrev pub actions : List (ℕ × Record) → List (ℕ × Action)
actions log = map (λ x. (x.0, action x.1)) log

-- the objects without the first that is o
abbrev pub without : ℕ → List ℕ → List ℕ
without o [] = []
without o (p ∷ ps) = if p == o then ps else p ∷ without o ps

-- the objects that a lane holds
abbrev pub holding : List Action → List ℕ
holding [] = []
holding (Takes o n ∷ older) = o ∷ holding older
holding (Frees o n ∷ older) = without o (holding older)
holding (Stores ∷ older) = holding older

-- how many sections of a lane have ended: each ends at the release that leaves nothing held
abbrev pub ended : List Action → ℕ
ended [] = 0
ended (Takes o n ∷ older) = ended older
ended (Frees o n ∷ older) = if length (without o (holding older)) == 0 then ended older + 1 else ended older
ended (Stores ∷ older) = ended older

-- what a lane did in the section that it is in, the newest first: nothing where it holds nothing (Atlas)
abbrev pub open_section : List Action → List Action
open_section [] = []
open_section (a ∷ older) = if length (holding (a ∷ older)) == 0 then [] else a ∷ open_section older

-- a run of a lane from holding nothing to holding nothing. A lane's sections are numbered from 1
pub record Section : Type 0 where
  pub lane : ℕ
  pub number : ℕ

-- the section did this: so many sections of its lane had ended before, and it is the next
abbrev pub Did : List (ℕ × Action) → Section → Action → Type 0
Did [] a act = ⊥
Did (x ∷ older) a act = ((a ≡ record { lane = x.0; number = ended (lane x.0 older) + 1 }) × (act ≡ x.1)) ⊎ Did older a act

-- Section a depends on b: b is an earlier one of its lane, or another that freed the object which a took next.
pub data DependsOn (log : List (ℕ × Action)) (a b : Section) : Type 0 where
  Earlier : a.lane ≡ b.lane → b.number < a.number → DependsOn log a b
  Took : (o n : ℕ) → Did log a (Takes o (n + 1)) → Did log b (Frees o n) → a ≢ b → DependsOn log a b
