-- The greedy replay of the lanes' live records (this project's own). What a record needs is as in a legal record list, but
-- for the values, which undo records don't have. Lists have their newest element first.
use Rattle.std.specs.Prelude.{ℕ, ◌≡◌, ◌<◌, ◌≤◌, List, [], ◌∷◌, ◌++◌, length, slice_get, Contains, Option, Some, None}
use Rattle.heap_model.specs.Log.{lane}
use Rattle.heap_model.specs.declared.ids.ObjectId.{ObjectId}
use Rattle.heap_model.specs.declared.record.UndoRecord.{UndoRecord}
use Rattle.heap_model.specs.declared.record.UndoRecord.TheVariants.{Acq, Rel, WaitRel, Put}
pub use Rattle.recover_logs.specs.Monitors.{holder, number, IsAllowed}
use Rattle.recover_logs.specs.declared.error.LogsError.{LogsError}
use Rattle.recover_logs.specs.declared.error.LogsError.TheVariants.{IllegalLog, NoMemory}

-- an object's number at first is the least at which a lane takes it
pub record BeginsAt (lanes : ℕ → List UndoRecord) (first : ℕ → ℕ) : Type 0 where
  pub least : (l n : ℕ) (o : ObjectId) → Contains (lanes l) (Acq o n) → first o.0 ≤ n
  pub taken : (l n : ℕ) (o : ObjectId) → Contains (lanes l) (Acq o n) → (m : ℕ) × Contains (lanes m) (Acq o (first o.0))

-- a lane whose newest record freed an object by a wait takes that object next (JLS 17.2.1)
abbrev pub MayFollow : (newest : Option UndoRecord) → UndoRecord → Type 0
MayFollow (Some (WaitRel o n)) (Acq p m) = p ≡ o
MayFollow (Some (WaitRel o n)) (Rel p m) = ⊥
MayFollow (Some (WaitRel o n)) (WaitRel p m) = ⊥
MayFollow (Some (WaitRel o n)) (Put f before) = ⊥
MayFollow (Some (Acq o n)) r = Unit {0}
MayFollow (Some (Rel o n)) r = Unit {0}
MayFollow (Some (Put f before)) r = Unit {0}
MayFollow None r = Unit {0}

-- the lane's next record, where these were done
abbrev pub IsNext : (lanes : ℕ → List UndoRecord) → List (ℕ × UndoRecord) → (lane : ℕ) → UndoRecord → Type 0
IsNext lanes done l r = (later : List UndoRecord) × (lanes l ≡ later ++ r ∷ lane l done)

-- the lane can go on with this record
pub record GoesOn (guard : ℕ → Option ObjectId) (first : ℕ → ℕ) (lanes : ℕ → List UndoRecord) (done : List (ℕ × UndoRecord)) (l : ℕ) (r : UndoRecord) : Type 0 where
  pub next : IsNext lanes done l r
  pub follows : MayFollow (slice_get (lane l done) 0) r
  pub allowed : IsAllowed guard first done l r

-- no lane below this one can go on
abbrev pub NoneBelow : (guard : ℕ → Option ObjectId) → (first : ℕ → ℕ) → (lanes : ℕ → List UndoRecord) → List (ℕ × UndoRecord) → (lane : ℕ) → Type 0
NoneBelow guard first lanes done l = (m : ℕ) (r : UndoRecord) → m < l → GoesOn guard first lanes done m r → ⊥

-- each record was done by the least lane that could go on
abbrev pub IsGreedy : (guard : ℕ → Option ObjectId) → (first : ℕ → ℕ) → (lanes : ℕ → List UndoRecord) → List (ℕ × UndoRecord) → Type 0
IsGreedy guard first lanes [] = Unit {0}
IsGreedy guard first lanes (x ∷ older) = IsGreedy guard first lanes older × GoesOn guard first lanes older x.0 x.1 × NoneBelow guard first lanes older x.0

-- the greedy replay, at its end: no lane can go on
pub record IsReplay (guard : ℕ → Option ObjectId) (lanes : ℕ → List UndoRecord) (done : List (ℕ × UndoRecord)) : Type 0 where
  pub first : ℕ → ℕ
  pub begins : BeginsAt lanes first
  pub greedy : IsGreedy guard first lanes done
  pub ended : (l : ℕ) (r : UndoRecord) → GoesOn guard first lanes done l r → ⊥

-- all records of the lane were done
abbrev pub IsDone : (lanes : ℕ → List UndoRecord) → List (ℕ × UndoRecord) → (lane : ℕ) → Type 0
IsDone lanes done l = lanes l ≡ lane l done

-- the replay does all records
pub record Replays (guard : ℕ → Option ObjectId) (lanes : ℕ → List UndoRecord) (done : List (ℕ × UndoRecord)) : Type 0 where
  pub replay : IsReplay guard lanes done
  pub all : (l : ℕ) → IsDone lanes done l

-- the replay ends with records left: this lane is the least that has some, and so many of its records were done
pub record IsStuckAt (guard : ℕ → Option ObjectId) (lanes : ℕ → List UndoRecord) (l count : ℕ) : Type 0 where
  pub done : List (ℕ × UndoRecord)
  pub replay : IsReplay guard lanes done
  pub left : (r : UndoRecord) × IsNext lanes done l r
  pub place : count ≡ length (lane l done)
  pub least : (m : ℕ) → m < l → IsDone lanes done m

-- what each refusal to replay says of the lanes: the least one with records left, and the place of its first such record
abbrev pub RefusesReplay : (guard : ℕ → Option ObjectId) → (lanes : ℕ → List UndoRecord) → LogsError → Type 0
RefusesReplay guard lanes (IllegalLog lane place) = IsStuckAt guard lanes lane.0 place
RefusesReplay guard lanes NoMemory = Unit {0}
