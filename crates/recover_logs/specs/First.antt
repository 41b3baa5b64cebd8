-- How the objects' numbers at first are found.
use Rattle.std.specs.Prelude.{ℕ, ◌≡◌, ◌-◌, ◌<◌, ◌≤◌, ◌⊎◌, min, List, length, Contains, slice_index, slice_set, ◌^◌, Vec}
use Rattle.std.specs.declared.alloc.Global.{Global}
use Rattle.heap_model.specs.declared.ids.ObjectId.{ObjectId}
use Rattle.heap_model.specs.declared.record.UndoRecord.{UndoRecord}
use Rattle.heap_model.specs.declared.record.UndoRecord.TheVariants.{Acq, Rel, WaitRel, Put}
use Rattle.recover_logs.specs.Logs.{records_of}

-- the numbers, where the record's object has at most the number at which the record takes it
abbrev pub lowered : List ℕ → UndoRecord → List ℕ
lowered numbers (Acq o n) = slice_set numbers o.0 (min (slice_index numbers o.0) n)
lowered numbers (Rel o n) = numbers
lowered numbers (WaitRel o n) = numbers
lowered numbers (Put f before) = numbers

-- each object's number was lowered to the least at which one of the records takes it
pub record IsLowered (old : List ℕ) (records : List UndoRecord) (new : List ℕ) : Type 0 where
  pub size : length new ≡ length old
  pub lower : (o : ℕ) → slice_index new o ≤ slice_index old o
  pub least : (n : ℕ) (o : ObjectId) → Contains records (Acq o n) → slice_index new o.0 ≤ n
  pub taken : (o : ℕ) → (slice_index new o ≡ slice_index old o) ⊎ Contains records (Acq (record { 0 = o }) (slice_index new o))

-- each object's number is the least at which one of the first lanes takes it, or where none takes it a number that no record has
pub record IsLowestOf (logs : List (Vec UndoRecord Global)) (lanes : ℕ) (numbers : List ℕ) : Type 0 where
  pub size : length numbers ≡ 4096
  pub least : (l n : ℕ) (o : ObjectId) → l < lanes → Contains (records_of logs l) (Acq o n) → slice_index numbers o.0 ≤ n
  pub taken : (o : ℕ) → o < 4096 → (slice_index numbers o ≡ 2 ^ 40 - 1) ⊎ ((l : ℕ) × Contains (records_of logs l) (Acq (record { 0 = o }) (slice_index numbers o)))
