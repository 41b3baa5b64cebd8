-- What is tested: the lanes' live records, the fields' guards, and up to where each lane is settled.
use Rattle.std.specs.Prelude.{ℕ, List, [], map, reverse, slice_index_or, Vec, Option, None}
use Rattle.std.specs.declared.alloc.Global.{Global}
use Rattle.heap_model.specs.declared.ids.ObjectId.{ObjectId}
use Rattle.heap_model.specs.declared.record.UndoRecord.{UndoRecord}
use Rattle.recover_logs.specs.declared.settled_count.SettledCount.{SettledCount}

-- a lane's records, the oldest first; none where there is no such lane
abbrev pub records_of : List (Vec UndoRecord Global) → (lane : ℕ) → List UndoRecord
records_of logs l = slice_index_or (map (λ v. v.items) logs) l []

-- the lanes' records, the newest first
abbrev pub lanes_of : List (Vec UndoRecord Global) → (lane : ℕ) → List UndoRecord
lanes_of logs l = reverse (records_of logs l)

-- the object whose monitor the field's stores need, of these; none where logs keep no store of the field
abbrev pub guard_in : List (Option ObjectId) → (field : ℕ) → Option ObjectId
guard_in guards f = slice_index_or guards f None

-- the lane's count of these
abbrev pub count_of : List SettledCount → (lane : ℕ) → SettledCount
count_of counts l = slice_index_or counts l (record { records = 0; sections = 0 })

-- how many of the lane's live records are settled
abbrev pub settled_of : List SettledCount → (lane : ℕ) → ℕ
settled_of counts l = (count_of counts l).records

-- how many sections may have ended in them
abbrev pub kept_of : List SettledCount → (lane : ℕ) → ℕ
kept_of counts l = (count_of counts l).sections
