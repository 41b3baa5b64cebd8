-- What is true of the fields of `RoundMemory`.
use Rattle.std.specs.Prelude.{ℕ, ◌≡◌, ◌*◌, ◌<◌, ◌≤◌, All, length, slice_index, vec_capacity}
use Rattle.heap_model.specs.Log.{log_from}
use Rattle.store_round_memory.specs.Counting.{Counts}
use Rattle.store_round_memory.specs.Rounds.{Rounds}
use Rattle.store_round_memory.specs.Surveys.{AreFronts, AreOpen, FitsLane, IsSurvey}
use Rattle.store_round_memory.specs.declared.store_round_memory.RoundMemory.TheInside.{Inside}

-- the plain data of the fields
abbrev pub rounds_of : Inside → Rounds
rounds_of a = record { lanes = a.lanes; capacity = a.capacity; kept = a.kept.items; beyond = a.beyond.items; starts = a.starts; changed = a.found.changed.items; marks = a.found.marks.items; first = a.found.first.items; taken = a.found.taken.items; counted = a.counted }

-- There is room for the records of all lanes, each record is of a lane, an object or a field that there is, and the survey is one of them. By
-- lane it is known how many there are, and where none is before.
pub record IsSound (a : Inside) : Type 0 where
  pub lanes : a.lanes ≤ 32
  pub rows : length a.starts ≡ 32
  pub room : a.lanes * a.capacity ≤ vec_capacity a.beyond
  pub fits : All (FitsLane a.lanes (length a.found.first.items) (length a.kept.items)) a.beyond.items
  pub survey : IsSurvey (length a.found.first.items) (length a.kept.items) a.found
  pub rows_many : length a.many ≡ 32
  pub rows_counted : length a.counted ≡ 32
  pub rows_fronts : length a.fronts ≡ 32
  pub many : Counts a.many (log_from a.beyond.items)
  pub within : (l : ℕ) → l < 32 → slice_index a.counted l ≤ slice_index a.many l
  pub opened : AreOpen a.counted (log_from a.beyond.items) a.found
  pub fronts : AreFronts a.beyond.items a.fronts
  pub fronts_within : (l : ℕ) → l < 32 → slice_index a.fronts l ≤ length a.beyond.items
