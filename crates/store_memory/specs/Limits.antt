-- How far a lane may go: a section has 1,000 records at most, begins below place 2 ^ 62, and where its lane's area has room for it.
use Rattle.std.specs.Prelude.{ℕ, ◌≡◌, ◌+◌, ◌<◌, ◌≤◌, ◌^◌, List, [], ◌∷◌, length}
use Rattle.heap_model.specs.declared.record.Record.{Record}
use Rattle.heap_model.specs.declared.record.Record.TheVariants.{Acq, Rel, WaitRel, Put}
use Rattle.store_memory.specs.declared.states.LaneState.{LaneState}
use Rattle.store_memory.specs.Memory.{Memory, lane_in}

-- how many records a section may have, with the releases that it still needs
abbrev pub section_records : ℕ
section_records = 1000

-- the lane is within its limits
pub record IsWithin (capacity : ℕ) (s : LaneState) : Type 0 where
  -- the open section with the releases that it needs
  pub short : s.section + s.held ≤ section_records
  pub closed : s.held ≡ 0 → s.section ≡ 0
  -- its area has room for the records since the start, and for the rest of an open section
  pub room : s.place ≤ s.start + capacity
  pub open_room : 0 < s.held → s.place + section_records ≤ s.start + capacity + s.section
  -- places
  pub low : s.place < 2 ^ 62 + section_records + 1
  pub open_low : 0 < s.held → s.place < 2 ^ 62 + s.section

-- each lane is
abbrev pub AreWithin : Memory → Type 0
AreWithin m = (l : ℕ) → l < length m.lanes → IsWithin m.capacity (lane_in m.lanes l)

-- the value before a store fits a word
abbrev pub FitsWord : Record → Type 0
FitsWord (Acq o n) = Unit {0}
FitsWord (Rel o n) = Unit {0}
FitsWord (WaitRel o n) = Unit {0}
FitsWord (Put f before after) = before < 2 ^ 64

-- each of the log's records has such
abbrev pub FitWords : List (ℕ × Record) → Type 0
FitWords [] = Unit {0}
FitWords (x ∷ older) = FitsWord x.1 × FitWords older
