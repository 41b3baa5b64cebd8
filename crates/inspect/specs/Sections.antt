-- The live sections of a lane (Atlas), told record by record. Lists of records have their newest record first.
use Rattle.std.specs.Prelude.{ℕ, zero, suc, ◌+◌, ◌-◌, ◌==◌, if◌then◌else◌, true, false, List, [], ◌∷◌, ◌++◌, reverse, take}
use Rattle.heap_model.specs.declared.record.UndoRecord.{UndoRecord}
use Rattle.image_parts.specs.declared.lane_row.LaneRow.{LaneRow}
use Rattle.recover_logs.specs.Lanes.{count_of, ends_at}
use Rattle.recover_logs.specs.declared.lane_count.LaneCount.{LaneCount}
use Rattle.undo_log.specs.StandsFor.{row_of}
use Rattle.recover_heap.specs.Logs.{records_of}
use Rattle.recover.specs.declared.studied.Study.{Study}
use Rattle.inspect.specs.declared.numbering.Numbering.{Numbering}
use Rattle.inspect.specs.declared.section.Section.{Section}
use Rattle.inspect.specs.declared.section.SectionId.{SectionId}

-- what each record tells, by how far the sections have come before it; the oldest record's first
abbrev pub told : {X : Type 0} → (LaneCount → UndoRecord → List X) → List UndoRecord → List X
told tell [] = []
told tell (r ∷ older) = told tell older ++ tell (count_of older) r

-- the number of a lane's first live section, by the lane's row and its live records, which have the oldest first: the row
-- keeps all that ended before the place up to which the lane is settled
abbrev pub first_number : LaneRow → List UndoRecord → ℕ
first_number row records = row.kept - (count_of (reverse (take (row.settled - row.start) records))).ended + 1

-- how the live sections of a study's lane are numbered
abbrev pub numbering_of : Study → (lane : ℕ) → Numbering
numbering_of s l = record {
  lane = record { 0 = l };
  first = first_number (row_of s.control.rows l) (records_of s.records.items l);
  kept = (row_of s.control.rows l).kept;
}

-- the section that so many of the lane's live sections ended before
abbrev pub section_id : Numbering → (ended : ℕ) → SectionId
section_id n ended = record { lane = n.lane; number = n.first + ended }

-- the section that the record ends, if it ends one
abbrev pub ended_by : Numbering → LaneCount → UndoRecord → List Section
ended_by n p r = if ends_at r p.held then record { id = section_id n p.ended; is_whole = true; records = p.since + 1 } ∷ [] else []

-- the lane's live sections that have ended, by number
abbrev pub whole_sections : Numbering → List UndoRecord → List Section
whole_sections n records = told (ended_by n) records

-- the section that the lane is in, if it is in one
abbrev pub unfinished_section : Numbering → LaneCount → List Section
unfinished_section n p = if p.since == 0 then [] else record { id = section_id n p.ended; is_whole = false; records = p.since } ∷ []

-- the lane's live sections, by number
abbrev pub live_sections : Numbering → List UndoRecord → List Section
live_sections n records = whole_sections n records ++ unfinished_section n (count_of records)

-- what each of the first lanes tells, by lane
abbrev pub by_lane : {X : Type 0} → (ℕ → List X) → (lanes : ℕ) → List X
by_lane tell zero = []
by_lane tell (suc l) = by_lane tell l ++ tell l
