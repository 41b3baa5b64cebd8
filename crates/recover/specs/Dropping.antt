-- Which sections recovery drops, and why (this project's own; dependence after Atlas). A lane's live sections are numbered
-- from 1, as its live records count them; a report numbers them since the heap was opened.
use Rattle.std.specs.Prelude.{ℕ, zero, suc, ◌≡◌, ◌+◌, ◌-◌, ◌<◌, ◌==◌, if◌then◌else◌, List, [], ◌∷◌, ◌++◌, length, map}
use Rattle.heap_model.specs.declared.ids.Lane.{Lane}
use Rattle.heap_model.specs.declared.record.UndoRecord.{UndoRecord}
use Rattle.heap_model.specs.Log.{lane}
use Rattle.heap_model.specs.Sections.{Action, undo_action, holding, ended, Section}
use Rattle.heap_model.specs.Cuts.{Counts, IsStable}
use Rattle.image_parts.specs.declared.lane_row.LaneRow.{LaneRow}
use Rattle.undo_log.specs.StandsFor.{row_of}
use Rattle.dependence.specs.Reason.{IsLeftOut, IsReason}
use Rattle.recover.specs.declared.report.Dropped.{Dropped}
use Rattle.recover.specs.declared.report.Why.{Why}
use Rattle.recover.specs.declared.report.Why.TheVariants.{Unfinished, After, Unsettled}
use Rattle.recover.specs.Settled.{settled_records}

-- what the records of a replay did
abbrev pub acts_in : List (ℕ × UndoRecord) → List (ℕ × Action)
acts_in done = map (λ x. (x.0, undo_action x.1)) done

-- how many live sections of the lane are whole
abbrev pub whole_sections : (lanes : ℕ → List UndoRecord) → (lane : ℕ) → ℕ
whole_sections lanes l = ended (map undo_action (lanes l))

-- how many of them are settled
abbrev pub settled_sections : List LaneRow → (lanes : ℕ → List UndoRecord) → (lane : ℕ) → ℕ
settled_sections rows lanes l = ended (map undo_action (settled_records rows lanes l))

-- how many sections of the lane come before its live ones: they are kept, as its settled ones are
abbrev pub trimmed_sections : List LaneRow → (lanes : ℕ → List UndoRecord) → (lane : ℕ) → ℕ
trimmed_sections rows lanes l = (row_of rows l).kept - settled_sections rows lanes l

-- how many live sections the lane has: the whole ones, and one more where it holds something at its end
abbrev pub live_sections : (lanes : ℕ → List UndoRecord) → (lane : ℕ) → ℕ
live_sections lanes l = if length (holding (map undo_action (lanes l))) == 0 then whole_sections lanes l else whole_sections lanes l + 1

-- so many sections of the lane, after its first ones
abbrev pub sections_after : (lane first count : ℕ) → List Section
sections_after l first zero = []
sections_after l first (suc n) = sections_after l first n ++ record { lane = l; number = first + suc n } ∷ []

-- the live sections of the first lanes that aren't settled, by lane and then by number
abbrev pub unsettled_sections : List LaneRow → (lanes : ℕ → List UndoRecord) → (lane_count : ℕ) → List Section
unsettled_sections rows lanes zero = []
unsettled_sections rows lanes (suc l) = unsettled_sections rows lanes l ++ sections_after l (settled_sections rows lanes l) (live_sections lanes l - settled_sections rows lanes l)

-- a report calls the live section by this lane and number, where so many sections come before a lane's live ones
pub record IsCalled (trimmed : ℕ → ℕ) (a : Section) (l : Lane) (number : ℕ) : Type 0 where
  pub lane_is : l.0 ≡ a.lane
  pub number_is : number ≡ trimmed a.lane + a.number

-- the section is whole and isn't in the cut, and the report names the first of its dependences that isn't either
pub record IsAfter (trimmed : ℕ → ℕ) (log : List (ℕ × Action)) (cut : ℕ → ℕ) (a : Section) (l : Lane) (number : ℕ) : Type 0 where
  pub left_out : IsLeftOut log cut a
  pub first : Section
  pub reason : IsReason log cut a first
  pub called : IsCalled trimmed first l number

-- why the live section is dropped, by what the records did and their stable cut
abbrev pub IsWhy : (trimmed : ℕ → ℕ) → List (ℕ × Action) → (cut : ℕ → ℕ) → Section → Why → Type 0
IsWhy trimmed log cut a Unfinished = ended (lane a.lane log) < a.number
IsWhy trimmed log cut a (After l number) = IsAfter trimmed log cut a l number
IsWhy trimmed log cut a Unsettled = Counts cut a

-- what the report says of the live section
pub record IsEntryOf (trimmed : ℕ → ℕ) (log : List (ℕ × Action)) (cut : ℕ → ℕ) (a : Section) (d : Dropped) : Type 0 where
  pub called : IsCalled trimmed a d.lane d.section
  pub why_is : IsWhy trimmed log cut a d.why

-- the report says of each of these sections one thing, in their order, and nothing else
abbrev pub AreEntriesOf : (trimmed : ℕ → ℕ) → List (ℕ × Action) → (cut : ℕ → ℕ) → List Section → List Dropped → Type 0
AreEntriesOf trimmed log cut [] [] = Unit {0}
AreEntriesOf trimmed log cut [] (d ∷ dropped) = ⊥
AreEntriesOf trimmed log cut (a ∷ sections) [] = ⊥
AreEntriesOf trimmed log cut (a ∷ sections) (d ∷ dropped) = IsEntryOf trimmed log cut a d × AreEntriesOf trimmed log cut sections dropped

-- These are the dropped sections of so many lanes: each live one that isn't settled, with the reason by the stable cut of
-- the live records, of which this is a replay.
pub record AreDropped (rows : List LaneRow) (lanes : ℕ → List UndoRecord) (done : List (ℕ × UndoRecord)) (lane_count : ℕ) (dropped : List Dropped) : Type 0 where
  pub cut : ℕ → ℕ
  pub stable : IsStable (acts_in done) cut
  pub entries : AreEntriesOf (trimmed_sections rows lanes) (acts_in done) cut (unsettled_sections rows lanes lane_count) dropped
