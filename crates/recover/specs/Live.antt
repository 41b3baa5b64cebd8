-- What is known of the lanes' live sections, and of the graph of the live records.
use Rattle.std.specs.Prelude.{ℕ, ◌≡◌, ◌+◌, ◌-◌, ◌<◌, ◌^◌, ◌==◌, if◌then◌else◌, List, [], ◌∷◌, ◌++◌, length, take, slice_index_or}
use Rattle.heap_model.specs.declared.record.UndoRecord.{UndoRecord}
use Rattle.heap_model.specs.Log.{lane}
use Rattle.heap_model.specs.Sections.{Action, holding, ended, Section, Did}
use Rattle.heap_model.specs.Cuts.{IsStable}
use Rattle.image_parts.specs.declared.lane_row.LaneRow.{LaneRow}
use Rattle.dependence.specs.Trace.{Trace, base_of}
use Rattle.dependence.specs.Next.{IsNext}
use Rattle.recover.specs.declared.live_sections.LiveSections.{LiveSections}
use Rattle.recover.specs.declared.report.Dropped.{Dropped}
use Rattle.recover.specs.declared.report.Why.{Why}
use Rattle.recover_logs.specs.Tally.{acts_of}
use Rattle.recover.specs.Dropping.{IsEntryOf, IsWhy, whole_sections, settled_sections, trimmed_sections, live_sections, acts_in, AreEntriesOf, sections_after}

-- a lane that has no records
abbrev pub nothing_live : LiveSections
nothing_live = record { trimmed = 0; settled = 0; whole = 0; live = 0 }

-- the lane's counts of these
abbrev pub live_at : List LiveSections → (lane : ℕ) → LiveSections
live_at counts l = slice_index_or counts l nothing_live

-- how many sections of the lane come before its live ones
abbrev pub trimmed_at : List LiveSections → (lane : ℕ) → ℕ
trimmed_at counts l = (live_at counts l).trimmed

-- the counts are the lane's
pub record IsLiveIn (rows : List LaneRow) (lanes : ℕ → List UndoRecord) (l : ℕ) (s : LiveSections) : Type 0 where
  pub trimmed_is : s.trimmed ≡ trimmed_sections rows lanes l
  pub settled_is : s.settled ≡ settled_sections rows lanes l
  pub whole_is : s.whole ≡ whole_sections lanes l
  pub live_is : s.live ≡ live_sections lanes l

-- the counts are those of these records, which have the oldest first, where so many are settled and so many sections are kept
pub record IsLiveOf (records : List UndoRecord) (settled kept : ℕ) (s : LiveSections) : Type 0 where
  pub trimmed_is : s.trimmed ≡ kept - ended (acts_of (take settled records))
  pub settled_is : s.settled ≡ ended (acts_of (take settled records))
  pub whole_is : s.whole ≡ ended (acts_of records)
  pub live_is : s.live ≡ (if length (holding (acts_of records)) == 0 then ended (acts_of records) else ended (acts_of records) + 1)

-- each record may be pushed after those before it; the newest is first
abbrev pub ArePushable : List (ℕ × Action) → Type 0
ArePushable [] = Unit {0}
ArePushable (x ∷ older) = IsNext older x.0 x.1 × ArePushable older

-- the graph has all records of the replay
pub record IsGraphOf (done : List (ℕ × UndoRecord)) (g : Trace) : Type 0 where
  pub log_is : g.log ≡ acts_in done
  pub base_is : (l : ℕ) → base_of g l ≡ 0

-- the graph has all live records, its lanes are below 32, the counts tell its whole sections, and a report's numbers fit
pub record IsReady (counts : List LiveSections) (g : Trace) : Type 0 where
  pub base : (l : ℕ) → base_of g l ≡ 0
  pub lanes : (a : Section) (act : Action) → Did g.log a act → a.lane < 32
  pub whole : (l : ℕ) → (live_at counts l).whole ≡ ended (lane l g.log)
  pub fits : (l : ℕ) → trimmed_at counts l + (live_at counts l).whole + 1 < 2 ^ 64

-- what a report says of these sections, by the graph and the counts
abbrev pub AreReported : List LiveSections → Trace → List Section → List Dropped → Type 0
AreReported counts g sections dropped = (cut : ℕ → ℕ) → IsStable g.log cut → AreEntriesOf (trimmed_at counts) g.log cut sections dropped

-- what was added reports the lane's live sections that aren't settled
abbrev pub AddsReports : List LiveSections → Trace → (lane : ℕ) → (old new : List Dropped) → Type 0
AddsReports counts g lane old new =
    (before : List Section) → AreReported counts g before old
    → AreReported counts g (before ++ sections_after lane (live_at counts lane).settled ((live_at counts lane).live - (live_at counts lane).settled)) new

-- the report's entry, and its reason, for the lane's live section, by the graph and the counts
abbrev pub IsEntryBy : List LiveSections → Trace → (lane section : ℕ) → Dropped → Type 0
IsEntryBy counts g l section entry = (cut : ℕ → ℕ) → IsStable g.log cut → IsEntryOf (trimmed_at counts) g.log cut (record { lane = l; number = section }) entry

abbrev pub IsWhyBy : List LiveSections → Trace → (lane section : ℕ) → Why → Type 0
IsWhyBy counts g l section why = (cut : ℕ → ℕ) → IsStable g.log cut → IsWhy (trimmed_at counts) g.log cut (record { lane = l; number = section }) why
