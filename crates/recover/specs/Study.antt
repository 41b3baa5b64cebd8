-- What a study of an image answers (this project's own).
use Rattle.std.specs.Prelude.{ℕ, ◌≡◌, ◌<◌, true, List, length, slice_index, Result, MatchResult}
use Rattle.heap_model.specs.Cuts.{counts_of}
use Rattle.heap_model.specs.declared.ids.FieldId.{FieldId}
use Rattle.heap_model.specs.declared.record.UndoRecord.{UndoRecord}
use Rattle.image_parts.specs.declared.layout.Layout.{Layout}
use Rattle.image_parts.specs.declared.lane_row.LaneRow.{LaneRow}
use Rattle.image_parts.specs.declared.guard_row.GuardRow.{GuardRow}
use Rattle.undo_log.specs.StandsFor.{StandsFor, row_of, settled_of, guard_in, first_in, is_transient_in}
use Rattle.recover.specs.declared.logged_image.LoggedImage.{LoggedImage}
use Rattle.recover.specs.declared.findings.Findings.{Findings}
use Rattle.recover.specs.declared.front.Front.{Front}
use Rattle.recover.specs.declared.report.Report.{Report}
use Rattle.recover.specs.declared.studied.Study.{Study}
use Rattle.recover.specs.Dropping.{AreDropped}
pub use Rattle.recover_heap.specs.Heap.{AreUndone}
use Rattle.recover_heap.specs.Logs.{AreReplayOf, lanes_of, logged_guard_in}
use Rattle.recover.specs.Reading.{Holds, RefusesImage, RefusesRest}
use Rattle.recover_logs.specs.Replay.{Replays}
use Rattle.recover_heap.specs.declared.error.RecoverError.{RecoverError}
use Rattle.recover_heap.specs.declared.error.RecoverError.TheVariants.{NoMemory}
use Rattle.recover_logs.specs.declared.step.Step.{Step}

-- what the study says that the image holds
abbrev pub held_by : Study → LoggedImage
held_by s = record { layout = s.layout; slot = s.slot; control = s.control; guards = s.guards; records = s.records }

-- what a report says of an image with these guard rows, rows of the control and live records: the acknowledged sections
-- are kept, the others are dropped, each with its reason, and so many fields take an old value back
pub record IsReportOf (l : Layout) (guards : List GuardRow) (rows : List LaneRow) (lanes : ℕ → List UndoRecord) (r : Report) : Type 0 where
  pub kept_are : (lane : ℕ) → counts_of r.kept lane ≡ (row_of rows lane).kept
  pub done : List (ℕ × UndoRecord)
  pub replays : Replays (logged_guard_in guards) lanes done
  pub dropped_are : AreDropped rows lanes done l.lanes r.dropped.items
  pub fields : List FieldId
  pub undone_are : AreUndone l guards rows lanes fields
  pub undone_is : r.undone ≡ length fields

-- the study says what the image holds, the heap that it stands for, and what recovery keeps and drops of it
pub record IsStudyOf (image : List ℕ) (s : Study) : Type 0 where
  pub holds : Holds image (held_by s)
  pub stands : StandsFor s.layout image s.heap.items
  pub reports : IsReportOf s.layout s.guards.items s.control.rows (lanes_of s.records.items) s.report

-- In each study a transient field has its first value, whatever lies in its home cell.
abbrev pub TransientFirstLaw : Type 0
TransientFirstLaw = (image : List ℕ) (s : Study) (f : ℕ) → IsStudyOf image s → f < s.layout.fields → is_transient_in s.guards.items f ≡ true → slice_index s.heap.items f ≡ first_in s.guards.items f

-- the fields whose old values recovery puts back, of this study
abbrev pub AreUndoneOf : Study → List FieldId → Type 0
AreUndoneOf s fields = AreUndone s.layout s.guards.items s.control.rows (lanes_of s.records.items) fields

-- the fields that take an old value back, and the replay, of what was read of an image
abbrev pub AreUndoneIn : LoggedImage → List FieldId → Type 0
AreUndoneIn x fields = AreUndone x.layout x.guards.items x.control.rows (lanes_of x.records.items) fields

abbrev pub IsReplayIn : LoggedImage → List Step → Type 0
IsReplayIn x steps = AreReplayOf x.guards.items x.records.items steps

-- the image is studied, or refused by the first test that it doesn't pass
abbrev pub Studies : List ℕ → Result Study RecoverError → Type 0
Studies image result = MatchResult result (IsStudyOf image) (RefusesImage image)

-- so is the rest of an image with this front
abbrev pub FindsRest : List ℕ → Front → Result Findings RecoverError → Type 0
FindsRest image f result = MatchResult result (λ found. IsStudyOf image found.study) (RefusesRest image f)

-- what is read of an image is reported on, unless there is no memory
abbrev pub ReportsOn : LoggedImage → Result Report RecoverError → Type 0
ReportsOn x result = MatchResult result (IsReportOf x.layout x.guards.items x.control.rows (lanes_of x.records.items)) (λ e. e ≡ NoMemory)
