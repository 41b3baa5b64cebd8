-- What recovery gives, and what it leaves of an image at every moment (this project's own).
use Rattle.std.specs.Prelude.{ℕ, ◌≡◌, ◌+◌, ◌-◌, ◌^◌, ◌⊎◌, List, [], Result, MatchResult}
use Rattle.heap_model.specs.Cuts.{counts_of}
use Rattle.heap_model.specs.declared.ids.FieldId.{FieldId}
use Rattle.block_disk.specs.Device.{Device, SameMoments, synced}
use Rattle.block_disk.specs.Images.{LeavesOnly}
use Rattle.image_parts.specs.Calls.{after}
use Rattle.image_parts.specs.Control.{empty_control}
use Rattle.image_parts.specs.Recovered.{IsRecovered, Parts}
use Rattle.image_parts.specs.Slots.{other}
use Rattle.image_parts.specs.declared.control.Control.{Control}
use Rattle.image_parts.specs.declared.guard_row.GuardRow.{GuardRow}
use Rattle.image_parts.specs.declared.layout.Layout.{Layout}
use Rattle.image_parts.specs.declared.slot.Slot.{Slot}
use Rattle.recover_heap.specs.declared.error.RecoverError.{RecoverError}
use Rattle.recover_heap.specs.declared.error.RecoverError.TheVariants.{Fault, NotFormatted, BadHeader, TooSmall, NoControl, BadControl, OldVersion, Worn, BadRecord, IllegalLog, NoMemory}
use Rattle.recover.specs.declared.report.Report.{Report}
use Rattle.recover.specs.declared.findings.Findings.{Findings}
use Rattle.block_disk.specs.Since.{HasFailedSince}
use Rattle.recover.specs.declared.studied.Study.{Study}
use Rattle.recover.specs.declared.versions.Versions.{Versions}
use Rattle.recover.specs.declared.versions.Versions.TheVariants.{Current, Both}
use Rattle.recover.specs.Ending.{end_calls}
use Rattle.recover_heap.specs.Logs.{lanes_of, records_of}
use Rattle.recover_heap.specs.Putting.{put_calls}
use Rattle.recover.specs.Reading.{HasControl, IsOfOldVersion, RefusesImage}
use Rattle.recover.specs.Study.{AreUndone, IsStudyOf}

-- the study of an image once it was recovered: nothing is logged, and the heap is the same
pub record IsEnded (s e : Study) : Type 0 where
  pub layout_is : e.layout ≡ s.layout
  pub slot_is : e.slot ≡ other s.slot
  pub control_is : e.control ≡ empty_control (s.control.sequence + 1)
  pub guards_are : e.guards.items ≡ s.guards.items
  pub logs_are : (lane : ℕ) → records_of e.records.items lane ≡ []
  pub heap_is : e.heap.items ≡ s.heap.items
  pub kept_none : (lane : ℕ) → counts_of e.report.kept lane ≡ 0
  pub dropped_none : e.report.dropped.items ≡ []
  pub undone_none : e.report.undone ≡ 0

-- an image on the way: the study is the one from before, or that of the recovered image
abbrev pub IsOnTheWay : Study → (image : List ℕ) → Type 0
IsOnTheWay s image = IsStudyOf image s ⊎ ((e : Study) × IsEnded s e × IsStudyOf image e)

-- two reports say the same: which sections are kept, which are dropped and why, and how many fields take an old value back
pub record SameReports (a b : Report) : Type 0 where
  pub kept_same : (lane : ℕ) → counts_of a.kept lane ≡ counts_of b.kept lane
  pub dropped_same : a.dropped.items ≡ b.dropped.items
  pub undone_same : a.undone ≡ b.undone

-- what an image tells of a study of it
pub record AreAlike (a b : Study) : Type 0 where
  pub layouts : a.layout ≡ b.layout
  pub slots : a.slot ≡ b.slot
  pub controls : a.control ≡ b.control
  pub guards_same : a.guards.items ≡ b.guards.items
  pub logs_same : (lane : ℕ) → records_of a.records.items lane ≡ records_of b.records.items lane
  pub heaps : a.heap.items ≡ b.heap.items
  pub reports_same : SameReports a.report b.report

-- An image that has a study isn't refused: only the device can fail, or memory run out.
abbrev pub StudiedLaw : Type 0
StudiedLaw = (image : List ℕ) (s : Study) (e : RecoverError) → IsStudyOf image s → RefusesImage image e → (e ≡ Fault) ⊎ (e ≡ NoMemory)

-- An image has one study.
abbrev pub OneStudyLaw : Type 0
OneStudyLaw = (image : List ℕ) (a b : Study) → IsStudyOf image a → IsStudyOf image b → AreAlike a b

-- Whatever of its images a recovery leaves, another one finds the same heap.
abbrev pub SameHeapLaw : Type 0
SameHeapLaw = (image : List ℕ) (s again : Study) → IsOnTheWay s image → IsStudyOf image again → again.heap.items ≡ s.heap.items

-- Until the new control shows, another one finds all that the first one found, and reports the same; then that nothing is logged.
abbrev pub SameStudyLaw : Type 0
SameStudyLaw = (image : List ℕ) (s again : Study) → IsOnTheWay s image → IsStudyOf image again → AreAlike again s ⊎ IsEnded s again

-- nothing but the count of its sequence is wrong with the image's control: no other can be committed
pub record IsWorn (image : List ℕ) : Type 0 where
  pub layout : Layout
  pub guards : List GuardRow
  pub slot : Slot
  pub control : Control
  pub shown : HasControl image layout guards slot control
  pub last : control.sequence ≡ 2 ^ 64 - 1

-- the image is of a version that isn't among these: recovery takes the current one alone, an upgrade the old one too
abbrev pub IsTooOld : Versions → List ℕ → Type 0
IsTooOld Current image = IsOfOldVersion image
IsTooOld Both image = ⊥

-- what each refusal to recover an image of these versions says of it: the first test that it doesn't pass; the control is
-- tested before the records
abbrev pub RefusesOf : Versions → List ℕ → RecoverError → Type 0
RefusesOf v image Fault = Unit {0}
RefusesOf v image NotFormatted = RefusesImage image NotFormatted
RefusesOf v image BadHeader = RefusesImage image BadHeader
RefusesOf v image TooSmall = RefusesImage image TooSmall
RefusesOf v image NoControl = RefusesImage image NoControl
RefusesOf v image BadControl = RefusesImage image BadControl
RefusesOf v image OldVersion = IsTooOld v image
RefusesOf v image Worn = (IsTooOld v image → ⊥) × IsWorn image
RefusesOf v image (BadRecord lane place) = (IsTooOld v image ⊎ IsWorn image → ⊥) × RefusesImage image (BadRecord lane place)
RefusesOf v image (IllegalLog lane place) = (IsTooOld v image ⊎ IsWorn image → ⊥) × RefusesImage image (IllegalLog lane place)
RefusesOf v image NoMemory = Unit {0}

-- to recover an image
abbrev pub RefusesRecovery : List ℕ → RecoverError → Type 0
RefusesRecovery image e = RefusesOf Current image e

-- to upgrade one: the same in the same order, but that no image is too old
abbrev pub RefusesUpgrade : List ℕ → RecoverError → Type 0
RefusesUpgrade image e = RefusesOf Both image e

-- the device after old values were put back: a write of the home cell of each of these fields
abbrev pub put_back_on : Study → List FieldId → Device → Device
put_back_on s fields d = after (put_calls s.layout s.heap.items fields) d

-- the device after the fields were put back and the recovery was ended
abbrev pub finished_on : Study → List FieldId → Device → Device
finished_on s fields d = after (end_calls s.slot s.control.sequence (put_back_on s fields d).now.bytes) (put_back_on s fields d)

-- the device holds the heap of this study, with empty logs, under the next control
abbrev pub IsRecoveredFrom : Device → Study → Type 0
IsRecoveredFrom d s = IsRecovered d s.layout s.guards.items (other s.slot) (s.control.sequence + 1) s.heap.items

-- the device after the calls of a recovery, but for its count of failures: a sync, a write for each field that takes an
-- old value back, by number, and the end
pub record IsMadeBy (s : Study) (old new : Device) : Type 0 where
  pub fields : List FieldId
  pub undone : AreUndone s.layout s.guards.items s.control.rows (lanes_of s.records.items) fields
  pub calls : SameMoments (after (end_calls s.slot s.control.sequence (put_back_on s fields (synced old)).now.bytes) (put_back_on s fields (synced old))) new

-- what recovery gives: the recovered device with what the study of it found, and the study's report
pub record IsRecovery {D : Type 0} (old new : Device) (r : Parts D) (report : Report) : Type 0 where
  pub study : Study
  pub of : IsStudyOf old.now.bytes study
  pub layout_is : r.layout ≡ study.layout
  pub guards_are : r.guards ≡ study.guards.items
  pub slot_is : r.slot ≡ other study.slot
  pub sequence_is : r.sequence ≡ study.control.sequence + 1
  pub heap_is : r.heap ≡ study.heap.items
  pub report_is : report ≡ study.report
  pub made : IsMadeBy study old new

-- the images that a recovery leaves: until its first sync those from before, and from then on only images that are on the way
abbrev pub LeavesOnTheWay : Study → (old new : Device) → Type 0
LeavesOnTheWay s old new = SameMoments old new ⊎ LeavesOnly (synced old) new (IsOnTheWay s)

-- once the first sync was answered, a crash at each moment leaves an image on the way from the study of the old one
abbrev pub StaysOnTheWay : (old new : Device) → Type 0
StaysOnTheWay old new = (s : Study) → IsStudyOf old.now.bytes s → LeavesOnly (synced old) new (IsOnTheWay s)

-- so does a crash of a recovery that was refused, if it did more than that sync
abbrev pub EndsOnTheWay : (old new : Device) → Type 0
EndsOnTheWay old new = (s : Study) → IsStudyOf old.now.bytes s → LeavesOnTheWay s old new

-- nothing was done, or a sync alone
abbrev pub IsLeftAlone : (old new : Device) → Type 0
IsLeftAlone old new = SameMoments old new ⊎ SameMoments (synced old) new

-- what a recovery that ends in an error has done: nothing, the first sync alone, or it had a study of the image and since its
-- first sync left only images that are on the way
abbrev pub IsCutOff : (old new : Device) → Type 0
IsCutOff old new = SameMoments old new ⊎ SameMoments (synced old) new ⊎ ((s : Study) × IsStudyOf old.now.bytes s × LeavesOnly (synced old) new (IsOnTheWay s))

-- a recovery that this refusal ends has done nothing but a sync, unless it is a fault
abbrev pub HasOnlySynced : (old new : Device) → RecoverError → Type 0
HasOnlySynced old new e = (e ≡ Fault) ⊎ SameMoments (synced old) new

-- a fault comes only where the device has failed
abbrev pub IsCaused : (old new : Device) → RecoverError → Type 0
IsCaused old new e = e ≡ Fault → HasFailedSince old new

-- an image that is too old is left alone
abbrev pub LeavesTooOld : Versions → (old new : Device) → Type 0
LeavesTooOld v old new = IsTooOld v old.now.bytes → IsLeftAlone old new

-- an image that can be recovered is studied, or refused by the first test that it doesn't pass
abbrev pub FindsRecoverable : Versions → List ℕ → Result Findings RecoverError → Type 0
FindsRecoverable v image result = MatchResult result (λ found. IsStudyOf image found.study) (RefusesOf v image)
