-- Recovery, or an upgrade, that is cut off, or answers a fault, and is run again: any number of times it is of the same heap (this
-- project's own).
use Rattle.std.specs.Prelude.{ℕ, ◌≡◌, ◌+◌, ◌⊎◌, ◌<◌, ◌≤◌, List, [], ◌∷◌, length}
use Rattle.heap_model.specs.Cuts.{counts_of}
use Rattle.heap_model.specs.Setting.{Setting}
use Rattle.block_disk.specs.Device.{Device}
use Rattle.block_disk.specs.Images.{Always}
use Rattle.image_parts.specs.declared.layout.Layout.{Layout}
use Rattle.store_image.specs.KeptHeap.{kept_heap}
use Rattle.heap_model.specs.Past.{Past}
use Rattle.recover.specs.Reading.{IsOfOldVersion, RefusesImage}
use Rattle.durable.specs.Store.{Known}
use Rattle.durable.specs.declared.store_call.StoreCall.{StoreCall}
use Rattle.recover.specs.Recovery.{IsCutOff, SameReports}
use Rattle.recover.specs.Study.{IsStudyOf}
use Rattle.recover_heap.specs.declared.error.RecoverError.{RecoverError}
use Rattle.recover_heap.specs.declared.error.RecoverError.TheVariants.{Fault, NoMemory}
use Rattle.recover.specs.declared.report.Report.{Report}
use Rattle.recover.specs.declared.studied.Study.{Study}
use Rattle.law_survival.specs.Accepted.{IsLeftBy}
use Rattle.law_survival.specs.Old.{IsLeftByOld}
use Rattle.law_survival.specs.WholeRun.{MayBeLeft, Survives}

-- nothing is left to keep or to drop: a recovery has ended
pub record HasEnded (r : Report) : Type 0 where
  pub kept_none : (lane : ℕ) → counts_of r.kept lane ≡ 0
  pub dropped_none : r.dropped.items ≡ []
  pub undone_none : r.undone ≡ 0

-- what is reported of it: the acknowledged sections are kept, or a recovery has ended
abbrev pub ReportsKept : Layout → Past → Report → Type 0
ReportsKept l p r = ((lane : ℕ) → lane < l.lanes → counts_of r.kept lane ≡ p.cut lane) ⊎ HasEnded r

-- a store of this past leaves this image, or one of version 1 left it, or a recovery on the way, which has found the kept heap
pub data IsKept (l : Layout) (s : Setting) (p : Past) (image : List ℕ) : Type 0 where
  ByStore : IsLeftBy l s p image → IsKept l s p image
  ByOldStore : IsLeftByOld l s p image → IsKept l s p image
  ByRecovery : (study : Study) → IsStudyOf image study → study.heap.items ≡ kept_heap l s p.logged p.cut → ReportsKept l p study.report → IsKept l s p image

-- Such an image has a study, so that nothing of what is said of its study is said of none.
abbrev pub HasStudyLaw : Type 0
HasStudyLaw = (l : Layout) (s : Setting) (p : Past) (image : List ℕ) → IsKept l s p image → (study : Study) × IsStudyOf image study

-- Recovery of such an image finds the kept heap.
abbrev pub KeptHeapLaw : Type 0
KeptHeapLaw = (l : Layout) (s : Setting) (p : Past) (image : List ℕ) (study : Study) → IsKept l s p image → IsStudyOf image study → study.heap.items ≡ kept_heap l s p.logged p.cut

-- It reports the acknowledged sections, or that a recovery has ended.
abbrev pub KeptReportLaw : Type 0
KeptReportLaw = (l : Layout) (s : Setting) (p : Past) (image : List ℕ) (study : Study) → IsKept l s p image → IsStudyOf image study → ReportsKept l p study.report

-- No such image is refused: only the device can fail, and memory be wanting.
abbrev pub KeptAcceptedLaw : Type 0
KeptAcceptedLaw = (l : Layout) (s : Setting) (p : Past) (image : List ℕ) (e : RecoverError) → IsKept l s p image → RefusesImage image e → (e ≡ Fault) ⊎ (e ≡ NoMemory)

-- whatever a crash leaves at any moment is such an image, and whatever one leaves now
pub record StaysKept (l : Layout) (s : Setting) (p : Past) (old new : Device) : Type 0 where
  pub any_moment : (image : List ℕ) → MayBeLeft old new image → IsKept l s p image
  pub now : Always new (IsKept l s p)

-- Wherever a recovery of such an image ends, it leaves such images alone: so it may be run again.
abbrev pub KeptAgainLaw : Type 0
KeptAgainLaw = (l : Layout) (s : Setting) (p : Past) (old new : Device) → Always old (IsKept l s p) → IsCutOff old new → StaysKept l s p old new

-- a try to recover or to upgrade, which a crash or a fault cut off: the device before and after it
pub record Attempt : Type 0 where
  pub old : Device
  pub new : Device

-- Tries in a row, the first of this image: each found what a crash had left of the one before it, with nothing pending. A crash of
-- the last left that image.
abbrev pub AreCutOff : List Attempt → (image last : List ℕ) → Type 0
AreCutOff [] image last = last ≡ image
AreCutOff (a ∷ later) image last =
    (a.old.now ≡ record { bytes = image; pending = [] }) × IsCutOff a.old a.new × ((next : List ℕ) × MayBeLeft a.old a.new next × AreCutOff later next last)

-- So many tries of such an image leave such an image.
abbrev pub KeptOnLaw : Type 0
KeptOnLaw = (l : Layout) (s : Setting) (p : Past) (attempts : List Attempt) (image last : List ℕ) → IsKept l s p image → AreCutOff attempts image last → IsKept l s p last

-- They never make an image one of the old version, which recovery would refuse.
abbrev pub CurrentOnLaw : Type 0
CurrentOnLaw = (attempts : List Attempt) (image last : List ℕ) (study : Study) → IsStudyOf image study → (IsOfOldVersion image → ⊥) → AreCutOff attempts image last → IsOfOldVersion last → ⊥

-- What a try gives and reports, by the sequence of its control: that heap, and all that the first try reports, as long as the
-- sequence is the first one's; a greater one shows that a recovery has ended.
pub record TellsAgain (first : Study) (sequence : ℕ) (heap : List ℕ) (report : Report) : Type 0 where
  pub heap_is : heap ≡ first.heap.items
  pub reported : ((sequence ≡ first.control.sequence + 1) × SameReports report first.report) ⊎ ((first.control.sequence + 1 < sequence) × HasEnded report)

-- However often an image is tried, each try finds and tells what the first one does, the dropped sections with their reasons and the
-- number of fields that take an old value back included.
abbrev pub TriedLaw : Type 0
TriedLaw = (attempts : List Attempt) (image last : List ℕ) (first again : Study) → IsStudyOf image first → AreCutOff attempts image last → IsStudyOf last again → TellsAgain first (again.control.sequence + 1) again.heap.items again.report

-- Each image on the way from one that has a study has one too.
abbrev pub StudiedOnLaw : Type 0
StudiedOnLaw = (attempts : List Attempt) (image last : List ℕ) (first : Study) → IsStudyOf image first → AreCutOff attempts image last → (again : Study) × IsStudyOf last again

-- A try takes the control's sequence on by one at most.
abbrev pub TriesTakeLaw : Type 0
TriesTakeLaw = (attempts : List Attempt) (image last : List ℕ) (first again : Study) → IsStudyOf image first → AreCutOff attempts image last → IsStudyOf last again → again.control.sequence ≤ first.control.sequence + length attempts

-- The heap is one acknowledged after some of the calls, and what is reported as kept are its sections, unless a recovery has ended before.
pub record SurvivesAgain (x : Known) (s : Setting) (p : Past) (calls : List StoreCall) (heap : List ℕ) (report : Report) : Type 0 where
  pub kept : ℕ → ℕ
  pub survives : Survives x s p calls heap kept
  pub reported : ((lane : ℕ) → lane < x.layout.lanes → counts_of report.kept lane ≡ kept lane) ⊎ HasEnded report
