-- What survives of a heap of version 1 when it is upgraded (this project's own).
use Rattle.std.specs.Prelude.{ℕ, ◌≡◌, ◌⊎◌, ◌+◌, ◌-◌, ◌^◌, ◌≤◌, List, length, IfErr, IfOk, MatchResult}
use Rattle.block_disk.specs.Device.{Device, HasFailed, SameMoments, synced}
use Rattle.heap_model.specs.declared.event.Event.{Event}
use Rattle.heap_model.specs.Cuts.{IsClosed, IsWhole}
use Rattle.heap_model.specs.History.{IsLegalHistory, log_of}
use Rattle.heap_model.specs.Log.{IsLaneWisePrefix}
use Rattle.heap_model.specs.Sections.{actions}
use Rattle.heap_model.specs.Setting.{Setting}
use Rattle.image_parts.specs.declared.layout.Layout.{Layout}
use Rattle.recover.specs.Recovery.{IsCutOff, IsRecovery, RefusesUpgrade}
use Rattle.recover.specs.Study.{IsStudyOf}
use Rattle.recover_heap.specs.declared.error.RecoverError.TheVariants.{Fault, Worn}
use Rattle.recover.specs.declared.report.Report.{Report}
use Rattle.recover.specs.declared.studied.Study.{Study}
use Rattle.store_image.specs.KeptHeap.{kept_heap}
use Rattle.heap_model.specs.Past.{Past, applied}
use Rattle.law_survival.specs.Again.{AreCutOff, Attempt, ReportsKept, TellsAgain}
use Rattle.law_survival.specs.History.{KeepsHistory}
use Rattle.law_survival.specs.Old.{IsLeftByOld}
use Rattle.law_survival.specs.Promise.{Answer}
use Rattle.law_survival.specs.WholeRun.{CannotRecover}

-- The heap is that of the sections that the store of version 1 had acknowledged, and of nothing else: each is whole, with all that
-- it depends on. They are reported as kept, or a recovery has ended before.
pub record SurvivesUpgrade (l : Layout) (s : Setting) (p : Past) (heap : List ℕ) (report : Report) : Type 0 where
  pub whole : IsWhole (actions p.logged) p.cut
  pub closed : IsClosed (actions p.logged) p.cut
  pub heap_is : heap ≡ kept_heap l s p.logged p.cut
  pub reported : ReportsKept l p report

-- An upgrade was tried before: a store of version 1 left the image `first`, each of the attempts was cut off, and the last one left `image`.
pub record WasTriedOld (l : Layout) (s : Setting) (p : Past) (first : List ℕ) (attempts : List Attempt) (image : List ℕ) : Type 0 where
  -- a crash of a store of version 1 left the first image
  pub left : IsLeftByOld l s p first
  -- each attempt found what a crash had left of the one before it
  pub tries : AreCutOff attempts first image

-- What an upgrade says of such an image.
pub record SurvivesUpgrades {E : Type 0} (image : List ℕ) (told : Answer E) : Type 0 where
  -- An upgrade gives the heap of the acknowledged sections, however often it was tried before, unless a call of its device fails, memory
  -- runs out, or the control's sequence is at its last value.
  pub heap : (l : Layout) (s : Setting) (p : Past) (first : List ℕ) (attempts : List Attempt) → WasTriedOld l s p first attempts image
      → MatchResult told (λ r. SurvivesUpgrade l s p r.0.heap r.1) (λ back. CannotRecover image back.1)
  -- Its heap and its report are those of the first attempt, or it reports that an earlier attempt has ended.
  pub first_told : (l : Layout) (s : Setting) (p : Past) (first : List ℕ) (attempts : List Attempt) → WasTriedOld l s p first attempts image
      → (study : Study) × IsStudyOf first study × IfOk told (λ r. TellsAgain study r.0.sequence r.0.heap r.1)
  -- It refuses the image as worn only if the control was within as many of the last sequence as there were attempts.
  pub unworn : (first : List ℕ) (attempts : List Attempt) (study : Study) → IsStudyOf first study → AreCutOff attempts first image
      → IfErr told (λ back. back.1 ≡ Worn → 2 ^ 64 - 1 ≤ study.control.sequence + length attempts)

-- What an upgrade says by itself.
pub record Upgrades {E : Type 0} (device : E → Device) (left : E) (told : Answer E) : Type 0 where
  -- The upgrade gives what the study of the image found, or its refusal tells what is wrong with the image.
  pub found : MatchResult told (λ r. IsRecovery (device left) (device r.0.disk) r.0 r.1) (λ back. RefusesUpgrade (device left).now.bytes back.1)
  -- However the upgrade ends, it counts as an attempt that was cut off, and another may follow.
  pub cut_off : MatchResult told (λ r. IsCutOff (device left) (device r.0.disk)) (λ back. IsCutOff (device left) (device back.0))
  -- Every refusal except `Fault` leaves the device as it was after its first sync.
  pub untouched : IfErr told (λ back. (back.1 ≡ Fault) ⊎ SameMoments (synced (device left)) (device back.0))
  -- The refusal is `Fault` only if a call of the device has failed.
  pub cause : IfErr told (λ back. back.1 ≡ Fault → HasFailed (device left).failures (device back.0).failures)

-- So the heap is of the threads' history, where the store had applied, thread by thread, a beginning of what a legal one logs.
abbrev pub OldHistoryLaw : Type 0
OldHistoryLaw = (l : Layout) (s : Setting) (p : Past) (image : List ℕ) (history : List (ℕ × Event)) (heap : List ℕ) (report : Report) → IsLeftByOld l s p image →
    IsLegalHistory s history → IsLaneWisePrefix (applied p) (log_of s history) → SurvivesUpgrade l s p heap report → KeepsHistory l s history p.cut heap
