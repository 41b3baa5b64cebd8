-- What a script tells of a recovery.
use Rattle.std.specs.Prelude.{◌≡◌, Ok}
use Rattle.heap_model.specs.Setting.{Setting}
use Rattle.block_disk.specs.Device.{SameMoments, synced}
use Rattle.block_disk.specs.Images.{LeavesOnly}
use Rattle.block_disk.specs.Memory.{Memory, device_of}
use Rattle.heap_model.specs.declared.limits.TheConstants.{LAST_NUMBER}
use Rattle.image_parts.specs.Layout.{IsLayout}
use Rattle.durable.specs.Begin.{IsSettingOf}
use Rattle.heap_model.specs.Past.{no_past}
use Rattle.durable.specs.Store.{Parts}
use Rattle.image_parts.specs.Recovered as image
use Rattle.recover.specs.declared.report.Report as recover
use Rattle.recover_heap.specs.declared.error.RecoverError.{RecoverError}
use Rattle.recover.specs.declared.studied.Study.{Study}
use Rattle.recover.specs.declared.versions.Versions.{Versions}
use Rattle.recover.specs.Recovery.{IsRecovery, IsOnTheWay, RefusesOf}
use Rattle.recover.specs.Study.{IsStudyOf}
use Rattle.script_machine.specs.declared.answer.Report.{Report}
use Rattle.script_machine.specs.declared.answer.Refusal.{Refusal}
use Rattle.script_machine.specs.Refusals.{told_of_recovery}
use Rattle.script_machine.specs.States.{Tells}

-- a device that was recovered
abbrev pub Recovered : Type 0 → Type 0
Recovered D = image.Parts D

-- what recovery found
abbrev pub Found : Type 0
Found = recover.Report

-- what recovery found is told as it is, with the lanes and the heap of the recovered device
pub record IsReportOf {D : Type 0} (recovered : Recovered D) (found : Found) (told : Report) : Type 0 where
  pub found_is : told.found ≡ found
  pub lanes : told.lanes ≡ recovered.layout.lanes
  pub heap : told.heap.items ≡ recovered.heap

-- the store over a device that was recovered, which was told nothing, and what is told of what was found
pub record Reopens (recovered : Recovered Memory) (found : Found) (store : Parts Memory) (told : Report) : Type 0 where
  pub reported : IsReportOf recovered found told
  pub limits : IsLayout recovered.layout
  pub layout : store.known.layout ≡ recovered.layout
  pub disk : store.disk ≡ recovered.disk
  pub tells : (s : Setting) → IsSettingOf recovered.layout recovered.guards recovered.heap LAST_NUMBER s → Tells store s no_past

-- The disk is recovered: what was found is the study of the very bytes on it, what recovery made is the store's disk, and
-- what is told is what was found. Another crash, in the recovery, leaves an image that stands for the same heap.
pub record Restores (old : Memory) (store : Parts Memory) (told : Report) : Type 0 where
  pub recovered : Recovered Memory
  pub found : Found
  -- The lines of `recover` tell of the very image that `crash` left.
  pub recovery : IsRecovery (device_of old) (device_of recovered.disk) recovered found
  -- A crash inside `recover` leaves the same heap.
  pub any_moment : (s : Study) → IsStudyOf (device_of old).now.bytes s → LeavesOnly (synced (device_of old)) (device_of recovered.disk) (IsOnTheWay s)
  pub reopens : Reopens recovered found store told

-- The bytes on the disk are refused for this reason, where these versions are taken, and it is told; the disk is then the second, and but for a sync nothing was done
pub record RefusesDisk (versions : Versions) (old new : Memory) (told : Refusal) : Type 0 where
  pub reason : RecoverError
  -- A refused image is told by the word of its reason.
  pub told_is : told_of_recovery reason ≡ Ok told
  -- A refused image is refused for the first thing that is wrong with it.
  pub refused : RefusesOf versions (device_of old).now.bytes reason
  -- A refused image was synced, and nothing else was done.
  pub untouched : SameMoments (synced (device_of old)) (device_of new)
