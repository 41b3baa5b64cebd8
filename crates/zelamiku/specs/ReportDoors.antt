-- What C is told of an opening beside the heap: which sections recovery kept and dropped, and why; or for which record it refused (this
-- project's own).
use Rattle.std.specs.Prelude.{ℕ, ◌≡◌, ◌<◌, List, [], length, replicate, slice_get, Option, Some, None}
use Rattle.std.specs.List.{slice_index_or}
use Rattle.heap_model.specs.declared.limits.TheConstants.{LANES}
use Rattle.host_heap.specs.Hosting.{Hosting}
use Rattle.host_heap.specs.Opening.{IsFound, RefusesOpening}
use Rattle.host_heap.specs.declared.error.HostError.{HostError}
use Rattle.host_heap.specs.declared.error.HostError.TheVariants as host
use Rattle.recover_heap.specs.declared.error.RecoverError.TheVariants as recover
use Rattle.recover.specs.declared.report.Dropped.{Dropped as Section}
use Rattle.recover.specs.declared.report.Report.{Report}
use Rattle.recover.specs.declared.report.Why.{Why}
use Rattle.recover.specs.declared.report.Why.TheVariants.{Unfinished, After, Unsettled}
use Rattle.recover.specs.declared.versions.Versions.{Versions}
use Rattle.zelamiku.specs.Handles.{heap_held, nothing_held}
use Rattle.zelamiku.specs.HeapDoors.{found_of, nothing_found, wanted_of}
use Rattle.zelamiku.specs.HeapStatuses.{host_status}
use Rattle.zelamiku.specs.Own.{Held}
use Rattle.zelamiku.specs.declared.report_calls.TheConstants.{UNFINISHED, AFTER, UNSETTLED}
use Rattle.zelamiku.specs.declared.session_calls.TheConstants.{NOBODY}
use Rattle.zelamiku.specs.declared.status.TheConstants.{OK}
use Rattle.zelamiku.specs.declared.words.Dropped.{Dropped}
use Rattle.zelamiku.specs.declared.words.Told.{Told}

-- nothing is told
abbrev pub nothing_told : Told
nothing_told = record { found = nothing_found; kept = replicate LANES 0; place = 0; lane = NOBODY }

-- of a heap with this layout, of whose lanes threads have so many, and of which recovery reports this
abbrev pub told_of : Hosting → Report → Told
told_of x report = record { found = found_of x report; kept = report.kept.counts; place = 0; lane = NOBODY }

-- the record for which it was refused
abbrev pub blamed : (lane place : ℕ) → Told
blamed lane place = record { found = nothing_found; kept = replicate LANES 0; place = place; lane = lane }

-- of a heap that wasn't opened: the record that can't be read, or that no threads can have left
abbrev pub told_of_refusal : HostError → Told
told_of_refusal (host.Recover (recover.BadRecord lane place)) = blamed lane.0 place
told_of_refusal (host.Recover (recover.IllegalLog lane place)) = blamed lane.0 place
told_of_refusal _ = nothing_told

-- a section that was dropped for no other section
abbrev pub dropped_for : (lane section why : ℕ) → Dropped
dropped_for lane section why = record { section = section; after_section = 0; lane = lane; why = why; after_lane = NOBODY }

-- a section that was dropped, and why
abbrev pub told_why : (lane section : ℕ) → Why → Dropped
told_why lane section Unfinished = dropped_for lane section UNFINISHED
told_why lane section (After other later) = record { section = section; after_section = later; lane = lane; why = AFTER; after_lane = other.0 }
told_why lane section Unsettled = dropped_for lane section UNSETTLED

-- one of those that were dropped, or that there are no more
abbrev pub told_at : Option Section → Dropped
told_at (Some s) = told_why s.lane.0 s.section s.why
told_at None = dropped_for NOBODY 0 0

-- each of these tells of the section of its place
abbrev pub TellsEach : List Section → List Dropped → Type 0
TellsEach sections told = (i : ℕ) (d : Dropped) → i < length told → slice_index_or told i d ≡ told_at (slice_get sections i)

-- Nothing is told of an opening that was refused because the handle was in use, or because of its rings.
pub record TellsNothing (told : Told) (dropped : List Dropped) : Type 0 where
  pub told_is : told ≡ nothing_told
  pub none : TellsEach [] dropped

-- `zelamiku_open` of the current version, and `zelamiku_upgrade` of both, for so many threads, with rings of this room, into an
-- empty handle: the heap that recovery finds in these bytes, and what it reports; or none, and why
pub data OpensAt (threads ring : ℕ) (versions : Versions) (bytes : List ℕ) (told : Told) (dropped : List Dropped) (after : Held) (status : ℕ) : Type 0 where
  IsOpen : (x : Hosting) (report : Report) → IsFound versions (wanted_of threads) ring bytes x report → told ≡ told_of x report → TellsEach report.dropped.items dropped
      → after ≡ heap_held x → status ≡ OK → OpensAt threads ring versions bytes told dropped after status
  NotOpen : (why : HostError) → RefusesOpening versions bytes why → told ≡ told_of_refusal why → TellsEach [] dropped → after ≡ nothing_held → status ≡ host_status why
      → OpensAt threads ring versions bytes told dropped after status
