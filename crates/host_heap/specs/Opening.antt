-- What a hosted heap begins with, and which refusal comes when (this project's own).
use Rattle.std.specs.Prelude.{ℕ, ◌≡◌, ◌<◌, ◌-◌, ◌&&◌, if◌then◌else◌, nat_le, nat_lt, true, false, List, [], None, Result, MatchResult, replicate, slice_index}
use Rattle.std.specs.List.{range_with_len, slice_index_or}
use Rattle.block_disk.specs.Device.{Device, synced}
use Rattle.block_disk.specs.Images.{LeavesOnly}
use Rattle.block_disk.specs.Memory.{device_of, fresh}
use Rattle.disk_deferred.specs.Deferred.{Deferred}
use Rattle.disk_deferred.specs.Host.{Host, IsHostOf, host_name}
use Rattle.guards.specs.Schema.{Declarations}
use Rattle.guards.specs.declared.error.SchemaError.TheVariants as schemas
use Rattle.heap_model.specs.declared.limits.TheConstants.{LAST_NUMBER}
use Rattle.image_parts.specs.Calls.{after}
use Rattle.image_parts.specs.Format.{format_calls}
use Rattle.image_parts.specs.Layout.{size_of}
use Rattle.image_parts.specs.Recovered.{Parts}
use Rattle.image_parts.specs.declared.error.ImageError.TheVariants as images
use Rattle.image_parts.specs.declared.guard_row.GuardRow.{GuardRow}
use Rattle.recover.specs.Recovery.{IsOnTheWay, IsRecovery, IsTooOld, RefusesOf}
use Rattle.recover.specs.Study.{IsStudyOf}
use Rattle.recover_heap.specs.declared.error.RecoverError.{RecoverError}
use Rattle.recover_heap.specs.declared.error.RecoverError.TheVariants as recover
use Rattle.recover.specs.declared.studied.Study.{Study}
use Rattle.recover.specs.declared.report.Report.{Report}
use Rattle.recover.specs.declared.versions.Versions.{Versions}
use Rattle.thread_heap.specs.Joined.{HaveRoom}
use Rattle.thread_steps.specs.Views.{plan}
use Rattle.store_image.specs.Formatting.{AreLimits, layout_with}
use Rattle.heap_model.specs.Past.{no_past}
use Rattle.trim_helper.specs.Parts.{IsServing}
use Rattle.host_heap.specs.Hosting.{Hosting, hosted_device}
use Rattle.image_parts.specs.NumberedRows.{RefusesRows, numbered}
use Rattle.host_heap.specs.declared.error.HostError.{HostError}
use Rattle.host_heap.specs.declared.error.HostError.TheVariants.{NoMemory, Schema, Image, Recover}

-- the device of the host that makes these calls, with these bytes, before it has made the first
abbrev pub device_on : Host → List ℕ → Device
device_on c bytes = record (device_of (fresh bytes)) { name = host_name c }

-- how many of an image's lanes are the threads', where its caller has so many threads: all of them; but where the image has more, the last
-- one is the helper's own, unless it is the only one
abbrev pub threads_of : (lanes wanted : ℕ) → ℕ
threads_of lanes wanted = if nat_lt wanted lanes && nat_le 2 lanes then lanes - 1 else lanes

-- A heap runs with what was recovered: its values, its layout and its device. No record was sent to it, and all is settled. So many of its lanes
-- are the threads'. The calls of its host are that device's. The host has made none and fetched none. No session was handed out: the threads'
-- sessions come by number.
pub record HasBegun (schema : Declarations) (threads : ℕ) (r : Parts Deferred) (x : Hosting) : Type 0 where
  pub plan_is : x.home.plan ≡ record { schema = schema; first = r.heap; last = LAST_NUMBER; lanes = threads }
  pub threads_are : x.helper.store.known.threads ≡ threads
  pub layout_is : x.helper.store.known.layout ≡ r.layout
  pub disk_is : x.helper.store.disk ≡ r.disk
  -- The host's calls are those of the heap's own disk.
  pub host : IsHostOf x.helper.store.disk x.calls
  pub untold : IsServing hosted_device x.helper (plan x.home) no_past
  pub running : x.helper.store.known.has_failed ≡ false
  pub settled : x.helper.is_settled ≡ true
  -- A heap begins with no call made.
  pub unmade : x.calls.made ≡ []
  -- A heap begins with no call fetched.
  pub none_left : x.calls.left ≡ []
  -- A heap begins with all its sessions to hand out, one for each lane of the threads'.
  pub unused : x.unused ≡ range_with_len 0 threads
  -- A heap begins with no session handed out.
  pub none_out : x.out ≡ []
  pub unstopped : x.stop.seen ≡ None

-- each lane's ring has room for so many records
abbrev pub HasRings : (records : ℕ) → Hosting → Type 0
HasRings records x = HaveRoom records x.helper.rings

-- A heap was made of so many objects and of these fields, with so many lanes of so many records each, for so many threads, with rings of this
-- room. It begins with the fields' first values. The calls made the image of a device of zeros.
pub record IsMade (objects : ℕ) (rows : List GuardRow) (lanes capacity threads ring : ℕ) (x : Hosting) : Type 0 where
  pub limits : AreLimits lanes capacity
  pub made : Parts Deferred
  pub layout_is : made.layout ≡ layout_with (numbered objects rows) lanes capacity
  -- The calls of a new heap's host make the image that formatting makes of zeros.
  pub formatted : hosted_device made.disk ≡ after (format_calls made.layout (numbered objects rows)) (device_on x.calls (replicate (size_of made.layout) 0))
  -- Each field of a new heap has its first value.
  pub values : (f : ℕ) (d : GuardRow) → f < made.layout.fields → slice_index made.heap f ≡ (slice_index_or rows f d).first
  -- Where a heap is made with more lanes than its caller has threads, the last lane is the helper's, unless it is the only one.
  pub begun : HasBegun (numbered objects rows) (threads_of made.layout.lanes threads) made x
  -- Each lane's ring has room for as many records as the caller asks for.
  pub rings : HasRings ring x

-- A heap runs, for so many threads and with rings of this room, with what recovery finds in these bytes, an image of one of these versions.
-- Recovery gives this report.
pub record IsFound (versions : Versions) (threads ring : ℕ) (bytes : List ℕ) (x : Hosting) (report : Report) : Type 0 where
  pub taken : IsTooOld versions bytes → ⊥
  pub found : Parts Deferred
  -- An opened heap is what recovery finds in these bytes.
  pub recovery : IsRecovery (device_on x.calls bytes) (hosted_device found.disk) found report
  -- Whatever a crash leaves of an opening, once its first sync was answered, is an image on recovery's way.
  pub any_moment : (s : Study) → IsStudyOf bytes s → LeavesOnly (synced (device_on x.calls bytes)) (hosted_device found.disk) (IsOnTheWay s)
  -- Where the image of a heap that is opened has more lanes than its caller has threads, the last lane is the helper's, unless it is the
  -- only one.
  pub begun : HasBegun (numbered found.layout.objects found.guards) (threads_of found.layout.lanes threads) found x
  -- Each lane's ring has room for as many records as the caller asks for, whatever room it had before.
  pub rings : HasRings ring x

-- why no heap is made
abbrev pub RefusesMaking : (objects : ℕ) (rows : List GuardRow) (lanes capacity : ℕ) → HostError → Type 0
RefusesMaking objects rows lanes capacity NoMemory = AreLimits lanes capacity
RefusesMaking objects rows lanes capacity (Schema e) = RefusesRows objects rows e
RefusesMaking objects rows lanes capacity (Image images.BadHeader) = AreLimits lanes capacity → ⊥
RefusesMaking objects rows lanes capacity (Image images.NoMemory) = AreLimits lanes capacity
RefusesMaking objects rows lanes capacity (Image images.Fault) = AreLimits lanes capacity
RefusesMaking objects rows lanes capacity _ = ⊥

-- how an opening is refused where recovery is: the disk is in memory, and fails only for want of memory
abbrev pub refused_as : RecoverError → HostError
refused_as recover.Fault = NoMemory
refused_as recover.NoMemory = NoMemory
refused_as e = Recover e

-- why no heap is opened, where these versions are accepted
abbrev pub RefusesOpening : Versions → (bytes : List ℕ) → HostError → Type 0
RefusesOpening versions bytes NoMemory = Unit {0}
RefusesOpening versions bytes (Recover recover.Fault) = ⊥
RefusesOpening versions bytes (Recover recover.NoMemory) = ⊥
RefusesOpening versions bytes (Recover e) = RefusesOf versions bytes e
RefusesOpening versions bytes (Schema e) = e ≡ schemas.NoMemory
RefusesOpening versions bytes (Image e) = ⊥

-- `format`: a heap of these objects and fields, or why there is none
abbrev pub Formats : (objects : ℕ) (rows : List GuardRow) (lanes capacity threads ring : ℕ) → Result Hosting HostError → Type 0
Formats objects rows lanes capacity threads ring answer =
    MatchResult answer (IsMade objects rows lanes capacity threads ring) (RefusesMaking objects rows lanes capacity)

-- `open`: the heap that recovery finds in these bytes with its report, or why there is none
abbrev pub Opens : (versions : Versions) (threads ring : ℕ) (bytes : List ℕ) → Result (Hosting × Report) HostError → Type 0
Opens versions threads ring bytes answer =
    MatchResult answer (λ found. IsFound versions threads ring bytes found.0 found.1) (RefusesOpening versions bytes)
