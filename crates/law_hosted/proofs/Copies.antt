-- A copy of a heap's disk in memory.
use Rattle.std.proofs.Common.{length, refl, arith}
use Rattle.block_disk.specs.Device.{Device}
use Rattle.block_disk.proofs.Images.{image_now, left_since}
use Rattle.store_rounds.proofs.Running.{run_none}
use Rattle.law_running.specs.Running.{CrashNowLaw}
use Rattle.thread_steps.specs.Views.{plan}
use Rattle.law_survival.specs.WholeRun.{MayBeLeft}
use Rattle.host_heap.specs.Hosting.{hosted_device}
use Rattle.law_hosted.specs.Copies.{ClosedCopyLaw, CopyLaw, RunningCopyLaw}
use Rattle.law_hosted.specs.Safe.{KeptRunLaw}

-- its bytes are an image that a crash leaves of a device right now
left_as_is : (d : Device) → MayBeLeft d d d.now.bytes
left_as_is d = left_since (length d.past) d d.now.bytes (omega arith) (image_now d)

pub copy_safe : KeptRunLaw → CopyLaw
copy_safe kept x p serving =
    let d : Device = hosted_device x.helper.store.disk in
    let known = x.helper.store.known in
    kept known.layout known.threads (plan x.home) p d d d.now.bytes
    (record { store = known; layout = refl; threads = refl; has = serving.taken.has; now = p; ran = run_none known.layout known.threads (plan x.home) p d }) (left_as_is d)

pub copy_keeps : CrashNowLaw hosted_device → RunningCopyLaw
copy_keeps now x p seen rests = now x.home p x.helper seen (hosted_device x.helper.store.disk).now.bytes rests (left_as_is (hosted_device x.helper.store.disk))

pub closed_copy : ClosedCopyLaw
closed_copy h x d closing =
    let is = image_now (hosted_device d) in
    record { left = closing.closed.left (hosted_device d).now.bytes is; stands = closing.closed.stands (hosted_device d).now.bytes is; values = closing.closed.values (hosted_device d).now.bytes is }
