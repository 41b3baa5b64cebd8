use Rattle.std.proofs.Common.{length, refl, vec_len, vec_capacity}
use Rattle.block_disk.specs.Calls.{stops_of}
use Rattle.block_disk.specs.Memory.{Synced, SyncFailed}
use Rattle.block_disk.proofs.Kept.{kept_same, spare_kept, spare_taken}
use Rattle.block_disk.proofs.memory.MemDiskDisk.sync.Goals as goal

pub invariant_of-self : goal.invariant_of-self
invariant_of-self c =
    let d = c.self.inside in (
      kept_same d.first.items d.bytes.items d.calls.items c.keep_failed-kept.new.calls.items SyncFailed c.keep_failed-kept.result c.self.invariant.0 refl c.keep_failed-kept.ensures.kept
          (c.keep_failed-kept.ensures.fits (length d.first.items) tt c.self.invariant.0.fits),
      spare_taken (stops_of d.calls.items) (stops_of c.keep_failed-kept.new.calls.items) (vec_len d.calls) (vec_capacity d.calls) (vec_len c.keep_failed-kept.new.calls) (vec_capacity c.keep_failed-kept.new.calls)
          SyncFailed c.keep_failed-kept.result tt c.self.invariant.1 c.keep_failed-kept.ensures.kept c.keep_failed-kept.ensures.room,
    )

pub invariant_of-self-then-not-keep : goal.invariant_of-self-then-not-keep
invariant_of-self-then-not-keep c =
    let d = c.self.inside in (
      kept_same d.first.items d.bytes.items d.calls.items c.keep.new.calls.items Synced c.keep.result c.self.invariant.0 refl c.keep.ensures.kept
          (c.keep.ensures.fits (length d.first.items) tt c.self.invariant.0.fits),
      spare_kept (stops_of d.calls.items) (stops_of c.keep.new.calls.items) (vec_len d.calls) (vec_capacity d.calls) (vec_len c.keep.new.calls) (vec_capacity c.keep.new.calls)
          Synced c.keep.result c.self.invariant.1 c.keep.ensures.kept c.keep.ensures.spare c.keep.ensures.len c.keep.ensures.capacity,
    )

pub invariant_of-self-else-not-keep : goal.invariant_of-self-else-not-keep
invariant_of-self-else-not-keep c =
    let d = c.self.inside in (
      kept_same d.first.items d.bytes.items d.calls.items c.keep.new.calls.items Synced c.keep.result c.self.invariant.0 refl c.keep.ensures.kept
          (c.keep.ensures.fits (length d.first.items) tt c.self.invariant.0.fits),
      spare_kept (stops_of d.calls.items) (stops_of c.keep.new.calls.items) (vec_len d.calls) (vec_capacity d.calls) (vec_len c.keep.new.calls) (vec_capacity c.keep.new.calls)
          Synced c.keep.result c.self.invariant.1 c.keep.ensures.kept c.keep.ensures.spare c.keep.ensures.len c.keep.ensures.capacity,
    )
