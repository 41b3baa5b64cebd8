-- Calls of a device that change it, in the order in which they are made.
use Rattle.std.specs.Prelude.{ℕ, List, [], ◌∷◌}
use Rattle.block_disk.specs.Device.{Device, written, synced}

-- a write of these bytes at this place, or a sync
pub data Call : Type 0 where
  Write : (at : ℕ) (bytes : List ℕ) → Call
  Sync : Call

-- what a call that succeeds makes of the device
abbrev pub after_one : Call → Device → Device
after_one (Write at bytes) d = written at bytes d
after_one Sync d = synced d

-- what these calls make of it, if all succeed; the device remembers each of them
abbrev pub after : List Call → Device → Device
after [] d = d
after (call ∷ calls) d = after calls (after_one call d)
