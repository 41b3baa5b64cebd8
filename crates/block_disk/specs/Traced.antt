-- What a disk was asked for, as only clauses read it (this project's own).
use Rattle.std.specs.Prelude.{ℕ, List, [], ◌∷◌, replicate}
use Rattle.block_disk.specs.Device.{Device, new_device, written, written_units, synced}
use Rattle.block_disk.specs.Memory.{Stop, Wrote, Synced, units_onto}

-- the device that the calls have made, with all its moments, and the calls one by one, the newest first
pub record Traced : Type 0 where
  pub device : Device
  pub stops : List Stop

-- a device of these bytes, and no call yet
abbrev pub begun : List ℕ → Traced
begun bytes = record { device = new_device bytes; stops = [] }

-- and then a write
abbrev pub and_written : (at : ℕ) → List ℕ → Traced → Traced
and_written at bytes t = record { device = written at bytes t.device; stops = Wrote at bytes ∷ t.stops }

-- and then n writes of 16 bytes each, one right behind the other
abbrev pub and_units : (n at : ℕ) → List ℕ → Traced → Traced
and_units n at bytes t = record { device = written_units n at bytes t.device; stops = units_onto n at bytes t.stops }

-- and then a sync
abbrev pub and_synced : Traced → Traced
and_synced t = record { device = synced t.device; stops = Synced ∷ t.stops }

-- no number: a sync; one: a write of these bytes at that place; two: as many writes of 16 bytes as the second says; three: so many bytes
-- there that can't be read from now on; more: a new device of these bytes
abbrev pub noted : List ℕ → List ℕ → Traced → Traced
noted [] bytes t = and_synced t
noted (at ∷ []) bytes t = and_written at bytes t
noted (at ∷ n ∷ []) bytes t = and_units n at bytes t
noted (at ∷ n ∷ a ∷ []) bytes t = and_written at (replicate n 256) t
noted (a ∷ b ∷ c ∷ d ∷ more) bytes t = begun bytes

-- the device, with failures counted elsewhere
abbrev pub failing : ℕ → Device → Device
failing count d = record { name = d.name; now = d.now; past = d.past; failures = count }
