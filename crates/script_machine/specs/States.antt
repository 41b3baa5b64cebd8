-- The machine while it runs, and after a crash.
use Rattle.std.specs.Prelude.{ℕ, ◌+◌, ◌-◌, List, length}
use Rattle.guards.specs.Schema.{Declarations}
use Rattle.heap_model.specs.Setting.{Setting}
use Rattle.block_disk.specs.Crash.{crash_bytes, done_at}
use Rattle.block_disk.specs.Memory.{Memory, device_of}
use Rattle.block_disk.specs.declared.crash.Fill.{Fill}
use Rattle.heap_model.specs.Past.{Past}
use Rattle.durable.specs.Store.{Parts, HasPast}
use Rattle.script_monitors.specs.Table.{Table}

-- the monitors, and the store behind them
pub record Live : Type 0 where
  pub monitors : Table
  pub store : Parts Memory

-- the schema, and the disk that a crash left
pub record Wreck : Type 0 where
  pub schema : Declarations
  pub disk : Memory

-- the store may have been told this, in this setting
abbrev pub Tells : Parts Memory → Setting → Past → Type 0
Tells x s p = HasPast x.known s p (device_of x.disk)

-- Which write or sync a crash finds begun that comes with all but the last so many ended: they are counted from 1, and one
-- past the last stands for none.
abbrev pub begun_at : (back : ℕ) → Memory → ℕ
begun_at back d = length d.stops + 1 - back

-- the bytes that such a crash leaves of the disk
abbrev pub crash_back : Fill → (back : ℕ) → Memory → List ℕ
crash_back fill back d = crash_bytes fill d.first (done_at (begun_at back d) d.stops)
