-- Home writes of a store, one after another.
use Rattle.std.specs.Prelude.{ℕ, suc, ◌≡◌}
use Prim.Native.Nat.{zero}
use Rattle.heap_model.specs.Setting.{Setting}
use Rattle.block_disk.specs.Memory.{Memory}
use Rattle.store_memory.specs.Begin.{IsLeastDirtyOf}
use Rattle.durable.specs.Calls.{IsClean}
use Rattle.heap_model.specs.Past.{Past, after_home}
use Rattle.durable.specs.Store.{Parts}
use Rattle.script_machine.specs.States.{Tells}

-- so many home writes, each of the least dirty field then, make of the first past the second
abbrev pub WriteHomes : Setting → Past → ℕ → Past → Type 0
WriteHomes s p zero q = q ≡ p
WriteHomes s p (suc n) q = (f : ℕ) × IsLeastDirtyOf s p f × WriteHomes s (after_home p f) n q

-- so many home writes of a store that was told this leave no field dirty, and the store is then this one
pub record BringsHome (new : Parts Memory) (s : Setting) (p : Past) (cells : ℕ) : Type 0 where
  pub then : Past
  pub written : WriteHomes s p cells then
  pub clean : IsClean s then
  pub tells : Tells new s then
