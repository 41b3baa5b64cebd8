-- The monitors and the store of a machine that runs agree (this project's own).
use Rattle.std.specs.Prelude.{ℕ, ◌≡◌, ◌<◌, true, false, List, slice_index}
use Rattle.guards.specs.Schema.{Declarations, field_count, first_of, is_transient_of}
use Rattle.heap_model.specs.declared.limits.TheConstants.{LAST_NUMBER}
use Rattle.heap_model.specs.declared.event.Event.{Event}
use Rattle.heap_model.specs.Setting.{Setting}
use Rattle.heap_model.specs.History.{state_after, IsLegalHistory, log_of}
use Rattle.block_disk.specs.Memory.{Memory}
use Rattle.heap_model.specs.Past.{Past, applied, no_past}
use Rattle.durable.specs.Store.{Parts}
use Rattle.heap_model.specs.declared.store_error.StoreError.{StoreError}
use Rattle.heap_model.specs.declared.store_error.StoreError.TheVariants as store
use Rattle.script_machine.specs.OfSchema.{IsDiskOf}
use Rattle.script_machine.specs.States.{Tells}
use Rattle.script_monitors.specs.Table.{Table, lanes_of, setting_in, setting_of, state_of}

-- what events and records are judged by, where the fields begin with these values
abbrev pub setting_from : Table → (first : ℕ → ℕ) → Setting
setting_from table first = record (setting_of table) { first = first }

-- Both stand where one legal history of the threads' events leads: the monitors are in the state after it, and the store
-- was told its logged events. The store has the threads' lanes, its device hasn't failed, and no crash leaves an image of
-- another schema.
pub record Agrees (table : Table) (store : Parts Memory) : Type 0 where
  pub first : ℕ → ℕ
  pub history : List (ℕ × Event)
  pub past : Past
  pub legal : IsLegalHistory (setting_from table first) history
  -- While a script's machine runs, its monitors are in the state after a legal history of the threads' events.
  pub state : state_of table ≡ state_after (setting_from table first) history
  -- While a script's machine runs, its store was told the logged events of that history.
  pub told : applied past ≡ log_of (setting_from table first) history
  pub tells : Tells store (setting_from table first) past
  pub lanes : store.known.layout.lanes ≡ lanes_of table
  -- While a script's machine runs, its store hasn't failed.
  pub running : store.known.has_failed ≡ false
  -- A script's disk has no image but of its schema. Whatever a crash leaves of it, at any write or sync since it was
  -- made, has the schema's objects, fields, guards, marks and transient first values, if its header and guard rows can
  -- be read.
  pub of_schema : IsDiskOf table.schema store.disk

-- the store was told nothing, in a heap of this schema whose fields begin with the values of this heap: the transient ones
-- with the schema's
pub record BeginsWith (schema : Declarations) (heap : List ℕ) (store : Parts Memory) : Type 0 where
  pub tells : (first : ℕ → ℕ) → ((f : ℕ) → f < field_count schema → first f ≡ slice_index heap f)
      → Tells store (record (setting_in schema LAST_NUMBER) { first = first }) no_past
  -- After `recover` a transient field has the schema's first value again.
  pub begun : (f : ℕ) → f < field_count schema → is_transient_of schema f ≡ true → slice_index heap f ≡ first_of schema f
  pub running : store.known.has_failed ≡ false
  -- A script's disk has no image but of its schema. Whatever a crash leaves of it, at any write or sync since it was
  -- made, has the schema's objects, fields, guards, marks and transient first values, if its header and guard rows can
  -- be read.
  pub of_schema : IsDiskOf schema store.disk

-- why the store may refuse the record of an event that the monitors allow
abbrev pub IsForRecord : StoreError → Type 0
IsForRecord store.Worn = Unit {0}
IsForRecord store.TooLong = Unit {0}
IsForRecord store.LogFull = Unit {0}
IsForRecord _ = ⊥

-- why it may refuse to log, to settle or to trim
abbrev pub IsForCall : StoreError → Type 0
IsForCall store.Worn = Unit {0}
IsForCall store.Unwritten = Unit {0}
IsForCall store.Fault = Unit {0}
IsForCall _ = ⊥
