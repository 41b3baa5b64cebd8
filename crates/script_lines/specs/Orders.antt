-- What a line asks for, apart from where its names lie in memory (docs/SCRIPTS.md, "Lines").
use Rattle.std.specs.Prelude.{ℕ, Bool, List}
use Rattle.block_disk.specs.declared.crash.Fill.{Fill}
use Rattle.heap_model.specs.declared.ids.Lane.{Lane}
use Rattle.script_lines.specs.declared.command.Command.{Command}
use Rattle.script_lines.specs.declared.command.Step.{Step}
use Rattle.script_lines.specs.declared.command.Command.TheVariants as command
use Rattle.script_lines.specs.declared.command.Step.TheVariants as step

-- what a thread is to do: names of objects or fields, and the value to store
pub data Action : Type 0 where
  Enter : List ℕ → Action
  Exit : List ℕ → Action
  Load : List ℕ → Action
  Store : List ℕ → ℕ → Action
  Wait : List ℕ → Action
  Resume : Action
  Notify : List ℕ → Action
  NotifyAll : List ℕ → Action

-- what the machine is to do: a field's name, owner, guard and first value, and whether it is transient; lanes and capacity; a thread's lane and
-- what it does; what the crash leaves, and how many writes and syncs before now
pub data Order : Type 0 where
  Object : List ℕ → Order
  Field : List ℕ → List ℕ → List ℕ → ℕ → Bool → Order
  Format : ℕ → ℕ → Order
  Act : Lane → Action → Order
  Log : Order
  Home : Order
  Settle : Order
  Trim : Order
  Heap : Order
  Crash : Fill → ℕ → Order
  Show : Order
  Recover : Order
  Upgrade : Order

-- what a step does
abbrev pub step_of : Step → Action
step_of (step.Enter name) = Enter name.now
step_of (step.Exit name) = Exit name.now
step_of (step.Load name) = Load name.now
step_of (step.Store name value) = Store name.now value
step_of (step.Wait name) = Wait name.now
step_of step.Resume = Resume
step_of (step.Notify name) = Notify name.now
step_of (step.NotifyAll name) = NotifyAll name.now

-- what a command asks for
abbrev pub order_of : Command → Order
order_of (command.Object name) = Object name.now
order_of (command.Field name owner guard first is_transient) = Field name.now owner.now guard.now first is_transient
order_of (command.Format lanes capacity) = Format lanes capacity
order_of (command.Step thread action) = Act thread (step_of action)
order_of command.Log = Log
order_of command.Home = Home
order_of command.Settle = Settle
order_of command.Trim = Trim
order_of command.Heap = Heap
order_of (command.Crash fill back) = Crash fill back
order_of command.Show = Show
order_of command.Recover = Recover
order_of command.Upgrade = Upgrade
