-- What a log tells of the state.
use Rattle.std.specs.Prelude.{ℕ, ◌≡◌, true, List}
use Rattle.heap_model.specs.declared.record.Record.{Record}
use Rattle.heap_model.specs.Setting.{Setting}
use Rattle.heap_model.specs.State.{State, awaited_in}
use Rattle.heap_model.specs.Log.{holder, number, value, awaited}

-- the state has the log's owners, release numbers and waits, and of the fields that are logged its values. No record tells
-- how often an owner locked, nor whether a thread that waits was notified
pub record IsStateOf (g : Setting) (log : List (ℕ × Record)) (s : State) : Type 0 where
  pub owners : (o : ℕ) → s.owner o ≡ holder o log
  pub numbers : (o : ℕ) → s.number o ≡ number o log
  pub values : (f : ℕ) → g.is_logged f ≡ true → s.value f ≡ value g.first f log
  pub waits : (t : ℕ) → awaited_in (s.waiting t) ≡ awaited t log
