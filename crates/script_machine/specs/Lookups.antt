-- What a thread's step names.
use Rattle.std.specs.Prelude.{ℕ, ◌≡◌, ◌≢◌, ◌<◌, ◌≤◌, List, Some, Result, Ok, Err, Contains, slice_get}
use Rattle.heap_model.specs.declared.ids.ObjectId.{ObjectId}
use Rattle.heap_model.specs.declared.ids.FieldId.{FieldId}
use Rattle.heap_model.specs.State.{Awake}
use Rattle.script_machine.specs.declared.answer.Refusal.{Refusal}
use Rattle.script_machine.specs.declared.answer.Refusal.TheVariants as why
use Rattle.script_monitors.specs.Table.{Table, lanes_of, state_of}

-- the object of this number
abbrev pub object_of : ℕ → ObjectId
object_of number = record { 0 = number }

-- the field of this number
abbrev pub field_of : ℕ → FieldId
field_of number = record { 0 = number }

-- what is found under the name, by a thread that steps: there is such a thread, the name is declared, and it doesn't wait
pub record LooksUp {X : Type 0} (id : ℕ → X) (table : Table) (names : List (List ℕ)) (name : List ℕ) (thread : ℕ) (found : Result X Refusal) : Type 0 where
  pub lane : lanes_of table ≤ thread → found ≡ Err why.Lane
  pub unknown : thread < lanes_of table → ¬ Contains names name → found ≡ Err why.Unknown
  pub waiting : thread < lanes_of table → (number : ℕ) → slice_get names number ≡ Some name → (state_of table).waiting thread ≢ Awake → found ≡ Err why.Waiting
  pub known : thread < lanes_of table → (number : ℕ) → slice_get names number ≡ Some name → (state_of table).waiting thread ≡ Awake → found ≡ Ok (id number)
