use Rattle.std.proofs.Common.{◌≡◌, ◌<◌, ℕ, length, get_or}
use Rattle.heap_model.specs.Setting.{Setting}
use Rattle.heap_model.specs.Log.{value}
use Rattle.heap_model.specs.Past.{Past, applied}
use Rattle.script_machine.specs.States.{Tells}
use Rattle.script_machine.proofs.store_calls.applied_values.Given as goal

-- the values so far are the applied ones
abbrev pub invariant-loop-field : goal.invariant-loop-field
invariant-loop-field l = (length l.values.items ≡ l.field)
    × ((s : Setting) (p : Past) → Tells l.store s p → (f : ℕ) → f < l.field → get_or l.values.items f 0 ≡ value s.first f (applied p))
