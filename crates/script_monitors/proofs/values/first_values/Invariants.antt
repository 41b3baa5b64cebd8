use Rattle.std.proofs.Common.{◌≡◌, ◌<◌, ℕ, length, get_or}
use Rattle.guards.specs.Schema.{first_of}
use Rattle.script_monitors.proofs.values.first_values.Given as goal

-- the values so far are those of the fields below
abbrev pub invariant-loop-field : goal.invariant-loop-field
invariant-loop-field l = (length l.values.items ≡ l.field) × ((f : ℕ) → f < l.field → get_or l.values.items f 0 ≡ first_of l.schema f)
