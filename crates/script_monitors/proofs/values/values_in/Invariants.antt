use Rattle.std.proofs.Common.{◌≡◌, ◌<◌, ℕ, length, get_or}
use Rattle.script_monitors.proofs.values.values_in.Given as goal

-- the values so far are the heap's
abbrev pub invariant-loop-field : goal.invariant-loop-field
invariant-loop-field l = (length l.values.items ≡ l.field) × ((f : ℕ) → f < l.field → get_or l.values.items f 0 ≡ get_or l.heap f 0)
