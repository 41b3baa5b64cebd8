use Rattle.std.proofs.Common.{ℕ, List, drop}
use Rattle.std.specs.Prelude.{string_bytes}
use Rattle.script_images.specs.Values.{HasLines}
use Rattle.script_images.proofs.values.put_values.Given as goal

-- with the lines of the names that are left, all are there
abbrev pub invariant-loop-place : goal.invariant-loop-place
invariant-loop-place l =
    (new : List ℕ) → HasLines l.schema l.heap (drop l.place l.names) (string_bytes l.text) new → HasLines l.schema l.heap l.names (string_bytes l.initial.text) new
