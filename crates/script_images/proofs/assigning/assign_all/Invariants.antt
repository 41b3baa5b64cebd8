use Rattle.std.proofs.Common.{ℕ, List, drop}
use Rattle.std.specs.Prelude.{string_bytes}
use Rattle.script_images.specs.Assigning.{HasAssignments}
use Rattle.script_images.proofs.assigning.assign_all.Given as goal

-- with what the words that are left assign, all is assigned
abbrev pub invariant-loop-place : goal.invariant-loop-place
invariant-loop-place l =
    (lines ends heap : List ℕ) → HasAssignments l.schema (drop l.place l.texts) (string_bytes l.lines) (string_bytes l.ends) l.heap.items lines ends heap
    → HasAssignments l.schema l.texts (string_bytes l.initial.lines) (string_bytes l.initial.ends) l.initial.heap.items lines ends heap
