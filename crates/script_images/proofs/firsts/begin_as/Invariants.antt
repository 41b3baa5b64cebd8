use Rattle.std.proofs.Common.{ℕ, ◌<◌, IsTrue}
use Rattle.script_images.specs.Schemas.{begins_at}
use Rattle.script_images.proofs.firsts.begin_as.Given as goal

-- the fields so far begin as their rows do
abbrev pub invariant-loop-field : goal.invariant-loop-field
invariant-loop-field l = (f : ℕ) → f < l.field → IsTrue (begins_at l.schema l.rows f)
