use Rattle.std.proofs.Common.{◌≡◌}
use Rattle.thread_drive.specs.Schemas.{schema_of}
use Rattle.thread_drive.proofs.declaring.declare.Given as goal

-- the workers so far are declared
abbrev pub invariant-loop-worker : goal.invariant-loop-worker
invariant-loop-worker l = l.builder ≡ schema_of l.worker
