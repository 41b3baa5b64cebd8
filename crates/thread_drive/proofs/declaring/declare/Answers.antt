use Rattle.std.proofs.Common.{refl}
use Rattle.thread_drive.proofs.SchemaLemmas.{never_empty}
use Rattle.thread_drive.proofs.declaring.declare.Goals as goal

pub returns-in-Err-build-clause-memory : goal.returns-in-Err-build-clause-memory
returns-in-Err-build-clause-memory c = absurd (never_empty c.loop-worker.worker c.loop-worker.builder c.loop-worker.invariant (c.in-Err-build.ensures.empty.0 refl))
