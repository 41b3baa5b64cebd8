use Rattle.std.proofs.Common.{vec_len}
use Rattle.thread_work.proofs.beside.+work_in.Given as goal

abbrev pub decreases-work_in : goal.decreases-work_in
decreases-work_in g l = vec_len l.sessions
