use Rattle.std.proofs.Common.{Some}
use Rattle.thread_work.proofs.body.work_in_thread.Given as goal

-- the thread's session is of this heap, and goes on from this one
abbrev pub ghosts-call_body : goal.ghosts-call_body
ghosts-call_body g a = record { home = a.shared.now; first = Some a.session }
