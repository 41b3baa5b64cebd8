use Rattle.thread_work.proofs.Taken.{recovered_taken, recovery_taken, run_taken}
use Rattle.thread_work.proofs.crashes.taken_law.Goals as goal

pub returns-clause-recovered : goal.returns-clause-recovered
returns-clause-recovered c = recovered_taken c.has_study_law.ensures

pub returns-clause-run : goal.returns-clause-run
returns-clause-run c = run_taken c.two_syncs_law.ensures

pub returns-clause-recovery : goal.returns-clause-recovery
returns-clause-recovery c = recovery_taken c.one_study_law.ensures c.studied_law.ensures
