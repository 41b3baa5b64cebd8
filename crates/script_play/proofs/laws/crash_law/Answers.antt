use Rattle.script_play.proofs.CrashLemmas.{rest, history, call, told_again}
use Rattle.script_play.proofs.laws.crash_law.Goals as goal

pub returns-clause-rest : goal.returns-clause-rest
returns-clause-rest c = rest

pub returns-clause-history : goal.returns-clause-history
returns-clause-history c = history

pub returns-clause-call : goal.returns-clause-call
returns-clause-call c = call

pub returns-clause-told : goal.returns-clause-told
returns-clause-told c = told_again
