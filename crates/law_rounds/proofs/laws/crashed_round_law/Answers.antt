use Rattle.law_rounds.proofs.Rounds.{gives_between, gives_moment}
use Rattle.law_rounds.proofs.laws.crashed_round_law.Goals as goal

pub returns-clause-between : goal.returns-clause-between
returns-clause-between c = gives_between c.two_syncs_law.ensures

pub returns-clause-moment : goal.returns-clause-moment
returns-clause-moment c = gives_moment c.two_syncs_law.ensures
