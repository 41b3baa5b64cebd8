use Rattle.law_journaled.proofs.Kept.{acknowledged_on, begun_on, closed_on, closing_on, opening_on, round_on, run_on, safe_on}
use Rattle.law_journaled.proofs.laws.journal_law.Goals as goal

pub returns-clause-any_moment : goal.returns-clause-any_moment
returns-clause-any_moment c = safe_on c.host_law.ensures.any_moment _ c.possible_law.ensures.left

pub returns-clause-opening : goal.returns-clause-opening
returns-clause-opening c = opening_on c.host_law.ensures.opening _ c.possible_law.ensures.left

pub returns-clause-begun : goal.returns-clause-begun
returns-clause-begun c = begun_on c.host_law.ensures.begun _ c.possible_law.ensures.left

pub returns-clause-acknowledged : goal.returns-clause-acknowledged
returns-clause-acknowledged c = acknowledged_on c.host_law.ensures.acknowledged _ c.possible_law.ensures.left

pub returns-clause-run : goal.returns-clause-run
returns-clause-run c = run_on c.running_law.ensures.run _ c.possible_law.ensures.left

pub returns-clause-round : goal.returns-clause-round
returns-clause-round c = round_on c.running_law.ensures.round _ c.possible_law.ensures.left

pub returns-clause-closing : goal.returns-clause-closing
returns-clause-closing c = closing_on c.running_law.ensures.closing _ c.possible_law.ensures.left

pub returns-clause-closed : goal.returns-clause-closed
returns-clause-closed c = closed_on c.host_law.ensures.closed _ c.possible_law.ensures.left
