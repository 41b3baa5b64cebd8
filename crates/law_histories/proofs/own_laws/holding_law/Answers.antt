use Rattle.law_histories.proofs.Holding.{are_held}
use Rattle.law_histories.proofs.own_laws.holding_law.Goals as goal

pub returns : goal.returns
returns c g history t legal = are_held g history t legal
