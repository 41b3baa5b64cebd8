use Rattle.law_histories.proofs.Own.{own_agrees}
use Rattle.law_histories.proofs.laws.own_law.Goals as goal

pub returns : goal.returns
returns c g history t legal = own_agrees g history t legal
