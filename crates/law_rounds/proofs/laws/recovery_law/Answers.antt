use Rattle.law_rounds.proofs.Studied.{gives}
use Rattle.law_rounds.proofs.laws.recovery_law.Goals as goal

pub returns : goal.returns
returns c = λ l s records image going shown. gives l s records image going shown c.studied_law.ensures
