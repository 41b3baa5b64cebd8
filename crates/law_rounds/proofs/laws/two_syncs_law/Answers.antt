use Rattle.law_rounds.proofs.Rounds.{round_gives}
use Rattle.law_rounds.proofs.laws.two_syncs_law.Goals as goal

pub returns : goal.returns
returns c = round_gives c.recovery_law.ensures
