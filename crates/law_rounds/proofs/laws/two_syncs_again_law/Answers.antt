use Rattle.law_rounds.proofs.Rounds.{round_kept}
use Rattle.law_rounds.proofs.laws.two_syncs_again_law.Goals as goal

pub returns : goal.returns
returns c = round_kept c.two_syncs_law.ensures
