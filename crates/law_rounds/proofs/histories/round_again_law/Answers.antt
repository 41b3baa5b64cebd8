use Rattle.law_rounds.proofs.ShownCuts.{shown_again}
use Rattle.law_rounds.proofs.histories.round_again_law.Goals as goal

pub returns : goal.returns
returns c = shown_again c.two_syncs_again_law.ensures
