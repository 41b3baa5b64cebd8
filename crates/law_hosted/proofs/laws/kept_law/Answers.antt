use Rattle.law_hosted.proofs.Safe.{keeps_run}
use Rattle.law_hosted.proofs.laws.kept_law.Goals as goal

pub returns : goal.returns
returns c = keeps_run c.round_run_law.ensures.each
