use Rattle.law_histories.proofs.Earliest.{earliest}
use Rattle.law_histories.proofs.section_laws.earliest_law.Goals as goal

pub returns : goal.returns
returns c s all done prefix = earliest all done prefix
