use Rattle.heap_model.specs.Sections.{actions}
use Rattle.law_histories.proofs.AllKept.{all_stable, all_kept}
use Rattle.law_histories.proofs.section_laws.all_kept_law.Goals as goal

pub returns : goal.returns
returns c s log legal free = (all_stable (actions log) free, λ f. all_kept s log legal free f)
