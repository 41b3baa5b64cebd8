use Rattle.law_running.proofs.KeptReleased.{keeps_released}
use Rattle.law_running.proofs.Needed.{lacks_section}
use Rattle.law_running.proofs.ReleaseLemmas.{older_released}
use Rattle.law_running.proofs.releases.released_law.Goals as goal

pub returns-clause-released : goal.returns-clause-released
returns-clause-released c = keeps_released c.order_law.ensures

pub returns-clause-older : goal.returns-clause-older
returns-clause-older c = older_released

pub returns-clause-needed : goal.returns-clause-needed
returns-clause-needed c = lacks_section
