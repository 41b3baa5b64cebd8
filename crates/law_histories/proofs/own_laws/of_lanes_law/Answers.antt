use Rattle.law_histories.proofs.OfLanes.{log_of_lanes, idle}
use Rattle.law_histories.proofs.own_laws.of_lanes_law.Goals as goal

pub returns : goal.returns
returns c g lanes history legal few = (log_of_lanes g lanes history few, λ t le. idle g lanes history legal few t le)
