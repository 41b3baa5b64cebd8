use Rattle.store_round_making.proofs.Following.{joins}
use Rattle.store_round_making.proofs.joining.join_law.Goals as goal

pub returns : goal.returns
returns c = joins
