use Rattle.pool.proofs.FirstLists.{free_list}
use Rattle.pool.proofs.numbered.free_law.Goals as goal

pub returns : goal.returns
returns c = record { free = free_list }
