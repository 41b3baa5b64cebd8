use Rattle.std.proofs.Common.{length}
use Rattle.trim_helper.proofs.closing_down.+count_of.Given as goal

abbrev pub decreases-count_of : goal.decreases-count_of
decreases-count_of l = length l.ended.now
