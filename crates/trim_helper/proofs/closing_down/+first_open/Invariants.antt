use Rattle.std.proofs.Common.{length}
use Rattle.trim_helper.proofs.closing_down.+first_open.Given as goal

abbrev pub decreases-first_open : goal.decreases-first_open
decreases-first_open l = length l.ended.now
