use Rattle.std.proofs.Common.{◌∷◌, sym, subst}
use Rattle.recover_logs.specs.Lanes.{Counts}
use Rattle.recover_logs.proofs.LaneCountLemmas.{counts_more}
use Rattle.recover_logs.proofs.lane_count.LaneCount.after.Goals as goal

pub returns-clause-counts : goal.returns-clause-counts
returns-clause-counts c = λ first records frees counts. subst (Counts first (c.args.next ∷ records)) (sym c.step.ensures) (counts_more first c.args.self records c.args.next frees counts)
