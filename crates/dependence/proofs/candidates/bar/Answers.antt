use Rattle.std.proofs.Common.{slice_index, get_or-set_same, get_or-set_other, rules}
use Rattle.heap_model.specs.Cuts.{counts_of}
use Rattle.dependence.proofs.Causes.{barred}
use Rattle.dependence.proofs.candidates.bar.Goals as goal

pub returns-then-is_out : goal.returns-then-is_out
returns-then-is_out c = λ steps most causes less closed old.
    barred steps (counts_of c.args.answered.now) most (counts_of c.args.cut.now) _ c.args.lane c.in-Some.cause
    (causes c.args.lane c.in-Some.cause (search rules) (search rules))
    (c.is_out.ensures c.if-is_out.true)
    (λ l ne. get_or-set_other c.args.cut.now.counts c.args.lane l (slice_index c.args.answered.now.counts c.args.lane) 0 ne)
    (get_or-set_same c.args.cut.now.counts c.args.lane (slice_index c.args.answered.now.counts c.args.lane) 0 (search rules))
    less closed old
