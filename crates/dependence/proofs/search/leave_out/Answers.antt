use Rattle.std.proofs.Common.{◌-◌, refl, arith, rules, get_or-set_same, get_or-set_other}
use Rattle.heap_model.specs.Cuts.{counts_of}
use Rattle.dependence.proofs.Causes.{causes_fall}
use Rattle.dependence.proofs.search.leave_out.Goals as goal

pub returns-then-step-cut-clause-causes : goal.returns-then-step-cut-clause-causes
returns-then-step-cut-clause-causes c = λ steps took old. causes_fall steps c.args.step c.args.releaser (record { lane = c.args.releaser.lane; section = c.args.releaser.section }) (counts_of c.args.cut.now) _ c.args.causes.now _ took refl refl
    (omega (arith, c.args.step.numbered, get_or-set_same c.args.cut.now.counts c.args.step.lane.0 (c.args.step.section - 1) 0 (search rules)))
    (λ l ne. get_or-set_other c.args.cut.now.counts c.args.step.lane.0 l (c.args.step.section - 1) 0 ne)
    refl old
