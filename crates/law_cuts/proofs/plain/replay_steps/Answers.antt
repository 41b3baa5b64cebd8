use Rattle.std.proofs.Common.{◌∙◌, sym, slice_index, arith}
use Rattle.heap_model.specs.Cuts.{counts_of}
use Rattle.law_cuts.proofs.Numbered.{kept_more, kept_all}
use Rattle.law_cuts.proofs.plain.replay_steps.Goals as goal

pub loop-step-preserved : goal.loop-step-preserved
loop-step-preserved c = λ f lt.
    c.replay_step.ensures f (omega (arith, c.loop-step.auto.heap))
    ∙ kept_more (λ g. slice_index c.args.heap.now g) (counts_of c.args.cut.now) (λ g. slice_index c.loop-step.heap g) f c.loop-step.step-index c.args.steps.now c.step-item.result
    c.loop-step-test.true (sym c.step-item.is) c.requires (c.loop-step.invariant f lt)

pub returns : goal.returns
returns c = λ f lt. c.loop-step.invariant f lt ∙ kept_all (λ g. slice_index c.args.heap.now g) (counts_of c.args.cut.now) f c.loop-step.step-index c.args.steps.now (omega arith)
