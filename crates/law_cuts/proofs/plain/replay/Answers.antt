use Rattle.std.proofs.Common.{◌∙◌, ap, map, slice_index}
use Rattle.heap_model.specs.Cuts.{counts_of}
use Rattle.law_cuts.proofs.Numbered.{entry_of, steps_kept}
use Rattle.law_cuts.proofs.plain.replay.Goals as goal

pub returns-clause-ok : goal.returns-clause-ok
returns-clause-ok c = λ f lt. c.replay_steps.ensures f lt
    ∙ steps_kept (λ g. slice_index c.args.heap.now g) (counts_of c.args.cut.now) f c.deref.result.now c.args.records.now (ap (map entry_of) c.deref.ensures.value ∙ c.in_ok-steps.ensures.entries)
