use Rattle.std.proofs.Common.{rules}
use Rattle.heap_model.specs.Cuts.{counts_of}
use Rattle.law_cuts.proofs.Numbered.{search_stable, whole_all}
use Rattle.law_cuts.proofs.plain.stable_cut.Goals as goal

pub returns : goal.returns
returns c = search_stable c.args.records.now c.in_ok-steps.steps.items (counts_of c.in_ok-whole_cut.field-0) (counts_of c.greatest_cut.result) c.in_ok-steps.ensures.entries c.in_ok-steps.ensures.sections
    (whole_all c.args.records.now c.in_ok-whole_cut.field-0 (search rules) c.requires c.in_ok-whole_cut.ensures) (search rules)
