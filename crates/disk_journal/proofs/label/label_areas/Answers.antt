use Rattle.std.proofs.Common.{◌∙◌, sym, take}
use Rattle.journal_batches.specs.declared.areas.Areas.{Areas}
use Rattle.disk_journal.proofs.LabelLemmas.{differ, label_of_numbers}
use Rattle.disk_journal.proofs.label.label_areas.Goals as goal

pub returns-then-ne-clause-none : goal.returns-then-ne-clause-none
returns-then-ne-clause-none c = λ none a half image spelled.
    let areas : Areas = record { half = c.number_at.result; image = c.number_at-2.result } in
    let is = label_of_numbers a areas c.args.bytes.now c.number_at.ensures c.number_at-2.ensures spelled in
    differ (take 24 c.args.bytes.now) c.label_of-label.result c.ne.result c.ne.ensures c.if-ne.true (is ∙ sym c.label_of-label.ensures)
