use Rattle.std.proofs.Common.{◌≡◌, ◌∙◌, sym, ap}
use Rattle.disk_sectors.specs.Labels.{label_bytes}
use Rattle.disk_sectors.proofs.LabelLemmas.{differ}
use Rattle.disk_sectors.proofs.label.read_as.Goals as goal

pub returns-then-ne-clause-none : goal.returns-then-ne-clause-none
returns-then-ne-clause-none c = λ count bound spelled.
    let equal : c.bytes.result ≡ c.args.spelled.now = c.bytes.ensures ∙ ap (λ n. label_bytes c.args.size n) (c.count_in.ensures c.args.size count bound spelled) ∙ sym spelled in
    differ c.bytes.result c.args.spelled.now c.ne.result c.ne.ensures c.if-ne.true equal
