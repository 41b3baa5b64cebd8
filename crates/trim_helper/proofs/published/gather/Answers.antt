use Rattle.std.proofs.Common.{sym, ap, ◌∙◌}
use Rattle.monitor.specs.declared.view.View.{View}
use Rattle.trim_helper.proofs.published.gather.Goals as goal

pub returns-clause-notes : goal.returns-clause-notes
returns-clause-notes c = ap (λ (v : View). v.notes) c.gather.ensures.helper.1

pub returns-clause-sight : goal.returns-clause-sight
returns-clause-sight c =
    let is = c.gather.ensures.helper in record {
      table = is.0.0 ∙ sym c.requires.helper.of.0;
      plan = ap (λ (v : View). v.plan) is.1;
      history = ap (λ (v : View). v.history) is.1;
    }
