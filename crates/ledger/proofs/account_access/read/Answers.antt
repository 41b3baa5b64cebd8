use Rattle.std.proofs.Common.{ℕ, Option, IfSome, sym, ◌∙◌, subst}
use Rattle.ledger.specs.Holding.{HasRead}
use Rattle.ledger.proofs.Calling.{told}
use Rattle.ledger.proofs.account_access.read.Goals as goal

pub returns-clause-some : goal.returns-clause-some
returns-clause-some g c = subst (λ (r : Option ℕ). IfSome r (λ balance. HasRead g.J.Joint.home c.args.thread.now c.load.new.self c.args.account balance)) (sym c.ok.ensures.value)
    (told g.J.Joint.home c.args.thread.now c.load.new.self c.args.account c.load.result c.requires c.load.ensures.told).some

pub returns-clause-none : goal.returns-clause-none
returns-clause-none g c = λ none. (told g.J.Joint.home c.args.thread.now c.load.new.self c.args.account c.load.result c.requires c.load.ensures.told).none (sym c.ok.ensures.value ∙ none)

pub returns-clause-stays : goal.returns-clause-stays
returns-clause-stays g c = (told g.J.Joint.home c.args.thread.now c.load.new.self c.args.account c.load.result c.requires c.load.ensures.told).stays
