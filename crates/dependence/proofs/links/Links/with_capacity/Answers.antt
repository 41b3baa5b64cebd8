use Rattle.std.proofs.Common.{◌∙◌, sym, refl}
use Rattle.dependence.proofs.Keeping.{linked_none}
use Rattle.dependence.proofs.links.Links.with_capacity.Goals as goal

pub returns-clause-linked : goal.returns-clause-linked
returns-clause-linked c = linked_none _ refl c.in_ok-with_capacity.ensures.items (sym c.in_ok-vec.field-0.ok.0 ∙ c.in_ok-vec.ensures.len)
