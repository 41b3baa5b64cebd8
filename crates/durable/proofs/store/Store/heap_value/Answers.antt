use Rattle.std.proofs.Common.{◌∙◌}
use Rattle.law_cuts.proofs.Unlogged.{first_stays}
use Rattle.heap_model.specs.Past.{applied}
use Rattle.durable.specs.Store.{HasPast}
use Rattle.durable.proofs.Storing.{to_parts}
use Rattle.durable.proofs.store.Store.heap_value.Goals as goal

pub returns-clause-transient : goal.returns-clause-transient
returns-clause-transient g c = λ s p has unlogged.
    let was = to_parts g.D.Disk.device _ c.args.self.now (λ x d. HasPast x s p d) c.self.view_is has in
    c.value.ensures s p was.remembers ∙ first_stays s (applied p) c.args.field.0 was.past.legal unlogged
