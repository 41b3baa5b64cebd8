use Rattle.std.proofs.Common.{◌∙◌}
use Rattle.law_cuts.proofs.Unlogged.{first_stays}
use Rattle.heap_model.specs.Past.{applied}
use Rattle.store_rounds.specs.Store.{HasPast}
use Rattle.store_rounds.proofs.Applying.{to_parts}
use Rattle.store_rounds.proofs.store.RoundStore.heap_value.Goals as goal

pub returns-clause-transient : goal.returns-clause-transient
returns-clause-transient g c = λ s p has unlogged.
    let was = to_parts g.D.Disk.device _ c.args.self.now (λ x d. HasPast x s p d) c.self.view_is has in
    c.value.ensures s p was.remembers ∙ first_stays s (applied p) c.args.field.0 was.past.legal unlogged
