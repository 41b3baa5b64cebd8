use Rattle.heap_model.specs.Log.{value}
use Rattle.heap_model.specs.Past.{applied}
use Rattle.script_machine.proofs.ListLemmas.{length-more, each-more}
use Rattle.script_machine.proofs.store_calls.applied_values.Goals as goal

pub loop-field-preserved : goal.loop-field-preserved
loop-field-preserved c =
    let xs = c.loop-field.values.items in
    let ys = c.push.new.self.items in
    let long = c.loop-field.invariant.0 in
    let items = c.in_ok-push.ensures.items in (
      length-more xs ys c.heap_value.result c.loop-field.field long items,
      λ s p t. each-more xs ys c.heap_value.result c.loop-field.field (λ f. value s.first f (applied p)) long items (c.loop-field.invariant.1 s p t) (c.heap_value.ensures.value s p t),
    )
