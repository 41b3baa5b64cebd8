use Rattle.std.proofs.Common.{◌∙◌, sym, arith}
use Rattle.durable.proofs.Adopting.{are_fields, are_named}
use Rattle.store_rounds.proofs.beginning.new_memories.Goals as goal

pub new-requires-clause-guards : goal.new-requires-clause-guards
new-requires-clause-guards c =
    are_named c.args.layout.now c.args.guards.now c.args.heap.now c.in_ok-fields.fields.items c.requires.rows c.in_ok-fields.ensures.size c.in_ok-fields.ensures.guards c.in_ok-fields.ensures.marks

pub returns-clause-applied : goal.returns-clause-applied
returns-clause-applied c = λ s set.
    c.in_ok-applied.ensures.remembers s
    (are_fields c.args.layout.now c.args.guards.now c.args.heap.now c.in_ok-fields.fields.items c.requires.rows c.in_ok-fields.ensures.size c.in_ok-fields.ensures.guards c.in_ok-fields.ensures.marks c.args.last s
    c.in_ok-fields.ensures.values set)

pub returns-clause-rounds : goal.returns-clause-rounds
returns-clause-rounds c = λ s set. c.in_ok-rounds.ensures.knows s set.objects (set.fields ∙ sym c.requires.heap) (λ f low. set.values f (omega (arith, low, set.fields)))
