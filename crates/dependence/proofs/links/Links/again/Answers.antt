use Rattle.std.proofs.Common.{◌≡◌, List, ◌++◌, ◌∷◌, [], take, length, sym, ap, ◌∙◌, refl, subst, arith}
use Rattle.std.proofs.lemmas.List.{length-take-le, take_more, take_all}
use Rattle.dependence.specs.declared.step.Step.{Step}
use Rattle.dependence.specs.Kept.{IsLinked}
use Rattle.dependence.proofs.Linked.{beside_many}
use Rattle.dependence.proofs.Keeping.{linked_none, order_at}
use Rattle.dependence.proofs.links.Links.again.Goals as goal

pub loop-place-init : goal.loop-place-init
loop-place-init c = record { linked = linked_none _ refl c.clear.ensures.items c.requires.objects; capacity = c.clear.ensures.capacity }

pub add-requires-clause-linked : goal.add-requires-clause-linked
add-requires-clause-linked c = c.loop-place.invariant.linked

pub add-requires-clause-room : goal.add-requires-clause-room
add-requires-clause-room c =
    let many : length (take c.loop-place.place c.args.steps.now) ≡ c.loop-place.place = length-take-le c.loop-place.place c.args.steps.now (omega arith) in
    omega (arith, c.loop-place.self.beside.ok.0, beside_many (take c.loop-place.place c.args.steps.now) c.loop-place.self c.loop-place.invariant.linked, c.loop-place.invariant.capacity, c.requires.room)

pub add-requires-clause-order : goal.add-requires-clause-order
add-requires-clause-order c = order_at c.args.steps.now c.loop-place.place c.index-steps-place.result (omega arith) c.index-steps-place.is c.requires.order

pub loop-place-preserved : goal.loop-place-preserved
loop-place-preserved c = record {
  linked = subst (λ (xs : List Step). IsLinked xs c.add.new.self) (ap (λ (s : Step). take c.loop-place.place c.args.steps.now ++ s ∷ []) c.index-steps-place.is ∙ sym (take_more c.args.steps.now c.loop-place.place c.index-steps-place.result (omega arith))) c.add.ensures.linked;
  capacity = c.add.ensures.capacity ∙ c.loop-place.invariant.capacity;
}

pub returns-clause-linked : goal.returns-clause-linked
returns-clause-linked c = subst (λ (xs : List Step). IsLinked xs c.loop-place.self) (take_all c.loop-place.place c.args.steps.now (omega arith)) c.loop-place.invariant.linked
