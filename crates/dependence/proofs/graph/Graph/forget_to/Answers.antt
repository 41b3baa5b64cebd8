use Rattle.std.proofs.Common.{◌≡◌, ◌<◌, List, All, reverse, length, sym, ap, ◌∙◌, refl, subst, arith}
use Rattle.heap_model.specs.Cuts.{IsWhole}
use Rattle.heap_model.specs.Base.{since}
use Rattle.dependence.specs.declared.step.Step.{Step}
use Rattle.dependence.specs.Trace.{Trace, beyond, IsStableOf}
use Rattle.dependence.specs.Next.{IsObjectBelow}
use Rattle.dependence.specs.Steps.{log_of}
use Rattle.dependence.specs.Kept.{Rises, IsLinked}
use Rattle.dependence.specs.Inside.{trace_of}
use Rattle.dependence.proofs.Linked.{beside_many}
use Rattle.dependence.proofs.Keeping.{sorted_steps}
use Rattle.dependence.proofs.Trimming.{IsPart, part_of, part_whole, stable_before, stable_after}
use Rattle.dependence.proofs.Forgetting.{raised_by, left_log, left_rises, left_lanes, left_named, kept_forget}
use Rattle.dependence.proofs.graph.Graph.forget_to.Goals as goal

pub retain-requires-clause-sorted : goal.retain-requires-clause-sorted
retain-requires-clause-sorted c = sorted_steps c.self.inside c.self.invariant

pub again-requires-clause-lanes : goal.again-requires-clause-lanes
again-requires-clause-lanes c = subst (λ (xs : List Step). All (λ s. s.lane.0 < 32) xs) (sym c.deref.ensures.value) (left_lanes c.self.inside c.args.cut.now c.raise.new.base c.retain.new.steps.items c.self.invariant c.raise.ensures c.retain.ensures.kept)

pub again-requires-clause-order : goal.again-requires-clause-order
again-requires-clause-order c = subst (λ (xs : List Step). Rises (log_of (reverse xs))) (sym c.deref.ensures.value) (left_rises c.self.inside c.args.cut.now c.raise.new.base c.retain.new.steps.items c.self.invariant c.raise.ensures c.retain.ensures.kept)

pub again-requires-clause-named : goal.again-requires-clause-named
again-requires-clause-named c = subst (λ (xs : List Step). All (λ s. IsObjectBelow 4096 s.entry) xs) (sym c.deref.ensures.value) (left_named c.self.inside c.args.cut.now c.raise.new.base c.retain.new.steps.items c.self.invariant c.raise.ensures c.retain.ensures.kept)

pub invariant_of-self : goal.invariant_of-self
invariant_of-self c =
    let whole : IsWhole (log_of (reverse c.self.inside.steps.items)) (beyond (trace_of c.self.inside) c.args.cut.now) =
    subst (λ (t : Trace). IsWhole t.log (beyond t c.args.cut.now)) (sym c.self.view_is) (part_whole c.args.self.now.log (beyond c.args.self.now c.args.cut.now) (part_of c.args.self.now.log (beyond c.args.self.now c.args.cut.now) c.requires.at_most)) in
    let linked : IsLinked c.retain.new.steps.items c.again.new.self = subst (λ (xs : List Step). IsLinked xs c.again.new.self) c.deref.ensures.value c.again.ensures.linked in
    let many : c.retain.new.steps.len ≡ length c.retain.new.steps.items = c.retain.new.steps.ok.0 in
    let old_many : c.self.inside.steps.len ≡ length c.self.inside.steps.items = c.self.inside.steps.ok.0 in
    kept_forget c.self.inside c.args.cut.now c.raise.new.base c.retain.new.steps.items c.self.invariant c.raise.ensures c.retain.ensures.kept _ whole refl refl refl refl refl
    linked
    (omega (
      arith,
      many,
      old_many,
      c.retain.ensures.fewer,
      c.retain.ensures.capacity,
      c.self.inside.steps.ok.1,
      c.retain.new.steps.ok.1,
      c.again.ensures.capacity,
      c.again.new.self.beside.ok.0,
      beside_many c.retain.new.steps.items c.again.new.self linked,
      c.self.invariant.links_room,
      c.self.inside.links.beside.ok.0,
      beside_many c.self.inside.steps.items c.self.inside.links c.self.invariant.linked,
    ))
    c.raise-2.ensures
    refl
    refl
    refl

pub returns-clause-log : goal.returns-clause-log
returns-clause-log c = left_log c.self.inside c.args.cut.now c.raise.new.base c.retain.new.steps.items c.self.invariant c.raise.ensures c.retain.ensures.kept ∙ ap (λ (t : Trace). since (beyond t c.args.cut.now) t.log) c.self.view_is

pub returns-clause-answers : goal.returns-clause-answers
returns-clause-answers c = λ cut.
    let part : IsPart (log_of (reverse c.self.inside.steps.items)) (beyond (trace_of c.self.inside) c.args.cut.now) = subst (λ (t : Trace). IsPart t.log (beyond t c.args.cut.now)) (sym c.self.view_is) (part_of c.args.self.now.log (beyond c.args.self.now c.args.cut.now) c.requires.at_most) in (
      (λ now. subst (λ (t : Trace). IsStableOf t cut) c.self.view_is (stable_before (trace_of c.self.inside) _ (beyond (trace_of c.self.inside) c.args.cut.now) cut
          (left_log c.self.inside c.args.cut.now c.raise.new.base c.retain.new.steps.items c.self.invariant c.raise.ensures c.retain.ensures.kept)
          (raised_by c.self.inside c.args.cut.now c.raise.new.base c.retain.new.steps.items c.self.invariant c.raise.ensures c.retain.ensures.kept) part now)),
      (λ before. stable_after (trace_of c.self.inside) _ (beyond (trace_of c.self.inside) c.args.cut.now) cut
          (left_log c.self.inside c.args.cut.now c.raise.new.base c.retain.new.steps.items c.self.invariant c.raise.ensures c.retain.ensures.kept)
          (raised_by c.self.inside c.args.cut.now c.raise.new.base c.retain.new.steps.items c.self.invariant c.raise.ensures c.retain.ensures.kept) part
          (subst (λ (t : Trace). IsStableOf t cut) (sym c.self.view_is) before)),
    )
