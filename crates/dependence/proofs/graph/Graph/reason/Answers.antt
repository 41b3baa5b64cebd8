use Rattle.std.proofs.Common.{ℕ, ◌<◌, ◌↔◌, List, IsSome, IfSome, MatchOption, slice_index, sym, subst, arith}
use Rattle.heap_model.specs.Cuts.{counts_of, IsStable}
use Rattle.law_cuts.specs.Plain.{IsClosedOver, IsGreatest}
use Rattle.dependence.specs.declared.step.Step.{Step}
use Rattle.dependence.specs.Trace.{Trace, base_of, section_since, IsStableOf}
use Rattle.dependence.specs.Steps.{reading}
use Rattle.dependence.specs.Search.{IsSorted, IsFound, AreCauses, IsLeftOutBy, HasNoReason}
use Rattle.dependence.specs.Reason.{IsLeftOut, IsReason}
use Rattle.dependence.specs.Inside.{trace_of}
use Rattle.dependence.proofs.Told.{told_some, told_first, told_kept}
use Rattle.dependence.proofs.Keeping.{kept_stable, sorted_steps, beyond_few}
use Rattle.dependence.proofs.graph.Graph.reason.Goals as goal

pub at_hand-found-requires-clause-sorted : goal.at_hand-found-requires-clause-sorted
at_hand-found-requires-clause-sorted c = subst (λ (xs : List Step). IsSorted xs c.self.inside.lanes) (sym c.deref.ensures.value) (sorted_steps c.self.inside c.self.invariant)

pub at_hand-found-requires-clause-fits : goal.at_hand-found-requires-clause-fits
at_hand-found-requires-clause-fits c = omega (arith, beyond_few c.self.inside c.self.invariant, c.self.inside.steps.small, c.self.inside.steps.ok.0)

pub at_hand-found-requires-clause-closed : goal.at_hand-found-requires-clause-closed
at_hand-found-requires-clause-closed c = subst (λ (xs : List Step). IsClosedOver reading xs (counts_of c.self.inside.answered)) (sym c.deref.ensures.value) c.self.invariant.answered.closed

pub at_hand-found-requires-clause-causes : goal.at_hand-found-requires-clause-causes
at_hand-found-requires-clause-causes c = subst (λ (xs : List Step). AreCauses xs (counts_of c.self.inside.answered) c.self.inside.causes) (sym c.deref.ensures.value) c.self.invariant.causes

pub invariant_of-self : goal.invariant_of-self
invariant_of-self c = record {
  lanes = c.self.invariant.lanes;
  low = c.self.invariant.low;
  named = c.self.invariant.named;
  numbered = c.self.invariant.numbered;
  counted = c.self.invariant.counted;
  rises = c.self.invariant.rises;
  linked = c.self.invariant.linked;
  links_room = c.self.invariant.links_room;
  answered = c.self.invariant.answered;
  causes = c.self.invariant.causes;
  found_among = omega (arith, c.len-self-inside.ensures, c.self.inside.steps.ok.0);
  stable = λ _. subst (λ (xs : List Step). IsFound c.self.inside.lanes xs (slice_index c.self.inside.ended) (counts_of c.self.inside.answered) (counts_of c.at_hand-found.result.cut) c.at_hand-found.result.looks) c.deref.ensures.value c.at_hand-found.ensures.found;
}

pub returns-clause-some : goal.returns-clause-some
returns-clause-some c =
    let stable : IsStableOf (trace_of c.self.inside) (counts_of c.at_hand-found.result.cut) = kept_stable c.self.inside (counts_of c.at_hand-found.result.cut) c.self.invariant
    (subst (λ (xs : List Step). IsGreatest reading xs (slice_index c.self.inside.ended) (counts_of c.at_hand-found.result.cut)) c.deref.ensures.value c.at_hand-found.ensures.found.greatest) in
    subst (λ (t : Trace). (cut : ℕ → ℕ) → IsStable t.log cut → IsSome c.reason_of.result ↔ IsLeftOut t.log cut (section_since t c.args.lane.0 c.args.section)) c.self.view_is
    (told_some c.self.inside (counts_of c.at_hand-found.result.cut) c.self.invariant stable c.args.lane.0 c.args.section c.reason_of.result
    (subst (λ (xs : List Step). MatchOption c.reason_of.result (HasNoReason xs (slice_index c.self.inside.ended) (counts_of c.at_hand-found.result.cut) c.args.lane.0 c.args.section) (λ d. IsLeftOutBy xs (slice_index c.self.inside.ended) (counts_of c.at_hand-found.result.cut) c.args.lane.0 c.args.section d.lane.0 d.section)) c.deref-2.ensures.value c.reason_of.ensures))

pub returns-clause-first : goal.returns-clause-first
returns-clause-first c =
    let stable : IsStableOf (trace_of c.self.inside) (counts_of c.at_hand-found.result.cut) = kept_stable c.self.inside (counts_of c.at_hand-found.result.cut) c.self.invariant
    (subst (λ (xs : List Step). IsGreatest reading xs (slice_index c.self.inside.ended) (counts_of c.at_hand-found.result.cut)) c.deref.ensures.value c.at_hand-found.ensures.found.greatest) in
    subst (λ (t : Trace). (cut : ℕ → ℕ) → IsStable t.log cut → IfSome c.reason_of.result (λ d. IsReason t.log cut (section_since t c.args.lane.0 c.args.section) (section_since t d.lane.0 d.section))) c.self.view_is
    (told_first c.self.inside (counts_of c.at_hand-found.result.cut) c.self.invariant stable c.args.lane.0 c.args.section c.reason_of.result
    (subst (λ (xs : List Step). MatchOption c.reason_of.result (HasNoReason xs (slice_index c.self.inside.ended) (counts_of c.at_hand-found.result.cut) c.args.lane.0 c.args.section) (λ d. IsLeftOutBy xs (slice_index c.self.inside.ended) (counts_of c.at_hand-found.result.cut) c.args.lane.0 c.args.section d.lane.0 d.section)) c.deref-2.ensures.value c.reason_of.ensures))

pub returns-clause-kept : goal.returns-clause-kept
returns-clause-kept c =
    let stable : IsStableOf (trace_of c.self.inside) (counts_of c.at_hand-found.result.cut) = kept_stable c.self.inside (counts_of c.at_hand-found.result.cut) c.self.invariant
    (subst (λ (xs : List Step). IsGreatest reading xs (slice_index c.self.inside.ended) (counts_of c.at_hand-found.result.cut)) c.deref.ensures.value c.at_hand-found.ensures.found.greatest) in
    subst (λ (t : Trace). IfSome c.reason_of.result (λ d. base_of t d.lane.0 < d.section)) c.self.view_is
    (told_kept c.self.inside (counts_of c.at_hand-found.result.cut) c.self.invariant stable c.args.lane.0 c.args.section c.reason_of.result
    (subst (λ (xs : List Step). MatchOption c.reason_of.result (HasNoReason xs (slice_index c.self.inside.ended) (counts_of c.at_hand-found.result.cut) c.args.lane.0 c.args.section) (λ d. IsLeftOutBy xs (slice_index c.self.inside.ended) (counts_of c.at_hand-found.result.cut) c.args.lane.0 c.args.section d.lane.0 d.section)) c.deref-2.ensures.value c.reason_of.ensures))
