use Rattle.std.proofs.Common.{◌+◌, ◌*◌, ◌≤◌, List, slice_index, sym, subst, arith}
use Rattle.heap_model.specs.Cuts.{counts_of}
use Rattle.law_cuts.specs.Plain.{IsClosedOver}
use Rattle.dependence.specs.declared.step.Step.{Step}
use Rattle.dependence.specs.Trace.{Trace, answered_of, growth, unanswered, IsStableOf}
use Rattle.dependence.specs.Steps.{reading}
use Rattle.dependence.specs.Search.{IsSorted, IsFound, AreCauses}
use Rattle.dependence.proofs.Keeping.{kept_stable, sorted_steps, beyond_few, few_looks}
use Rattle.dependence.proofs.Answering.{answered_greatest, found_again}
use Rattle.dependence.proofs.graph.Graph.stable_cut.Goals as goal

pub at_hand-found-requires-clause-sorted : goal.at_hand-found-requires-clause-sorted
at_hand-found-requires-clause-sorted c = subst (λ (xs : List Step). IsSorted xs c.self.inside.lanes) (sym c.deref.ensures.value) (sorted_steps c.self.inside c.self.invariant)

pub at_hand-found-requires-clause-fits : goal.at_hand-found-requires-clause-fits
at_hand-found-requires-clause-fits c = omega (arith, beyond_few c.self.inside c.self.invariant, c.self.inside.steps.small, c.self.inside.steps.ok.0)

pub at_hand-found-requires-clause-closed : goal.at_hand-found-requires-clause-closed
at_hand-found-requires-clause-closed c = subst (λ (xs : List Step). IsClosedOver reading xs (counts_of c.self.inside.answered)) (sym c.deref.ensures.value) c.self.invariant.answered.closed

pub at_hand-found-requires-clause-causes : goal.at_hand-found-requires-clause-causes
at_hand-found-requires-clause-causes c = subst (λ (xs : List Step). AreCauses xs (counts_of c.self.inside.answered) c.self.inside.causes) (sym c.deref.ensures.value) c.self.invariant.causes

pub invariant_of-self : goal.invariant_of-self
invariant_of-self c =
    let found : IsFound c.self.inside.lanes c.self.inside.steps.items (slice_index c.self.inside.ended) (counts_of c.self.inside.answered) (counts_of c.at_hand-found.result.cut) c.at_hand-found.result.looks =
    subst (λ (xs : List Step). IsFound c.self.inside.lanes xs (slice_index c.self.inside.ended) (counts_of c.self.inside.answered) (counts_of c.at_hand-found.result.cut) c.at_hand-found.result.looks) c.deref.ensures.value c.at_hand-found.ensures.found in
    record {
      lanes = c.self.invariant.lanes;
      low = c.self.invariant.low;
      named = c.self.invariant.named;
      numbered = c.self.invariant.numbered;
      counted = c.self.invariant.counted;
      rises = c.self.invariant.rises;
      linked = c.self.invariant.linked;
      links_room = c.self.invariant.links_room;
      answered = answered_greatest (slice_index c.self.inside.base) c.self.inside.steps.items c.self.invariant.numbered (slice_index c.self.inside.ended) (counts_of c.at_hand-found.result.cut) c.self.invariant.counted.whole found.greatest;
      causes = subst (λ (xs : List Step). AreCauses xs (counts_of c.at_hand-found.result.cut) c.at_hand-found.new.causes) c.deref.ensures.value c.at_hand-found.ensures.causes;
      found_among = omega (arith, c.len-self-inside.ensures, c.self.inside.steps.ok.0);
      stable = λ _. found_again c.self.inside.lanes c.self.inside.steps.items (slice_index c.self.inside.ended) (counts_of c.at_hand-found.result.cut) found.greatest;
    }

pub returns-clause-stable : goal.returns-clause-stable
returns-clause-stable c =
    let found : IsFound c.self.inside.lanes c.self.inside.steps.items (slice_index c.self.inside.ended) (counts_of c.self.inside.answered) (counts_of c.at_hand-found.result.cut) c.at_hand-found.result.looks =
    subst (λ (xs : List Step). IsFound c.self.inside.lanes xs (slice_index c.self.inside.ended) (counts_of c.self.inside.answered) (counts_of c.at_hand-found.result.cut) c.at_hand-found.result.looks) c.deref.ensures.value c.at_hand-found.ensures.found in
    subst (λ (t : Trace). IsStableOf t (counts_of c.at_hand-found.result.cut)) c.self.view_is (kept_stable c.self.inside (counts_of c.at_hand-found.result.cut) c.self.invariant found.greatest)

pub returns-clause-looks_least : goal.returns-clause-looks_least
returns-clause-looks_least c = subst (λ (t : Trace). growth t.lanes (counts_of c.at_hand-found.result.cut) (answered_of t) ≤ c.at_hand-found.result.looks) c.self.view_is c.at_hand-found.ensures.found.least

pub returns-clause-looks_most : goal.returns-clause-looks_most
returns-clause-looks_most c =
    let found : IsFound c.self.inside.lanes c.self.inside.steps.items (slice_index c.self.inside.ended) (counts_of c.self.inside.answered) (counts_of c.at_hand-found.result.cut) c.at_hand-found.result.looks =
    subst (λ (xs : List Step). IsFound c.self.inside.lanes xs (slice_index c.self.inside.ended) (counts_of c.self.inside.answered) (counts_of c.at_hand-found.result.cut) c.at_hand-found.result.looks) c.deref.ensures.value c.at_hand-found.ensures.found in
    subst (λ (t : Trace). c.at_hand-found.result.looks ≤ unanswered t * (unanswered t + 1)) c.self.view_is (few_looks c.self.inside (counts_of c.at_hand-found.result.cut) c.at_hand-found.result.looks c.self.invariant found)
