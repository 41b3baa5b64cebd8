use Rattle.std.proofs.Common.{ℕ, ◌+◌, List, ◌∷◌, sym, subst, slice_index}
use Rattle.heap_model.specs.Sections.{Action, undo_action}
use Rattle.dependence.specs.Trace.{base_of}
use Rattle.model_tests.specs.Known.{IsKnown}
use Rattle.model_tests.proofs.Knowing.{one_more}
use Rattle.model_tests.proofs.graphs.told.Told.push.Goals as goal

pub push-requires-clause-next : goal.push-requires-clause-next
push-requires-clause-next c = c.in-Some.ensures.follows.next c.self.inside.graph.log c.self.invariant.of

pub invariant_of-self-in-Some : goal.invariant_of-self-in-Some
invariant_of-self-in-Some c =
    let more : IsKnown (base_of c.self.inside.graph) ((c.args.lane.0, undo_action c.undo-entry.result) ∷ c.self.inside.graph.log) c.in-Some.known.taken c.in-Some.known.freed c.in-Some.known.holders (c.self.inside.known.sections + 1) = one_more (base_of c.self.inside.graph) c.self.inside.graph.log c.self.inside.known.taken c.self.inside.known.freed c.self.inside.known.holders c.in-Some.known.taken c.in-Some.known.freed c.in-Some.known.holders c.self.inside.known.sections c.args.lane.0 (undo_action c.undo-entry.result) c.self.invariant c.in-Some.ensures.follows in
    let counted : IsKnown (base_of c.self.inside.graph) ((c.args.lane.0, undo_action c.undo-entry.result) ∷ c.self.inside.graph.log) c.in-Some.known.taken c.in-Some.known.freed c.in-Some.known.holders c.in-Some.known.sections = subst (λ k. IsKnown (base_of c.self.inside.graph) ((c.args.lane.0, undo_action c.undo-entry.result) ∷ c.self.inside.graph.log) c.in-Some.known.taken c.in-Some.known.freed c.in-Some.known.holders k) (sym c.in-Some.ensures.sections) more in
    let logged : IsKnown (base_of c.self.inside.graph) c.push.new.self.log c.in-Some.known.taken c.in-Some.known.freed c.in-Some.known.holders c.in-Some.known.sections = subst (λ (xs : List (ℕ × Action)). IsKnown (base_of c.self.inside.graph) xs c.in-Some.known.taken c.in-Some.known.freed c.in-Some.known.holders c.in-Some.known.sections) (sym c.push.ensures.log) counted in
    subst (λ (xs : List ℕ). IsKnown (λ l. slice_index xs l) c.push.new.self.log c.in-Some.known.taken c.in-Some.known.freed c.in-Some.known.holders c.in-Some.known.sections) (sym c.push.ensures.base) logged
