use Rattle.std.proofs.Common.{ℕ, ◌≡◌, ◌<◌, ◌∙◌, List, length, take, get_or, reverse, sym, ap, subst, arith, length-take}
use Rattle.std.proofs.lemmas.List.{length-map, length-reverse}
use Rattle.heap_model.specs.Sections.{Action, undo_action}
use Rattle.heap_model.specs.declared.record.UndoRecord.{UndoRecord}
use Rattle.heap_model.specs.declared.record.UndoRecord.TheVariants.{Acq}
use Rattle.dependence.specs.Next.{IsNext}
use Rattle.recover_logs.specs.declared.step.Step.{Step}
use Rattle.recover.specs.Dropping.{acts_in}
use Rattle.recover_logs.specs.Tables.{log_of}
use Rattle.recover.proofs.PushingLemmas.{step_next, ended_few}
use Rattle.recover.proofs.graph_of.graph_of.Goals as goal

abbrev none : Step
none = record { lane = record { 0 = 0 }; entry = Acq (record { 0 = 0 }) 0 }

pub push-requires-clause-next : goal.push-requires-clause-next
push-requires-clause-next c =
    let steps : List Step = c.args.steps.now in
    let i = c.loop-step.step-index in
    let s : Step = get_or steps i none in
    subst (λ (log : List (ℕ × Action)). IsNext log s.lane.0 (undo_action s.entry)) (sym c.loop-step.invariant.log) (step_next steps i none c.loop-step-test.true c.requires.next)

-- there are as many actions as steps
acts_count : (steps : List Step) (i : ℕ) → i < length steps → length (acts_in (log_of (take i steps))) ≡ i
acts_count steps i lt =
    omega (
      arith,
      length-map {A = ℕ × UndoRecord} {B = ℕ × Action} (log_of (take i steps)) (λ (x : ℕ × UndoRecord). (x.0, undo_action x.1)),
      length-map {A = Step} {B = ℕ × UndoRecord} (reverse (take i steps)) (λ (s : Step). (s.lane.0, s.entry)),
      length-reverse (take i steps),
      length-take i steps,
    )

pub push-requires-clause-fits : goal.push-requires-clause-fits
push-requires-clause-fits c =
    let steps : List Step = c.args.steps.now in
    let i = c.loop-step.step-index in
    let lt : i < length steps = c.loop-step-test.true in
    let l : ℕ = (get_or steps i none).lane.0 in
    let long : length c.loop-step.graph.log ≡ i = ap (λ (xs : List (ℕ × Action)). length xs) c.loop-step.invariant.log ∙ acts_count steps i lt in
    omega (arith, c.loop-step.invariant.base l, ended_few l c.loop-step.graph.log, long)
