use Rattle.std.proofs.Common.{◌≡◌, ◌+◌, ◌∙◌, ◌<◌, ℕ, List, ◌∷◌, length, take, get_or, sym, ap, subst, arith, slice_index}
use Rattle.std.specs.Prelude.{nat_lt}
use Rattle.std.proofs.lemmas.List.{take_more}
use Rattle.heap_model.specs.declared.record.UndoRecord.{UndoRecord}
use Rattle.heap_model.specs.declared.record.UndoRecord.TheVariants.{Acq}
use Rattle.recover_logs.specs.Logs.{settled_of}
use Rattle.recover_logs.specs.declared.settled_count.SettledCount.{SettledCount}
use Rattle.recover_logs.specs.declared.step.Step.{Step}
use Rattle.recover_logs.specs.Tables.{IsLow, log_of}
use Rattle.recover_logs.specs.Crossings.{AreCrossings}
use Rattle.recover_logs.proofs.ReplayLemmas.{log_more}
use Rattle.recover_logs.proofs.WalkLemmas.{few_places, walk_begins, walk_more}
use Rattle.recover_logs.proofs.walk.least_crossing.Goals as goal

abbrev none : Step
none = record { lane = record { 0 = 0 }; entry = Acq (record { 0 = 0 }) 0 }

pub loop-step-init : goal.loop-step-init
loop-step-init c = walk_begins (settled_of c.args.counts.now) c.nothing_met-crossings.result c.nothing_met-crossings.ensures.places c.nothing_met-crossings.ensures.late c.nothing_met-crossings.ensures.least

pub look_at-requires-clause-low : goal.look_at-requires-clause-low
look_at-requires-clause-low c = c.requires.low c.loop-step.step-index none c.loop-step-test.true

pub look_at-requires-clause-fits : goal.look_at-requires-clause-fits
look_at-requires-clause-fits c =
    let steps : List Step = c.args.steps.now in
    let i = c.loop-step.step-index in
    let lt : i < length steps = c.loop-step-test.true in
    let l : ℕ = (get_or steps i none).lane.0 in
    let few = few_places steps i l (omega arith) in
    let place = c.loop-step.invariant.places l in
    omega (arith, few, place)

pub loop-step-preserved : goal.loop-step-preserved
loop-step-preserved c =
    let counts : List SettledCount = c.args.counts.now in
    let steps : List Step = c.args.steps.now in
    let i = c.loop-step.step-index in
    let lt : i < length steps = c.loop-step-test.true in
    let s : Step = get_or steps i none in
    let places : List ℕ = c.loop-step.crossings.places in
    let low : IsLow s = c.requires.low i none lt in
    let more : log_of (take (i + 1) steps) ≡ (s.lane.0, s.entry) ∷ log_of (take i steps) = ap log_of (take_more steps i none lt) ∙ log_more (take i steps) s in
    subst (λ (done : List (ℕ × UndoRecord)). AreCrossings (settled_of counts) done c.look_at.new.crossings) (sym more)
    (walk_more (settled_of counts) (log_of (take i steps)) c.loop-step.crossings c.look_at.new.crossings s.lane s.entry (nat_lt (slice_index places s.lane.0) (settled_of counts c.from.result)) low.low low.range c.loop-step.invariant
    (ap (λ (k : ℕ). nat_lt (slice_index places s.lane.0) (settled_of counts k)) c.from.ensures) c.look_at.ensures.places c.look_at.ensures.late c.look_at.ensures.found c.look_at.ensures.none)
