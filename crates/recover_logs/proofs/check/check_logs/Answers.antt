use Rattle.std.proofs.Common.{ℕ, ◌≡◌, List, ap, arith, subst, Vec, Global, Option}
use Rattle.std.proofs.lemmas.Result.{err_from_is_err_and}
use Rattle.heap_model.specs.declared.ids.ObjectId.{ObjectId}
use Rattle.heap_model.specs.declared.record.UndoRecord.{UndoRecord}
use Rattle.recover_logs.specs.declared.step.Step.{Step}
use Rattle.recover_logs.specs.Logs.{guard_in, kept_of, lanes_of, settled_of}
use Rattle.recover_logs.specs.Replay.{Replays}
use Rattle.recover_logs.specs.Settled.{Restless, Crossing, IsLeastUnsettled}
use Rattle.recover_logs.specs.Crossings.{Crosses, IsLeastCrossing}
use Rattle.recover_logs.specs.Tables.{log_of}
use Rattle.recover_logs.proofs.SettledLemmas.{all_rest, lane_there, lanes_free, least_unsettled, none_unsettled, place_there, refused_replay}
use Rattle.recover_logs.proofs.check.check_logs.Goals as goal

pub returns-in_err-steps-clause-exact : goal.returns-in_err-steps-clause-exact
returns-in_err-steps-clause-exact c =
    let p = err_from_is_err_and c.from_residual.result c.from_residual.ensures.1 in
    let counts = c.args.counts.now in
    rw (p.1, p.2) (refused_replay (guard_in c.args.guards.now) (settled_of counts) (kept_of counts) (lanes_of c.args.logs.now) c.in_err-steps.field-0.0 c.in_err-steps.ensures.exact)

pub returns-in_err-steps-clause-there : goal.returns-in_err-steps-clause-there
returns-in_err-steps-clause-there c =
    let p = err_from_is_err_and c.from_residual.result c.from_residual.ensures.1 in
    rw (p.1, p.2) c.in_err-steps.ensures.there

pub returns-in-Some-clause-there : goal.returns-in-Some-clause-there
returns-in-Some-clause-there c =
    let counts = c.args.counts.now in
    let settled : settled_of counts c.from.result ≡ settled_of counts c.in-Some.lane.0 = ap (settled_of counts) c.from.ensures in
    (c.in-Some.ensures.0, omega (arith, settled, c.requires.within c.in-Some.lane.0 c.in-Some.ensures.0))

pub least_restless-requires-clause-held : goal.least_restless-requires-clause-held
least_restless-requires-clause-held c = lanes_free (guard_in c.args.guards.now) c.args.logs.now (log_of c.in_ok-steps.steps.items) c.in_ok-steps.ensures.exact

pub returns-in-Some-clause-exact : goal.returns-in-Some-clause-exact
returns-in-Some-clause-exact c = Restless (log_of c.in_ok-steps.steps.items) c.in_ok-steps.ensures.exact c.in-Some.ensures.1 (ap (settled_of c.args.counts.now) c.from.ensures)

-- what the walk through the steps finds is the least of the lanes' records
found_is : (guard : ℕ → Option ObjectId) (settled : ℕ → ℕ) (logs : List (Vec UndoRecord Global)) (walked steps : List Step) (l i : ℕ) → Replays guard (lanes_of logs) (log_of steps) → walked ≡ steps → IsLeastCrossing settled (log_of walked) l i → IsLeastUnsettled settled (lanes_of logs) l i
found_is guard settled logs walked steps l i replays same least = least_unsettled settled guard (lanes_of logs) (log_of steps) replays l i (subst (λ (xs : List Step). IsLeastCrossing settled (log_of xs) l i) same least)

pub returns-in-Some-least_crossing-clause-there : goal.returns-in-Some-least_crossing-clause-there
returns-in-Some-least_crossing-clause-there c =
    let settled : ℕ → ℕ = settled_of c.args.counts.now in
    let logs = c.args.logs.now in
    let l = c.in-Some-least_crossing.found.lane.0 in
    let i = c.in-Some-least_crossing.found.place in
    let found : IsLeastUnsettled settled (lanes_of logs) l i = found_is (guard_in c.args.guards.now) settled logs c.deref.result.now c.in_ok-steps.steps.items l i c.in_ok-steps.ensures.exact c.deref.ensures.value c.in-Some-least_crossing.ensures in
    (lane_there settled logs l i found.takes, place_there settled logs l i found.takes)

pub returns-in-Some-least_crossing-clause-exact : goal.returns-in-Some-least_crossing-clause-exact
returns-in-Some-least_crossing-clause-exact c =
    let guard : ℕ → Option ObjectId = guard_in c.args.guards.now in
    let counts = c.args.counts.now in
    let logs = c.args.logs.now in
    let steps : List Step = c.in_ok-steps.steps.items in
    let l = c.in-Some-least_crossing.found.lane.0 in
    let i = c.in-Some-least_crossing.found.place in
    Crossing (record { done = log_of steps; replays = c.in_ok-steps.ensures.exact; rest = all_rest (settled_of counts) (kept_of counts) logs c.in_default.ensures })
    (found_is guard (settled_of counts) logs c.deref.result.now steps l i c.in_ok-steps.ensures.exact c.deref.ensures.value c.in-Some-least_crossing.ensures)

pub returns-clause-exact : goal.returns-clause-exact
returns-clause-exact c =
    let guard : ℕ → Option ObjectId = guard_in c.args.guards.now in
    let counts = c.args.counts.now in
    let lanes : ℕ → List UndoRecord = lanes_of c.args.logs.now in
    let none = subst (λ (xs : List Step). (l i : ℕ) → Crosses (settled_of counts) (log_of xs) l i → ⊥) c.deref.ensures.value c.in_default-least_crossing.ensures in
    record {
      logs = record { done = log_of c.in_ok-steps.steps.items; replays = c.in_ok-steps.ensures.exact; rest = all_rest (settled_of counts) (kept_of counts) c.args.logs.now c.in_default.ensures };
      inside = none_unsettled (settled_of counts) guard lanes (log_of c.in_ok-steps.steps.items) c.in_ok-steps.ensures.exact none;
    }
