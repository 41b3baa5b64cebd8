use Rattle.std.proofs.Common.{refl, sym, ◌∙◌}
use Rattle.script_play.proofs.FrontLemmas.{some_left}
use Rattle.script_play.proofs.PlayLemmas.{stops_at, printed_before, printed_part, played-more, printed_all, played_all}
use Rattle.script_play.proofs.play.play.Goals as goal

pub returns-in-Err-clause-fault : goal.returns-in-Err-clause-fault
returns-in-Err-clause-fault g c =
    let some = some_left c.loop-rest.rest.now (sym c.is_empty.ensures ∙ c.loop-rest-test.true) in
    stops_at c.args.machine.now c.args.lines.now c.loop-rest.machine c.loop-rest.rest.now c.loop-rest.played _ _ c.cut_line.result.0.now c.cut_line.result.1.now _ c.loop-rest.invariant (c.cut_line.ensures.lines some) refl c.in-Err.ensures.fault

pub returns-in-Err-clause-before : goal.returns-in-Err-clause-before
returns-in-Err-clause-before g c = λ e.
    printed_before c.args.machine.now c.args.lines.now c.loop-rest.machine c.loop-rest.rest.now c.loop-rest.played _ _ _ c.loop-rest.invariant (c.in-Err.ensures.before e)

pub returns-in-Err-clause-part : goal.returns-in-Err-clause-part
returns-in-Err-clause-part g c = λ e.
    let some = some_left c.loop-rest.rest.now (sym c.is_empty.ensures ∙ c.loop-rest-test.true) in
    printed_part c.args.machine.now c.args.lines.now c.loop-rest.machine c.loop-rest.rest.now c.loop-rest.played _ _ c.cut_line.result.0.now c.cut_line.result.1.now c.play_line.new.machine _ c.loop-rest.invariant (c.cut_line.ensures.lines some) (c.in-Err.ensures.part e)

pub loop-rest-preserved : goal.loop-rest-preserved
loop-rest-preserved g c =
    let some = some_left c.loop-rest.rest.now (sym c.is_empty.ensures ∙ c.loop-rest-test.true) in
    played-more c.args.machine.now c.args.lines.now c.loop-rest.machine c.loop-rest.rest.now c.loop-rest.played _ _ c.cut_line.result.0.now c.cut_line.result.1.now c.play_line.new.machine _ c.loop-rest.invariant (c.cut_line.ensures.lines some) (c.cut_line.ensures.shorter some) c.in_default.ensures.ok

pub returns-clause-ok : goal.returns-clause-ok
returns-clause-ok g c =
    printed_all c.args.machine.now c.args.lines.now c.loop-rest.machine c.loop-rest.rest.now c.loop-rest.played _ _ c.loop-rest.invariant (sym c.is_empty.ensures ∙ c.loop-rest-test.false)

pub returns-clause-count : goal.returns-clause-count
returns-clause-count g c =
    played_all c.args.machine.now c.args.lines.now c.loop-rest.machine c.loop-rest.rest.now c.loop-rest.played _ _ c.loop-rest.invariant (sym c.is_empty.ensures ∙ c.loop-rest-test.false)
