use Rattle.std.proofs.Common.{Option, subst, sym, ◌∙◌}
use Rattle.script_machine.specs.declared.answer.Refusal.{Refusal}
use Rattle.script_images.specs.Strict.{IsAnswered}
use Rattle.script_images.proofs.StrictLemmas.{counted_all, refused_at, some_left, stops_there, taken_all, taken-more}
use Rattle.script_images.proofs.strict.take_lines.Goals as goal

pub returns-in-Ok-Some-clause-stopped : goal.returns-in-Ok-Some-clause-stopped
returns-in-Ok-Some-clause-stopped g c =
    let some = some_left c.loop-rest.rest.now (sym c.is_empty.ensures ∙ c.loop-rest-test.true) in
    refused_at c.args.machine.now c.args.lines.now c.loop-rest.machine c.loop-rest.rest.now c.loop-rest.played _ _ c.loop-rest.invariant
    c.cut_line.result.0.now c.cut_line.result.1.now (c.cut_line.ensures.lines some) c.in-Ok-Some.why _
    (subst (λ (w : Option Refusal). IsAnswered c.loop-rest.machine c.cut_line.result.0.now c.take_line.new.machine (g.W.Write.contents c.loop-rest.writer) (g.W.Write.contents c.take_line.new.writer) w) c.in-Ok-Some.field-0-is c.in-Ok-Some.ensures.ok)

pub returns-in-Err-clause-stopped : goal.returns-in-Err-clause-stopped
returns-in-Err-clause-stopped g c =
    let some = some_left c.loop-rest.rest.now (sym c.is_empty.ensures ∙ c.loop-rest-test.true) in
    stops_there c.args.machine.now c.args.lines.now c.loop-rest.machine c.loop-rest.rest.now c.loop-rest.played _ _ c.loop-rest.invariant
    c.cut_line.result.0.now c.cut_line.result.1.now (c.cut_line.ensures.lines some) c.in-Err.kind c.take_line.new.machine _ c.in-Err.ensures.fault c.in-Err.ensures.before c.in-Err.ensures.part

pub loop-rest-preserved : goal.loop-rest-preserved
loop-rest-preserved g c =
    let some = some_left c.loop-rest.rest.now (sym c.is_empty.ensures ∙ c.loop-rest-test.true) in
    taken-more c.args.machine.now c.args.lines.now c.loop-rest.machine c.loop-rest.rest.now c.loop-rest.played _ _ c.loop-rest.invariant
    c.cut_line.result.0.now c.cut_line.result.1.now (c.cut_line.ensures.lines some) c.take_line.new.machine _ (c.cut_line.ensures.shorter some)
    (subst (λ (w : Option Refusal). IsAnswered c.loop-rest.machine c.cut_line.result.0.now c.take_line.new.machine (g.W.Write.contents c.loop-rest.writer) (g.W.Write.contents c.take_line.new.writer) w) c.in-Ok-None.field-0-is c.in-Ok-None.ensures.ok)

pub returns-clause-ok : goal.returns-clause-ok
returns-clause-ok g c =
    taken_all c.args.machine.now c.args.lines.now c.loop-rest.machine c.loop-rest.rest.now c.loop-rest.played _ _ c.loop-rest.invariant (sym c.is_empty.ensures ∙ c.loop-rest-test.false)

pub returns-clause-count : goal.returns-clause-count
returns-clause-count g c =
    counted_all c.args.machine.now c.args.lines.now c.loop-rest.machine c.loop-rest.rest.now c.loop-rest.played _ _ c.loop-rest.invariant (sym c.is_empty.ensures ∙ c.loop-rest-test.false)
