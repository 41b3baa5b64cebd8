use Rattle.std.proofs.Common.{refl, sym, ◌∙◌}
use Rattle.script_declarations.proofs.FrontLemmas.{some_left}
use Rattle.script_declarations.proofs.SchemaLemmas.{declared-more, refused_at, declared_all, declared_count}
use Rattle.script_declarations.proofs.schema_file.declare_lines.Goals as goal

pub returns-in-Err-clause-refused : goal.returns-in-Err-clause-refused
returns-in-Err-clause-refused c =
    let some = some_left c.loop-rest.rest.now (sym c.is_empty.ensures ∙ c.loop-rest-test.true) in
    refused_at _ c.args.lines.now c.loop-rest.declaring c.loop-rest.rest.now c.loop-rest.count c.cut_line.result.0.now c.cut_line.result.1.now _ c.loop-rest.invariant (c.cut_line.ensures.lines some) refl c.in-Err.ensures.refused

pub loop-rest-preserved : goal.loop-rest-preserved
loop-rest-preserved c =
    let some = some_left c.loop-rest.rest.now (sym c.is_empty.ensures ∙ c.loop-rest-test.true) in
    declared-more _ c.args.lines.now c.loop-rest.declaring c.loop-rest.rest.now c.loop-rest.count c.cut_line.result.0.now c.cut_line.result.1.now _ c.loop-rest.invariant (c.cut_line.ensures.lines some) (c.cut_line.ensures.shorter some) c.in_default.ensures.ok

pub returns-clause-ok : goal.returns-clause-ok
returns-clause-ok c =
    declared_all _ c.args.lines.now c.loop-rest.declaring c.loop-rest.rest.now c.loop-rest.count c.loop-rest.invariant (sym c.is_empty.ensures ∙ c.loop-rest-test.false)

pub returns-clause-count : goal.returns-clause-count
returns-clause-count c =
    declared_count _ c.args.lines.now c.loop-rest.declaring c.loop-rest.rest.now c.loop-rest.count c.loop-rest.invariant (sym c.is_empty.ensures ∙ c.loop-rest-test.false)
