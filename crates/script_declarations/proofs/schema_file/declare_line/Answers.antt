use Rattle.std.proofs.Common.{sym, subst}
use Rattle.script_declarations.specs.SchemaFiles.{RefusesLine}
use Rattle.script_declarations.specs.declared.schema_fault.SchemaFaultKind.{SchemaFaultKind}
use Rattle.script_declarations.proofs.DeclarationLemmas.{text_refused, if_refused}
use Rattle.script_declarations.proofs.schema_file.declare_line.Goals as goal

pub returns-in-Ok-Some-clause-refused : goal.returns-in-Ok-Some-clause-refused
returns-in-Ok-Some-clause-refused c =
    if_refused c.args.declaring.now c.args.line.now c.in-Ok-Some.field-0 c.in-Ok-Some.command c.declare.result c.in-Ok-Some.field-0-is c.in-Ok-Some.ensures.text c.in-Ok-Some.ensures.ok c.in-Ok-Some.ensures.read c.in-Ok-Some.ensures.own c.declare.ensures.refused

pub returns-in-Err-clause-refused : goal.returns-in-Err-clause-refused
returns-in-Err-clause-refused c =
    subst (λ (k : SchemaFaultKind). RefusesLine c.args.declaring.now c.args.line.now k) (sym c.text_fault.ensures)
    (text_refused c.args.declaring.now c.args.line.now c.in-Err.kind c.in-Err.ensures.fault)
