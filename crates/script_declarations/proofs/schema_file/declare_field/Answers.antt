use Rattle.std.proofs.Common.{refl, sym, subst, IfErr, OnOk, Result}
use Rattle.script_lines.specs.Orders as order
use Rattle.script_declarations.specs.Declares.{Declares}
use Rattle.script_declarations.specs.SchemaFiles.{RefusesDeclaration}
use Rattle.script_declarations.specs.declared.declared.Declared.TheVariants.{Added}
use Rattle.script_declarations.specs.declared.schema_fault.SchemaFaultKind.{SchemaFaultKind}
use Rattle.script_declarations.proofs.DeclarationLemmas.{if_added, if_not_added}
use Rattle.script_declarations.proofs.schema_file.declare_field.Goals as goal

pub returns-clause-ok : goal.returns-clause-ok
returns-clause-ok c =
    let o = order.Field c.args.name.now c.args.owner.now c.args.guard.now c.args.first c.args.is_transient in
    subst (λ (r : Result Unit SchemaFaultKind). OnOk r (Declares c.args.declaring.now o Added c.field.new.self)) (sym c.added.ensures)
    (if_added c.args.declaring.now c.field.new.self o c.field.result c.field.ensures.ok)

pub returns-clause-refused : goal.returns-clause-refused
returns-clause-refused c =
    let o = order.Field c.args.name.now c.args.owner.now c.args.guard.now c.args.first c.args.is_transient in
    subst (λ (r : Result Unit SchemaFaultKind). IfErr r (λ kind. RefusesDeclaration c.args.declaring.now o kind)) (sym c.added.ensures)
    (if_not_added c.args.declaring.now c.field.new.self o c.field.result refl c.field.ensures.ok c.field.ensures.refused)
