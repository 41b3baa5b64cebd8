use Rattle.std.proofs.Common.{Result, Ok, sym, subst, refl}
use Rattle.guards.specs.Schema.{Declarations}
use Rattle.guards.specs.Declaring.{Declares}
use Rattle.guards.specs.declared.error.SchemaError.{SchemaError}
use Rattle.heap_model.specs.declared.ids.FieldId.{FieldId}
use Rattle.script_declarations.specs.declared.declared.Declared.TheVariants.{Added}
use Rattle.script_declarations.proofs.FieldLemmas.{Told, declared_field, if_declared_field}
use Rattle.script_declarations.proofs.declaring.Declaring.field.Goals as goal

pub returns-in-Ok-clause-ok : goal.returns-in-Ok-clause-ok
returns-in-Ok-clause-ok c =
    let builds : Declares c.object_named-owner.result c.args.name.now c.object_named-guard.result c.args.first c.args.is_transient c.args.self.now c.build_field.result c.build_field.new.builder =
    subst (λ (d : Declarations). Declares c.object_named-owner.result c.args.name.now c.object_named-guard.result c.args.first c.args.is_transient d c.build_field.result c.build_field.new.builder) c.self.view_is
    c.build_field.ensures in
    declared_field c.args.self.now c.build_field.new.builder c.object_named-owner.result c.object_named-guard.result c.args.name.now c.args.owner.now c.args.guard.now c.args.first c.args.is_transient c.build_field.result Added
    (record { known = c.object_named-owner.ensures.known; unknown = c.object_named-owner.ensures.unknown })
    (record { known = c.object_named-guard.ensures.known; unknown = c.object_named-guard.ensures.unknown })
    builds (subst (λ (r : Result FieldId SchemaError). Told r (Ok Added)) (sym c.in-Ok.is) refl)

pub returns-in-Err-clause-ok : goal.returns-in-Err-clause-ok
returns-in-Err-clause-ok c =
    let builds : Declares c.object_named-owner.result c.args.name.now c.object_named-guard.result c.args.first c.args.is_transient c.args.self.now c.build_field.result c.build_field.new.builder =
    subst (λ (d : Declarations). Declares c.object_named-owner.result c.args.name.now c.object_named-guard.result c.args.first c.args.is_transient d c.build_field.result c.build_field.new.builder) c.self.view_is
    c.build_field.ensures in
    if_declared_field c.args.self.now c.build_field.new.builder c.object_named-owner.result c.object_named-guard.result c.args.name.now c.args.owner.now c.args.guard.now c.args.first c.args.is_transient c.build_field.result c.refused.result
    (record { known = c.object_named-owner.ensures.known; unknown = c.object_named-owner.ensures.unknown })
    (record { known = c.object_named-guard.ensures.known; unknown = c.object_named-guard.ensures.unknown })
    builds (subst (λ (r : Result FieldId SchemaError). Told r c.refused.result) (sym c.in-Err.is) c.refused.ensures)
