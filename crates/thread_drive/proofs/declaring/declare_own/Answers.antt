use Rattle.std.proofs.Common.{◌≡◌, ◌<◌, ℕ, suc, List, ap, sym, subst, ◌∙◌, arith}
use Rattle.guards.specs.Schema.{Declarations, IsNewName, field_count, names_of, object_count}
use Rattle.thread_drive.specs.Schemas.{own_field, own_object, schema_of}
use Rattle.thread_drive.proofs.SchemaLemmas.{declared_next, field_is_new, fields_are, object_is_new, objects_are}
use Rattle.thread_drive.proofs.declaring.declare_own.Goals as goal

pub declare_count-requires-clause-name : goal.declare_count-requires-clause-name
declare_count-requires-clause-name c =
    let n = c.args.worker in
    let name : c.as_str.result.now ≡ own_object n = c.as_str.ensures.value ∙ c.in-Ok.ensures.ok in
    subst (λ (b : Declarations). IsNewName b.objects c.as_str.result.now) (sym c.requires)
    (subst (λ (text : List ℕ). IsNewName (schema_of n).objects text) (sym name) (object_is_new n (omega arith)))

pub declare_count-requires-clause-field : goal.declare_count-requires-clause-field
declare_count-requires-clause-field c =
    let n = c.args.worker in
    let name : c.as_str-2.result.now ≡ own_field n = c.as_str-2.ensures.value ∙ c.in-Ok-format.ensures.ok in
    subst (λ (b : Declarations). IsNewName (names_of b.fields) c.as_str-2.result.now) (sym c.requires)
    (subst (λ (text : List ℕ). IsNewName (names_of (schema_of n).fields) text) (sym name) (field_is_new n (omega arith)))

pub declare_count-requires-clause-objects : goal.declare_count-requires-clause-objects
declare_count-requires-clause-objects c =
    let count : object_count c.args.builder.now ≡ suc c.args.worker = ap (λ (b : Declarations). object_count b) c.requires ∙ objects_are c.args.worker in
    let few : c.args.worker < 256 = omega arith in
    omega arith

pub declare_count-requires-clause-fields : goal.declare_count-requires-clause-fields
declare_count-requires-clause-fields c =
    let count : field_count c.args.builder.now ≡ suc c.args.worker = ap (λ (b : Declarations). field_count b) c.requires ∙ fields_are c.args.worker in
    let few : c.args.worker < 256 = omega arith in
    omega arith

pub returns-clause-ok : goal.returns-clause-ok
returns-clause-ok c =
    declared_next c.declare_count.result c.args.worker c.args.builder.now c.declare_count.new.builder c.as_str.result.now c.as_str-2.result.now
    c.requires (c.as_str.ensures.value ∙ c.in-Ok.ensures.ok) (c.as_str-2.ensures.value ∙ c.in-Ok-format.ensures.ok) c.declare_count.ensures.ok
