use Rattle.std.proofs.Common.{◌≡◌, ◌∙◌, arith}
use Rattle.image_parts.specs.NumberedRows.{object_name}
use Rattle.image_parts.proofs.Numbered.{object_refused}
use Rattle.image_parts.proofs.numbered_rows.declare_object.Goals as goal

pub returns-clause-refused : goal.returns-clause-refused
returns-clause-refused c =
    let name : c.as_str.result.now ≡ object_name c.args.number = c.as_str.ensures.value ∙ c.in-Ok.ensures.ok in
    let told = c.in-Err.ensures in
    object_refused c.args.number c.args.builder.now c.as_str.result.now c.in-Err.refusal c.requires name (omega arith)
    told.empty.0 (λ e. (told.double_name.0 e).1) told.known (λ e. (told.too_many.0 e).1)
