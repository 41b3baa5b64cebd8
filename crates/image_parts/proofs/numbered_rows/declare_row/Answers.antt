use Rattle.std.proofs.Common.{◌≡◌, ◌∙◌, ap, length, arith}
use Rattle.guards.specs.Schema.{Declarations, field_count}
use Rattle.image_parts.specs.NumberedRows.{field_name}
use Rattle.image_parts.proofs.Numbered.{fields_are, row_declared, row_refused}
use Rattle.image_parts.proofs.numbered_rows.declare_row.Goals as goal

pub returns-in-Ok-declare_named-clause-ok : goal.returns-in-Ok-declare_named-clause-ok
returns-in-Ok-declare_named-clause-ok c = λ objects before is.
    let number : c.fields-number.result ≡ length before = c.fields-number.ensures.count ∙ ap (λ (d : Declarations). field_count d) is ∙ fields_are 0 before in
    let name : c.as_str.result.now ≡ field_name (length before) = c.as_str.ensures.value ∙ c.in-Ok.ensures.ok ∙ ap field_name number in
    row_declared objects before c.args.row c.args.builder.now c.declare_named.new.builder c.as_str.result.now is name c.in-Ok-declare_named.ensures.ok.1

pub returns-clause-refused : goal.returns-clause-refused
returns-clause-refused c = λ objects before is.
    let number : c.fields-number.result ≡ length before = c.fields-number.ensures.count ∙ ap (λ (d : Declarations). field_count d) is ∙ fields_are 0 before in
    let name : c.as_str.result.now ≡ field_name (length before) = c.as_str.ensures.value ∙ c.in-Ok.ensures.ok ∙ ap field_name number in
    let few = c.fields-number.ensures.limit in
    let count : field_count c.args.builder.now ≡ length before = ap (λ (d : Declarations). field_count d) is ∙ fields_are 0 before in
    let told = c.in-Err.ensures in
    row_refused objects before c.args.row c.args.builder.now c.as_str.result.now c.in-Err.refusal is name (omega arith)
    told.empty.0 (λ e. (told.double_name.0 e).1) (λ e. (told.unknown_object.0 e).1) (λ e. (told.too_many.0 e).3)
