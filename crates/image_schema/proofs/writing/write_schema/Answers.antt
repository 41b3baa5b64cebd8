use Rattle.std.proofs.Common.{List, ℕ, subst, sym}
use Rattle.std.proofs.lemmas.List.Concat.{flat_map-append}
use Rattle.std.specs.List.{flat_map}
use Rattle.script_declarations.specs.SchemaText.{begun_with, ended, field_lines, object_lines}
use Rattle.inspect.specs.Written.{Writes}
use Rattle.inspect.proofs.WritesLemmas.{writes_then}
use Rattle.image_schema.proofs.writing.write_schema.Goals as goal

pub returns : goal.returns
returns g c =
    let schema = c.args.schema.now in
    let objects = object_lines schema.objects in
    let fields = field_lines schema.objects (begun_with c.args.values.now 0 schema.fields) in
    let contents = g.W.Write.contents in
    let old = c.args.writer.now in
    let one = c.put_objects.new.writer in
    let two = c.put_fields.new.writer in
    let r = c.put_fields.result in
    subst (λ (text : List ℕ). Writes contents old two text r) (sym (flat_map-append ended objects fields))
    (writes_then contents old one two (flat_map ended objects) (flat_map ended fields) r c.in_ok-put_objects.ensures.ok c.put_fields.ensures)
