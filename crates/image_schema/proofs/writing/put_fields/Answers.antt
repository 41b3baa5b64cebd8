use Rattle.std.proofs.Common.{rules, ◌<◌, length, subst, ap, ◌∙◌, arith}
use Rattle.std.proofs.lemmas.List.{take_all}
use Rattle.std.specs.Io.KnownBytes.{Appends}
use Rattle.std.specs.List.{flat_map}
use Rattle.script_declarations.specs.SchemaText.{begun_with}
use Rattle.inspect.specs.Written.{AppendsPart}
use Rattle.inspect.proofs.PartLemmas.{always, next_item, part_item}
use Rattle.image_schema.proofs.WritingLemmas.{begun_length, field_is, field_item, fields_text, no_field}
use Rattle.image_schema.proofs.writing.put_fields.Goals as goal

pub returns-in_err-put_field : goal.returns-in_err-put_field
returns-in_err-put_field g c =
    let schema = c.args.schema.now in
    let fields = begun_with c.args.values.now 0 schema.fields in
    let old = g.W.Write.contents c.args.writer.now in
    let one = g.W.Write.contents c.loop-field.writer in
    let two = g.W.Write.contents c.put_field.new.writer in
    let low : c.loop-field.field < length schema.fields = omega (arith, c.loop-field-test.true, c.fields-field-end.ensures.count) in
    let below : c.loop-field.field < length fields = omega (arith, low, begun_length c.args.values.now 0 schema.fields) in
    record {
      ok = search rules;
      part = always c.from_residual.result (subst (AppendsPart old two) (fields_text schema.objects fields)
          (part_item (field_item schema.objects) fields c.loop-field.field no_field below old one two c.loop-field.invariant
          (subst (AppendsPart one two) (field_is schema c.args.values.now c.loop-field.field low) c.in_err-put_field.ensures.part)));
    }

pub loop-field-preserved : goal.loop-field-preserved
loop-field-preserved g c =
    let schema = c.args.schema.now in
    let fields = begun_with c.args.values.now 0 schema.fields in
    let old = g.W.Write.contents c.args.writer.now in
    let one = g.W.Write.contents c.loop-field.writer in
    let two = g.W.Write.contents c.put_field.new.writer in
    let low : c.loop-field.field < length schema.fields = omega (arith, c.loop-field-test.true, c.fields-field-end.ensures.count) in
    let below : c.loop-field.field < length fields = omega (arith, low, begun_length c.args.values.now 0 schema.fields) in
    next_item (field_item schema.objects) fields c.loop-field.field no_field below old one two c.loop-field.invariant
    (subst (Appends one two) (field_is schema c.args.values.now c.loop-field.field low) c.in_ok-put_field.ensures.ok)

pub returns : goal.returns
returns g c =
    let schema = c.args.schema.now in
    let fields = begun_with c.args.values.now 0 schema.fields in
    let all = take_all c.loop-field.field fields (omega (arith, c.loop-field-test.false, c.fields-field-end.ensures.count, begun_length c.args.values.now 0 schema.fields)) in
    record {
      ok = subst (Appends (g.W.Write.contents c.args.writer.now) (g.W.Write.contents c.loop-field.writer)) (ap (flat_map (field_item schema.objects)) all ∙ fields_text schema.objects fields) c.loop-field.invariant;
      part = search rules;
    }
