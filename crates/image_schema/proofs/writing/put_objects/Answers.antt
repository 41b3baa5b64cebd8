use Rattle.std.proofs.Common.{rules, ◌<◌, [], length, subst, ap, ◌∙◌, arith}
use Rattle.std.proofs.lemmas.List.{take_all}
use Rattle.std.specs.Io.KnownBytes.{Appends}
use Rattle.std.specs.List.{flat_map}
use Rattle.inspect.specs.Written.{AppendsPart}
use Rattle.inspect.proofs.PartLemmas.{always, part_item}
use Rattle.image_schema.proofs.WritingLemmas.{object_item, objects_text}
use Rattle.image_schema.proofs.writing.put_objects.Goals as goal

pub returns-in_err-put_object : goal.returns-in_err-put_object
returns-in_err-put_object g c =
    let names = c.args.schema.now.objects in
    let old = g.W.Write.contents c.args.writer.now in
    let one = g.W.Write.contents c.loop-object.writer in
    let two = g.W.Write.contents c.put_object.new.writer in
    let below : c.loop-object.object < length names = omega (arith, c.loop-object-test.true, c.objects-object-end.ensures.count) in
    record {
      ok = search rules;
      part = always c.from_residual.result (subst (AppendsPart old two) (objects_text names)
          (part_item object_item names c.loop-object.object [] below old one two c.loop-object.invariant c.in_err-put_object.ensures.part));
    }

pub returns : goal.returns
returns g c =
    let names = c.args.schema.now.objects in
    let all = take_all c.loop-object.object names (omega (arith, c.loop-object-test.false, c.objects-object-end.ensures.count)) in
    record {
      ok = subst (Appends (g.W.Write.contents c.args.writer.now) (g.W.Write.contents c.loop-object.writer)) (ap (flat_map object_item) all ∙ objects_text names) c.loop-object.invariant;
      part = search rules;
    }
