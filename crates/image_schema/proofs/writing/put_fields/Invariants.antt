use Rattle.std.proofs.Common.{take}
use Rattle.std.specs.Io.KnownBytes.{Appends}
use Rattle.std.specs.List.{flat_map}
use Rattle.script_declarations.specs.SchemaText.{begun_with}
use Rattle.image_schema.proofs.WritingLemmas.{field_item}
use Rattle.image_schema.proofs.writing.put_fields.Given as goal

abbrev pub invariant-loop-field : goal.invariant-loop-field
invariant-loop-field g l = Appends (g.W.Write.contents l.initial.writer) (g.W.Write.contents l.writer) (flat_map (field_item l.schema.objects) (take l.field (begun_with l.values 0 l.schema.fields)))
