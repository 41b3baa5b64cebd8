use Rattle.std.proofs.Common.{take}
use Rattle.std.specs.Io.KnownBytes.{Appends}
use Rattle.std.specs.List.{flat_map}
use Rattle.image_schema.proofs.WritingLemmas.{object_item}
use Rattle.image_schema.proofs.writing.put_objects.Given as goal

abbrev pub invariant-loop-object : goal.invariant-loop-object
invariant-loop-object g l = Appends (g.W.Write.contents l.initial.writer) (g.W.Write.contents l.writer) (flat_map object_item (take l.object l.schema.objects))
