use Rattle.script_declarations.specs.SchemaText.{beginning_with, ended, schema_text}
use Rattle.inspect.proofs.WritesLemmas.{writes_then}
use Rattle.image_salvage.proofs.writing.write_noted.Goals as goal

pub returns : goal.returns
returns g c =
    let text = schema_text (beginning_with c.args.values.now c.args.schema.now) in
    writes_then g.W.Write.contents c.args.writer.now c.put_note.new.writer c.write_schema.new.writer (ended c.args.note.now) text c.write_schema.result c.in_ok-put_note.ensures.ok c.write_schema.ensures
