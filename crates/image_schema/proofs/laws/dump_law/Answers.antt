use Rattle.image_schema.proofs.RoundTrip.{dump_declares}
use Rattle.image_schema.proofs.laws.dump_law.Goals as goal

pub returns : goal.returns
returns c = dump_declares c.schema_text_law.ensures.text
