use Rattle.guards.proofs.FieldLemmas.{names-fields_in}
use Rattle.guards.proofs.fields.field_name_at.Goals as goal

pub returns : goal.returns
returns c = rw (names-fields_in c.args.fields.now.entries) c.name_at.ensures
