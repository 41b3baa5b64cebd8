use Rattle.guards.proofs.FieldLemmas.{names-fields_in}
use Rattle.guards.proofs.fields.add_field.Goals as goal

pub add_name-requires : goal.add_name-requires
add_name-requires c = rw (names-fields_in c.args.fields.now.entries) at c.requires
