use Rattle.guards.proofs.FieldLemmas.{names-fields_in}
use Rattle.guards.proofs.fields.field_number.Goals as goal

pub returns-clause-found : goal.returns-clause-found
returns-clause-found c = rw (names-fields_in c.args.fields.now.entries) c.number_named.ensures.found

pub returns-clause-own : goal.returns-clause-own
returns-clause-own c = rw (names-fields_in c.args.fields.now.entries) c.number_named.ensures.own
