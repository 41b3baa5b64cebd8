use Rattle.guards.proofs.builder.SchemaBuilder.field.Goals as goal

pub returns : goal.returns
returns c = record {
  declares = record {
    ok = c.declare.ensures.ok;
    empty = c.declare.ensures.empty;
    double_name = c.declare.ensures.double_name;
    unknown_object = c.declare.ensures.unknown_object;
    too_many = c.declare.ensures.too_many;
    err = c.declare.ensures.err;
  };
}
