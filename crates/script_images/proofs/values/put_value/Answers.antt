use Rattle.std.proofs.Common.{length, refl}
use Rattle.std.proofs.lemmas.Option.{slice_get_read}
use Rattle.script_images.proofs.values.put_value.Goals as goal

pub returns-clause-ok : goal.returns-clause-ok
returns-clause-ok c = λ _.
    let item = c.in-Some-get.ensures.lookup in
    record {
      field = c.in-Some.field.0;
      named = c.in-Some.ensures.found;
      value = c.in-Some-get.value.now;
      there = slice_get_read c.args.heap.now (length c.args.heap.now) c.in-Some.field.0 c.in-Some-get.value.now refl item.3.0 item.1;
      line = c.in_ok-write.ensures.bytes;
    }
