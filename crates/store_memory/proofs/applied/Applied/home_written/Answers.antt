use Rattle.heap_model.specs.Past.{after_home}
use Rattle.store_memory.specs.Within.{memory_of}
use Rattle.store_memory.proofs.LogLaws.{remembers_home}
use Rattle.store_memory.proofs.applied.Applied.home_written.Goals as goal

pub invariant_of-self : goal.invariant_of-self
invariant_of-self c = record {
  setting = c.self.invariant.setting;
  past = after_home c.self.invariant.past c.args.field.0;
  remembers = remembers_home c.self.invariant.setting (memory_of c.self.inside) c.self.invariant.past c.args.field.0 c.clear.new.self c.self.invariant.remembers c.clear.ensures.cleared c.clear.ensures.fields;
  within = c.self.invariant.within;
  fresh_lanes = c.self.invariant.fresh_lanes;
  fresh_room = c.self.invariant.fresh_room;
  words = c.self.invariant.words;
}
