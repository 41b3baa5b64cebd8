use Rattle.dependence.proofs.Trimming.{at_most_stable}
use Rattle.model_tests.proofs.Knowing.{known_left}
use Rattle.model_tests.proofs.graphs.told.Told.forget_but.Goals as goal

pub forget_to-requires : goal.forget_to-requires
forget_to-requires c = record {
  at_most = at_most_stable c.self.inside.graph c.stable_cut.new.self c.stable_cut.result c.without-part.result c.stable_cut.ensures.log c.stable_cut.ensures.base c.stable_cut.ensures.stable c.without-part.ensures;
}

pub invariant_of-self : goal.invariant_of-self
invariant_of-self c = known_left c.self.inside.graph c.stable_cut.new.self c.forget_to.new.self c.stable_cut.result c.without-part.result c.self.inside.known.taken c.self.inside.known.freed c.self.inside.known.holders c.self.inside.known.sections
    c.stable_cut.ensures.log c.stable_cut.ensures.base c.stable_cut.ensures.stable c.without-part.ensures c.forget_to.ensures.log c.forget_to.ensures.base c.self.invariant
