use Rattle.std.proofs.Common.{Option, MatchOption, subst, slice_index}
use Rattle.heap_model.specs.Cuts.{counts_of}
use Rattle.dependence.specs.declared.found.Found.{Found}
use Rattle.dependence.specs.Search.{IsFound}
use Rattle.dependence.proofs.Causes.{causes_more}
use Rattle.dependence.proofs.found.at_hand.Goals as goal

pub returns-in-Some-clause-causes : goal.returns-in-Some-clause-causes
returns-in-Some-clause-causes c =
    let found : IsFound c.args.lanes c.args.steps.now (slice_index c.args.ended.now) (counts_of c.args.answered.now) (counts_of c.in-Some.found.cut) c.in-Some.found.looks =
    subst (λ (o : Option Found). MatchOption o (Unit {0}) (λ x. IsFound c.args.lanes c.args.steps.now (slice_index c.args.ended.now) (counts_of c.args.answered.now) (counts_of x.cut) x.looks)) c.in-Some.is c.requires.stable in
    causes_more c.args.steps.now (counts_of c.args.answered.now) (counts_of c.in-Some.found.cut) c.args.causes.now (found.greatest.greatest (counts_of c.args.answered.now) c.requires.whole c.requires.closed) c.requires.causes
