use Rattle.heap_model.specs.Cuts.{counts_of}
use Rattle.dependence.specs.Search.{IsLookedAt, IsTakenUp}
use Rattle.dependence.proofs.Causes.{causes_more}
use Rattle.dependence.proofs.Falling.{above_same, walk_init, looking_done, search_done}
use Rattle.dependence.proofs.search.look_back.Goals as goal

pub look_through-requires-clause-search : goal.look_through-requires-clause-search
look_through-requires-clause-search c = record {
  above = above_same c.args.steps.now (counts_of c.args.candidates.now);
  why = causes_more c.args.steps.now (counts_of c.args.answered.now) (counts_of c.args.candidates.now) c.args.causes c.requires.less c.requires.causes;
  walk = walk_init c.args.steps.now c.args.links.now c.requires.linked c.starts-start.result (IsLookedAt c.args.steps.now (counts_of c.args.candidates.now) (counts_of c.args.candidates.now)) (counts_of c.args.answered.now) (counts_of c.args.candidates.now) c.starts-start.ensures;
}

pub leave_out_all-requires-clause-search : goal.leave_out_all-requires-clause-search
leave_out_all-requires-clause-search c = record {
  above = c.look_through.ensures.search.above;
  why = c.look_through.ensures.search.why;
  looked = λ j i takes none. looking_done c.args.steps.now c.args.links.now c.starts-start.result c.look_through.new.search.left (counts_of c.args.answered.now) (counts_of c.args.candidates.now) (counts_of c.look_through.new.search.cut) c.look_through.new.search.causes
      c.args.lanes c.requires.lanes c.requires.linked c.requires.sorted c.requires.closed c.requires.less c.starts-start.ensures c.look_through.ensures.search c.look_through.ensures.done j i takes;
  walk = walk_init c.args.steps.now c.args.links.now c.requires.linked c.starts-start.result (IsTakenUp c.args.steps.now (counts_of c.look_through.new.search.cut)) (counts_of c.args.answered.now) (counts_of c.args.candidates.now) c.starts-start.ensures;
}

pub returns-clause-closed : goal.returns-clause-closed
returns-clause-closed c = search_done c.args.steps.now c.args.links.now c.starts-start.result c.leave_out_all.new.search.left (counts_of c.args.answered.now) (counts_of c.args.candidates.now) (counts_of c.leave_out_all.new.search.cut) c.leave_out_all.new.search.causes
    c.args.lanes c.requires.lanes c.requires.linked c.requires.sorted c.requires.closed c.requires.less c.starts-start.ensures c.leave_out_all.ensures.search c.leave_out_all.ensures.done
