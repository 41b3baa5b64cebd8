use Rattle.std.proofs.Common.{◌≡◌, ◌<◌, length, slice_index, refl, inl, arith}
use Rattle.heap_model.specs.Cuts.{counts_of}
use Rattle.dependence.specs.declared.step.Step.{Step}
use Rattle.dependence.specs.Links.{lanes_in}
use Rattle.dependence.specs.Search.{IsTakenUp}
use Rattle.dependence.proofs.Causes.{causes_more}
use Rattle.dependence.proofs.Places.{length_map}
use Rattle.dependence.proofs.Falling.{above_same, walk_init, search_done, releaser_in}
use Rattle.dependence.proofs.search.look_outside.Goals as goal

pub leave_out_all-requires-clause-search : goal.leave_out_all-requires-clause-search
leave_out_all-requires-clause-search c = record {
  above = above_same c.args.steps.now (counts_of c.args.candidates.now);
  why = causes_more c.args.steps.now (counts_of c.args.answered.now) (counts_of c.args.candidates.now) c.args.causes c.requires.less c.requires.causes;
  looked = λ j i takes none out.
      let there : i < length c.args.steps.now = releaser_in c.args.steps.now i j takes in
      let all : i < slice_index c.args.links.now.newest (slice_index (lanes_in c.args.steps.now) i) = c.requires.linked.chained.newest_last i (omega (arith, length_map (λ (s : Step). s.lane.0) c.args.steps.now)) in
      absurd (omega (arith, all, none));
  walk = walk_init c.args.steps.now c.args.links.now c.requires.linked c.args.links.now.newest (IsTakenUp c.args.steps.now (counts_of c.args.candidates.now)) (counts_of c.args.answered.now) (counts_of c.args.candidates.now) (λ l. inl refl);
}

pub returns-clause-closed : goal.returns-clause-closed
returns-clause-closed c = search_done c.args.steps.now c.args.links.now c.args.links.now.newest c.leave_out_all.new.search.left (counts_of c.args.answered.now) (counts_of c.args.candidates.now) (counts_of c.leave_out_all.new.search.cut) c.leave_out_all.new.search.causes
    c.args.lanes c.requires.lanes c.requires.linked c.requires.sorted c.requires.closed c.requires.less (λ l. inl refl) c.leave_out_all.ensures.search c.leave_out_all.ensures.done
