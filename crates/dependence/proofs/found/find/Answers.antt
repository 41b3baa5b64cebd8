use Rattle.std.proofs.Common.{◌≡◌, ◌≤◌, ◌<◌, ◌^◌, slice_index, arith}
use Rattle.heap_model.specs.Cuts.{counts_of}
use Rattle.dependence.specs.Trace.{growth}
use Rattle.dependence.specs.Search.{IsAbove}
use Rattle.dependence.proofs.Sums.{growth_le, growth_less}
use Rattle.dependence.proofs.Answering.{greatest_of, found_twice}
use Rattle.dependence.proofs.found.find.Goals as goal

pub greatest_cut-search-requires-clause-less : goal.greatest_cut-search-requires-clause-less
greatest_cut-search-requires-clause-less c =
    let few : IsAbove c.args.steps.now (slice_index c.args.ended.now) (counts_of c.candidates-candidates.result) = c.candidates-candidates.ensures c.args.steps.now c.requires.causes c.requires.whole c.requires.closed in
    few.greatest (counts_of c.args.answered.now) c.requires.whole c.requires.closed

pub sections_beyond-taken_up-requires-clause-whole : goal.sections_beyond-taken_up-requires-clause-whole
sections_beyond-taken_up-requires-clause-whole c =
    let few : IsAbove c.args.steps.now (slice_index c.args.ended.now) (counts_of c.candidates-candidates.result) = c.candidates-candidates.ensures c.args.steps.now c.requires.causes c.requires.whole c.requires.closed in
    few.greatest (counts_of c.args.answered.now) c.requires.whole c.requires.closed

pub sections_beyond-taken_up-requires-clause-fits : goal.sections_beyond-taken_up-requires-clause-fits
sections_beyond-taken_up-requires-clause-fits c =
    let few : IsAbove c.args.steps.now (slice_index c.args.ended.now) (counts_of c.candidates-candidates.result) = c.candidates-candidates.ensures c.args.steps.now c.requires.causes c.requires.whole c.requires.closed in
    let fits : growth c.args.lanes (slice_index c.args.ended.now) (counts_of c.args.answered.now) < 2 ^ 63 = c.requires.fits in
    let all : growth c.args.lanes (counts_of c.candidates-candidates.result) (counts_of c.args.answered.now) ≤ growth c.args.lanes (slice_index c.args.ended.now) (counts_of c.args.answered.now) =
    growth_le c.args.lanes (counts_of c.candidates-candidates.result) (slice_index c.args.ended.now) (counts_of c.args.answered.now) few.below in
    let goal_too : growth c.args.lanes (counts_of c.candidates-candidates.result) (counts_of c.args.answered.now) < 2 ^ 64 = omega arith in
    goal_too

pub sections_beyond-left_out-requires-clause-fits : goal.sections_beyond-left_out-requires-clause-fits
sections_beyond-left_out-requires-clause-fits c =
    let few : IsAbove c.args.steps.now (slice_index c.args.ended.now) (counts_of c.candidates-candidates.result) = c.candidates-candidates.ensures c.args.steps.now c.requires.causes c.requires.whole c.requires.closed in
    let fits : growth c.args.lanes (slice_index c.args.ended.now) (counts_of c.args.answered.now) < 2 ^ 63 = c.requires.fits in
    let all : growth c.args.lanes (counts_of c.candidates-candidates.result) (counts_of c.args.answered.now) ≤ growth c.args.lanes (slice_index c.args.ended.now) (counts_of c.args.answered.now) =
    growth_le c.args.lanes (counts_of c.candidates-candidates.result) (slice_index c.args.ended.now) (counts_of c.args.answered.now) few.below in
    let out : growth c.args.lanes (counts_of c.candidates-candidates.result) (counts_of c.greatest_cut-search.result.cut) ≤ growth c.args.lanes (counts_of c.candidates-candidates.result) (counts_of c.args.answered.now) =
    growth_less c.args.lanes (counts_of c.candidates-candidates.result) (counts_of c.args.answered.now) (counts_of c.greatest_cut-search.result.cut)
    (c.greatest_cut-search.ensures.above.greatest (counts_of c.args.answered.now) (few.greatest (counts_of c.args.answered.now) c.requires.whole c.requires.closed) c.requires.closed) in
    let goal_too : growth c.args.lanes (counts_of c.candidates-candidates.result) (counts_of c.greatest_cut-search.result.cut) < 2 ^ 64 = omega arith in
    goal_too

pub overflow_add-result : goal.overflow_add-result
overflow_add-result c =
    let few : IsAbove c.args.steps.now (slice_index c.args.ended.now) (counts_of c.candidates-candidates.result) = c.candidates-candidates.ensures c.args.steps.now c.requires.causes c.requires.whole c.requires.closed in
    let fits : growth c.args.lanes (slice_index c.args.ended.now) (counts_of c.args.answered.now) < 2 ^ 63 = c.requires.fits in
    let all : growth c.args.lanes (counts_of c.candidates-candidates.result) (counts_of c.args.answered.now) ≤ growth c.args.lanes (slice_index c.args.ended.now) (counts_of c.args.answered.now) =
    growth_le c.args.lanes (counts_of c.candidates-candidates.result) (slice_index c.args.ended.now) (counts_of c.args.answered.now) few.below in
    let out : growth c.args.lanes (counts_of c.candidates-candidates.result) (counts_of c.greatest_cut-search.result.cut) ≤ growth c.args.lanes (counts_of c.candidates-candidates.result) (counts_of c.args.answered.now) =
    growth_less c.args.lanes (counts_of c.candidates-candidates.result) (counts_of c.args.answered.now) (counts_of c.greatest_cut-search.result.cut)
    (c.greatest_cut-search.ensures.above.greatest (counts_of c.args.answered.now) (few.greatest (counts_of c.args.answered.now) c.requires.whole c.requires.closed) c.requires.closed) in
    let first : c.sections_beyond-taken_up.result ≡ growth c.args.lanes (counts_of c.candidates-candidates.result) (counts_of c.args.answered.now) = c.sections_beyond-taken_up.ensures in
    let second : c.sections_beyond-left_out.result ≡ growth c.args.lanes (counts_of c.candidates-candidates.result) (counts_of c.greatest_cut-search.result.cut) = c.sections_beyond-left_out.ensures in
    omega arith

pub returns-clause-found : goal.returns-clause-found
returns-clause-found c =
    let few : IsAbove c.args.steps.now (slice_index c.args.ended.now) (counts_of c.candidates-candidates.result) = c.candidates-candidates.ensures c.args.steps.now c.requires.causes c.requires.whole c.requires.closed in
    let first : c.sections_beyond-taken_up.result ≡ growth c.args.lanes (counts_of c.candidates-candidates.result) (counts_of c.args.answered.now) = c.sections_beyond-taken_up.ensures in
    let second : c.sections_beyond-left_out.result ≡ growth c.args.lanes (counts_of c.candidates-candidates.result) (counts_of c.greatest_cut-search.result.cut) = c.sections_beyond-left_out.ensures in
    found_twice c.args.lanes c.args.steps.now (slice_index c.args.ended.now) (counts_of c.args.answered.now) (counts_of c.candidates-candidates.result) (counts_of c.greatest_cut-search.result.cut) _
    (greatest_of c.args.steps.now (slice_index c.args.ended.now) (counts_of c.candidates-candidates.result) (counts_of c.greatest_cut-search.result.cut) few c.greatest_cut-search.ensures.above c.greatest_cut-search.ensures.closed)
    few.below c.greatest_cut-search.ensures.above.below
    (c.greatest_cut-search.ensures.above.greatest (counts_of c.args.answered.now) (few.greatest (counts_of c.args.answered.now) c.requires.whole c.requires.closed) c.requires.closed)
    (omega arith)
