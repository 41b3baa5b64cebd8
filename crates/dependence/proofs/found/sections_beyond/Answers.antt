use Rattle.std.proofs.Common.{suc, ◌≡◌, ◌+◌, ◌-◌, ◌<◌, ◌≤◌, ◌^◌, slice_index, arith}
use Rattle.dependence.specs.Trace.{in_all}
use Rattle.dependence.proofs.Sums.{in_all_part}
use Rattle.dependence.proofs.found.sections_beyond.Goals as goal

pub overflow_add-sections : goal.overflow_add-sections
overflow_add-sections c =
    let fits : in_all c.args.lanes (λ l. slice_index c.args.cut.now l - slice_index c.args.before.now l) < 2 ^ 64 = c.requires.fits in
    let before : c.loop-lane.lane < c.args.lanes = omega (arith, c.loop-lane-test.true) in
    let so_far : c.loop-lane.sections ≡ in_all c.loop-lane.lane (λ l. slice_index c.args.cut.now l - slice_index c.args.before.now l) = c.loop-lane.invariant in
    let more : in_all c.loop-lane.lane (λ l. slice_index c.args.cut.now l - slice_index c.args.before.now l) + (slice_index c.args.cut.now c.loop-lane.lane - slice_index c.args.before.now c.loop-lane.lane)
    ≤ in_all c.args.lanes (λ l. slice_index c.args.cut.now l - slice_index c.args.before.now l) = in_all_part (suc c.loop-lane.lane) c.args.lanes (λ l. slice_index c.args.cut.now l - slice_index c.args.before.now l) (omega arith) in
    omega arith
