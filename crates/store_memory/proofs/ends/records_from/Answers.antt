use Rattle.std.proofs.Common.{ℕ, suc, ◌≡◌, ◌+◌, ◌-◌, ◌*◌, ◌<◌, ◌≤◌, slice_index, arith}
use Rattle.std.proofs.lemmas.Nat.{mul-le}
use Rattle.dependence.specs.Trace.{in_all}
use Rattle.store_memory.proofs.SectionRoom.{sum_room}
use Rattle.store_memory.proofs.ends.records_from.Goals as goal

pub overflow_add-records : goal.overflow_add-records
overflow_add-records c =
    let counted : ℕ → ℕ = λ l. slice_index c.args.behind.now l - slice_index c.args.places.now l in
    let lane : c.loop-lane.lane < c.args.lanes = omega (arith, c.loop-lane-test.true) in
    let each : (l : ℕ) → l < suc c.loop-lane.lane → counted l ≤ c.args.capacity = λ l lt. omega (arith, c.requires.near l (omega (arith, lt, lane))) in
    let so_far : c.loop-lane.records ≡ in_all c.loop-lane.lane counted = c.loop-lane.invariant in
    let then : in_all c.loop-lane.lane counted + counted c.loop-lane.lane ≤ suc c.loop-lane.lane * c.args.capacity = sum_room (suc c.loop-lane.lane) c.args.capacity counted each in
    let bound : suc c.loop-lane.lane * c.args.capacity ≤ 32 * c.args.capacity = mul-le (suc c.loop-lane.lane) c.args.capacity 32 c.args.capacity (omega (arith, lane, c.requires.lanes)) (omega arith) in
    omega (arith, so_far, then, bound, c.ranges.capacity.fits)
