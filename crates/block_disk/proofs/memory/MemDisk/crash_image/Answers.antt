use Rattle.std.proofs.Common.{◌≡◌, ◌+◌, ◌≤◌, length, sym, ◌∙◌, ap, subst, rules, arith}
use Rattle.block_disk.specs.Crash.{crash_bytes, done_at, LeftSinceStop}
use Rattle.block_disk.specs.Device.{Image}
use Rattle.block_disk.specs.Memory.{Memory, fresh, moment_after}
use Rattle.block_disk.proofs.Kept.{EachFits, each_fits, length_stops}
use Rattle.block_disk.proofs.Possible.{possible, each_done, left_since_stop}
use Rattle.block_disk.proofs.memory.MemDisk.crash_image.Goals as goal

pub image_at-requires-clause-ended : goal.image_at-requires-clause-ended
image_at-requires-clause-ended c =
    let calls = c.self.inside.calls.items in
    let stops : length c.args.self.now.stops ≡ length calls = sym (ap (λ (m : Memory). length m.stops) c.self.view_is) ∙ length_stops calls in
    let high : c.args.k ≤ length c.args.self.now.stops + 1 = search rules in
    let low : 1 ≤ c.args.k = search rules in
    omega (arith, stops, high, low)

pub returns-clause-possible : goal.returns-clause-possible
returns-clause-possible c =
    let m = c.args.self.now in
    let d = c.self.inside in
    let each : EachFits (length m.first) m.stops = subst (λ (x : Memory). EachFits (length x.first) x.stops) c.self.view_is (each_fits (length d.first.items) d.calls.items c.self.invariant.0.fits) in
    let done = done_at c.args.k m.stops in
    let is : c.in_ok-holding.field-0 ≡ fresh (crash_bytes c.args.fill m.first done) = search rules in
    subst (λ (x : Memory). Image (moment_after m.first done) x.first) (sym is) (possible c.args.fill m.first done (each_done (length m.first) c.args.k m.stops each))

pub returns-clause-any_moment : goal.returns-clause-any_moment
returns-clause-any_moment c =
    let m = c.args.self.now in
    let d = c.self.inside in
    let each : EachFits (length m.first) m.stops = subst (λ (x : Memory). EachFits (length x.first) x.stops) c.self.view_is (each_fits (length d.first.items) d.calls.items c.self.invariant.0.fits) in
    let done = done_at c.args.k m.stops in
    let is : c.in_ok-holding.field-0 ≡ fresh (crash_bytes c.args.fill m.first done) = search rules in
    let low : 1 ≤ c.args.k = search rules in
    let high : c.args.k ≤ length m.stops + 1 = search rules in
    subst (λ (x : Memory). LeftSinceStop c.args.k m x.first) (sym is) (left_since_stop c.args.fill m c.args.k low high each)
