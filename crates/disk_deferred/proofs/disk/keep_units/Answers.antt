use Rattle.std.proofs.Common.{◌+◌, ◌-◌, ◌*◌, ◌<◌, ◌≤◌, ◌∙◌, ℕ, List, drop, sym, ap, arith}
use Rattle.disk_deferred.specs.Deferred.{onto}
use Rattle.disk_deferred.specs.Joined.{join_units}
use Rattle.disk_deferred.proofs.Units.{join_more, rest_is}
use Rattle.disk_deferred.proofs.disk.keep_units.Goals as goal

pub loop-done-preserved : goal.loop-done-preserved
loop-done-preserved c =
    let n = c.loop-done.done in
    let m = c.keep_run-kept.result in
    let lt : n < c.args.count = c.loop-done-test.true in
    let few : m ≤ c.args.count - n = c.keep_run-kept.ensures.few in record {
      few = omega (arith, lt, few);
      kept = λ before sync.
          c.keep_run-kept.ensures.kept before sync
          ∙ ap (λ (xs : List ℕ). join_units m (c.args.at + n * 16) xs (onto before c.loop-done.calls.items)) (rest_is (n * 16) c.args.units.now)
          ∙ ap (join_units m (c.args.at + n * 16) (drop (n * 16) c.args.units.now)) (c.loop-done.invariant.kept before sync)
          ∙ sym (join_more n m c.args.at c.args.units.now (onto before c.args.calls.now.items));
    }
