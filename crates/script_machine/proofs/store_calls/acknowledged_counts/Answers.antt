use Rattle.std.proofs.Common.{◌<◌, rules}
use Rattle.script_machine.proofs.ListLemmas.{length-more, each-more}
use Rattle.script_machine.proofs.store_calls.acknowledged_counts.Goals as goal

pub loop-lane-preserved : goal.loop-lane-preserved
loop-lane-preserved c =
    let xs = c.loop-lane.counts.items in
    let ys = c.push.new.self.items in
    let long = c.loop-lane.invariant.0 in
    let items = c.in_ok-push.ensures.items in (
      length-more xs ys c.acknowledged.result c.loop-lane.lane long items,
      λ s p t. each-more xs ys c.acknowledged.result c.loop-lane.lane p.cut long items (c.loop-lane.invariant.1 s p t) (c.acknowledged.ensures s p t),
    )

pub returns-clause-counts : goal.returns-clause-counts
returns-clause-counts c = λ s p t l in'.
    let below : l < c.loop-lane.lane = search rules in
    c.loop-lane.invariant.1 s p t l below
