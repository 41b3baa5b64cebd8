use Rattle.std.proofs.Common.{◌≡◌, ◌+◌, ◌≤◌, [], length, rules, Bool, if◌then◌else◌, ap, subst}
use Rattle.block_disk.specs.Traced.{Traced}
use Rattle.disk_deferred.specs.Deferred.{onto, stops_in}
use Rattle.disk_deferred.specs.Joined.{join_write}
use Rattle.rtrb.specs.Ring.{sent}
use Rattle.disk_deferred.proofs.Joins.{wrote_more}
use Rattle.disk_deferred.proofs.disk.DeferredDiskDisk.write_at.Goals as goal

pub invariant_of-self-2 : goal.invariant_of-self-2
invariant_of-self-2 c =
    let handed = sent c.self.inside.ring in
    let unsent = c.self.inside.unsent.items in
    let calls = c.keep_write.new.calls.items in
    let fits : c.args.at + length c.args.bytes.now ≤ length c.self.inside.bytes.items = search rules in
    wrote_more handed unsent calls c.self.inside.bytes.items c.put.new.bytes.items c.self.inside.trace.past.stops c.write.new.self.past.stops c.args.at c.args.bytes.now c.self.invariant
    fits (search rules)
    (subst (λ (b : Bool). onto [] calls ≡ (if b then join_write c.args.at c.args.bytes.now (onto [] unsent) else onto [] unsent)) c.if-not-keep_write.false (c.keep_write.ensures [] tt))
    (subst (λ (b : Bool). onto (stops_in handed) calls ≡ (if b then join_write c.args.at c.args.bytes.now (onto (stops_in handed) unsent) else onto (stops_in handed) unsent)) c.if-not-keep_write.false
    (c.keep_write.ensures (stops_in handed) c.self.invariant.synced))
    c.put.ensures (ap (λ (t : Traced). t.stops) c.write.ensures)
