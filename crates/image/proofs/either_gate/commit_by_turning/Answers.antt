use Rattle.std.proofs.Common.{arith, rules}
use Rattle.block_disk.proofs.Images.{stays}
use Rattle.image.specs.Commit.{OldOrTurned, turned_sequence}
use Rattle.image_parts.specs.Control.{control_of}
use Rattle.image.proofs.EitherGates.{closes_calls, closes_leaves, closes_made, closes_steady, found_open, found_shut, found_stands, opens_calls, opens_leaves, opens_made, opens_steady, rewrites_calls, rewrites_leaves, rewrites_made, rewrites_steady, spare_found, steady_found}
use Rattle.image.proofs.Committed.{commits, turned_starts}
use Rattle.image.proofs.either_gate.commit_by_turning.Goals as goal

pub returns-in_err-spare-clause-commits : goal.returns-in_err-spare-clause-commits
returns-in_err-spare-clause-commits g c =
    commits turned_starts
    (search rules)
    (search rules)
    (search rules)
    (
    λ old steady is.
    stays (g.D.Disk.device c.args.disk.now) (g.D.Disk.device c.read_head.new.disk)
    (OldOrTurned c.args.layout.now (g.D.Disk.device c.args.disk.now) c.args.chosen old (control_of (turned_sequence c.args.chosen c.args.sequence (g.D.Disk.device c.args.disk.now).now.bytes) c.args.rows.now))
    c.read_head.ensures.same
    )
    (search rules)

pub close_chosen-requires-clause-open : goal.close_chosen-requires-clause-open
close_chosen-requires-clause-open g c =
    let d = g.D.Disk.device c.args.disk.now in
    let d1 = g.D.Disk.device c.read_head.new.disk in
    let h = c.in_ok-spare.spare in
    let f = spare_found d d1 c.args.chosen c.other.result h c.other.ensures c.in_ok-spare.ensures.untouched c.in_ok-spare.ensures.ok in
    found_open d d1 c.args.chosen h f c.if-spare.true

pub close_chosen-requires-clause-stands : goal.close_chosen-requires-clause-stands
close_chosen-requires-clause-stands g c =
    let d = g.D.Disk.device c.args.disk.now in
    let d1 = g.D.Disk.device c.read_head.new.disk in
    let h = c.in_ok-spare.spare in
    let f = spare_found d d1 c.args.chosen c.other.result h c.other.ensures c.in_ok-spare.ensures.untouched c.in_ok-spare.ensures.ok in
    found_stands d d1 c.args.chosen h f

pub close_chosen-requires-clause-steady : goal.close_chosen-requires-clause-steady
close_chosen-requires-clause-steady g c =
    let d = g.D.Disk.device c.args.disk.now in
    let d1 = g.D.Disk.device c.read_head.new.disk in
    let h = c.in_ok-spare.spare in
    let f = spare_found d d1 c.args.chosen c.other.result h c.other.ensures c.in_ok-spare.ensures.untouched c.in_ok-spare.ensures.ok in
    let r = c.requires.steady in
    (r.0, steady_found c.args.layout.now d d1 c.args.chosen h r.0 f r.1)

pub rewrite_spare-requires-clause-steady : goal.rewrite_spare-requires-clause-steady
rewrite_spare-requires-clause-steady g c =
    let d = g.D.Disk.device c.args.disk.now in
    let d1 = g.D.Disk.device c.read_head.new.disk in
    let h = c.in_ok-spare.spare in
    let f = spare_found d d1 c.args.chosen c.other.result h c.other.ensures c.in_ok-spare.ensures.untouched c.in_ok-spare.ensures.ok in
    let r = c.requires.steady in
    (r.0, steady_found c.args.layout.now d d1 c.args.chosen h r.0 f r.1, r.2)

pub open_spare-requires-clause-closed : goal.open_spare-requires-clause-closed
open_spare-requires-clause-closed g c =
    let d = g.D.Disk.device c.args.disk.now in
    let d1 = g.D.Disk.device c.read_head.new.disk in
    let h = c.in_ok-spare.spare in
    let f = spare_found d d1 c.args.chosen c.other.result h c.other.ensures c.in_ok-spare.ensures.untouched c.in_ok-spare.ensures.ok in
    found_shut d d1 c.args.chosen h f c.if-spare.false

pub open_spare-requires-clause-steady : goal.open_spare-requires-clause-steady
open_spare-requires-clause-steady g c =
    let d = g.D.Disk.device c.args.disk.now in
    let d1 = g.D.Disk.device c.read_head.new.disk in
    let h = c.in_ok-spare.spare in
    let f = spare_found d d1 c.args.chosen c.other.result h c.other.ensures c.in_ok-spare.ensures.untouched c.in_ok-spare.ensures.ok in
    let r = c.requires.steady in
    (r.0, steady_found c.args.layout.now d d1 c.args.chosen h r.0 f r.1, omega (arith, r.2))

pub returns-then-spare-gt0-clause-made : goal.returns-then-spare-gt0-clause-made
returns-then-spare-gt0-clause-made g c =
    let d = g.D.Disk.device c.args.disk.now in
    let d1 = g.D.Disk.device c.read_head.new.disk in
    let h = c.in_ok-spare.spare in
    let f = spare_found d d1 c.args.chosen c.other.result h c.other.ensures c.in_ok-spare.ensures.untouched c.in_ok-spare.ensures.ok in
    closes_made c.args.layout.now d d1 (g.D.Disk.device c.close_chosen.new.disk) c.args.chosen c.args.sequence c.args.rows.now h f c.close_chosen.result c.if-spare.true c.if-spare-gt0.true c.close_chosen.ensures.made

pub returns-then-spare-gt0-clause-commits : goal.returns-then-spare-gt0-clause-commits
returns-then-spare-gt0-clause-commits g c =
    commits turned_starts
    (
    let d = g.D.Disk.device c.args.disk.now in
    let d1 = g.D.Disk.device c.read_head.new.disk in
    let h = c.in_ok-spare.spare in
    let f = spare_found d d1 c.args.chosen c.other.result h c.other.ensures c.in_ok-spare.ensures.untouched c.in_ok-spare.ensures.ok in
    closes_steady c.args.layout.now d d1 (g.D.Disk.device c.close_chosen.new.disk) c.args.chosen c.args.sequence c.args.rows.now h f c.close_chosen.result c.if-spare.true c.if-spare-gt0.true c.close_chosen.ensures.commits.ok
    )
    (search rules)
    (
    let d = g.D.Disk.device c.args.disk.now in
    let d1 = g.D.Disk.device c.read_head.new.disk in
    let h = c.in_ok-spare.spare in
    let f = spare_found d d1 c.args.chosen c.other.result h c.other.ensures c.in_ok-spare.ensures.untouched c.in_ok-spare.ensures.ok in
    closes_calls c.args.layout.now d d1 (g.D.Disk.device c.close_chosen.new.disk) c.args.chosen c.args.sequence c.args.rows.now h f c.close_chosen.result c.if-spare.true c.if-spare-gt0.true c.close_chosen.ensures.commits.calls
    )
    (
    λ old steady same.
    let d = g.D.Disk.device c.args.disk.now in
    let d1 = g.D.Disk.device c.read_head.new.disk in
    let h = c.in_ok-spare.spare in
    let f = spare_found d d1 c.args.chosen c.other.result h c.other.ensures c.in_ok-spare.ensures.untouched c.in_ok-spare.ensures.ok in
    closes_leaves c.args.layout.now d d1 (g.D.Disk.device c.close_chosen.new.disk) c.args.chosen c.args.sequence c.args.rows.now h f c.close_chosen.result c.if-spare.true c.if-spare-gt0.true old
    (c.close_chosen.ensures.commits.any_moment old (steady_found c.args.layout.now d d1 c.args.chosen h old f steady) tt)
    )
    (search rules)

pub returns-then-spare-clause-made : goal.returns-then-spare-clause-made
returns-then-spare-clause-made g c =
    let d = g.D.Disk.device c.args.disk.now in
    let d1 = g.D.Disk.device c.read_head.new.disk in
    let h = c.in_ok-spare.spare in
    let f = spare_found d d1 c.args.chosen c.other.result h c.other.ensures c.in_ok-spare.ensures.untouched c.in_ok-spare.ensures.ok in
    rewrites_made c.args.layout.now d d1 (g.D.Disk.device c.rewrite_spare.new.disk) c.args.chosen c.args.sequence c.args.rows.now h f c.rewrite_spare.result c.if-spare.true c.if-spare-gt0.false c.rewrite_spare.ensures.made

pub returns-then-spare-clause-commits : goal.returns-then-spare-clause-commits
returns-then-spare-clause-commits g c =
    commits turned_starts
    (
    let d = g.D.Disk.device c.args.disk.now in
    let d1 = g.D.Disk.device c.read_head.new.disk in
    let h = c.in_ok-spare.spare in
    let f = spare_found d d1 c.args.chosen c.other.result h c.other.ensures c.in_ok-spare.ensures.untouched c.in_ok-spare.ensures.ok in
    rewrites_steady c.args.layout.now d d1 (g.D.Disk.device c.rewrite_spare.new.disk) c.args.chosen c.args.sequence c.args.rows.now h f c.rewrite_spare.result c.if-spare.true c.if-spare-gt0.false c.rewrite_spare.ensures.commits.ok
    )
    (search rules)
    (
    let d = g.D.Disk.device c.args.disk.now in
    let d1 = g.D.Disk.device c.read_head.new.disk in
    let h = c.in_ok-spare.spare in
    let f = spare_found d d1 c.args.chosen c.other.result h c.other.ensures c.in_ok-spare.ensures.untouched c.in_ok-spare.ensures.ok in
    rewrites_calls c.args.layout.now d d1 (g.D.Disk.device c.rewrite_spare.new.disk) c.args.chosen c.args.sequence c.args.rows.now h f c.rewrite_spare.result c.if-spare.true c.if-spare-gt0.false c.rewrite_spare.ensures.commits.calls
    )
    (
    λ old steady same.
    let d = g.D.Disk.device c.args.disk.now in
    let d1 = g.D.Disk.device c.read_head.new.disk in
    let h = c.in_ok-spare.spare in
    let f = spare_found d d1 c.args.chosen c.other.result h c.other.ensures c.in_ok-spare.ensures.untouched c.in_ok-spare.ensures.ok in
    rewrites_leaves c.args.layout.now d d1 (g.D.Disk.device c.rewrite_spare.new.disk) c.args.chosen c.args.sequence c.args.rows.now h f c.rewrite_spare.result c.if-spare.true c.if-spare-gt0.false old
    (c.rewrite_spare.ensures.commits.any_moment old (steady_found c.args.layout.now d d1 c.args.chosen h old f steady) same)
    )
    (search rules)

pub returns-clause-made : goal.returns-clause-made
returns-clause-made g c =
    let d = g.D.Disk.device c.args.disk.now in
    let d1 = g.D.Disk.device c.read_head.new.disk in
    let h = c.in_ok-spare.spare in
    let f = spare_found d d1 c.args.chosen c.other.result h c.other.ensures c.in_ok-spare.ensures.untouched c.in_ok-spare.ensures.ok in
    opens_made c.args.layout.now d d1 (g.D.Disk.device c.open_spare.new.disk) c.args.chosen c.args.sequence c.args.rows.now h f c.open_spare.result c.if-spare.false c.open_spare.ensures.made

pub returns-clause-commits : goal.returns-clause-commits
returns-clause-commits g c =
    commits turned_starts
    (
    let d = g.D.Disk.device c.args.disk.now in
    let d1 = g.D.Disk.device c.read_head.new.disk in
    let h = c.in_ok-spare.spare in
    let f = spare_found d d1 c.args.chosen c.other.result h c.other.ensures c.in_ok-spare.ensures.untouched c.in_ok-spare.ensures.ok in
    opens_steady c.args.layout.now d d1 (g.D.Disk.device c.open_spare.new.disk) c.args.chosen c.args.sequence c.args.rows.now h f c.open_spare.result c.if-spare.false c.open_spare.ensures.commits.ok
    )
    (search rules)
    (
    let d = g.D.Disk.device c.args.disk.now in
    let d1 = g.D.Disk.device c.read_head.new.disk in
    let h = c.in_ok-spare.spare in
    let f = spare_found d d1 c.args.chosen c.other.result h c.other.ensures c.in_ok-spare.ensures.untouched c.in_ok-spare.ensures.ok in
    opens_calls c.args.layout.now d d1 (g.D.Disk.device c.open_spare.new.disk) c.args.chosen c.args.sequence c.args.rows.now h f c.open_spare.result c.if-spare.false c.open_spare.ensures.commits.calls
    )
    (
    λ old steady same.
    let d = g.D.Disk.device c.args.disk.now in
    let d1 = g.D.Disk.device c.read_head.new.disk in
    let h = c.in_ok-spare.spare in
    let f = spare_found d d1 c.args.chosen c.other.result h c.other.ensures c.in_ok-spare.ensures.untouched c.in_ok-spare.ensures.ok in
    opens_leaves c.args.layout.now d d1 (g.D.Disk.device c.open_spare.new.disk) c.args.chosen c.args.sequence c.args.rows.now h f c.open_spare.result c.if-spare.false old
    (c.open_spare.ensures.commits.any_moment old (steady_found c.args.layout.now d d1 c.args.chosen h old f steady) (omega (arith, same)))
    )
    (search rules)
