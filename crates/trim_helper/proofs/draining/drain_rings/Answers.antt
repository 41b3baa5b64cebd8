use Rattle.std.proofs.Common.{refl, ◌∙◌, arith}
use Rattle.trim_helper.specs.Taken.{with_rings}
use Rattle.trim_helper.proofs.Looking.{looked_again, looked_done, looked_failed, looked_none, looked_shares, looks_drains}
use Rattle.trim_helper.proofs.draining.drain_rings.Goals as goal

pub loop-again-init : goal.loop-again-init
loop-again-init g c = record { looked = looked_none g.D.Disk.device c.args.most _; within = omega arith; start = λ none. (refl, refl); low = λ some. absurd (omega arith) }

pub overflow_add-count : goal.overflow_add-count
overflow_add-count g c = omega (arith, c.loop-again.invariant.within, c.in-Ok.ensures.within)

pub returns-then-more-eq0 : goal.returns-then-more-eq0
returns-then-more-eq0 g c =
    let before = c.loop-again.invariant in
    let drained = before.looked.drained in
    let y = with_rings c.loop-again.store c.loop-again.rings c.loop-again.waiting in
    let last = looks_drains g.D.Disk.device _ y _ c.look.new.rings _ (omega (arith, drained.same.rooms, c.requires.room)) (omega (arith, drained.same.count, c.requires.few)) (omega (arith, drained.slots, c.requires.slots)) c.look.ensures c.in-Ok.ensures in
    looked_done g.D.Disk.device c.args.most _ _ _ _ _ (omega arith) (omega (arith, c.loop-again-test.true)) (omega (arith, before.within, last.within))
    (looked_shares g.D.Disk.device c.args.most _ _ _ _ _ _ _ before.start before.low (omega (arith, before.within)) (omega (arith, c.loop-again-test.true)) before.looked last)
    (looked_again g.D.Disk.device c.args.most _ _ _ _ _ _ _ (omega (arith, before.within)) before.looked last)

pub returns-then-count-most : goal.returns-then-count-most
returns-then-count-most g c =
    let before = c.loop-again.invariant in
    let drained = before.looked.drained in
    let y = with_rings c.loop-again.store c.loop-again.rings c.loop-again.waiting in
    let last = looks_drains g.D.Disk.device _ y _ c.look.new.rings _ (omega (arith, drained.same.rooms, c.requires.room)) (omega (arith, drained.same.count, c.requires.few)) (omega (arith, drained.slots, c.requires.slots)) c.look.ensures c.in-Ok.ensures in
    looked_done g.D.Disk.device c.args.most _ _ _ _ _ (omega arith) (omega (arith, c.loop-again-test.true)) (omega (arith, before.within, last.within))
    (looked_shares g.D.Disk.device c.args.most _ _ _ _ _ _ _ before.start before.low (omega (arith, before.within)) (omega (arith, c.loop-again-test.true)) before.looked last)
    (looked_again g.D.Disk.device c.args.most _ _ _ _ _ _ _ (omega (arith, before.within)) before.looked last)

pub loop-again-preserved : goal.loop-again-preserved
loop-again-preserved g c =
    let before = c.loop-again.invariant in
    let drained = before.looked.drained in
    let y = with_rings c.loop-again.store c.loop-again.rings c.loop-again.waiting in
    let last = looks_drains g.D.Disk.device _ y _ c.look.new.rings _ (omega (arith, drained.same.rooms, c.requires.room)) (omega (arith, drained.same.count, c.requires.few)) (omega (arith, drained.slots, c.requires.slots)) c.look.ensures c.in-Ok.ensures in
    record {
      looked = looked_again g.D.Disk.device c.args.most _ _ _ _ _ _ _ (omega (arith, before.within)) before.looked last;
      within = omega (arith, before.within, last.within);
      start = λ none. absurd (omega (arith, none));
      low = λ some. omega (arith, before.within, last.within, c.if-count-most.false);
    }

pub returns-in-Err : goal.returns-in-Err
returns-in-Err g c =
    let before = c.loop-again.invariant in
    let drained = before.looked.drained in
    let y = with_rings c.loop-again.store c.loop-again.rings c.loop-again.waiting in
    let last = looks_drains g.D.Disk.device _ y _ c.look.new.rings _ (omega (arith, drained.same.rooms, c.requires.room)) (omega (arith, drained.same.count, c.requires.few)) (omega (arith, drained.slots, c.requires.slots)) c.look.ensures c.in-Err.ensures in
    looked_failed g.D.Disk.device c.args.most _ _ _ _ _ _ _ c.in-Err.reason c.loop-again-test.true before.looked last

pub returns : goal.returns
returns g c =
    let before = c.loop-again.invariant in
    looked_done g.D.Disk.device c.args.most _ _ _ _ _ (omega (arith, c.loop-again-test.false)) (omega arith) before.within
    (λ at. absurd (omega (arith, at, before.low (omega (arith, c.loop-again-test.false))))) before.looked
