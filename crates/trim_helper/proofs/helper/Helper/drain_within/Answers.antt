use Rattle.std.proofs.Common.{◌≡◌, Some, Ok, Err, false, length, refl, sym, subst, arith}
use Rattle.std.proofs.lemmas.List.{take_at}
use Rattle.trim_helper.specs.Calls.{DrainsUpTo}
use Rattle.trim_helper.specs.Draining.{DrainsRings}
use Rattle.trim_helper.specs.Parts.{IsWhole}
use Rattle.trim_helper.specs.declared.draining.TheConstants.{LOOKS}
use Rattle.trim_helper.specs.Taken.{with_rings}
use Rattle.trim_helper.proofs.Looking.{drains_up_to}
use Rattle.trim_helper.proofs.Rounds.{helper_drains, parts_from, whole_drained}
use Rattle.trim_helper.proofs.helper.Helper.drain_within.Goals as goal

pub returns-in-Ok : goal.returns-in-Ok
returns-in-Ok g c =
    let x = c.self.inside in
    let was = parts_from x.store x.rings.items x.waiting x.is_settled x.seat in
    let now = with_rings c.drain_rings.new.store c.drain_rings.new.rings c.drain_rings.new.waiting in
    let settled = c.stays_settled-self-inside in
    let bound = c.bound_of-bound in
    let drains = drains_up_to g.D.Disk.device c.args.most bound.result _ _ _ bound.ensures
    (subst (λ rings. DrainsRings g.D.Disk.device LOOKS (Some bound.result) (with_rings x.store rings x.waiting) now (Ok c.in-Ok.count)) c.deref_mut.ensures.value c.in-Ok.ensures) in
    let same = drains.ok.same in
    let long : length now.rings ≡ x.rings.len = omega (arith, same.count, x.rings.ok) in
    subst (λ rings. DrainsUpTo g.D.Disk.device c.args.most c.args.self.now (parts_from now.store rings now.waiting settled.result x.seat) (Ok c.in-Ok.count)) (sym (take_at now.rings _ x.rings.len long))
    (subst (λ old. DrainsUpTo g.D.Disk.device c.args.most old (parts_from now.store now.rings now.waiting settled.result x.seat) (Ok c.in-Ok.count)) c.self.view_is
    (helper_drains g.D.Disk.device c.args.most was now settled.result (Ok c.in-Ok.count) c.self.invariant drains settled.ensures.settled settled.ensures.stays tt))

pub returns-in-Err : goal.returns-in-Err
returns-in-Err g c =
    let x = c.self.inside in
    let was = parts_from x.store x.rings.items x.waiting x.is_settled x.seat in
    let now = with_rings c.drain_rings.new.store c.drain_rings.new.rings c.drain_rings.new.waiting in
    let bound = c.bound_of-bound in
    let drains = drains_up_to g.D.Disk.device c.args.most bound.result _ _ _ bound.ensures
    (subst (λ rings. DrainsRings g.D.Disk.device LOOKS (Some bound.result) (with_rings x.store rings x.waiting) now (Err c.in-Err.reason)) c.deref_mut.ensures.value c.in-Err.ensures) in
    let same = drains.kept.1.same in
    let long : length now.rings ≡ x.rings.len = omega (arith, same.count, x.rings.ok) in
    subst (λ rings. DrainsUpTo g.D.Disk.device c.args.most c.args.self.now (parts_from now.store rings now.waiting false x.seat) (Err c.in-Err.reason)) (sym (take_at now.rings _ x.rings.len long))
    (subst (λ old. DrainsUpTo g.D.Disk.device c.args.most old (parts_from now.store now.rings now.waiting false x.seat) (Err c.in-Err.reason)) c.self.view_is
    (helper_drains g.D.Disk.device c.args.most was now false (Err c.in-Err.reason) c.self.invariant drains tt tt refl))

pub invariant_of-self : goal.invariant_of-self
invariant_of-self g c =
    let x = c.self.inside in
    let was = parts_from x.store x.rings.items x.waiting x.is_settled x.seat in
    let now = with_rings c.drain_rings.new.store c.drain_rings.new.rings c.drain_rings.new.waiting in
    let settled = c.stays_settled-self-inside in
    let bound = c.bound_of-bound in
    let drains = drains_up_to g.D.Disk.device c.args.most bound.result _ _ _ bound.ensures
    (subst (λ rings. DrainsRings g.D.Disk.device LOOKS (Some bound.result) (with_rings x.store rings x.waiting) now (Ok c.in-Ok.count)) c.deref_mut.ensures.value c.in-Ok.ensures) in
    let same = drains.ok.same in
    let long : length now.rings ≡ x.rings.len = omega (arith, same.count, x.rings.ok) in
    subst (λ rings. IsWhole g.D.Disk.device (parts_from now.store rings now.waiting settled.result x.seat)) (sym (take_at now.rings _ x.rings.len long))
    (whole_drained g.D.Disk.device c.args.most was (parts_from now.store now.rings now.waiting settled.result x.seat) (Ok c.in-Ok.count) c.self.invariant
    (helper_drains g.D.Disk.device c.args.most was now settled.result (Ok c.in-Ok.count) c.self.invariant drains settled.ensures.settled settled.ensures.stays tt))

pub invariant_of-self-in-Err : goal.invariant_of-self-in-Err
invariant_of-self-in-Err g c =
    let x = c.self.inside in
    let was = parts_from x.store x.rings.items x.waiting x.is_settled x.seat in
    let now = with_rings c.drain_rings.new.store c.drain_rings.new.rings c.drain_rings.new.waiting in
    let bound = c.bound_of-bound in
    let drains = drains_up_to g.D.Disk.device c.args.most bound.result _ _ _ bound.ensures
    (subst (λ rings. DrainsRings g.D.Disk.device LOOKS (Some bound.result) (with_rings x.store rings x.waiting) now (Err c.in-Err.reason)) c.deref_mut.ensures.value c.in-Err.ensures) in
    let same = drains.kept.1.same in
    let long : length now.rings ≡ x.rings.len = omega (arith, same.count, x.rings.ok) in
    subst (λ rings. IsWhole g.D.Disk.device (parts_from now.store rings now.waiting false x.seat)) (sym (take_at now.rings _ x.rings.len long))
    (whole_drained g.D.Disk.device c.args.most was (parts_from now.store now.rings now.waiting false x.seat) (Err c.in-Err.reason) c.self.invariant
    (helper_drains g.D.Disk.device c.args.most was now false (Err c.in-Err.reason) c.self.invariant drains tt tt refl))
