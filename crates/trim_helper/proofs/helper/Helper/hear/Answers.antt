use Rattle.std.proofs.Common.{◌≡◌, List, length, refl, sym, subst, arith}
use Rattle.std.proofs.lemmas.List.{take_at}
use Rattle.thread_rings.specs.Rings.{Receiving}
use Rattle.trim_helper.specs.Heard.{Hears}
use Rattle.trim_helper.specs.Hearing.{KeepsRecords}
use Rattle.trim_helper.specs.Parts.{IsWhole}
use Rattle.trim_helper.specs.Seen.{SeesFrom}
use Rattle.trim_helper.proofs.HeardRings.{heard_by, heard_serves}
use Rattle.trim_helper.proofs.Rounds.{parts_from, whole_still}
use Rattle.trim_helper.proofs.helper.Helper.hear.Goals as goal

pub catch_up-requires-clause-sees : goal.catch_up-requires-clause-sees
catch_up-requires-clause-sees g c = subst (λ (rings : List Receiving). SeesFrom c.self.inside.seat 0 rings) (sym c.deref_mut.ensures.value) c.self.invariant.sees

pub returns : goal.returns
returns g c =
    let x = c.self.inside in
    let was = parts_from x.store x.rings.items x.waiting x.is_settled x.seat in
    let e = c.catch_up.ensures in
    let now = c.catch_up.new.rings in
    let kept : KeepsRecords x.rings.items now = subst (λ (rings : List Receiving). KeepsRecords rings now) c.deref_mut.ensures.value e.records in
    let long : length now ≡ x.rings.len = let n = kept.same.count in omega (arith, x.rings.ok) in
    subst (λ (rings : List Receiving). Hears c.args.shared.now c.args.self.now (parts_from x.store rings x.waiting x.is_settled c.catch_up.new.seat)) (sym (take_at now _ x.rings.len long))
    (subst (λ old. Hears c.args.shared.now old (parts_from x.store now x.waiting x.is_settled c.catch_up.new.seat)) c.self.view_is
    (heard_by c.args.shared.now was now c.catch_up.new.seat e.seat e.noted e.goes_on e.legal e.sees e.heard kept))

pub invariant_of-self : goal.invariant_of-self
invariant_of-self g c =
    let x = c.self.inside in
    let was = parts_from x.store x.rings.items x.waiting x.is_settled x.seat in
    let e = c.catch_up.ensures in
    let now = c.catch_up.new.rings in
    let seat = c.catch_up.new.seat in
    let whole = c.self.invariant in
    let kept : KeepsRecords x.rings.items now = subst (λ (rings : List Receiving). KeepsRecords rings now) c.deref_mut.ensures.value e.records in
    let long : length now ≡ x.rings.len = let n = kept.same.count in omega (arith, x.rings.ok) in
    subst (λ (rings : List Receiving). IsWhole g.D.Disk.device (parts_from x.store rings x.waiting x.is_settled seat)) (sym (take_at now _ x.rings.len long))
    (whole_still g.D.Disk.device was (parts_from x.store now x.waiting x.is_settled seat) whole kept.same e.sees refl whole.past (heard_serves g.D.Disk.device was now seat kept e.noted whole.setting whole.past whole.serving))
