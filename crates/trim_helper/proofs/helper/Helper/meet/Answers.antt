use Rattle.std.proofs.Common.{ap, refl, ◌∙◌}
use Rattle.trim_helper.specs.Meets.{SameHelper}
use Rattle.trim_helper.proofs.Besides.{serves_still}
use Rattle.trim_helper.proofs.RingMoves.{same_refl}
use Rattle.trim_helper.proofs.Rounds.{parts_from, whole_still}
use Rattle.trim_helper.proofs.helper.Helper.meet.Goals as goal

pub invariant_of-self : goal.invariant_of-self
invariant_of-self g c =
    let x = c.self.inside in
    let was = c.self.invariant in
    let told = c.meet.ensures in
    let before = parts_from x.store x.rings.items x.waiting x.is_settled x.seat in
    let now = parts_from c.meet.new.self x.rings.items x.waiting x.is_settled x.seat in
    let same : SameHelper g.D.Disk.device before now = record { known = told.known; device_is = told.device; rings = refl; waiting = refl; settled = refl; seat = refl } in
    whole_still g.D.Disk.device before now was (same_refl x.rings.items) was.sees (ap (λ k. k.threads) told.known) was.past (serves_still g.D.Disk.device before now was.setting was.past same was.serving)

pub returns-clause-same : goal.returns-clause-same
returns-clause-same g c =
    let told = c.meet.ensures in
    let view = c.self.view_is in record {
      known = told.known ∙ ap (λ x. x.store.known) view;
      device_is = told.device ∙ ap (λ x. g.D.Disk.device x.store.disk) view;
      rings = ap (λ x. x.rings) view;
      waiting = ap (λ x. x.waiting) view;
      settled = ap (λ x. x.is_settled) view;
      seat = ap (λ x. x.seat) view;
    }

pub returns-clause-serves : goal.returns-clause-serves
returns-clause-serves g c = λ s p serving. serves_still g.D.Disk.device c.args.self.now _ s p (returns-clause-same g c) serving
