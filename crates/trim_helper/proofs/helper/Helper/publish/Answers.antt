use Rattle.std.proofs.Common.{◌≡◌, ◌∙◌, [], true, refl, sym, ap, subst}
use Rattle.trim_helper.specs.Calls.{MayBePublished, Publishes}
use Rattle.trim_helper.specs.Helping.{IsHelper}
use Rattle.trim_helper.proofs.RingMoves.{same_refl}
use Rattle.trim_helper.proofs.Rounds.{parts_from, published_serves, whole_still}
use Rattle.trim_helper.proofs.Seeing.{sees_same}
use Rattle.trim_helper.proofs.helper.Helper.publish.Goals as goal

-- all is published
pub returns-then-self : goal.returns-then-self
returns-then-self g c = let settled = ap (λ x. x.is_settled) (sym c.self.view_is) ∙ c.if-self.true in record {
  store = refl;
  rings = refl;
  waiting = refl;
  seat = c.requires.seat;
  taken = refl;
  sight = record { table = refl; plan = refl; history = refl };
  notes = ([], refl);
  settled = settled;
  serves = λ s p was durable. was;
}

pub publish_all-requires-clause-seat : goal.publish_all-requires-clause-seat
publish_all-requires-clause-seat g c = subst (λ k. IsHelper c.args.shared.now k.seat) (sym c.self.view_is) c.requires.seat

pub publish_all-requires-clause-lanes : goal.publish_all-requires-clause-lanes
publish_all-requires-clause-lanes g c = subst (λ k. c.args.shared.now.plan.lanes ≡ k.store.known.threads) (sym c.self.view_is) c.requires.lanes

pub publish_all-requires-clause-rises : goal.publish_all-requires-clause-rises
publish_all-requires-clause-rises g c =
    let may = subst (λ k. MayBePublished g.D.Disk.device k) (sym c.self.view_is) c.requires.durable in
    (may.0, may.1, may.2.taken.has, λ l lt. (may.2.counts l lt, may.2.places l lt))

pub returns : goal.returns
returns g c =
    let x = c.self.inside in
    let z = parts_from x.store x.rings.items x.waiting x.is_settled x.seat in
    let seat = c.publish_all.new.seat in
    let y = parts_from x.store x.rings.items x.waiting true seat in
    subst (λ k. Publishes g.D.Disk.device c.args.shared.now k y) c.self.view_is (record {
      store = refl;
      rings = refl;
      waiting = refl;
      seat = c.publish_all.ensures.seat;
      taken = c.publish_all.ensures.gathered;
      sight = c.publish_all.ensures.sight;
      notes = c.publish_all.ensures.notes;
      settled = refl;
      serves = λ s p was durable. published_serves g.D.Disk.device z seat s p was durable (c.publish_all.ensures.published s p was.taken.has) (c.publish_all.ensures.counts s p was.taken.has);
    })

pub invariant_of-self : goal.invariant_of-self
invariant_of-self g c =
    let x = c.self.inside in
    let z = parts_from x.store x.rings.items x.waiting x.is_settled x.seat in
    let seat = c.publish_all.new.seat in
    let whole = c.self.invariant in
    let may = subst (λ k. MayBePublished g.D.Disk.device k) (sym c.self.view_is) c.requires.durable in
    whole_still g.D.Disk.device z (parts_from x.store x.rings.items x.waiting true seat) (record { lanes = whole.lanes; few = whole.few; rooms = whole.rooms; sees = whole.sees; setting = may.0; past = may.1; serving = may.2 })
    (same_refl x.rings.items) (sees_same x.seat seat c.publish_all.ensures.sight 0 x.rings.items whole.sees) refl may.1
    (published_serves g.D.Disk.device z seat may.0 may.1 may.2 may.3 (c.publish_all.ensures.published may.0 may.1 may.2.taken.has) (c.publish_all.ensures.counts may.0 may.1 may.2.taken.has))
