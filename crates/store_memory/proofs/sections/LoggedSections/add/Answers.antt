use Rattle.std.proofs.Common.{ℕ, ◌≡◌, ◌+◌, ◌*◌, ◌≤◌, nat_lt, Bool, ◌∷◌, [], List, length, slice_index, sym, ap, ◌∙◌, subst, arith}
use Rattle.dependence.specs.Trace.{sections_of, told_of}
use Rattle.store_memory.specs.Counted.{MayEnd, ends_after}
use Rattle.store_memory.specs.Sections.{Logged, TellsSections, MayBeLogged}
use Rattle.store_memory.specs.KeptSections.{logged_of}
use Rattle.store_memory.proofs.SectionLaws.{logged_after, low, next, named, spare, fits, place_fits, may_end, tells_next}
use Rattle.store_memory.proofs.sections.LoggedSections.add.Goals as goal

pub tell-requires-clause-room : goal.tell-requires-clause-room
tell-requires-clause-room c =
    let r = c.requires.may in
    let may : MayBeLogged r.0 (logged_of c.self.inside) r.1 r.2 ((c.args.lane.0, c.args.next) ∷ []) = subst (λ (m : Logged). MayBeLogged r.0 m r.1 r.2 ((c.args.lane.0, c.args.next) ∷ [])) (sym c.self.view_is) r.3 in
    omega (arith, spare r.0 (logged_of c.self.inside) r.1 r.2 c.args.lane.0 c.args.next may, c.self.invariant.graph_room)

pub tell-requires-clause-lane : goal.tell-requires-clause-lane
tell-requires-clause-lane c =
    let r = c.requires.may in
    let may : MayBeLogged r.0 (logged_of c.self.inside) r.1 r.2 ((c.args.lane.0, c.args.next) ∷ []) = subst (λ (m : Logged). MayBeLogged r.0 m r.1 r.2 ((c.args.lane.0, c.args.next) ∷ [])) (sym c.self.view_is) r.3 in
    omega (arith, low r.0 (logged_of c.self.inside) r.1 r.2 c.args.lane.0 c.args.next may, c.self.invariant.graph_lanes)

pub tell-requires-clause-object : goal.tell-requires-clause-object
tell-requires-clause-object c =
    let r = c.requires.may in
    let may : MayBeLogged r.0 (logged_of c.self.inside) r.1 r.2 ((c.args.lane.0, c.args.next) ∷ []) = subst (λ (m : Logged). MayBeLogged r.0 m r.1 r.2 ((c.args.lane.0, c.args.next) ∷ [])) (sym c.self.view_is) r.3 in
    named r.0 (logged_of c.self.inside) r.1 r.2 c.args.lane.0 c.args.next may

pub tell-requires-clause-next : goal.tell-requires-clause-next
tell-requires-clause-next c =
    let r = c.requires.may in
    let may : MayBeLogged r.0 (logged_of c.self.inside) r.1 r.2 ((c.args.lane.0, c.args.next) ∷ []) = subst (λ (m : Logged). MayBeLogged r.0 m r.1 r.2 ((c.args.lane.0, c.args.next) ∷ [])) (sym c.self.view_is) r.3 in
    next r.0 (logged_of c.self.inside) r.1 r.2 c.args.lane.0 c.args.next may

pub tell-requires-clause-fits : goal.tell-requires-clause-fits
tell-requires-clause-fits c =
    let r = c.requires.may in
    let may : MayBeLogged r.0 (logged_of c.self.inside) r.1 r.2 ((c.args.lane.0, c.args.next) ∷ []) = subst (λ (m : Logged). MayBeLogged r.0 m r.1 r.2 ((c.args.lane.0, c.args.next) ∷ [])) (sym c.self.view_is) r.3 in
    fits r.0 (logged_of c.self.inside) r.1 r.2 c.args.lane.0 c.args.next may

pub sections-before-requires : goal.sections-before-requires
sections-before-requires c =
    let r = c.requires.may in
    let may : MayBeLogged r.0 (logged_of c.self.inside) r.1 r.2 ((c.args.lane.0, c.args.next) ∷ []) = subst (λ (m : Logged). MayBeLogged r.0 m r.1 r.2 ((c.args.lane.0, c.args.next) ∷ [])) (sym c.self.view_is) r.3 in
    omega (arith, low r.0 (logged_of c.self.inside) r.1 r.2 c.args.lane.0 c.args.next may, c.self.invariant.graph_lanes)

pub sections-after-requires : goal.sections-after-requires
sections-after-requires c =
    let r = c.requires.may in
    let may : MayBeLogged r.0 (logged_of c.self.inside) r.1 r.2 ((c.args.lane.0, c.args.next) ∷ []) = subst (λ (m : Logged). MayBeLogged r.0 m r.1 r.2 ((c.args.lane.0, c.args.next) ∷ [])) (sym c.self.view_is) r.3 in
    omega (arith, low r.0 (logged_of c.self.inside) r.1 r.2 c.args.lane.0 c.args.next may, c.self.invariant.graph_lanes, c.tell.ensures.lanes)

pub has_ended-has_ended-requires : goal.has_ended-has_ended-requires
has_ended-has_ended-requires c =
    let r = c.requires.may in
    let may : MayBeLogged r.0 (logged_of c.self.inside) r.1 r.2 ((c.args.lane.0, c.args.next) ∷ []) = subst (λ (m : Logged). MayBeLogged r.0 m r.1 r.2 ((c.args.lane.0, c.args.next) ∷ [])) (sym c.self.view_is) r.3 in
    let ends : MayEnd c.args.next (sections_of c.self.inside.graph c.args.lane.0) (sections_of c.tell.new.graph c.args.lane.0) =
    may_end r.0 (logged_of c.self.inside) r.1 r.2 c.args.lane.0 c.args.next may (told_of c.tell.new.graph) c.tell.ensures.log c.tell.ensures.base
    (omega (arith, low r.0 (logged_of c.self.inside) r.1 r.2 c.args.lane.0 c.args.next may, c.self.invariant.lanes, c.self.invariant.rows)) in
    subst (λ (b : ℕ). MayEnd c.args.next b c.sections-after.result) (sym c.sections-before.ensures) (subst (λ (a : ℕ). MayEnd c.args.next (sections_of c.self.inside.graph c.args.lane.0) a) (sym c.sections-after.ensures) ends)

pub count-requires-clause-lane : goal.count-requires-clause-lane
count-requires-clause-lane c =
    let r = c.requires.may in
    let may : MayBeLogged r.0 (logged_of c.self.inside) r.1 r.2 ((c.args.lane.0, c.args.next) ∷ []) = subst (λ (m : Logged). MayBeLogged r.0 m r.1 r.2 ((c.args.lane.0, c.args.next) ∷ [])) (sym c.self.view_is) r.3 in
    omega (arith, low r.0 (logged_of c.self.inside) r.1 r.2 c.args.lane.0 c.args.next may, c.self.invariant.lanes, c.self.invariant.rows)

pub count-requires-clause-place : goal.count-requires-clause-place
count-requires-clause-place c =
    let r = c.requires.may in
    let may : MayBeLogged r.0 (logged_of c.self.inside) r.1 r.2 ((c.args.lane.0, c.args.next) ∷ []) = subst (λ (m : Logged). MayBeLogged r.0 m r.1 r.2 ((c.args.lane.0, c.args.next) ∷ [])) (sym c.self.view_is) r.3 in
    place_fits r.0 (logged_of c.self.inside) r.1 r.2 c.args.lane.0 c.args.next may

pub returns : goal.returns
returns c = record {
  tells = λ s base log was.
      let may : MayBeLogged s (logged_of c.self.inside) base log ((c.args.lane.0, c.args.next) ∷ []) = subst (λ (k : Logged). MayBeLogged s k base log ((c.args.lane.0, c.args.next) ∷ [])) (sym c.self.view_is) was in
      let counted : ends_after c.self.inside.capacity c.self.inside.lanes c.args.lane.0 c.has_ended-has_ended.result c.sections-after.result (slice_index c.self.inside.places c.args.lane.0 + 1) c.self.inside.ends.items
      ≡ ends_after c.self.inside.capacity c.self.inside.lanes c.args.lane.0 (nat_lt (sections_of c.self.inside.graph c.args.lane.0) (sections_of c.tell.new.graph c.args.lane.0)) (sections_of c.tell.new.graph c.args.lane.0) (slice_index c.self.inside.places c.args.lane.0 + 1) c.self.inside.ends.items =
      ap (λ (b : Bool). ends_after c.self.inside.capacity c.self.inside.lanes c.args.lane.0 b c.sections-after.result (slice_index c.self.inside.places c.args.lane.0 + 1) c.self.inside.ends.items) c.has_ended-has_ended.ensures
      ∙ (λ i. ends_after c.self.inside.capacity c.self.inside.lanes c.args.lane.0 (nat_lt (c.sections-before.ensures i) (c.sections-after.ensures i)) (c.sections-after.ensures i) (slice_index c.self.inside.places c.args.lane.0 + 1) c.self.inside.ends.items) in
      let ends : c.count.new.ends.items ≡ ends_after c.self.inside.capacity c.self.inside.lanes c.args.lane.0 (nat_lt (sections_of c.self.inside.graph c.args.lane.0) (sections_of c.tell.new.graph c.args.lane.0)) (sections_of c.tell.new.graph c.args.lane.0) (slice_index c.self.inside.places c.args.lane.0 + 1) c.self.inside.ends.items =
      c.count.ensures.ends ∙ counted in
      let same : logged_after (logged_of c.self.inside) (told_of c.tell.new.graph) c.args.lane.0 ≡ record { lanes = c.self.inside.lanes; capacity = c.self.inside.capacity; graph = told_of c.tell.new.graph; places = c.count.new.places; ends = c.count.new.ends.items } =
      λ i. record { lanes = c.self.inside.lanes; capacity = c.self.inside.capacity; graph = told_of c.tell.new.graph; places = sym c.count.ensures.places i; ends = sym ends i } in
      subst (λ (k : Logged). TellsSections k base ((c.args.lane.0, c.args.next) ∷ log)) same
      (tells_next s (logged_of c.self.inside) base log c.args.lane.0 c.args.next may (told_of c.tell.new.graph)
      c.tell.ensures.log c.tell.ensures.base
      (omega (arith, low s (logged_of c.self.inside) base log c.args.lane.0 c.args.next may, c.self.invariant.lanes, c.self.invariant.rows)));
  lanes = ap (λ (m : Logged). m.lanes) c.self.view_is;
  capacity = ap (λ (m : Logged). m.capacity) c.self.view_is;
}
