use Rattle.std.proofs.Common.{◌≡◌, ⊎_elim, true, false, List, Err, refl, sym, ap, ◌∙◌, subst, inl, arith}
use Rattle.std.specs.Vec.{vec_capacity}
use Rattle.durable.proofs.Sequences.{shows_more}
use Rattle.heap_model.specs.Cuts.{counts_of}
use Rattle.heap_model.specs.Setting.{Setting}
use Rattle.block_disk.specs.Images.{LeavesOnly}
use Rattle.heap_model.specs.Past.{Past, applied}
use Rattle.heap_model.specs.declared.store_error.StoreError.TheVariants.{Fault}
use Rattle.store_helper_sections.specs.Image.{ShowsCutOf}
use Rattle.store_round_sections.specs.Sections.{IsSortedByGuard, sections_of}
use Rattle.store_round_image.specs.declared.cells.HomeValue.{HomeValue}
use Rattle.heap_model.specs.declared.ids.ObjectId.{ObjectId}
use Rattle.store_rounds.specs.Cells.{settled_values}
use Rattle.store_rounds.specs.Steps.{RefusesWrite, after_round}
use Rattle.store_rounds.specs.Store.{HasPast}
use Rattle.store_rounds.proofs.Afterwards.{failed_has, shows_turn, tells_now, turned_has}
use Rattle.store_rounds.proofs.Composing.{plan_of, serves_of, turns_from}
use Rattle.store_rounds.proofs.Turned.{adds_as, cells_as, changes, found_few, helper_size, joined_as, loggable_as, may_join, numbers_as, stored, waiting}
use Rattle.store_rounds.proofs.store.RoundStore.turn.Goals as goal

pub returns-then-not-is_joined : goal.returns-then-not-is_joined
returns-then-not-is_joined g c = turns_from c.self.view_is c.turn_apart.ensures

pub is_joined-requires-clause-few : goal.is_joined-requires-clause-few
is_joined-requires-clause-few g c =
    let was = c.self.invariant.1 in
    found_few _ was.0 was.1 _ was.2 c.args.stable.now.cut c.args.stable.now.places (plan_of c.args.stable.now.cut c.args.stable.now.places c.self.view_is c.requires.plan) c.changed.result.now c.changed.ensures

pub push_sections-requires-clause-sorted : goal.push_sections-requires-clause-sorted
push_sections-requires-clause-sorted g c =
    subst (λ (gs : List ObjectId). IsSortedByGuard gs c.deref-2.result.now) (sym c.deref-3.ensures.value) (subst (λ (ps : List HomeValue). IsSortedByGuard c.self.inside.guards.items ps) (sym c.deref-2.ensures.value) (joined_as _ _ _ _ c.self.inside.guards.items _ c.self.inside.rounds.changed _ c.swap.new.y.items c.deref.ensures.value c.changed.ensures (ap (λ v. v.items) c.swap.ensures.y_after) (c.is_joined.ensures.joined c.if-not-is_joined.false)).sorted)

pub push_sections-requires-clause-numbers : goal.push_sections-requires-clause-numbers
push_sections-requires-clause-numbers g c =
    let was = c.self.invariant.1 in
    let run = was.2.agrees (serves_of c.self.view_is c.requires.serves) in
    numbers_as _ c.self.inside.guards.items _ c.self.inside.rounds.first _ c.swap.new.y.items c.deref-3.ensures.value c.first.ensures c.deref-2.ensures.value
    (c.first_law.ensures was.0 (applied was.1) (counts_of c.args.stable.now.cut) c.self.inside.guards.items c.self.inside.rounds.first c.swap.new.y.items (changes _ was.0 was.1 _ was.2 run c.limits_law.ensures.within c.limits_law.ensures.words c.args.stable.now.cut c.args.stable.now.places (plan_of c.args.stable.now.cut c.args.stable.now.places c.self.view_is c.requires.plan) c.swap.new.y.items (joined_as _ _ _ _ c.self.inside.guards.items _ c.self.inside.rounds.changed _ c.swap.new.y.items c.deref.ensures.value c.changed.ensures (ap (λ v. v.items) c.swap.ensures.y_after) (c.is_joined.ensures.joined c.if-not-is_joined.false)).moved))

pub make_round-requires-clause-makes : goal.make_round-requires-clause-makes
make_round-requires-clause-makes g c =
    let was = c.self.invariant.1 in
    let run = was.2.agrees (serves_of c.self.view_is c.requires.serves) in
    (was.0, was.1.logged, was.1.cut, run.helped, was.1.fresh, (sections_of c.self.inside.guards.items c.self.inside.rounds.first c.swap.new.y.items), (may_join _ was.0 was.1 _ was.2 run c.limits_law.ensures.within c.limits_law.ensures.words c.args.stable.now.cut c.args.stable.now.places (plan_of c.args.stable.now.cut c.args.stable.now.places c.self.view_is c.requires.plan) c.swap.new.y.items (joined_as _ _ _ _ c.self.inside.guards.items _ c.self.inside.rounds.changed _ c.swap.new.y.items c.deref.ensures.value c.changed.ensures (ap (λ v. v.items) c.swap.ensures.y_after) (c.is_joined.ensures.joined c.if-not-is_joined.false)).moved c.clear.new.self.items c.deref-5.result.now c.clear.ensures.items (adds_as _ c.self.inside.guards.items _ c.self.inside.rounds.first _ c.swap.new.y.items _ _ c.deref-5.result.now c.deref-3.ensures.value c.first.ensures c.deref-2.ensures.value c.deref-5.ensures.value c.push_sections.ensures.sections) (loggable_as _ c.self.inside.guards.items _ c.self.inside.rounds.first _ c.swap.new.y.items c.deref-3.ensures.value c.first.ensures c.deref-2.ensures.value c.push_sections.ensures.loggable) (helper_size c.push_sections.new.records.items c.deref-5.result.now _ _ _ _ c.self.inside.guards.items _ c.swap.new.y.items c.deref-5.ensures.value c.push_sections.new.records.ok.0 c.push_sections.ensures.len c.clear.ensures.len refl c.deref-3.ensures.value c.deref-2.ensures.value) (joined_as _ _ _ _ c.self.inside.guards.items _ c.self.inside.rounds.changed _ c.swap.new.y.items c.deref.ensures.value c.changed.ensures (ap (λ v. v.items) c.swap.ensures.y_after) (c.is_joined.ensures.joined c.if-not-is_joined.false)).helped c.deref-4.result.now (cells_as c.deref-4.ensures.value c.leave_changed_out.ensures.left (ap (λ v. settled_values c.self.inside.rounds v.items) c.swap.ensures.x_after))))

-- what a crash leaves
shown_ok : (g : _) (c : goal.After-acknowledge g) (s : Setting) (p : Past) → HasPast (record { layout = c.self.inside.layout; threads = c.self.inside.threads; committed = c.self.inside.committed; memory = c.self.inside.applied; sections = c.self.inside.sections; rounds = c.self.inside.rounds; guards = c.self.inside.guards.items; pending = c.self.inside.pending.items; has_failed = c.self.inside.has_failed }) s p (g.D.Disk.device c.self.inside.disk) → LeavesOnly (g.D.Disk.device c.self.inside.disk) (g.D.Disk.device c.make_round.new.disk) (ShowsCutOf c.self.inside.layout c.self.inside.threads s (applied p) p.cut)
shown_ok g c s p was =
    let run = was.agrees (serves_of c.self.view_is c.requires.serves) in
    shows_turn _ _ s p.logged p.cut run.helped p.fresh (sections_of c.self.inside.guards.items c.self.inside.rounds.first c.swap.new.y.items) _ _ _ c.args.stable.now.cut c.args.stable.now.places c.deref-4.result.now _ c.deref-5.result.now (may_join _ s p _ was run c.limits_law.ensures.within c.limits_law.ensures.words c.args.stable.now.cut c.args.stable.now.places (plan_of c.args.stable.now.cut c.args.stable.now.places c.self.view_is c.requires.plan) c.swap.new.y.items (joined_as _ _ _ _ c.self.inside.guards.items _ c.self.inside.rounds.changed _ c.swap.new.y.items c.deref.ensures.value c.changed.ensures (ap (λ v. v.items) c.swap.ensures.y_after) (c.is_joined.ensures.joined c.if-not-is_joined.false)).moved c.clear.new.self.items c.deref-5.result.now c.clear.ensures.items (adds_as _ c.self.inside.guards.items _ c.self.inside.rounds.first _ c.swap.new.y.items _ _ c.deref-5.result.now c.deref-3.ensures.value c.first.ensures c.deref-2.ensures.value c.deref-5.ensures.value c.push_sections.ensures.sections) (loggable_as _ c.self.inside.guards.items _ c.self.inside.rounds.first _ c.swap.new.y.items c.deref-3.ensures.value c.first.ensures c.deref-2.ensures.value c.push_sections.ensures.loggable) (helper_size c.push_sections.new.records.items c.deref-5.result.now _ _ _ _ c.self.inside.guards.items _ c.swap.new.y.items c.deref-5.ensures.value c.push_sections.new.records.ok.0 c.push_sections.ensures.len c.clear.ensures.len refl c.deref-3.ensures.value c.deref-2.ensures.value) (joined_as _ _ _ _ c.self.inside.guards.items _ c.self.inside.rounds.changed _ c.swap.new.y.items c.deref.ensures.value c.changed.ensures (ap (λ v. v.items) c.swap.ensures.y_after) (c.is_joined.ensures.joined c.if-not-is_joined.false)).helped c.deref-4.result.now (cells_as c.deref-4.ensures.value c.leave_changed_out.ensures.left (ap (λ v. settled_values c.self.inside.rounds v.items) c.swap.ensures.x_after))) (c.in-Ok.ensures.any_moment s p.logged p.cut run.helped p.fresh (sections_of c.self.inside.guards.items c.self.inside.rounds.first c.swap.new.y.items) (may_join _ s p _ was run c.limits_law.ensures.within c.limits_law.ensures.words c.args.stable.now.cut c.args.stable.now.places (plan_of c.args.stable.now.cut c.args.stable.now.places c.self.view_is c.requires.plan) c.swap.new.y.items (joined_as _ _ _ _ c.self.inside.guards.items _ c.self.inside.rounds.changed _ c.swap.new.y.items c.deref.ensures.value c.changed.ensures (ap (λ v. v.items) c.swap.ensures.y_after) (c.is_joined.ensures.joined c.if-not-is_joined.false)).moved c.clear.new.self.items c.deref-5.result.now c.clear.ensures.items (adds_as _ c.self.inside.guards.items _ c.self.inside.rounds.first _ c.swap.new.y.items _ _ c.deref-5.result.now c.deref-3.ensures.value c.first.ensures c.deref-2.ensures.value c.deref-5.ensures.value c.push_sections.ensures.sections) (loggable_as _ c.self.inside.guards.items _ c.self.inside.rounds.first _ c.swap.new.y.items c.deref-3.ensures.value c.first.ensures c.deref-2.ensures.value c.push_sections.ensures.loggable) (helper_size c.push_sections.new.records.items c.deref-5.result.now _ _ _ _ c.self.inside.guards.items _ c.swap.new.y.items c.deref-5.ensures.value c.push_sections.new.records.ok.0 c.push_sections.ensures.len c.clear.ensures.len refl c.deref-3.ensures.value c.deref-2.ensures.value) (joined_as _ _ _ _ c.self.inside.guards.items _ c.self.inside.rounds.changed _ c.swap.new.y.items c.deref.ensures.value c.changed.ensures (ap (λ v. v.items) c.swap.ensures.y_after) (c.is_joined.ensures.joined c.if-not-is_joined.false)).helped c.deref-4.result.now (cells_as c.deref-4.ensures.value c.leave_changed_out.ensures.left (ap (λ v. settled_values c.self.inside.rounds v.items) c.swap.ensures.x_after))))

shown_err : (g : _) (c : goal.After-self-1 g) (s : Setting) (p : Past) → HasPast (record { layout = c.self.inside.layout; threads = c.self.inside.threads; committed = c.self.inside.committed; memory = c.self.inside.applied; sections = c.self.inside.sections; rounds = c.self.inside.rounds; guards = c.self.inside.guards.items; pending = c.self.inside.pending.items; has_failed = c.self.inside.has_failed }) s p (g.D.Disk.device c.self.inside.disk) → LeavesOnly (g.D.Disk.device c.self.inside.disk) (g.D.Disk.device c.make_round.new.disk) (ShowsCutOf c.self.inside.layout c.self.inside.threads s (applied p) p.cut)
shown_err g c s p was =
    let run = was.agrees (serves_of c.self.view_is c.requires.serves) in
    shows_turn _ _ s p.logged p.cut run.helped p.fresh (sections_of c.self.inside.guards.items c.self.inside.rounds.first c.swap.new.y.items) _ _ _ c.args.stable.now.cut c.args.stable.now.places c.deref-4.result.now _ c.deref-5.result.now (may_join _ s p _ was run c.limits_law.ensures.within c.limits_law.ensures.words c.args.stable.now.cut c.args.stable.now.places (plan_of c.args.stable.now.cut c.args.stable.now.places c.self.view_is c.requires.plan) c.swap.new.y.items (joined_as _ _ _ _ c.self.inside.guards.items _ c.self.inside.rounds.changed _ c.swap.new.y.items c.deref.ensures.value c.changed.ensures (ap (λ v. v.items) c.swap.ensures.y_after) (c.is_joined.ensures.joined c.if-not-is_joined.false)).moved c.clear.new.self.items c.deref-5.result.now c.clear.ensures.items (adds_as _ c.self.inside.guards.items _ c.self.inside.rounds.first _ c.swap.new.y.items _ _ c.deref-5.result.now c.deref-3.ensures.value c.first.ensures c.deref-2.ensures.value c.deref-5.ensures.value c.push_sections.ensures.sections) (loggable_as _ c.self.inside.guards.items _ c.self.inside.rounds.first _ c.swap.new.y.items c.deref-3.ensures.value c.first.ensures c.deref-2.ensures.value c.push_sections.ensures.loggable) (helper_size c.push_sections.new.records.items c.deref-5.result.now _ _ _ _ c.self.inside.guards.items _ c.swap.new.y.items c.deref-5.ensures.value c.push_sections.new.records.ok.0 c.push_sections.ensures.len c.clear.ensures.len refl c.deref-3.ensures.value c.deref-2.ensures.value) (joined_as _ _ _ _ c.self.inside.guards.items _ c.self.inside.rounds.changed _ c.swap.new.y.items c.deref.ensures.value c.changed.ensures (ap (λ v. v.items) c.swap.ensures.y_after) (c.is_joined.ensures.joined c.if-not-is_joined.false)).helped c.deref-4.result.now (cells_as c.deref-4.ensures.value c.leave_changed_out.ensures.left (ap (λ v. settled_values c.self.inside.rounds v.items) c.swap.ensures.x_after))) (c.in-Err.ensures.any_moment s p.logged p.cut run.helped p.fresh (sections_of c.self.inside.guards.items c.self.inside.rounds.first c.swap.new.y.items) (may_join _ s p _ was run c.limits_law.ensures.within c.limits_law.ensures.words c.args.stable.now.cut c.args.stable.now.places (plan_of c.args.stable.now.cut c.args.stable.now.places c.self.view_is c.requires.plan) c.swap.new.y.items (joined_as _ _ _ _ c.self.inside.guards.items _ c.self.inside.rounds.changed _ c.swap.new.y.items c.deref.ensures.value c.changed.ensures (ap (λ v. v.items) c.swap.ensures.y_after) (c.is_joined.ensures.joined c.if-not-is_joined.false)).moved c.clear.new.self.items c.deref-5.result.now c.clear.ensures.items (adds_as _ c.self.inside.guards.items _ c.self.inside.rounds.first _ c.swap.new.y.items _ _ c.deref-5.result.now c.deref-3.ensures.value c.first.ensures c.deref-2.ensures.value c.deref-5.ensures.value c.push_sections.ensures.sections) (loggable_as _ c.self.inside.guards.items _ c.self.inside.rounds.first _ c.swap.new.y.items c.deref-3.ensures.value c.first.ensures c.deref-2.ensures.value c.push_sections.ensures.loggable) (helper_size c.push_sections.new.records.items c.deref-5.result.now _ _ _ _ c.self.inside.guards.items _ c.swap.new.y.items c.deref-5.ensures.value c.push_sections.new.records.ok.0 c.push_sections.ensures.len c.clear.ensures.len refl c.deref-3.ensures.value c.deref-2.ensures.value) (joined_as _ _ _ _ c.self.inside.guards.items _ c.self.inside.rounds.changed _ c.swap.new.y.items c.deref.ensures.value c.changed.ensures (ap (λ v. v.items) c.swap.ensures.y_after) (c.is_joined.ensures.joined c.if-not-is_joined.false)).helped c.deref-4.result.now (cells_as c.deref-4.ensures.value c.leave_changed_out.ensures.left (ap (λ v. settled_values c.self.inside.rounds v.items) c.swap.ensures.x_after))))

-- what the store has once the cut is acknowledged
joined_has : (g : _) (c : goal.After-acknowledge g) (s : Setting) (p : Past) → HasPast (record { layout = c.self.inside.layout; threads = c.self.inside.threads; committed = c.self.inside.committed; memory = c.self.inside.applied; sections = c.self.inside.sections; rounds = c.self.inside.rounds; guards = c.self.inside.guards.items; pending = c.self.inside.pending.items; has_failed = c.self.inside.has_failed }) s p (g.D.Disk.device c.self.inside.disk) → HasPast (record { layout = c.self.inside.layout; threads = c.self.inside.threads; committed = c.make_round.new.committed; memory = c.acknowledge.new.applied; sections = c.acknowledge.new.sections; rounds = c.acknowledge.new.rounds; guards = c.self.inside.guards.items; pending = c.swap.new.y.items; has_failed = c.self.inside.has_failed }) s (after_round p (counts_of c.args.stable.now.cut)) (g.D.Disk.device c.make_round.new.disk)
joined_has g c s p was =
    let run = was.agrees (serves_of c.self.view_is c.requires.serves) in
    turned_has _ s p _ was (serves_of c.self.view_is c.requires.serves) c.make_round.new.committed c.acknowledge.new.applied c.acknowledge.new.sections c.acknowledge.new.rounds c.swap.new.y.items (after_round p (counts_of c.args.stable.now.cut)) _
    (c.acknowledge.ensures.tells _ s p (tells_now _ s p _ was)) c.acknowledge.ensures.capacity c.acknowledge.ensures.sections_lanes c.acknowledge.ensures.sections_capacity c.acknowledge.ensures.rounds_capacity (λ k. refl)
    (sections_of c.self.inside.guards.items c.self.inside.rounds.first c.swap.new.y.items) (c.in-Ok.ensures.ok s p.logged p.cut run.helped p.fresh (sections_of c.self.inside.guards.items c.self.inside.rounds.first c.swap.new.y.items) (may_join _ s p _ was run c.limits_law.ensures.within c.limits_law.ensures.words c.args.stable.now.cut c.args.stable.now.places (plan_of c.args.stable.now.cut c.args.stable.now.places c.self.view_is c.requires.plan) c.swap.new.y.items (joined_as _ _ _ _ c.self.inside.guards.items _ c.self.inside.rounds.changed _ c.swap.new.y.items c.deref.ensures.value c.changed.ensures (ap (λ v. v.items) c.swap.ensures.y_after) (c.is_joined.ensures.joined c.if-not-is_joined.false)).moved c.clear.new.self.items c.deref-5.result.now c.clear.ensures.items (adds_as _ c.self.inside.guards.items _ c.self.inside.rounds.first _ c.swap.new.y.items _ _ c.deref-5.result.now c.deref-3.ensures.value c.first.ensures c.deref-2.ensures.value c.deref-5.ensures.value c.push_sections.ensures.sections) (loggable_as _ c.self.inside.guards.items _ c.self.inside.rounds.first _ c.swap.new.y.items c.deref-3.ensures.value c.first.ensures c.deref-2.ensures.value c.push_sections.ensures.loggable) (helper_size c.push_sections.new.records.items c.deref-5.result.now _ _ _ _ c.self.inside.guards.items _ c.swap.new.y.items c.deref-5.ensures.value c.push_sections.new.records.ok.0 c.push_sections.ensures.len c.clear.ensures.len refl c.deref-3.ensures.value c.deref-2.ensures.value) (joined_as _ _ _ _ c.self.inside.guards.items _ c.self.inside.rounds.changed _ c.swap.new.y.items c.deref.ensures.value c.changed.ensures (ap (λ v. v.items) c.swap.ensures.y_after) (c.is_joined.ensures.joined c.if-not-is_joined.false)).helped c.deref-4.result.now (cells_as c.deref-4.ensures.value c.leave_changed_out.ensures.left (ap (λ v. settled_values c.self.inside.rounds v.items) c.swap.ensures.x_after)))) (waiting _ s p _ was run c.limits_law.ensures.within c.limits_law.ensures.words c.args.stable.now.cut c.args.stable.now.places (plan_of c.args.stable.now.cut c.args.stable.now.places c.self.view_is c.requires.plan) c.swap.new.y.items (joined_as _ _ _ _ c.self.inside.guards.items _ c.self.inside.rounds.changed _ c.swap.new.y.items c.deref.ensures.value c.changed.ensures (ap (λ v. v.items) c.swap.ensures.y_after) (c.is_joined.ensures.joined c.if-not-is_joined.false)).moved) (stored _ s p _ was run c.limits_law.ensures.within c.limits_law.ensures.words c.args.stable.now.cut c.args.stable.now.places (plan_of c.args.stable.now.cut c.args.stable.now.places c.self.view_is c.requires.plan) c.swap.new.y.items (joined_as _ _ _ _ c.self.inside.guards.items _ c.self.inside.rounds.changed _ c.swap.new.y.items c.deref.ensures.value c.changed.ensures (ap (λ v. v.items) c.swap.ensures.y_after) (c.is_joined.ensures.joined c.if-not-is_joined.false)).moved c.clear.new.self.items c.deref-5.result.now c.clear.ensures.items (adds_as _ c.self.inside.guards.items _ c.self.inside.rounds.first _ c.swap.new.y.items _ _ c.deref-5.result.now c.deref-3.ensures.value c.first.ensures c.deref-2.ensures.value c.deref-5.ensures.value c.push_sections.ensures.sections) (loggable_as _ c.self.inside.guards.items _ c.self.inside.rounds.first _ c.swap.new.y.items c.deref-3.ensures.value c.first.ensures c.deref-2.ensures.value c.push_sections.ensures.loggable) (helper_size c.push_sections.new.records.items c.deref-5.result.now _ _ _ _ c.self.inside.guards.items _ c.swap.new.y.items c.deref-5.ensures.value c.push_sections.new.records.ok.0 c.push_sections.ensures.len c.clear.ensures.len refl c.deref-3.ensures.value c.deref-2.ensures.value) (joined_as _ _ _ _ c.self.inside.guards.items _ c.self.inside.rounds.changed _ c.swap.new.y.items c.deref.ensures.value c.changed.ensures (ap (λ v. v.items) c.swap.ensures.y_after) (c.is_joined.ensures.joined c.if-not-is_joined.false)).helped)

pub invariant_of-self-in-Ok : goal.invariant_of-self-in-Ok
invariant_of-self-in-Ok g c =
    let was = c.self.invariant.1 in (
      record {
        listed = (joined_as _ _ _ _ c.self.inside.guards.items _ c.self.inside.rounds.changed _ c.swap.new.y.items c.deref.ensures.value c.changed.ensures (ap (λ v. v.items) c.swap.ensures.y_after) (c.is_joined.ensures.joined c.if-not-is_joined.false)).few;
        pending = omega (arith, c.self.invariant.0.cells, c.is_joined.ensures.capacity, ap (λ v. vec_capacity v) c.swap.ensures.y_after);
        cells = omega (arith, c.self.invariant.0.pending, c.leave_changed_out.ensures.capacity, ap (λ v. vec_capacity v) c.swap.ensures.x_after);
        helper = omega (arith, c.self.invariant.0.helper, c.push_sections.ensures.capacity, c.clear.ensures.capacity);
      },
      (was.0, after_round was.1 (counts_of c.args.stable.now.cut), joined_has g c was.0 was.1 was.2),
    )

pub invariant_of-self-in-Err : goal.invariant_of-self-in-Err
invariant_of-self-in-Err g c =
    let was = c.self.invariant.1 in (
      record {
        listed = (joined_as _ _ _ _ c.self.inside.guards.items _ c.self.inside.rounds.changed _ c.swap.new.y.items c.deref.ensures.value c.changed.ensures (ap (λ v. v.items) c.swap.ensures.y_after) (c.is_joined.ensures.joined c.if-not-is_joined.false)).few;
        pending = omega (arith, c.self.invariant.0.cells, c.is_joined.ensures.capacity, ap (λ v. vec_capacity v) c.swap.ensures.y_after);
        cells = omega (arith, c.self.invariant.0.pending, c.leave_changed_out.ensures.capacity, ap (λ v. vec_capacity v) c.swap.ensures.x_after);
        helper = omega (arith, c.self.invariant.0.helper, c.push_sections.ensures.capacity, c.clear.ensures.capacity);
      },
      (was.0, was.1, failed_has _ was.0 was.1 _ was.2 _ _ _ c.in-Err.ensures.err (shown_err g c was.0 was.1 was.2)),
    )

pub returns-in-Ok : goal.returns-in-Ok
returns-in-Ok g c = turns_from c.self.view_is (record {
  writes = record {
    running = ((serves_of c.self.view_is c.requires.serves), (serves_of c.self.view_is c.requires.serves));
    refused = tt;
    still = λ off. absurd (let no : true ≡ false = sym off ∙ (serves_of c.self.view_is c.requires.serves) in cc);
    shown = λ s p was. shown_ok g c s p was;
    cause = c.in-Ok.ensures.cause;
    sequence = omega (arith, c.in-Ok.ensures.sequence);
    any_sequence = shows_more _ _ _ _ _ _ refl (omega arith) c.in-Ok.ensures.any_sequence;
    within = c.in-Ok.ensures.within;
    layout = refl;
    threads = refl;
  };
  ok = λ s p was. joined_has g c s p was;
  kept = λ s p was. tt;
})

pub returns-in-Err : goal.returns-in-Err
returns-in-Err g c =
    let fault : c.in-Err.reason ≡ Fault = ⊎_elim (λ is. absurd (c.if-self.false (c.in-Err.ensures.worn.0 (ap Err is)))) (λ is. is) c.in-Err.ensures.no_other in
    turns_from c.self.view_is (record {
      writes = record {
        running = tt;
        refused = subst (RefusesWrite _ _) (sym fault) ((serves_of c.self.view_is c.requires.serves), refl);
        still = λ off. absurd (let no : true ≡ false = sym off ∙ (serves_of c.self.view_is c.requires.serves) in cc);
        shown = λ s p was. shown_err g c s p was;
        cause = c.in-Err.ensures.cause;
        sequence = omega (arith, c.in-Err.ensures.sequence);
        any_sequence = shows_more _ _ _ _ _ _ refl (omega arith) c.in-Err.ensures.any_sequence;
        within = c.in-Err.ensures.within;
        layout = refl;
        threads = refl;
      };
      ok = λ s p was. tt;
      kept = λ s p was. inl (failed_has _ s p _ was _ _ _ c.in-Err.ensures.err (shown_err g c s p was));
    })
