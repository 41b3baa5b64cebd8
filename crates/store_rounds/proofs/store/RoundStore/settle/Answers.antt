use Rattle.std.proofs.Common.{◌≡◌, true, false, [], refl, sym, ◌∙◌, subst, inl}
use Rattle.heap_model.specs.Cuts.{counts_of}
use Rattle.heap_model.specs.Setting.{Setting}
use Rattle.block_disk.specs.Images.{LeavesOnly}
use Rattle.heap_model.specs.Past.{Past, applied}
use Rattle.store_helper_sections.specs.Image.{ShowsCutOf}
use Rattle.store_rounds.specs.Steps.{RefusesWrite, after_round}
use Rattle.store_rounds.specs.Store.{HasPast}
use Rattle.store_rounds.proofs.Afterwards.{failed_has, settled_has, shows_turn, tells_now}
use Rattle.store_rounds.proofs.Composing.{home_of, logged_of, plan_of, serves_of, turns_from}
use Rattle.store_rounds.proofs.Turned.{may_settle}
use Rattle.store_rounds.proofs.store.RoundStore.settle.Goals as goal

pub make_round-requires-clause-makes : goal.make_round-requires-clause-makes
make_round-requires-clause-makes g c =
    let was = c.self.invariant.1 in
    let run = was.2.agrees (serves_of c.self.view_is c.requires.serves) in
    (was.0, was.1.logged, was.1.cut, run.helped, was.1.fresh, [], (may_settle _ was.0 was.1 _ was.2 run c.limits_law.ensures.within c.limits_law.ensures.words c.args.stable.now.cut c.args.stable.now.places (plan_of c.args.stable.now.cut c.args.stable.now.places c.self.view_is c.requires.plan) (logged_of c.self.view_is c.requires.logged) (home_of c.self.view_is c.requires.home) c.changed.result.now c.changed.ensures))

-- what a crash leaves
shown_ok : (g : _) (c : goal.After-acknowledge g) (s : Setting) (p : Past) → HasPast (record { layout = c.self.inside.layout; threads = c.self.inside.threads; committed = c.self.inside.committed; memory = c.self.inside.applied; sections = c.self.inside.sections; rounds = c.self.inside.rounds; guards = c.self.inside.guards.items; pending = c.self.inside.pending.items; has_failed = c.self.inside.has_failed }) s p (g.D.Disk.device c.self.inside.disk) → LeavesOnly (g.D.Disk.device c.self.inside.disk) (g.D.Disk.device c.make_round.new.disk) (ShowsCutOf c.self.inside.layout c.self.inside.threads s (applied p) p.cut)
shown_ok g c s p was =
    let run = was.agrees (serves_of c.self.view_is c.requires.serves) in
    shows_turn _ _ s p.logged p.cut run.helped p.fresh [] _ _ _ c.args.stable.now.cut c.args.stable.now.places c.changed.result.now _ _ (may_settle _ s p _ was run c.limits_law.ensures.within c.limits_law.ensures.words c.args.stable.now.cut c.args.stable.now.places (plan_of c.args.stable.now.cut c.args.stable.now.places c.self.view_is c.requires.plan) (logged_of c.self.view_is c.requires.logged) (home_of c.self.view_is c.requires.home) c.changed.result.now c.changed.ensures) (c.in-Ok.ensures.any_moment s p.logged p.cut run.helped p.fresh [] (may_settle _ s p _ was run c.limits_law.ensures.within c.limits_law.ensures.words c.args.stable.now.cut c.args.stable.now.places (plan_of c.args.stable.now.cut c.args.stable.now.places c.self.view_is c.requires.plan) (logged_of c.self.view_is c.requires.logged) (home_of c.self.view_is c.requires.home) c.changed.result.now c.changed.ensures))

shown_err : (g : _) (c : goal.After-self-1 g) (s : Setting) (p : Past) → HasPast (record { layout = c.self.inside.layout; threads = c.self.inside.threads; committed = c.self.inside.committed; memory = c.self.inside.applied; sections = c.self.inside.sections; rounds = c.self.inside.rounds; guards = c.self.inside.guards.items; pending = c.self.inside.pending.items; has_failed = c.self.inside.has_failed }) s p (g.D.Disk.device c.self.inside.disk) → LeavesOnly (g.D.Disk.device c.self.inside.disk) (g.D.Disk.device c.make_round.new.disk) (ShowsCutOf c.self.inside.layout c.self.inside.threads s (applied p) p.cut)
shown_err g c s p was =
    let run = was.agrees (serves_of c.self.view_is c.requires.serves) in
    shows_turn _ _ s p.logged p.cut run.helped p.fresh [] _ _ _ c.args.stable.now.cut c.args.stable.now.places c.changed.result.now _ _ (may_settle _ s p _ was run c.limits_law.ensures.within c.limits_law.ensures.words c.args.stable.now.cut c.args.stable.now.places (plan_of c.args.stable.now.cut c.args.stable.now.places c.self.view_is c.requires.plan) (logged_of c.self.view_is c.requires.logged) (home_of c.self.view_is c.requires.home) c.changed.result.now c.changed.ensures) (c.in-Err.ensures.any_moment s p.logged p.cut run.helped p.fresh [] (may_settle _ s p _ was run c.limits_law.ensures.within c.limits_law.ensures.words c.args.stable.now.cut c.args.stable.now.places (plan_of c.args.stable.now.cut c.args.stable.now.places c.self.view_is c.requires.plan) (logged_of c.self.view_is c.requires.logged) (home_of c.self.view_is c.requires.home) c.changed.result.now c.changed.ensures))

-- what the store has once the cut is acknowledged
settled : (g : _) (c : goal.After-acknowledge g) (s : Setting) (p : Past) → HasPast (record { layout = c.self.inside.layout; threads = c.self.inside.threads; committed = c.self.inside.committed; memory = c.self.inside.applied; sections = c.self.inside.sections; rounds = c.self.inside.rounds; guards = c.self.inside.guards.items; pending = c.self.inside.pending.items; has_failed = c.self.inside.has_failed }) s p (g.D.Disk.device c.self.inside.disk) →
    HasPast (record { layout = c.self.inside.layout; threads = c.self.inside.threads; committed = c.make_round.new.committed; memory = c.acknowledge.new.applied; sections = c.acknowledge.new.sections; rounds = c.acknowledge.new.rounds; guards = c.self.inside.guards.items; pending = c.self.inside.pending.items; has_failed = c.self.inside.has_failed }) s (after_round p (counts_of c.args.stable.now.cut)) (g.D.Disk.device c.make_round.new.disk)
settled g c s p was =
    let run = was.agrees (serves_of c.self.view_is c.requires.serves) in
    settled_has _ s p _ was (serves_of c.self.view_is c.requires.serves) c.make_round.new.committed c.acknowledge.new.applied c.acknowledge.new.sections c.acknowledge.new.rounds _ (counts_of c.args.stable.now.cut) (home_of c.self.view_is c.requires.home)
    (c.acknowledge.ensures.tells _ s p (tells_now _ s p _ was)) c.acknowledge.ensures.capacity c.acknowledge.ensures.sections_lanes c.acknowledge.ensures.sections_capacity c.acknowledge.ensures.rounds_capacity
    (c.in-Ok.ensures.ok s p.logged p.cut run.helped p.fresh [] (may_settle _ s p _ was run c.limits_law.ensures.within c.limits_law.ensures.words c.args.stable.now.cut c.args.stable.now.places (plan_of c.args.stable.now.cut c.args.stable.now.places c.self.view_is c.requires.plan) (logged_of c.self.view_is c.requires.logged) (home_of c.self.view_is c.requires.home) c.changed.result.now c.changed.ensures))

pub invariant_of-self : goal.invariant_of-self
invariant_of-self g c =
    let was = c.self.invariant.1 in
    (c.self.invariant.0, (was.0, after_round was.1 (counts_of c.args.stable.now.cut), settled g c was.0 was.1 was.2))

pub invariant_of-self-in-Fault : goal.invariant_of-self-in-Fault
invariant_of-self-in-Fault g c =
    let was = c.self.invariant.1 in
    (c.self.invariant.0, (was.0, was.1, failed_has _ was.0 was.1 _ was.2 _ _ _ c.in-Err.ensures.err (shown_err g c was.0 was.1 was.2)))

pub returns-in-Ok : goal.returns-in-Ok
returns-in-Ok g c = turns_from c.self.view_is (record {
  writes = record {
    running = (serves_of c.self.view_is c.requires.serves, serves_of c.self.view_is c.requires.serves);
    refused = tt;
    still = λ off. absurd (let no : true ≡ false = sym off ∙ serves_of c.self.view_is c.requires.serves in cc);
    shown = λ s p was. shown_ok g c s p was;
    cause = c.in-Ok.ensures.cause;
    sequence = c.in-Ok.ensures.sequence;
    any_sequence = c.in-Ok.ensures.any_sequence;
    within = c.in-Ok.ensures.within;
    layout = refl;
    threads = refl;
  };
  ok = λ s p was. settled g c s p was;
  kept = λ s p was. tt;
})

pub returns-in-Fault : goal.returns-in-Fault
returns-in-Fault g c = turns_from c.self.view_is (record {
  writes = record {
    running = tt;
    refused = subst (RefusesWrite _ _) (sym c.in-Fault.is) (serves_of c.self.view_is c.requires.serves, refl);
    still = λ off. absurd (let no : true ≡ false = sym off ∙ serves_of c.self.view_is c.requires.serves in cc);
    shown = λ s p was. shown_err g c s p was;
    cause = c.in-Err.ensures.cause;
    sequence = c.in-Err.ensures.sequence;
    any_sequence = c.in-Err.ensures.any_sequence;
    within = c.in-Err.ensures.within;
    layout = refl;
    threads = refl;
  };
  ok = λ s p was. tt;
  kept = λ s p was. inl (failed_has _ s p _ was _ _ _ c.in-Err.ensures.err (shown_err g c s p was));
})
