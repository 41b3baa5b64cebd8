use Rattle.std.proofs.Common.{refl}
use Rattle.store_rounds.proofs.Applying.{applied_has, applies_from, apply_refused, may_extend, may_push, with_next}
use Rattle.heap_model.specs.Past.{after_apply, applied}
use Rattle.store_rounds.proofs.store.RoundStore.apply.Goals as goal

pub push-requires : goal.push-requires
push-requires g c =
    let was = c.self.invariant.1 in
    record {
      may = (
        was.0,
        was.1.cut,
        applied was.1,
        may_push _ was.0 was.1 _ was.2 c.args.lane.0 c.args.next c.apply.new.self (c.in-Ok.ensures.answer was.0 was.1 was.2.remembers).0 (c.in-Ok.ensures.ok was.0 was.1 was.2.remembers) c.apply.ensures.kept c.fresh-fresh.ensures.within,
      );
    }

pub add-requires : goal.add-requires
add-requires g c =
    let was = c.self.invariant.1 in
    record {
      may = (
        was.0,
        with_next was.1 c.args.lane.0 c.args.next,
        may_extend _ was.0 was.1 _ was.2 c.args.lane.0 c.args.next c.apply.new.self (c.in-Ok.ensures.answer was.0 was.1 was.2.remembers).0 (c.in-Ok.ensures.ok was.0 was.1 was.2.remembers) c.apply.ensures.kept c.fresh-fresh.ensures.within,
        refl,
      );
    }

pub invariant_of-self : goal.invariant_of-self
invariant_of-self g c =
    let was = c.self.invariant.1 in
    let there = (c.in-Ok.ensures.answer was.0 was.1 was.2.remembers).0 in
    let remembers = c.in-Ok.ensures.ok was.0 was.1 was.2.remembers in (
      c.self.invariant.0,
      (
        was.0,
        after_apply was.1 c.args.lane.0 c.args.next,
        applied_has _ was.0 was.1 _ was.2 c.args.lane.0 c.args.next c.apply.new.self there remembers c.apply.ensures.kept c.fresh-fresh.ensures.within c.push.new.self c.add.new.self
            (c.push.ensures.tells was.0 was.1.cut (applied was.1) (may_push _ was.0 was.1 _ was.2 c.args.lane.0 c.args.next c.apply.new.self there remembers c.apply.ensures.kept c.fresh-fresh.ensures.within))
            c.push.ensures.lanes c.push.ensures.capacity
            (c.add.ensures.knows was.0 (with_next was.1 c.args.lane.0 c.args.next) (may_extend _ was.0 was.1 _ was.2 c.args.lane.0 c.args.next c.apply.new.self there remembers c.apply.ensures.kept c.fresh-fresh.ensures.within) refl)
            c.add.ensures.found,
      ),
    )

pub returns-in-Ok : goal.returns-in-Ok
returns-in-Ok g c =
    applies_from c.self.view_is (record {
      answer = λ s p was. c.in-Ok.ensures.answer s p was.remembers;
      ok = λ s p was.
          let there = (c.in-Ok.ensures.answer s p was.remembers).0 in
          let remembers = c.in-Ok.ensures.ok s p was.remembers in
          applied_has _ s p _ was c.args.lane.0 c.args.next c.apply.new.self there remembers c.apply.ensures.kept c.fresh-fresh.ensures.within c.push.new.self c.add.new.self
          (c.push.ensures.tells s p.cut (applied p) (may_push _ s p _ was c.args.lane.0 c.args.next c.apply.new.self there remembers c.apply.ensures.kept c.fresh-fresh.ensures.within))
          c.push.ensures.lanes c.push.ensures.capacity
          (c.add.ensures.knows s (with_next p c.args.lane.0 c.args.next) (may_extend _ s p _ was c.args.lane.0 c.args.next c.apply.new.self there remembers c.apply.ensures.kept c.fresh-fresh.ensures.within) refl)
          c.add.ensures.found;
      running = (c.if-self.false, c.if-self.false);
      no_fault = tt;
      err = tt;
      disk = refl;
      sequence = refl;
      layout = refl;
      threads = refl;
    })

pub returns-in-Err : goal.returns-in-Err
returns-in-Err g c =
    let was = c.self.invariant.1 in
    applies_from c.self.view_is (apply_refused g.D.Disk.device _ _ c.args.lane.0 c.args.next c.in-Err.reason was.0 was.1 was.2 c.if-self.false
    (λ i. record {
      disk = c.self.inside.disk;
      known = record {
        layout = c.self.inside.layout;
        threads = c.self.inside.threads;
        committed = c.self.inside.committed;
        memory = c.in-Err.ensures.err i;
        sections = c.self.inside.sections;
        rounds = c.self.inside.rounds;
        guards = c.self.inside.guards.items;
        pending = c.self.inside.pending.items;
        has_failed = c.self.inside.has_failed;
      };
    })
    (λ s p. c.in-Err.ensures.answer s p))
