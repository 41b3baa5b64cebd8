use Rattle.std.proofs.Common.{◌≡◌, inl, ⊎_elim, ℕ, List, Err, refl, sym, ◌∙◌, ap, subst}
use Rattle.heap_model.specs.Setting.{Setting}
use Rattle.durable.specs.Store.{HasPast}
use Rattle.durable.specs.declared.doubt.Doubt.TheVariants.{Logging}
use Rattle.heap_model.specs.Past.{Past, after_log}
use Rattle.std.proofs.Common.{◌++◌}
use Rattle.heap_model.specs.declared.record.Record.{Record}
use Rattle.heap_model.specs.declared.store_error.StoreError.TheVariants.{Worn}
use Rattle.store_memory.specs.Sections.{TellsSections, MayBeLogged}
use Rattle.durable.proofs.Storing.{logged_has, failed_has, logs_now, logs_then, may_log, may_be_logged}
use Rattle.durable.proofs.Writing.{commits_same, log_fault, log_worn, logs_failed, logs_from}
use Rattle.durable.proofs.store.Store.log_step.Goals as goal

pub log_records-requires-clause-logs : goal.log_records-requires-clause-logs
log_records-requires-clause-logs g c =
    let was = c.self.invariant in
    (was.0, was.1, may_log _ was.0 was.1 _ was.2 c.fresh-fresh.ensures.within c.fresh-fresh.ensures.words c.if-self.false)

pub push_all-requires : goal.push_all-requires
push_all-requires g c =
    let was = c.self.invariant in
    record {
      may = (
        was.0,
        was.1.base,
        was.1.logged,
        subst (λ (log : List (ℕ × Record)). MayBeLogged was.0 c.self.inside.sections was.1.base was.1.logged log) (sym (c.fresh-fresh.ensures.records was.0 was.1 was.2.remembers))
            (may_be_logged _ was.0 was.1 _ was.2 c.fresh-fresh.ensures.within c.fresh-fresh.ensures.words),
      );
    }

-- the sections after the new records
tells_after : (g : _) (c : goal.After-logged_all g) (s : Setting) (p : Past) → HasPast (record { layout = c.self.inside.layout; committed = c.self.inside.committed; memory = c.self.inside.applied; logged = c.self.inside.sections; has_failed = c.self.inside.has_failed; doubt = c.self.inside.doubt }) s p (g.D.Disk.device c.self.inside.disk) → TellsSections c.push_all.new.self p.base (p.fresh ++ p.logged)
tells_after g c s p was =
    let records = c.fresh-fresh.ensures.records s p was.remembers in
    subst (λ (log : List (ℕ × Record)). TellsSections c.push_all.new.self p.base (log ++ p.logged)) records
    (c.push_all.ensures.tells s p.base p.logged (subst (λ (log : List (ℕ × Record)). MayBeLogged s c.self.inside.sections p.base p.logged log) (sym records)
    (may_be_logged _ s p _ was c.fresh-fresh.ensures.within c.fresh-fresh.ensures.words)))

pub invariant_of-self : goal.invariant_of-self
invariant_of-self g c =
    let was = c.self.invariant in (
      was.0,
      after_log was.1,
      logged_has _ was.0 was.1 _ was.2 c.log_records.new.committed c.logged_all.new.self c.push_all.new.self _ (c.in-Ok.ensures.ok was.0 was.1 (may_log _ was.0 was.1 _ was.2 c.fresh-fresh.ensures.within c.fresh-fresh.ensures.words c.if-self.false))
          (c.logged_all.ensures.logged was.0 was.1 was.2.remembers) c.logged_all.ensures.kept (tells_after g c was.0 was.1 was.2) c.push_all.ensures.lanes c.push_all.ensures.capacity,
    )

pub invariant_of-self-in-Fault : goal.invariant_of-self-in-Fault
invariant_of-self-in-Fault g c =
    let was = c.self.invariant in
    (was.0, was.1, failed_has _ was.0 was.1 _ was.2 _ _ Logging _ c.in-Err.ensures.step.takes.err refl (logs_now _ was.0 was.1 _ was.2 Logging _ c.if-self.false (logs_then _ was.0 was.1 _ _ (c.in-Err.ensures.shown was.0 was.1 (may_log _ was.0 was.1 _ was.2 c.fresh-fresh.ensures.within c.fresh-fresh.ensures.words c.if-self.false)))))

pub returns-then-self : goal.returns-then-self
returns-then-self g c = logs_failed g.D.Disk.device c.args.self.now (sym (ap (λ z. z.known.has_failed) c.self.view_is) ∙ c.if-self.true)

pub returns-in-Ok : goal.returns-in-Ok
returns-in-Ok g c = logs_from c.self.view_is (record {
  writes = record {
    running = (c.if-self.false, c.if-self.false);
    kept = λ s p was. tt;
    refused = tt;
    failed = λ is. absurd cc;
    in_doubt = λ is. absurd cc;
    shown = λ s p was. logs_then _ s p _ _ (c.in-Ok.ensures.shown s p (may_log _ s p _ was c.fresh-fresh.ensures.within c.fresh-fresh.ensures.words c.if-self.false));
    cause = c.in-Ok.ensures.step.takes.cause;
    sequence = c.in-Ok.ensures.step.takes.sequence;
    any_sequence = c.in-Ok.ensures.step.takes.any_sequence;
    within = c.in-Ok.ensures.step.takes.within;
    layout = refl;
  };
  ok = λ s p was. logged_has _ s p _ was c.log_records.new.committed c.logged_all.new.self c.push_all.new.self _ (c.in-Ok.ensures.ok s p (may_log _ s p _ was c.fresh-fresh.ensures.within c.fresh-fresh.ensures.words c.if-self.false))
      (c.logged_all.ensures.logged s p was.remembers) c.logged_all.ensures.kept (tells_after g c s p was) c.push_all.ensures.lanes c.push_all.ensures.capacity;
  answer = λ s p was. (c.if-self.false, c.in-Ok.ensures.count s p (may_log _ s p _ was c.fresh-fresh.ensures.within c.fresh-fresh.ensures.words c.if-self.false));
  none = λ s p was none. (c.in-Ok.ensures.none s p (may_log _ s p _ was c.fresh-fresh.ensures.within c.fresh-fresh.ensures.words c.if-self.false) none).2;
  worn = λ s p was serves fresh last. (c.in-Ok.ensures.worn s p (may_log _ s p _ was c.fresh-fresh.ensures.within c.fresh-fresh.ensures.words c.if-self.false)).1 (last, fresh);
  any_moment = λ s p was. c.in-Ok.ensures.any_moment s p (may_log _ s p _ was c.fresh-fresh.ensures.within c.fresh-fresh.ensures.words c.if-self.false);
})

pub returns-in-Fault : goal.returns-in-Fault
returns-in-Fault g c = logs_from c.self.view_is (record {
  writes = record {
    running = tt;
    kept = λ s p was. failed_has _ s p _ was _ _ Logging _ c.in-Err.ensures.step.takes.err refl (logs_now _ s p _ was Logging _ c.if-self.false (logs_then _ s p _ _ (c.in-Err.ensures.shown s p (may_log _ s p _ was c.fresh-fresh.ensures.within c.fresh-fresh.ensures.words c.if-self.false))));
    refused = inl c.in-Fault.is;
    failed = λ is. refl;
    in_doubt = λ is. refl;
    shown = λ s p was. logs_then _ s p _ _ (c.in-Err.ensures.shown s p (may_log _ s p _ was c.fresh-fresh.ensures.within c.fresh-fresh.ensures.words c.if-self.false));
    cause = c.in-Err.ensures.step.takes.cause;
    sequence = c.in-Err.ensures.step.takes.sequence;
    any_sequence = c.in-Err.ensures.step.takes.any_sequence;
    within = c.in-Err.ensures.step.takes.within;
    layout = refl;
  };
  ok = λ s p was. tt;
  answer = λ s p was. log_fault was c.in-Err.reason c.if-self.false c.in-Fault.is;
  none = λ s p was none. (c.in-Err.ensures.none s p (may_log _ s p _ was c.fresh-fresh.ensures.within c.fresh-fresh.ensures.words c.if-self.false) none).2;
  worn = λ s p was serves fresh last. (c.in-Err.ensures.worn s p (may_log _ s p _ was c.fresh-fresh.ensures.within c.fresh-fresh.ensures.words c.if-self.false)).1 (last, fresh);
  any_moment = λ s p was. c.in-Err.ensures.any_moment s p (may_log _ s p _ was c.fresh-fresh.ensures.within c.fresh-fresh.ensures.words c.if-self.false);
})

pub returns-in_default : goal.returns-in_default
returns-in_default g c =
    let worn : c.in-Err.reason ≡ Worn = ⊎_elim (λ is. is) (λ is. absurd (c.in_default.not-Fault is)) c.in-Err.ensures.step.no_other in
    let same = c.in-Err.ensures.step.no_call (ap Err worn) in
    logs_from c.self.view_is (record {
      writes = commits_same (λ i. record { disk = same i; known = record { layout = c.self.inside.layout; committed = c.in-Err.ensures.step.takes.err i; memory = c.self.inside.applied; logged = c.self.inside.sections; has_failed = c.self.inside.has_failed; doubt = c.self.inside.doubt } })
          c.in_default.not-Fault;
      ok = λ s p was. tt;
      answer = λ s p was. (
          let last = (c.in-Err.ensures.worn s p (may_log _ s p _ was c.fresh-fresh.ensures.within c.fresh-fresh.ensures.words c.if-self.false)).0 (ap Err worn) in
          log_worn was c.in-Err.reason c.if-self.false worn last.0 last.1);
      none = λ s p was none. ap g.D.Disk.device same;
      worn = λ s p was serves fresh last. (c.in-Err.ensures.worn s p (may_log _ s p _ was c.fresh-fresh.ensures.within c.fresh-fresh.ensures.words c.if-self.false)).1 (last, fresh);
      any_moment = λ s p was. c.in-Err.ensures.any_moment s p (may_log _ s p _ was c.fresh-fresh.ensures.within c.fresh-fresh.ensures.words c.if-self.false);
    })
