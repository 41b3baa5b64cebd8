use Rattle.std.proofs.Common.{◌≡◌, ◌+◌, ◌≤◌, inl, ⊎_elim, Err, refl, sym, ◌∙◌, ap, subst, arith}
use Rattle.block_disk.proofs.Images.{begin}
use Rattle.heap_model.specs.Cuts.{counts_of}
use Rattle.store_image.specs.KeptHeap.{StandsForCut}
use Rattle.heap_model.specs.Past.{Past, after_trim}
use Rattle.heap_model.specs.declared.store_error.StoreError.TheVariants.{Worn}
use Rattle.durable.specs.Store.{HasPast}
use Rattle.durable.specs.declared.doubt.Doubt.TheVariants.{Trimming}
use Rattle.durable.proofs.Storing.{failed_has, logs_now, trims_then}
use Rattle.durable.proofs.Writing.{commits_same, rests, trim_fault, trim_worn, trims_both, trims_failed, trims_from}
use Rattle.durable.proofs.Trimming.{trimmed_is, not_trimmed, may_start, cut_is, may_forget, trims}
use Rattle.durable.proofs.store.Store.trim.Goals as goal

pub returns-then-self : goal.returns-then-self
returns-then-self g c = trims_failed g.D.Disk.device c.args.self.now (sym (ap (λ z. z.known.has_failed) c.self.view_is) ∙ c.if-self.true)

-- nothing is to be moved
pub returns-then-is_trimmed : goal.returns-then-is_trimmed
returns-then-is_trimmed g c = trims_both c.self.view_is (record {
  writes = rests c.if-self.false (let low : c.self.inside.committed.sequence ≤ c.self.inside.committed.sequence + 1 = omega arith in low);
  ok = λ s p was. subst (λ (q : Past). HasPast (record { layout = c.self.inside.layout; committed = c.self.inside.committed; memory = c.self.inside.applied; logged = c.self.inside.sections; has_failed = c.self.inside.has_failed; doubt = c.self.inside.doubt }) s q (g.D.Disk.device c.self.inside.disk))
      (trimmed_is p ((c.is_trimmed.ensures _ s p _ (was.agrees c.if-self.false)).0 c.if-is_trimmed.true)) was;
  answer = λ s p was. c.if-self.false;
  none = λ s p was trimmed. refl;
  worn = λ s p was serves some last. absurd (some ((c.is_trimmed.ensures _ s p _ (was.agrees c.if-self.false)).0 c.if-is_trimmed.true));
  any_moment = λ s p was. begin (g.D.Disk.device c.self.inside.disk) (StandsForCut c.self.inside.layout s p.logged p.cut);
})

-- something is
pub start_at-requires-clause-may : goal.start_at-requires-clause-may
start_at-requires-clause-may g c =
    let was = c.self.invariant in
    (was.0, was.1, may_start _ was.0 was.1 _ was.2 _ _ (c.in-Ok.ensures.ok was.0 was.1 (was.2.agrees c.if-self.false)) c.starts.result c.starts.ensures)

pub forget_to-requires : goal.forget_to-requires
forget_to-requires g c =
    let was = c.self.invariant in
    let agrees = c.in-Ok.ensures.ok was.0 was.1 (was.2.agrees c.if-self.false) in
    record { may = (was.1.base, was.1.logged, may_forget _ was.0 was.1 _ was.2 _ _ agrees (counts_of c.kept_cut.result) (cut_is _ was.0 was.1 _ was.2 _ _ agrees c.kept_cut.result c.kept_cut.ensures.size c.kept_cut.ensures.kept)) }

pub invariant_of-self : goal.invariant_of-self
invariant_of-self g c =
    let was = c.self.invariant in (
      was.0,
      after_trim was.1,
      trims _ was.0 was.1 _ was.2 c.trim.new.committed _ (c.in-Ok.ensures.ok was.0 was.1 (was.2.agrees c.if-self.false)) c.start_at.new.self c.forget_to.new.self c.starts.result c.kept_cut.result c.starts.ensures
          c.kept_cut.ensures.size c.kept_cut.ensures.kept (c.start_at.ensures.trimmed was.0 was.1) c.start_at.ensures.lanes c.start_at.ensures.capacity c.start_at.ensures.starts
          (c.forget_to.ensures.tells was.1.base was.1.logged) c.forget_to.ensures.lanes c.forget_to.ensures.capacity,
    )

pub invariant_of-self-in-Fault : goal.invariant_of-self-in-Fault
invariant_of-self-in-Fault g c =
    let was = c.self.invariant in
    (was.0, was.1, failed_has _ was.0 was.1 _ was.2 _ _ Trimming _ c.in-Err.ensures.step.takes.err refl (logs_now _ was.0 was.1 _ was.2 Trimming _ c.if-self.false (trims_then _ was.0 was.1 _ _ (c.in-Err.ensures.shown was.0 was.1 (was.2.agrees c.if-self.false)))))

pub returns-in-Ok : goal.returns-in-Ok
returns-in-Ok g c = trims_from c.self.view_is (record {
  writes = record {
    running = (c.if-self.false, c.if-self.false);
    kept = λ s p was. tt;
    refused = tt;
    failed = λ is. absurd cc;
    in_doubt = λ is. absurd cc;
    shown = λ s p was. trims_then _ s p _ _ (c.in-Ok.ensures.shown s p (was.agrees c.if-self.false));
    cause = c.in-Ok.ensures.step.takes.cause;
    sequence = c.in-Ok.ensures.step.takes.sequence;
    any_sequence = c.in-Ok.ensures.step.takes.any_sequence;
    within = c.in-Ok.ensures.step.takes.within;
    layout = refl;
  };
  ok = λ s p was. trims _ s p _ was c.trim.new.committed _ (c.in-Ok.ensures.ok s p (was.agrees c.if-self.false)) c.start_at.new.self c.forget_to.new.self c.starts.result c.kept_cut.result c.starts.ensures
      c.kept_cut.ensures.size c.kept_cut.ensures.kept (c.start_at.ensures.trimmed s p) c.start_at.ensures.lanes c.start_at.ensures.capacity c.start_at.ensures.starts
      (c.forget_to.ensures.tells p.base p.logged) c.forget_to.ensures.lanes c.forget_to.ensures.capacity;
  answer = λ s p was. c.if-self.false;
  none = λ s p was trimmed. absurd (not_trimmed c.is_trimmed.result p (c.is_trimmed.ensures _ s p _ (was.agrees c.if-self.false)) c.if-is_trimmed.false trimmed);
  worn = λ s p was serves some last. c.in-Ok.ensures.worn.1 last;
  any_moment = λ s p was. c.in-Ok.ensures.any_moment s p (was.agrees c.if-self.false);
})

pub returns-in-Fault : goal.returns-in-Fault
returns-in-Fault g c = trims_from c.self.view_is (record {
  writes = record {
    running = tt;
    kept = λ s p was. failed_has _ s p _ was _ _ Trimming _ c.in-Err.ensures.step.takes.err refl (logs_now _ s p _ was Trimming _ c.if-self.false (trims_then _ s p _ _ (c.in-Err.ensures.shown s p (was.agrees c.if-self.false))));
    refused = inl c.in-Fault.is;
    failed = λ is. refl;
    in_doubt = λ is. refl;
    shown = λ s p was. trims_then _ s p _ _ (c.in-Err.ensures.shown s p (was.agrees c.if-self.false));
    cause = c.in-Err.ensures.step.takes.cause;
    sequence = c.in-Err.ensures.step.takes.sequence;
    any_sequence = c.in-Err.ensures.step.takes.any_sequence;
    within = c.in-Err.ensures.step.takes.within;
    layout = refl;
  };
  ok = λ s p was. tt;
  answer = λ s p was. trim_fault was c.in-Err.reason c.if-self.false c.in-Fault.is (not_trimmed c.is_trimmed.result p (c.is_trimmed.ensures _ s p _ (was.agrees c.if-self.false)) c.if-is_trimmed.false);
  none = λ s p was trimmed. absurd (not_trimmed c.is_trimmed.result p (c.is_trimmed.ensures _ s p _ (was.agrees c.if-self.false)) c.if-is_trimmed.false trimmed);
  worn = λ s p was serves some last. c.in-Err.ensures.worn.1 last;
  any_moment = λ s p was. c.in-Err.ensures.any_moment s p (was.agrees c.if-self.false);
})

pub returns-in_default : goal.returns-in_default
returns-in_default g c =
    let worn : c.in-Err.reason ≡ Worn = ⊎_elim (λ is. is) (λ is. absurd (c.in_default.not-Fault is)) c.in-Err.ensures.step.no_other in
    let same = c.in-Err.ensures.step.no_call (ap Err worn) in
    trims_from c.self.view_is (record {
      writes = commits_same (λ i. record { disk = same i; known = record { layout = c.self.inside.layout; committed = c.in-Err.ensures.step.takes.err i; memory = c.self.inside.applied; logged = c.self.inside.sections; has_failed = c.self.inside.has_failed; doubt = c.self.inside.doubt } })
          c.in_default.not-Fault;
      ok = λ s p was. tt;
      answer = λ s p was. trim_worn was c.in-Err.reason c.if-self.false worn (c.in-Err.ensures.worn.0 (ap Err worn)) (not_trimmed c.is_trimmed.result p (c.is_trimmed.ensures _ s p _ (was.agrees c.if-self.false)) c.if-is_trimmed.false);
      none = λ s p was trimmed. absurd (not_trimmed c.is_trimmed.result p (c.is_trimmed.ensures _ s p _ (was.agrees c.if-self.false)) c.if-is_trimmed.false trimmed);
      worn = λ s p was serves some last. c.in-Err.ensures.worn.1 last;
      any_moment = λ s p was. c.in-Err.ensures.any_moment s p (was.agrees c.if-self.false);
    })
