use Rattle.std.proofs.Common.{◌≡◌, inl, refl, ⊎_elim, ℕ, true, false, Err, sym, ◌∙◌, ap}
use Rattle.block_disk.proofs.Images.{begin}
use Rattle.durable.specs.Store.{HasPast}
use Rattle.durable.specs.declared.doubt.Doubt.TheVariants.{Settling}
use Rattle.heap_model.specs.Past.{after_settle}
use Rattle.heap_model.specs.Cuts.{counts_of}
use Rattle.heap_model.specs.declared.store_error.StoreError.TheVariants.{Worn}
use Rattle.store_image.specs.KeptHeap.{StandsForEither}
use Rattle.durable.proofs.Settling.{settling, answers, may, of_stable, refuses_worn, refuses_fault, stands_for_one, shows, fails}
use Rattle.durable.proofs.Writing.{commits_none, commits_same, settles_both, settles_failed, settles_from, unwritten_other}
use Rattle.durable.proofs.Storing.{settled_has, settles_then, may_settle, none_dirty, some_dirty}
use Rattle.durable.proofs.store.Store.settle.Goals as goal

pub returns-then-self : goal.returns-then-self
returns-then-self g c = settles_failed g.D.Disk.device c.args.self.now (sym (ap (λ z. z.known.has_failed) c.self.view_is) ∙ c.if-self.true)

pub returns-then-is_some : goal.returns-then-is_some
returns-then-is_some g c = settles_both c.self.view_is (record {
  writes = commits_none unwritten_other;
  ok = λ s p cut was stable. tt;
  answer = λ s p was. (c.if-self.false, some_dirty s p c.least_dirty.result (sym c.is_some.ensures ∙ c.if-is_some.true) (c.least_dirty.ensures s p was.remembers));
  worn = λ s p was serves clean last.
      let dirty = some_dirty s p c.least_dirty.result (sym c.is_some.ensures ∙ c.if-is_some.true) (c.least_dirty.ensures s p was.remembers) in
      absurd (let no : true ≡ false = sym dirty.2 ∙ clean dirty.0 dirty.1 in cc);
  any_moment = λ s p cut was stable. begin (g.D.Disk.device c.self.inside.disk) (StandsForEither c.self.inside.layout s p.logged p.cut cut);
})

pub settle-requires : goal.settle-requires
settle-requires g c =
    let was = c.self.invariant in
    record { settles = (was.0, was.1, may_settle _ was.0 was.1 _ was.2 c.stable-stable.result.cut c.stable-stable.result.places c.if-self.false (none_dirty was.0 was.1 c.least_dirty.result (sym c.is_some.ensures ∙ c.if-is_some.false) (c.least_dirty.ensures was.0 was.1 was.2.remembers)) (c.stable-stable.ensures.stable was.1.base was.1.logged was.2.sections) (c.stable-stable.ensures.behind was.1.base was.1.logged was.2.sections)) }

pub invariant_of-self : goal.invariant_of-self
invariant_of-self g c =
    let was = c.self.invariant in
    (was.0, after_settle was.1 (counts_of c.stable-stable.result.cut), settled_has _ was.0 was.1 _ was.2 _ _ _ _ c.stable-stable.ensures.same (c.in-Ok.ensures.ok was.0 was.1 (may_settle _ was.0 was.1 _ was.2 c.stable-stable.result.cut c.stable-stable.result.places c.if-self.false (none_dirty was.0 was.1 c.least_dirty.result (sym c.is_some.ensures ∙ c.if-is_some.false) (c.least_dirty.ensures was.0 was.1 was.2.remembers)) (c.stable-stable.ensures.stable was.1.base was.1.logged was.2.sections) (c.stable-stable.ensures.behind was.1.base was.1.logged was.2.sections))))

pub invariant_of-self-in-Fault : goal.invariant_of-self-in-Fault
invariant_of-self-in-Fault g c =
    let was = c.self.invariant in (
      was.0,
      was.1,
      fails g.D.Disk.device (settling c.least_dirty.result c.stable-stable.result.cut c.stable-stable.result.places c.self.view_is c.if-self.false (sym c.is_some.ensures ∙ c.if-is_some.false) c.least_dirty.ensures c.stable-stable.ensures.stable c.stable-stable.ensures.behind) (g.D.Disk.device c.settle.new.disk) Settling after_settle settles_then c.in-Err.ensures.shown _ _ c.in-Err.ensures.step.takes.err c.stable-stable.ensures.same was.0 was.1 was.2,
    )

pub returns-in-Ok : goal.returns-in-Ok
returns-in-Ok g c =
    let k = settling c.least_dirty.result c.stable-stable.result.cut c.stable-stable.result.places c.self.view_is c.if-self.false (sym c.is_some.ensures ∙ c.if-is_some.false) c.least_dirty.ensures c.stable-stable.ensures.stable c.stable-stable.ensures.behind in
    settles_from c.self.view_is (record {
      writes = record {
        running = (c.if-self.false, c.if-self.false);
        kept = λ s p was. tt;
        refused = tt;
        failed = λ is. absurd cc;
        in_doubt = λ is. absurd cc;
        shown = shows g.D.Disk.device k (g.D.Disk.device c.settle.new.disk) Settling after_settle settles_then c.in-Ok.ensures.shown;
        cause = c.in-Ok.ensures.step.takes.cause;
        sequence = c.in-Ok.ensures.step.takes.sequence;
        any_sequence = c.in-Ok.ensures.step.takes.any_sequence;
        within = c.in-Ok.ensures.step.takes.within;
        layout = refl;
      };
      ok = λ s p cut was stable. of_stable g.D.Disk.device k (λ (cut : ℕ → ℕ). HasPast (record { layout = c.self.inside.layout; committed = c.settle.new.committed; memory = c.self.inside.applied; logged = c.stable-stable.new.self; has_failed = c.self.inside.has_failed; doubt = c.self.inside.doubt }) s (after_settle p cut) (g.D.Disk.device c.settle.new.disk)) s p cut was stable
          (settled_has _ s p _ was _ _ _ _ c.stable-stable.ensures.same (c.in-Ok.ensures.ok s p (may g.D.Disk.device k s p was)));
      answer = answers g.D.Disk.device k;
      worn = λ s p was serves clean last. c.in-Ok.ensures.worn.1 last;
      any_moment = stands_for_one g.D.Disk.device k (g.D.Disk.device c.settle.new.disk) c.in-Ok.ensures.any_moment;
    })

pub returns-in-Fault : goal.returns-in-Fault
returns-in-Fault g c =
    let k = settling c.least_dirty.result c.stable-stable.result.cut c.stable-stable.result.places c.self.view_is c.if-self.false (sym c.is_some.ensures ∙ c.if-is_some.false) c.least_dirty.ensures c.stable-stable.ensures.stable c.stable-stable.ensures.behind in
    settles_from c.self.view_is (record {
      writes = record {
        running = tt;
        kept = fails g.D.Disk.device k (g.D.Disk.device c.settle.new.disk) Settling after_settle settles_then c.in-Err.ensures.shown _ _ c.in-Err.ensures.step.takes.err c.stable-stable.ensures.same;
        refused = inl c.in-Fault.is;
        failed = λ is. refl;
        in_doubt = λ is. refl;
        shown = shows g.D.Disk.device k (g.D.Disk.device c.settle.new.disk) Settling after_settle settles_then c.in-Err.ensures.shown;
        cause = c.in-Err.ensures.step.takes.cause;
        sequence = c.in-Err.ensures.step.takes.sequence;
        any_sequence = c.in-Err.ensures.step.takes.any_sequence;
        within = c.in-Err.ensures.step.takes.within;
        layout = refl;
      };
      ok = λ s p cut was stable. tt;
      answer = refuses_fault g.D.Disk.device k c.in-Err.reason c.in-Fault.is;
      worn = λ s p was serves clean last. c.in-Err.ensures.worn.1 last;
      any_moment = stands_for_one g.D.Disk.device k (g.D.Disk.device c.settle.new.disk) c.in-Err.ensures.any_moment;
    })

pub returns-in_default : goal.returns-in_default
returns-in_default g c =
    let k = settling c.least_dirty.result c.stable-stable.result.cut c.stable-stable.result.places c.self.view_is c.if-self.false (sym c.is_some.ensures ∙ c.if-is_some.false) c.least_dirty.ensures c.stable-stable.ensures.stable c.stable-stable.ensures.behind in
    let worn : c.in-Err.reason ≡ Worn = ⊎_elim (λ is. is) (λ is. absurd (c.in_default.not-Fault is)) c.in-Err.ensures.step.no_other in
    let same = c.in-Err.ensures.step.no_call (ap Err worn) in
    settles_from c.self.view_is (record {
      writes = commits_same (λ i. record { disk = same i; known = record { layout = c.self.inside.layout; committed = c.in-Err.ensures.step.takes.err i; memory = c.self.inside.applied; logged = c.stable-stable.ensures.same i; has_failed = c.self.inside.has_failed; doubt = c.self.inside.doubt } })
          c.in_default.not-Fault;
      ok = λ s p cut was stable. tt;
      answer = refuses_worn g.D.Disk.device k c.in-Err.reason worn (c.in-Err.ensures.worn.0 (ap Err worn));
      worn = λ s p was serves clean last. c.in-Err.ensures.worn.1 last;
      any_moment = stands_for_one g.D.Disk.device k (g.D.Disk.device c.settle.new.disk) c.in-Err.ensures.any_moment;
    })
