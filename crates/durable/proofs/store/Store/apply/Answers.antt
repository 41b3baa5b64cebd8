use Rattle.std.proofs.Common.{◌≡◌, ◌∙◌, ap, refl, sym}
use Rattle.durable.proofs.Storing.{apply_has, apply_ok, apply_answers, never_fault}
use Rattle.durable.proofs.Writing.{applies_from, apply_failed, ok_any, on_err}
use Rattle.durable.proofs.store.Store.apply.Goals as goal

pub invariant_of-self : goal.invariant_of-self
invariant_of-self g c =
    let was = c.self.invariant in
    let after = apply_has _ was.0 was.1 _ was.2 c.args.lane.0 c.args.next c.apply.new.self c.apply.result c.if-self.false (c.apply.ensures.answer was.0 was.1 was.2.remembers)
    (c.apply.ensures.ok was.0 was.1 was.2.remembers) c.apply.ensures.err c.apply.ensures.kept in
    (was.0, after.0, after.1)

pub returns-then-self : goal.returns-then-self
returns-then-self g c = apply_failed g.D.Disk.device c.args.self.now c.args.lane.0 c.args.next (sym (ap (λ z. z.known.has_failed) c.self.view_is) ∙ c.if-self.true)

pub returns : goal.returns
returns g c =
    let first = c.self.invariant in
    applies_from c.self.view_is (record {
      answer = λ s p was. apply_answers (record { layout = c.self.inside.layout; committed = c.self.inside.committed; memory = c.self.inside.applied; logged = c.self.inside.sections; has_failed = c.self.inside.has_failed; doubt = c.self.inside.doubt }) s p c.args.lane.0 c.args.next c.apply.result c.if-self.false (c.apply.ensures.answer s p was.remembers);
      ok = λ s p was. apply_ok _ s p _ was c.args.lane.0 c.args.next c.apply.new.self c.apply.result c.if-self.false (c.apply.ensures.answer s p was.remembers) (c.apply.ensures.ok s p was.remembers) c.apply.ensures.kept;
      running = ok_any c.apply.result _ (c.if-self.false, c.if-self.false);
      no_fault = never_fault (record { layout = c.self.inside.layout; committed = c.self.inside.committed; memory = c.self.inside.applied; logged = c.self.inside.sections; has_failed = c.self.inside.has_failed; doubt = c.self.inside.doubt }) first.0 first.1 c.args.lane.0 c.args.next c.apply.result (c.apply.ensures.answer first.0 first.1 first.2.remembers);
      err = on_err c.apply.result (c.apply.new.self ≡ c.self.inside.applied) _
          (λ same i. record { disk = c.self.inside.disk; known = record { layout = c.self.inside.layout; committed = c.self.inside.committed; memory = same i; logged = c.self.inside.sections; has_failed = c.self.inside.has_failed; doubt = c.self.inside.doubt } }) c.apply.ensures.err;
      disk = refl;
      sequence = refl;
      layout = refl;
    })
