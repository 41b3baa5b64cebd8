use Rattle.std.proofs.Common.{◌≡◌, [], ◌∷◌, true, false, ◌≤◌, inl, Err, refl, sym, ap, ◌∙◌, arith}
use Rattle.block_disk.proofs.Images.{begin}
use Rattle.durable.specs.declared.doubt.Doubt.TheVariants.{Nothing}
use Rattle.store_image.specs.KeptHeap.{StandsForCut}
use Rattle.store_image.proofs.Within.{cell_clear, within}
use Rattle.image_parts.specs.Cells.{cell_range}
use Rattle.heap_model.specs.Past.{after_home}
use Rattle.durable.proofs.Storing.{home_has, failed_has, may_go_home, shows_now}
use Rattle.durable.proofs.Writing.{home_both, home_failed, home_fault, home_from, rests}
use Rattle.durable.proofs.store.Store.home_step.Goals as goal

pub returns-then-self : goal.returns-then-self
returns-then-self g c = home_failed g.D.Disk.device c.args.self.now (sym (ap (λ z. z.known.has_failed) c.self.view_is) ∙ c.if-self.true)

-- no field is dirty
pub returns-in_default : goal.returns-in_default
returns-in_default g c = home_both c.self.view_is (record {
  writes = rests c.if-self.false (let low : c.self.inside.committed.sequence ≤ c.self.inside.committed.sequence = omega arith in low);
  ok = λ s p was. was;
  answer = λ s p was. (c.if-self.false, c.in_default.ensures s p was.remembers);
  done = λ is. refl;
  none = λ s p was clean. refl;
  any_moment = λ s p was. begin (g.D.Disk.device c.self.inside.disk) (StandsForCut c.self.inside.layout s p.logged p.cut);
  sequence = refl;
})

pub logged_value-value-requires : goal.logged_value-value-requires
logged_value-value-requires g c =
    let was = c.self.invariant in
    omega (arith, (c.in-Some.ensures was.0 was.1 was.2.remembers).field_is, was.2.remembers.fields)

pub write_home-requires-clause-field : goal.write_home-requires-clause-field
write_home-requires-clause-field g c =
    let was = c.self.invariant in
    omega (arith, (c.in-Some.ensures was.0 was.1 was.2.remembers).field_is, was.2.setting.fields)

pub invariant_of-self : goal.invariant_of-self
invariant_of-self g c =
    let was = c.self.invariant in
    let may = may_go_home _ was.0 was.1 _ was.2 c.in-Some.field.0 c.logged_value-value.result c.if-self.false (c.in-Some.ensures was.0 was.1 was.2.remembers) (c.logged_value-value.ensures was.0 was.1 was.2.remembers) in
    (was.0, after_home was.1 c.in-Some.field.0, home_has _ was.0 was.1 _ was.2 c.in-Some.field.0 c.home_written.new.self _ (c.in-Ok.ensures.ok was.0 was.1 _ may) (c.home_written.ensures.home was.0 was.1 was.2.remembers) c.home_written.ensures.kept)

pub invariant_of-self-in-Err : goal.invariant_of-self-in-Err
invariant_of-self-in-Err g c =
    let was = c.self.invariant in
    let may = may_go_home _ was.0 was.1 _ was.2 c.in-Some.field.0 c.logged_value-value.result c.if-self.false (c.in-Some.ensures was.0 was.1 was.2.remembers) (c.logged_value-value.ensures was.0 was.1 was.2.remembers) in
    (was.0, was.1, failed_has _ was.0 was.1 _ was.2 _ _ Nothing _ refl refl (shows_now _ was.0 was.1 _ was.2 Nothing _ c.if-self.false (c.in-Err.ensures.shown was.0 was.1 _ may)))

pub returns-in-Ok : goal.returns-in-Ok
returns-in-Ok g c =
    let first = c.self.invariant in
    let l = c.self.inside.layout in
    let f = c.in-Some.field.0 in
    let once = may_go_home _ first.0 first.1 _ first.2 f c.logged_value-value.result c.if-self.false (c.in-Some.ensures first.0 first.1 first.2.remembers) (c.logged_value-value.ensures first.0 first.1 first.2.remembers) in
    home_from c.self.view_is (record {
      writes = record {
        running = (c.if-self.false, c.if-self.false);
        kept = λ s p was. tt;
        refused = tt;
        failed = λ is. absurd cc;
        in_doubt = λ is. absurd cc;
        shown = λ s p was. c.in-Ok.ensures.shown s p _ (may_go_home _ s p _ was c.in-Some.field.0 c.logged_value-value.result c.if-self.false (c.in-Some.ensures s p was.remembers) (c.logged_value-value.ensures s p was.remembers));
        cause = record { later = c.in-Ok.ensures.cause.later; failed = λ is. absurd cc };
        sequence = (let low : c.self.inside.committed.sequence ≤ c.self.inside.committed.sequence = omega arith in low);
        any_sequence = c.in-Ok.ensures.any_sequence first.0 first.1 _ once;
        within = within l (g.D.Disk.device c.self.inside.disk) (g.D.Disk.device c.write_home.new.disk) (cell_range l f ∷ [])
            (λ i clear. cell_clear l f i (omega (arith, (c.in-Some.ensures first.0 first.1 first.2.remembers).field_is, first.2.setting.fields)) clear) c.in-Ok.ensures.within;
        layout = refl;
      };
      ok = λ s p was. home_has _ s p _ was f c.home_written.new.self _ (c.in-Ok.ensures.ok s p _ (may_go_home _ s p _ was c.in-Some.field.0 c.logged_value-value.result c.if-self.false (c.in-Some.ensures s p was.remembers) (c.logged_value-value.ensures s p was.remembers))) (c.home_written.ensures.home s p was.remembers) c.home_written.ensures.kept;
      answer = λ s p was. (c.if-self.false, c.in-Some.ensures s p was.remembers);
      done = λ is. absurd cc;
      none = λ s p was clean.
          let least = c.in-Some.ensures s p was.remembers in
          absurd (let no : true ≡ false = sym least.among ∙ clean f least.field_is in cc);
      any_moment = λ s p was. c.in-Ok.ensures.any_moment s p _ (may_go_home _ s p _ was c.in-Some.field.0 c.logged_value-value.result c.if-self.false (c.in-Some.ensures s p was.remembers) (c.logged_value-value.ensures s p was.remembers));
      sequence = refl;
    })

pub returns-in-Err : goal.returns-in-Err
returns-in-Err g c =
    let first = c.self.invariant in
    let l = c.self.inside.layout in
    let f = c.in-Some.field.0 in
    let once = may_go_home _ first.0 first.1 _ first.2 f c.logged_value-value.result c.if-self.false (c.in-Some.ensures first.0 first.1 first.2.remembers) (c.logged_value-value.ensures first.0 first.1 first.2.remembers) in
    home_from c.self.view_is (record {
      writes = record {
        running = tt;
        kept = λ s p was. failed_has _ s p _ was _ _ Nothing _ refl refl (shows_now _ s p _ was Nothing _ c.if-self.false (c.in-Err.ensures.shown s p _ (may_go_home _ s p _ was c.in-Some.field.0 c.logged_value-value.result c.if-self.false (c.in-Some.ensures s p was.remembers) (c.logged_value-value.ensures s p was.remembers))));
        refused = inl c.in-Err.ensures.only_fault;
        failed = λ is. refl;
        in_doubt = λ is. refl;
        shown = λ s p was. c.in-Err.ensures.shown s p _ (may_go_home _ s p _ was c.in-Some.field.0 c.logged_value-value.result c.if-self.false (c.in-Some.ensures s p was.remembers) (c.logged_value-value.ensures s p was.remembers));
        cause = record { later = c.in-Err.ensures.cause.later; failed = λ is. c.in-Err.ensures.cause.failed (ap Err c.in-Err.ensures.only_fault) };
        sequence = (let low : c.self.inside.committed.sequence ≤ c.self.inside.committed.sequence = omega arith in low);
        any_sequence = c.in-Err.ensures.any_sequence first.0 first.1 _ once;
        within = within l (g.D.Disk.device c.self.inside.disk) (g.D.Disk.device c.write_home.new.disk) (cell_range l f ∷ [])
            (λ i clear. cell_clear l f i (omega (arith, (c.in-Some.ensures first.0 first.1 first.2.remembers).field_is, first.2.setting.fields)) clear) c.in-Err.ensures.within;
        layout = refl;
      };
      ok = λ s p was. tt;
      answer = λ s p was. home_fault was c.in-Err.reason c.if-self.false c.in-Err.ensures.only_fault;
      done = λ is. absurd cc;
      none = λ s p was clean.
          let least = c.in-Some.ensures s p was.remembers in
          absurd (let no : true ≡ false = sym least.among ∙ clean f least.field_is in cc);
      any_moment = λ s p was. c.in-Err.ensures.any_moment s p _ (may_go_home _ s p _ was c.in-Some.field.0 c.logged_value-value.result c.if-self.false (c.in-Some.ensures s p was.remembers) (c.logged_value-value.ensures s p was.remembers));
      sequence = refl;
    })
