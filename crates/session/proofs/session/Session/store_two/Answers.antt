use Rattle.std.proofs.Common.{◌≡◌, ◌+◌, sym, ap, ◌∙◌, arith, rules}
use Rattle.heap_model.specs.declared.ids.FieldId.{FieldId}
use Rattle.heap_model.specs.Setting.{Setting}
use Rattle.thread_steps.specs.Views.{view, hold, plan}
use Rattle.session.specs.Calls.{records_of}
use Rattle.session.proofs.Lengthening.{after_both, same_view, hold_after}
use Rattle.session.proofs.Sitting.{lacks_by, not_lacks_by}
use Rattle.session.proofs.session.Session.store_two.Goals as goal

pub returns-then-self-len-gt-SECTION_RECORDS-clause-told : goal.returns-then-self-len-gt-SECTION_RECORDS-clause-told
returns-then-self-len-gt-SECTION_RECORDS-clause-told c =
    let s = c.args.self.now in let n = c.len.ensures.value in let over = c.if-self-len-gt-SECTION_RECORDS.true in
    let of_plan : (f : FieldId) → records_of (view c.args.self.now.parts.seat).plan f ≡ records_of (plan c.args.shared.now) f = λ f. ap (λ (g : Setting). records_of g f) c.requires.seat.1 in
    let one = of_plan c.args.first ∙ sym c.records_of.ensures in let two = of_plan c.args.second ∙ sym c.records_of-2.ensures in
    record {
      unknown = search rules;
      not_held = search rules;
      held = λ low low_too held held_too. (lacks_by _ _ _ _ _ _ _ _ _ (records_of (view s.parts.seat).plan c.args.first + records_of (view s.parts.seat).plan c.args.second) s.sits (omega arith), same_view (view s.parts.seat));
    }

pub write_either-requires-clause-held : goal.write_either-requires-clause-held
write_either-requires-clause-held c = (_, ap (hold (view c.args.self.now.parts.seat)) (sym c.guard.ensures.guard) ∙ c.in-Some.ensures.hold)

pub write_either-requires-2-clause-held : goal.write_either-requires-2-clause-held
write_either-requires-2-clause-held c =
    (_, hold_after (view c.args.self.now.parts.seat) (view c.write_either.new.self.parts.seat) _ _ c.write_either.ensures.told ∙ ap (hold (view c.args.self.now.parts.seat)) (sym c.guard-2.ensures.guard) ∙ c.in-Some-grip_on.ensures.hold)

pub returns-clause-told : goal.returns-clause-told
returns-clause-told c =
    let s = c.args.self.now in let n = c.len.ensures.value in let under = c.if-self-len-gt-SECTION_RECORDS.false in
    let of_plan : (f : FieldId) → records_of (view c.args.self.now.parts.seat).plan f ≡ records_of (plan c.args.shared.now) f = λ f. ap (λ (g : Setting). records_of g f) c.requires.seat.1 in
    let one = of_plan c.args.first ∙ sym c.records_of.ensures in let two = of_plan c.args.second ∙ sym c.records_of-2.ensures in
    record {
      unknown = search rules;
      not_held = search rules;
      held = λ low low_too held held_too. (
        not_lacks_by _ _ _ _ _ _ _ _ _ (records_of (view s.parts.seat).plan c.args.first + records_of (view s.parts.seat).plan c.args.second) s.sits (omega arith),
        _,
        _,
        after_both _ _ _ _ _ c.write_either.ensures.told c.write_either-2.ensures.told,
      );
    }
