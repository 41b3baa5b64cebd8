use Rattle.std.proofs.Common.{◌≡◌, ◌-◌, ◌<◌, ◌∷◌, length, slice_index, sym, ◌∙◌, subst, inl, inr, arith}
use Rattle.std.proofs.lemmas.Bool.{cases_Bool}
use Rattle.std.proofs.lemmas.List.{get_or_default}
use Rattle.heap_model.specs.declared.record.Record.{Record}
use Rattle.heap_model.specs.declared.record.Record.TheVariants.{Acq}
use Rattle.store_round_memory.specs.Surveys.{Fits, IsSurvey, TellsDownTo, is_marked}
use Rattle.store_round_memory.proofs.Opening.{tells_closed}
use Rattle.store_round_memory.proofs.Finding.{has_room, survey_store, tells_again, tells_store}
use Rattle.store_round_memory.proofs.survey.Survey.note.Goals as goal

pub note_store-requires-clause-room : goal.note_store-requires-clause-room
note_store-requires-clause-room c = λ none.
    let low : c.in-Put.field.0 < c.requires.survey.1 = subst (Fits c.requires.survey.0 c.requires.survey.1) c.in-Put.is c.requires.survey.3 in
    omega (arith, has_room c.requires.survey.0 c.requires.survey.1 c.args.self.now c.in-Put.field.0 c.requires.survey.2 low none, c.args.self.now.changed.ok.0)

pub returns-then-is_kept-clause-survey : goal.returns-then-is_kept-clause-survey
returns-then-is_kept-clause-survey c = λ objects fields was.
    let low : c.in-Put.field.0 < length c.args.self.now.marks.items = omega (arith, subst (Fits c.requires.survey.0 c.requires.survey.1) c.in-Put.is c.requires.survey.3, c.requires.survey.2.marks) in
    elim (cases_Bool (is_marked c.args.self.now.marks.items c.in-Put.field.0)) [
      | inl marked ↦ subst (IsSurvey objects fields) (sym (c.note_store.ensures.again marked)) was
      | inr none ↦ survey_store objects fields c.args.self.now c.note_store.new.self c.in-Put.field c.in-Put.after was low none (c.note_store.ensures.once none)
    ]

pub returns-then-is_kept-clause-tells : goal.returns-then-is_kept-clause-tells
returns-then-is_kept-clause-tells c = λ counts all older l is tells.
    let low : c.in-Put.field.0 < length c.args.self.now.marks.items = omega (arith, subst (Fits c.requires.survey.0 c.requires.survey.1) c.in-Put.is c.requires.survey.3, c.requires.survey.2.marks) in
    let told = subst (λ (r : Record). TellsDownTo counts all ((l, r) ∷ older) c.args.self.now) c.in-Put.is tells in
    elim (cases_Bool (is_marked c.args.self.now.marks.items c.in-Put.field.0)) [
      | inl marked ↦ subst (TellsDownTo counts all older) (sym (c.note_store.ensures.again marked)) (tells_again counts all older l c.args.self.now c.in-Put.field c.in-Put.before c.in-Put.after marked told)
      | inr none ↦ tells_store counts all older l c.args.self.now c.in-Put.field c.in-Put.before c.in-Put.after c.note_store.new.self (sym is ∙ c.if-is_kept.true) low none (c.note_store.ensures.once none) told
    ]

pub returns-then-is_kept-2-clause-tells : goal.returns-then-is_kept-2-clause-tells
returns-then-is_kept-2-clause-tells c = λ counts all older l is tells.
    let fits : Fits c.requires.survey.0 c.requires.survey.1 (Acq c.in-Acq.object c.in-Acq.number) = subst (Fits c.requires.survey.0 c.requires.survey.1) c.in-Acq.is c.requires.survey.3 in
    let low : c.in-Acq.object.0 < length c.args.self.now.open_takes.items = omega (arith, fits.0, c.requires.survey.2.opened) in
    let count : c.saturating_sub-count.result ≡ slice_index c.args.self.now.open_takes.items c.in-Acq.object.0 - 1 = omega (arith, get_or_default c.args.self.now.open_takes.items c.in-Acq.object.0 c.index.result.now 0 low) in
    tells_closed counts all older l c.in-Acq.object c.in-Acq.number c.args.self.now c.set_open.new.self c.saturating_sub-count.result (sym is ∙ c.if-is_kept-2.true) low count c.set_open.ensures
    (subst (λ (r : Record). TellsDownTo counts all ((l, r) ∷ older) c.args.self.now) c.in-Acq.is tells)
