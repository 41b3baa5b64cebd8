use Rattle.std.proofs.Common.{ℕ, ◌≡◌, Bool, false, List, length, ap, ◌∙◌, subst, arith}
use Rattle.std.specs.Prelude.{All}
use Rattle.std.specs.Vec.{with_items}
use Rattle.std.proofs.lemmas.List.{with_items_is}
use Rattle.store_round_image.specs.declared.cells.HomeValue.{HomeValue}
use Rattle.store_round_memory.specs.Surveys.{is_marked}
use Rattle.store_round_memory.proofs.Writing.{each_field_of, none_marked, nothing_found}
use Rattle.store_round_memory.proofs.survey.Survey.forget.Goals as goal

pub unmark-requires : goal.unmark-requires
unmark-requires c = each_field_of c.args.self.now.changed.items c.deref.result.now c.args.self.now.marks.items c.deref_mut.result.now c.deref.ensures.value c.deref_mut.ensures.value c.requires.survey.2.marked

pub reopen_all-requires-clause-survey : goal.reopen_all-requires-clause-survey
reopen_all-requires-clause-survey c =
    let marks : (with_items c.args.self.now.marks c.unmark.new.marks).items ≡ c.unmark.new.marks = with_items_is c.args.self.now.marks c.unmark.new.marks (c.unmark.ensures.size ∙ c.deref_mut.ensures.len) in
    let gone : All (λ x. is_marked c.unmark.new.marks x.field.0 ≡ false) c.args.self.now.changed.items = subst (All (λ (x : HomeValue). is_marked c.unmark.new.marks x.field.0 ≡ false)) c.deref.ensures.value c.unmark.ensures.unmarked in
    let others : (f : ℕ) → is_marked c.args.self.now.marks.items f ≡ false → is_marked c.unmark.new.marks f ≡ false =
    subst (λ (ms : List Bool). (f : ℕ) → is_marked ms f ≡ false → is_marked c.unmark.new.marks f ≡ false) c.deref_mut.ensures.value c.unmark.ensures.others in
    let was = c.requires.survey.2 in (
      c.requires.survey.0,
      c.requires.survey.1,
      nothing_found c.requires.survey.0 c.requires.survey.1 _ (record {
        changed = c.clear.ensures.items;
        marks = λ f. ap (λ (ms : List Bool). is_marked ms f) marks
            ∙ none_marked c.args.self.now.changed.items c.args.self.now.marks.items c.unmark.new.marks (record { field = record { 0 = 0 }; value = 0 }) was.marked gone others f;
      })
          (ap (λ (ms : List Bool). length ms) marks ∙ c.unmark.ensures.size ∙ ap (λ (ms : List Bool). length ms) c.deref_mut.ensures.value ∙ was.marks)
          was.first (omega (arith, was.room, c.clear.ensures.capacity)) was.taken was.opened was.firsts,
      c.requires.survey.3,
    )

pub returns-clause-nothing : goal.returns-clause-nothing
returns-clause-nothing c =
    let marks : (with_items c.args.self.now.marks c.unmark.new.marks).items ≡ c.unmark.new.marks = with_items_is c.args.self.now.marks c.unmark.new.marks (c.unmark.ensures.size ∙ c.deref_mut.ensures.len) in
    let gone : All (λ x. is_marked c.unmark.new.marks x.field.0 ≡ false) c.args.self.now.changed.items = subst (All (λ (x : HomeValue). is_marked c.unmark.new.marks x.field.0 ≡ false)) c.deref.ensures.value c.unmark.ensures.unmarked in
    let others : (f : ℕ) → is_marked c.args.self.now.marks.items f ≡ false → is_marked c.unmark.new.marks f ≡ false =
    subst (λ (ms : List Bool). (f : ℕ) → is_marked ms f ≡ false → is_marked c.unmark.new.marks f ≡ false) c.deref_mut.ensures.value c.unmark.ensures.others in
    record {
      changed = ap (λ x. x.items) c.reopen_all.ensures.changed ∙ c.clear.ensures.items;
      marks = λ f. ap (λ x. is_marked x.items f) c.reopen_all.ensures.marks ∙ ap (λ (ms : List Bool). is_marked ms f) marks
          ∙ none_marked c.args.self.now.changed.items c.args.self.now.marks.items c.unmark.new.marks (record { field = record { 0 = 0 }; value = 0 }) c.requires.survey.2.marked gone others f;
    }

pub returns-clause-survey : goal.returns-clause-survey
returns-clause-survey c = λ objects fields was.
    let marks : (with_items c.args.self.now.marks c.unmark.new.marks).items ≡ c.unmark.new.marks = with_items_is c.args.self.now.marks c.unmark.new.marks (c.unmark.ensures.size ∙ c.deref_mut.ensures.len) in
    let gone : All (λ x. is_marked c.unmark.new.marks x.field.0 ≡ false) c.args.self.now.changed.items = subst (All (λ (x : HomeValue). is_marked c.unmark.new.marks x.field.0 ≡ false)) c.deref.ensures.value c.unmark.ensures.unmarked in
    let others : (f : ℕ) → is_marked c.args.self.now.marks.items f ≡ false → is_marked c.unmark.new.marks f ≡ false =
    subst (λ (ms : List Bool). (f : ℕ) → is_marked ms f ≡ false → is_marked c.unmark.new.marks f ≡ false) c.deref_mut.ensures.value c.unmark.ensures.others in
    c.reopen_all.ensures.survey objects fields (nothing_found objects fields _ (record {
      changed = c.clear.ensures.items;
      marks = λ f. ap (λ (ms : List Bool). is_marked ms f) marks
          ∙ none_marked c.args.self.now.changed.items c.args.self.now.marks.items c.unmark.new.marks (record { field = record { 0 = 0 }; value = 0 }) was.marked gone others f;
    })
    (ap (λ (ms : List Bool). length ms) marks ∙ c.unmark.ensures.size ∙ ap (λ (ms : List Bool). length ms) c.deref_mut.ensures.value ∙ was.marks)
    was.first (omega (arith, was.room, c.clear.ensures.capacity)) was.taken was.opened was.firsts)
