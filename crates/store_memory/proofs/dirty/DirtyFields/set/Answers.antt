use Rattle.std.proofs.Common.{ℕ, ◌≡◌, ◌==◌, true, nat_lt, if◌then◌else◌, List, slice_index, length, sym, ap, ◌∙◌, subst}
use Rattle.std.specs.Vec.{with_items}
use Rattle.std.proofs.lemmas.List.{with_items_is}
use Rattle.store_memory.specs.Bits.{has_bit}
use Rattle.store_memory.specs.Dirty.{IsSummed}
use Rattle.store_memory.proofs.DirtyLaws.{summed}
use Rattle.store_memory.proofs.dirty.DirtyFields.set.Goals as goal

pub invariant_of-self : goal.invariant_of-self
invariant_of-self c =
    let words : (with_items c.self.inside.words c.set_bit.new.words).items ≡ c.set_bit.new.words = with_items_is c.self.inside.words c.set_bit.new.words (c.set_bit.auto.words ∙ c.deref_mut.ensures.len) in
    let summary : (with_items c.self.inside.summary c.sum_up.new.summary).items ≡ c.sum_up.new.summary = with_items_is c.self.inside.summary c.sum_up.new.summary (c.sum_up.auto.summary ∙ c.deref_mut-then-field-self.ensures.len) in
    subst (λ (xs : List ℕ). IsSummed c.self.inside.fields xs (with_items c.self.inside.summary c.sum_up.new.summary).items) (sym words)
    (subst (λ (xs : List ℕ). IsSummed c.self.inside.fields c.set_bit.new.words xs) (sym summary)
    (summed c.self.inside.fields c.self.inside.words.items c.self.inside.summary.items c.set_bit.new.words c.sum_up.new.summary c.args.field.0 true c.self.invariant c.if-field-self.true
    (c.set_bit.auto.words ∙ ap (λ (xs : List ℕ). length xs) c.deref_mut.ensures.value) (c.sum_up.auto.summary ∙ ap (λ (xs : List ℕ). length xs) c.deref_mut-then-field-self.ensures.value)
    (λ i. c.set_bit.ensures.bits i ∙ ap (λ (xs : List ℕ). if c.args.field.0 == i then true else has_bit xs i) c.deref_mut.ensures.value)
    (λ w other. c.set_bit.ensures.others w other ∙ ap (λ (xs : List ℕ). slice_index xs w) c.deref_mut.ensures.value)
    (λ w. c.sum_up.ensures w ∙ ap (λ (xs : List ℕ). if c.word_of.result == w then nat_lt 0 (slice_index xs c.word_of.result) else has_bit c.deref_mut-then-field-self.result.now w) (c.deref.ensures.value ∙ words)
    ∙ ap (λ (xs : List ℕ). if c.word_of.result == w then nat_lt 0 (slice_index c.set_bit.new.words c.word_of.result) else has_bit xs w) c.deref_mut-then-field-self.ensures.value
    ∙ ap (λ k. if k == w then nat_lt 0 (slice_index c.set_bit.new.words k) else has_bit c.self.inside.summary.items w) c.word_of.ensures)))
