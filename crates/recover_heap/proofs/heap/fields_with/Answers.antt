use Rattle.std.proofs.Common.{ℕ, ◌≡◌, ◌≢◌, ◌<◌, ◌∙◌, true, false, Option, Some, None, refl, Vec, Global, length, sym, ap, subst, inl, inr, arith}
use Rattle.std.specs.Prelude.{is_some, slice_index_or}
use Rattle.heap_model.specs.declared.ids.FieldId.{FieldId}
use Rattle.recover_heap.specs.Heap.{AreFields}
use Rattle.recover_heap.proofs.HeapLemmas.{fields_next}
use Rattle.recover_heap.proofs.heap.fields_with.Goals as goal
use Rattle.recover_heap.proofs.heap.fields_with.Goals.{then-is_some+in-Ok, else-is_some}

some_is : (old : Option ℕ) → is_some old ≡ true → old ≢ None
some_is old some e = let f : true ≡ false = sym some ∙ ap is_some e in cc

none_is : (old : Option ℕ) → is_some old ≡ false → old ≢ None → ⊥
none_is None e some = some refl
none_is (Some v) e some = absurd cc

pub loop-field-preserved : goal.loop-field-preserved
loop-field-preserved c = fields_next (λ (f : ℕ). slice_index_or c.args.before.now f None ≢ None) c.loop-field.field c.loop-field.fields.items c.if-is_some.fields.items c.loop-field.invariant
    (elim c.if-is_some.branch [
      | then-is_some+in-Ok w ↦ inl (some_is (slice_index_or c.args.before.now c.loop-field.field None) (sym w.if-is_some.ensures), ap (λ (v : Vec FieldId Global). v.items) w.fields-is ∙ w.in-Ok.ensures.items)
      | else-is_some w ↦ inr (none_is (slice_index_or c.args.before.now c.loop-field.field None) (sym w.if-is_some.ensures), ap (λ (v : Vec FieldId Global). v.items) w.fields-is)
    ])

pub returns-clause-ok : goal.returns-clause-ok
returns-clause-ok c =
    let whole : c.loop-field.field ≡ length c.args.before.now = omega (arith, c.loop-field-test.false, c.loop-field.auto.field-end) in
    subst (λ (n : ℕ). AreFields (λ (f : ℕ). (f < n) × (slice_index_or c.args.before.now f None ≢ None)) c.loop-field.fields.items) whole c.loop-field.invariant
