use Rattle.std.proofs.Common.{ℕ, ◌≡◌, ◌<◌, true, if◌then◌else◌, List, [], length, sym, ap, ◌∙◌, subst}
use Rattle.std.specs.Vec.{with_items}
use Rattle.std.proofs.lemmas.List.{with_items_is}
use Rattle.heap_model.specs.declared.record.LaneRecord.{LaneRecord}
use Rattle.heap_model.specs.Log.{value, log_from}
use Rattle.store_memory.specs.declared.states.FieldState.{FieldState}
use Rattle.heap_model.specs.Past.{has_store, after_log}
use Rattle.store_memory.specs.Dirty.{is_dirty_in}
use Rattle.store_memory.specs.Memory.{Memory, field_in, value_in, guard_in, is_logged_in}
use Rattle.store_memory.specs.Remembers.{Remembers}
use Rattle.store_memory.specs.Limits.{FitWords}
use Rattle.store_memory.specs.Within.{memory_of}
use Rattle.store_memory.proofs.LogLaws.{remembers_log}
use Rattle.store_memory.proofs.applied.Applied.logged_all.Goals as goal

pub invariant_of-self : goal.invariant_of-self
invariant_of-self c =
    let fields : (with_items c.self.inside.fields c.log_all.new.fields).items ≡ c.log_all.new.fields = with_items_is c.self.inside.fields c.log_all.new.fields (c.log_all.auto.fields ∙ c.deref_mut.ensures.len) in
    let same : record (memory_of c.self.inside) { fields = c.log_all.new.fields; fresh = []; dirty = c.log_all.new.dirty } ≡ record (memory_of c.self.inside) { fields = (with_items c.self.inside.fields c.log_all.new.fields).items; fresh = c.clear.new.self.records; dirty = c.log_all.new.dirty } =
    λ i. record (memory_of c.self.inside) { fields = sym fields i; fresh = sym c.clear.ensures.records i; dirty = c.log_all.new.dirty } in
    record {
      setting = c.self.invariant.setting;
      past = after_log c.self.invariant.past;
      remembers = subst (λ (m : Memory). Remembers c.self.invariant.setting m (after_log c.self.invariant.past)) same
          (remembers_log c.self.invariant.setting (memory_of c.self.inside) c.self.invariant.past c.log_all.new.fields c.log_all.new.dirty c.self.invariant.remembers
          (c.log_all.auto.fields ∙ ap (λ (xs : List FieldState). length xs) c.deref_mut.ensures.value)
          (subst (λ (xs : List LaneRecord). (f : ℕ) → f < length c.self.inside.fields.items → (field_in c.log_all.new.fields f).logged ≡ value (λ g. (field_in c.self.inside.fields.items g).logged) f (log_from xs)) c.records.ensures
          (subst (λ (xs : List FieldState). (f : ℕ) → f < length xs → (field_in c.log_all.new.fields f).logged ≡ value (λ g. (field_in xs g).logged) f (log_from c.records.result.now)) c.deref_mut.ensures.value c.log_all.ensures.logged))
          (subst (λ (xs : List FieldState). (f : ℕ) → value_in c.log_all.new.fields f ≡ value_in xs f) c.deref_mut.ensures.value c.log_all.ensures.values)
          (subst (λ (xs : List FieldState). (f : ℕ) → guard_in c.log_all.new.fields f ≡ guard_in xs f) c.deref_mut.ensures.value c.log_all.ensures.guards)
          (subst (λ (xs : List FieldState). (f : ℕ) → is_logged_in c.log_all.new.fields f ≡ is_logged_in xs f) c.deref_mut.ensures.value c.log_all.ensures.marks)
          (subst (λ (xs : List LaneRecord). (f : ℕ) → f < c.self.inside.dirty.fields → is_dirty_in c.log_all.new.dirty f ≡ (if is_dirty_in c.self.inside.dirty f then true else has_store f (log_from xs))) c.records.ensures c.log_all.ensures.dirty)
          c.log_all.ensures.dirty_fields);
      within = c.self.invariant.within;
      fresh_lanes = c.clear.ensures.lanes ∙ c.self.invariant.fresh_lanes;
      fresh_room = c.clear.ensures.room ∙ c.self.invariant.fresh_room;
      words = subst (λ (xs : List LaneRecord). FitWords (log_from xs)) (sym c.clear.ensures.records) tt;
    }

pub returns-clause-logged : goal.returns-clause-logged
returns-clause-logged c = λ s p was.
    let fields : (with_items c.self.inside.fields c.log_all.new.fields).items ≡ c.log_all.new.fields = with_items_is c.self.inside.fields c.log_all.new.fields (c.log_all.auto.fields ∙ c.deref_mut.ensures.len) in
    let same : record (memory_of c.self.inside) { fields = c.log_all.new.fields; fresh = []; dirty = c.log_all.new.dirty } ≡ record (memory_of c.self.inside) { fields = (with_items c.self.inside.fields c.log_all.new.fields).items; fresh = c.clear.new.self.records; dirty = c.log_all.new.dirty } =
    λ i. record (memory_of c.self.inside) { fields = sym fields i; fresh = sym c.clear.ensures.records i; dirty = c.log_all.new.dirty } in
    subst (λ (m : Memory). Remembers s m (after_log p)) same
    (remembers_log s (memory_of c.self.inside) p c.log_all.new.fields c.log_all.new.dirty (subst (λ (m : Memory). Remembers s m p) (sym c.self.view_is) was)
    (c.log_all.auto.fields ∙ ap (λ (xs : List FieldState). length xs) c.deref_mut.ensures.value)
    (subst (λ (xs : List LaneRecord). (f : ℕ) → f < length c.self.inside.fields.items → (field_in c.log_all.new.fields f).logged ≡ value (λ g. (field_in c.self.inside.fields.items g).logged) f (log_from xs)) c.records.ensures
    (subst (λ (xs : List FieldState). (f : ℕ) → f < length xs → (field_in c.log_all.new.fields f).logged ≡ value (λ g. (field_in xs g).logged) f (log_from c.records.result.now)) c.deref_mut.ensures.value c.log_all.ensures.logged))
    (subst (λ (xs : List FieldState). (f : ℕ) → value_in c.log_all.new.fields f ≡ value_in xs f) c.deref_mut.ensures.value c.log_all.ensures.values)
    (subst (λ (xs : List FieldState). (f : ℕ) → guard_in c.log_all.new.fields f ≡ guard_in xs f) c.deref_mut.ensures.value c.log_all.ensures.guards)
    (subst (λ (xs : List FieldState). (f : ℕ) → is_logged_in c.log_all.new.fields f ≡ is_logged_in xs f) c.deref_mut.ensures.value c.log_all.ensures.marks)
    (subst (λ (xs : List LaneRecord). (f : ℕ) → f < c.self.inside.dirty.fields → is_dirty_in c.log_all.new.dirty f ≡ (if is_dirty_in c.self.inside.dirty f then true else has_store f (log_from xs))) c.records.ensures c.log_all.ensures.dirty)
    c.log_all.ensures.dirty_fields)
