use Rattle.std.proofs.Common.{ℕ, ◌≡◌, ◌<◌, true, if◌then◌else◌, length, take}
use Rattle.heap_model.specs.Log.{value, log_from}
use Rattle.heap_model.specs.Past.{has_store}
use Rattle.store_memory.specs.Memory.{field_in, value_in, guard_in, is_logged_in}
use Rattle.store_memory.specs.Dirty.{is_dirty_in}
use Rattle.store_memory.proofs.logged.log_all.Given as goal

-- the records so far are logged
abbrev pub invariant-loop-entry : goal.invariant-loop-entry
invariant-loop-entry l = record {
  logged : (f : ℕ) → f < length l.fn.fields → (field_in l.fields f).logged ≡ value (λ g. (field_in l.fn.fields g).logged) f (log_from (take l.entry-index l.records));
  values : (f : ℕ) → value_in l.fields f ≡ value_in l.fn.fields f;
  guards : (f : ℕ) → guard_in l.fields f ≡ guard_in l.fn.fields f;
  marks : (f : ℕ) → is_logged_in l.fields f ≡ is_logged_in l.fn.fields f;
  dirty : (f : ℕ) → f < l.fn.dirty.fields → is_dirty_in l.dirty f ≡ (if is_dirty_in l.fn.dirty f then true else has_store f (log_from (take l.entry-index l.records)));
  dirty_fields : l.dirty.fields ≡ l.fn.dirty.fields;
}
