-- With what a memory begins (this project's own).
use Rattle.std.specs.Prelude.{ℕ, ◌≡◌, ◌<◌, true, false, List, length}
use Rattle.heap_model.specs.Setting.{Setting}
use Rattle.heap_model.specs.Past.{Past}
use Rattle.store_memory.specs.declared.states.FieldState.{FieldState}
use Rattle.store_memory.specs.Memory.{value_in, guard_in, is_logged_in}

-- these are the fields of a setting with so many objects, before any record: each has its guard, its mark and its first value
pub record AreFieldsOf (count : ℕ) (fields : List FieldState) (last : ℕ) (s : Setting) : Type 0 where
  pub objects : s.objects ≡ count
  pub size : s.fields ≡ length fields
  pub guards : (f : ℕ) → f < length fields → guard_in fields f ≡ s.guard f
  pub marks : (f : ℕ) → f < length fields → is_logged_in fields f ≡ s.is_logged f
  pub values : (f : ℕ) → f < length fields → value_in fields f ≡ s.first f
  pub last_is : last ≡ s.last

-- the least dirty field
pub record IsLeastDirtyOf (s : Setting) (p : Past) (field : ℕ) : Type 0 where
  pub field_is : field < s.fields
  pub among : p.is_dirty field ≡ true
  pub lowest : (f : ℕ) → f < field → p.is_dirty f ≡ false
