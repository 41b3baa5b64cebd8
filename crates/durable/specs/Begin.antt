-- With what a store begins (this project's own).
use Rattle.std.specs.Prelude.{ℕ, ◌≡◌, ◌<◌, not, List, length, slice_index, slice_index_or}
use Rattle.heap_model.specs.Setting.{Setting}
use Rattle.image_parts.specs.declared.guard_row.GuardRow.{GuardRow}
use Rattle.image_parts.specs.declared.layout.Layout.{Layout}
use Rattle.store_memory.specs.declared.states.FieldState.{FieldState}
use Rattle.store_memory.specs.Memory.{field_in}

-- there is a row for each field, and each guard is an object
pub record HasRows (l : Layout) (rows : List GuardRow) : Type 0 where
  pub size : length rows ≡ l.fields
  pub named : (f : ℕ) (d : GuardRow) → f < l.fields → (slice_index_or rows f d).guard.0 < l.objects

-- the fields have these rows' guards and marks
abbrev pub HaveGuards : List FieldState → List GuardRow → Type 0
HaveGuards fields rows = (f : ℕ) (d : GuardRow) → f < length rows → (field_in fields f).guard ≡ (slice_index_or rows f d).guard

abbrev pub HaveMarks : List FieldState → List GuardRow → Type 0
HaveMarks fields rows = (f : ℕ) (d : GuardRow) → f < length rows → (field_in fields f).is_logged ≡ not (slice_index_or rows f d).transient

-- the fields have these values, and the same ones are logged
abbrev pub HaveValues : List FieldState → List GuardRow → (heap : List ℕ) → Type 0
HaveValues fields rows heap = (f : ℕ) → f < length rows → (field_in fields f).value ≡ slice_index heap f

abbrev pub HaveLogged : List FieldState → List GuardRow → (heap : List ℕ) → Type 0
HaveLogged fields rows heap = (f : ℕ) → f < length rows → (field_in fields f).logged ≡ slice_index heap f

-- the setting of a heap of this layout, with these guard rows and values, and this bound on release numbers
pub record IsSettingOf (l : Layout) (rows : List GuardRow) (heap : List ℕ) (last : ℕ) (s : Setting) : Type 0 where
  pub objects : s.objects ≡ l.objects
  pub fields : s.fields ≡ l.fields
  pub guards : (f : ℕ) (d : GuardRow) → f < l.fields → (slice_index_or rows f d).guard.0 ≡ s.guard f
  -- Which fields are transient is what the guard rows say.
  pub marks : (f : ℕ) (d : GuardRow) → f < l.fields → (slice_index_or rows f d).transient ≡ not (s.is_logged f)
  pub values : (f : ℕ) → f < l.fields → slice_index heap f ≡ s.first f
  pub last_is : last ≡ s.last
