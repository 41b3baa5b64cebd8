-- Which schema is that of an image (this project's own).
use Rattle.std.specs.Prelude.{ℕ, ◌≡◌, ◌<◌, ◌==◌, ◌&&◌, Bool, true, false, not, IsTrue, Option, None, Some, List, slice_get}
use Rattle.guards.specs.Schema.{Declarations, object_count, field_count, guard_of, owner_of, is_transient_of}
use Rattle.image_parts.specs.declared.guard_row.GuardRow.{GuardRow}
use Rattle.image_parts.specs.declared.layout.Layout.{Layout}
use Rattle.image_parts.specs.NumberedRows.{numbered}
use Rattle.recover.specs.Study.{IsStudyOf}
use Rattle.recover.specs.declared.studied.Study.{Study}

-- both are marks of transient fields, or of persistent ones
abbrev pub is_same_mark : Bool → Bool → Bool
is_same_mark true mark = mark
is_same_mark false mark = not mark

-- the row has the field's owner, guard and mark
abbrev pub fits_row : Declarations → (field : ℕ) → Option GuardRow → Bool
fits_row schema field None = false
fits_row schema field (Some row) = (row.owner.0 == owner_of schema field) && (row.guard.0 == guard_of schema field)
    && is_same_mark row.transient (is_transient_of schema field)

abbrev pub is_row_of : Declarations → List GuardRow → (field : ℕ) → Bool
is_row_of schema rows field = fits_row schema field (slice_get rows field)

-- each field of the schema has its row
abbrev pub AreRowsOf : Declarations → List GuardRow → Type 0
AreRowsOf schema rows = (field : ℕ) → field < field_count schema → IsTrue (is_row_of schema rows field)

-- the image has the schema's objects and fields, and each field the schema's owner, guard and mark
pub record FitsImage (schema : Declarations) (layout : Layout) (rows : List GuardRow) : Type 0 where
  pub objects : layout.objects ≡ object_count schema
  pub fields : layout.fields ≡ field_count schema
  pub rows_are : AreRowsOf schema rows

-- it is the schema of an image that was studied
abbrev pub FitsStudy : Declarations → Study → Type 0
FitsStudy schema s = FitsImage schema s.layout s.guards.items

-- it is the study of some image
pub record IsStudied (s : Study) : Type 0 where
  pub image : List ℕ
  pub of : IsStudyOf image s

-- the schema of numbers alone
abbrev pub numbers_of : Study → Declarations
numbers_of s = numbered s.layout.objects s.guards.items

-- the schema that was given, or else that of numbers alone
abbrev pub named_as : Option Declarations → Study → Declarations
named_as (Some schema) s = schema
named_as None s = numbers_of s
