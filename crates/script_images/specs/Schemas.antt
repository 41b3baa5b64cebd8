-- Which schema a script over an image may name its objects and fields by (docs/SCRIPTS.md, "A script over an image file").
use Rattle.std.specs.Prelude.{ℕ, ◌≡◌, ◌<◌, ◌==◌, Bool, true, false, IsTrue, Option, None, Some, List, slice_get}
use Rattle.guards.specs.Schema.{Declarations, field_count, first_of, is_transient_of}
use Rattle.image_parts.specs.declared.guard_row.GuardRow.{GuardRow}
use Rattle.image_schema.specs.OfImage.{FitsImage, named_as}
use Rattle.recover.specs.Study.{IsStudyOf}
use Rattle.recover.specs.declared.studied.Study.{Study}

-- where the field is transient, both begin it with the same value
abbrev pub is_first : (is_transient is_same : Bool) → Bool
is_first true is_same = is_same
is_first false is_same = true

-- the row begins the field as the schema does
abbrev pub begins_by : Declarations → (field : ℕ) → Option GuardRow → Bool
begins_by schema field None = false
begins_by schema field (Some row) = is_first (is_transient_of schema field) (row.first == first_of schema field)

abbrev pub begins_at : Declarations → List GuardRow → (field : ℕ) → Bool
begins_at schema rows field = begins_by schema field (slice_get rows field)

-- each transient field of the schema begins with the value that its row has
abbrev pub BeginAs : Declarations → List GuardRow → Type 0
BeginAs schema rows = (field : ℕ) → field < field_count schema → IsTrue (begins_at schema rows field)

-- The schema is that of the image that was studied: it has its objects, and its fields with their owners, guards and marks; and each
-- transient one with its first value, which it has again after each recovery. Names may be any, and the other fields' first values too.
pub record IsSchemaOf (schema : Declarations) (s : Study) : Type 0 where
  pub fits : FitsImage schema s.layout s.guards.items
  pub begins : BeginAs schema s.guards.items

-- the schema that was given, or that of numbers, is the image's
pub record IsNamed (given : Option Declarations) (image : List ℕ) (schema : Declarations) : Type 0 where
  pub study : Study
  pub studied : IsStudyOf image study
  pub schema_is : schema ≡ named_as given study
  pub fits : IsSchemaOf (named_as given study) study

-- it isn't
pub record IsOtherThan (given : Option Declarations) (image : List ℕ) : Type 0 where
  pub study : Study
  pub studied : IsStudyOf image study
  pub other : IsSchemaOf (named_as given study) study → ⊥
