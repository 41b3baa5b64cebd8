-- Which schema a recovered heap is of (this project's own).
use Rattle.std.specs.Prelude.{ℕ, ◌≡◌, ◌<◌, List, slice_index_or}
use Rattle.guards.specs.Schema.{Declarations, object_count, field_count, guard_of, is_transient_of}
use Rattle.image_parts.specs.declared.guard_row.GuardRow.{GuardRow}
use Rattle.image_parts.specs.declared.layout.Layout.{Layout}
use Rattle.monitor.specs.declared.view.Plan.{Plan}

-- the image has the schema's objects and fields, each field with its guard, and the same of them transient
pub record FitsSchema (schema : Declarations) (layout : Layout) (rows : List GuardRow) : Type 0 where
  pub objects : layout.objects ≡ object_count schema
  pub fields : layout.fields ≡ field_count schema
  pub guarded : (f : ℕ) (d : GuardRow) → f < field_count schema → (slice_index_or rows f d).guard.0 ≡ guard_of schema f
  pub marked : (f : ℕ) (d : GuardRow) → f < field_count schema → (slice_index_or rows f d).transient ≡ is_transient_of schema f

-- the words of this schema, which begin with these values and go up to this release number, for so many lanes
abbrev pub plan_of : Declarations → (heap : List ℕ) → (last lanes : ℕ) → Plan
plan_of schema heap last lanes = record { schema = schema; first = heap; last = last; lanes = lanes }
