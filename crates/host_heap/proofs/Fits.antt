-- The schema of numbered objects and fields is the image's.
use Rattle.std.proofs.Common.{◌≡◌, List, length, sym, ◌∙◌, arith}
use Rattle.image_parts.specs.declared.guard_row.GuardRow.{GuardRow}
use Rattle.image_parts.specs.declared.layout.Layout.{Layout}
use Rattle.image_parts.proofs.Numbered.{objects_are, fields_are, guard_at, mark_at}
use Rattle.image_parts.specs.NumberedRows.{numbered}
use Rattle.trim_helper.specs.Opening.{FitsSchema}

-- a schema that is made of an image's guard rows fits the image
pub fits_numbered : (l : Layout) (rows : List GuardRow) → length rows ≡ l.fields → FitsSchema (numbered l.objects rows) l rows
fits_numbered l rows size = record {
  objects = sym (objects_are l.objects);
  fields = sym size ∙ sym (fields_are 0 rows);
  guarded = λ f d low. sym (guard_at 0 rows f d (let count = fields_are 0 rows in omega (arith, low, count)));
  marked = λ f d low. sym (mark_at 0 rows f d (let count = fields_are 0 rows in omega (arith, low, count)));
}
