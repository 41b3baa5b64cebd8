-- The numbered schema of an image is the image's.
use Rattle.std.proofs.Common.{ℕ, ◌≡◌, ◌<◌, Bool, true, false, Some, List, length, get_or, IsTrue, ◌+◌, ⊎_elim, subst, refl, sym, ap, ◌∙◌, arith}
use Rattle.std.proofs.lemmas.Bool.{cases_eq, eq-eqb}
use Rattle.std.proofs.lemmas.Option.{slice_get-get_or}
use Rattle.guards.specs.Schema.{Declarations, guard_of, is_transient_of, owner_of}
use Rattle.image_parts.specs.Guards.{no_row}
use Rattle.image_parts.specs.declared.guard_row.GuardRow.{GuardRow}
use Rattle.image_parts.specs.declared.layout.Layout.{Layout}
use Rattle.image_parts.specs.NumberedRows.{numbered}
use Rattle.image_parts.proofs.Numbered.{fields_are, guard_at, mark_at, objects_are, owner_at}
use Rattle.recover.specs.declared.studied.Study.{Study}
use Rattle.image_schema.specs.OfImage.{FitsImage, IsStudied, fits_row, is_row_of, is_same_mark}

same_mark : (mark : Bool) → is_same_mark mark mark ≡ true
same_mark true = refl
same_mark false = refl

row_fits : (schema : Declarations) (f : ℕ) (row : GuardRow) → row.owner.0 ≡ owner_of schema f → row.guard.0 ≡ guard_of schema f → row.transient ≡ is_transient_of schema f
    → fits_row schema f (Some row) ≡ true
row_fits schema f row owner guard mark = rw (eq-eqb _ _ owner, eq-eqb _ _ guard) (ap (λ (m : Bool). is_same_mark m (is_transient_of schema f)) mark ∙ same_mark (is_transient_of schema f))

pub numbered_fits : (l : Layout) (rows : List GuardRow) → length rows ≡ l.fields → FitsImage (numbered l.objects rows) l rows
numbered_fits l rows size =
    let schema : Declarations = numbered l.objects rows in
    record {
      objects = sym (objects_are l.objects);
      fields = sym size ∙ sym (fields_are 0 rows);
      rows_are = λ f low.
          let below : f < length rows = omega (arith, low, fields_are 0 rows) in
          ap (fits_row schema f) (slice_get-get_or rows f no_row below)
          ∙ row_fits schema f (get_or rows f no_row) (sym (owner_at 0 rows f no_row below)) (sym (guard_at 0 rows f no_row below)) (sym (mark_at 0 rows f no_row below));
    }

-- the study of an image has a row for each field, and a value
pub study_fits : (s : Study) → IsStudied s → FitsImage (numbered s.layout.objects s.guards.items) s.layout s.guards.items
study_fits s is = numbered_fits s.layout s.guards.items is.of.holds.control.front.guards_are.size

pub heap_length : (s : Study) → IsStudied s → length s.heap.items ≡ s.layout.fields
heap_length s is = is.of.stands.size

-- one more row
pub one_row_more : (schema : Declarations) (rows : List GuardRow) (f : ℕ) → ((i : ℕ) → i < f → IsTrue (is_row_of schema rows i)) → IsTrue (is_row_of schema rows f)
    → (i : ℕ) → i < f + 1 → IsTrue (is_row_of schema rows i)
one_row_more schema rows f earlier here i low =
    ⊎_elim (λ same. subst (λ (k : ℕ). IsTrue (is_row_of schema rows k)) (sym same) here) (λ other. earlier i (omega (arith, low, other))) (cases_eq i f)
