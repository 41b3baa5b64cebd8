-- The schema of an image's objects and fields is one that a machine over it may have.
use Rattle.std.proofs.Common.{ℕ, ◌≡◌, ◌+◌, ◌<◌, ◌==◌, Bool, true, false, List, Some, length, get_or, IsTrue, ⊎_elim, subst, refl, sym, ap, ◌∙◌, arith}
use Rattle.std.proofs.lemmas.Bool.{and_parts, cases_eq, eqb-true}
use Rattle.std.proofs.lemmas.Option.{slice_get-get_or}
use Rattle.guards.specs.Schema.{Declarations, field_count, first_of, guard_of, is_transient_of}
use Rattle.image_parts.specs.declared.guard_row.GuardRow.{GuardRow}
use Rattle.image_schema.specs.OfImage.{fits_row, is_same_mark}
use Rattle.recover.specs.Study.{IsStudyOf}
use Rattle.recover.specs.declared.studied.Study.{Study}
use Rattle.script_machine.specs.OfSchema.{FitsSchema}
use Rattle.script_images.specs.Schemas.{IsSchemaOf, begins_at, begins_by, is_first}

-- one more field
pub one_more_begins : (schema : Declarations) (rows : List GuardRow) (f : ℕ) → ((i : ℕ) → i < f → IsTrue (begins_at schema rows i)) → IsTrue (begins_at schema rows f)
    → (i : ℕ) → i < f + 1 → IsTrue (begins_at schema rows i)
one_more_begins schema rows f earlier here i low =
    ⊎_elim (λ same. subst (λ (k : ℕ). IsTrue (begins_at schema rows k)) (sym same) here) (λ other. earlier i (omega (arith, low, other))) (cases_eq i f)

mark_is : (transient mark : Bool) → is_same_mark transient mark ≡ true → transient ≡ mark
mark_is true mark same = sym same
mark_is false true same = absurd cc
mark_is false false same = refl

same_first : (is_transient is_same : Bool) → is_transient ≡ true → is_first is_transient is_same ≡ true → is_same ≡ true
same_first true is_same is begins = begins
same_first false is_same is begins = absurd cc

-- what a row says that is the field's
pub record IsFieldRow (schema : Declarations) (f : ℕ) (row : GuardRow) : Type 0 where
  pub guard : row.guard.0 ≡ guard_of schema f
  pub mark : row.transient ≡ is_transient_of schema f
  pub first : is_transient_of schema f ≡ true → row.first ≡ first_of schema f

by_row : (schema : Declarations) (f : ℕ) (row : GuardRow) → fits_row schema f (Some row) ≡ true → begins_by schema f (Some row) ≡ true → IsFieldRow schema f row
by_row schema f row fits begins =
    let parts = and_parts _ _ fits in
    let two = and_parts _ _ parts.0 in
    record {
      guard = eqb-true _ _ two.1;
      mark = mark_is row.transient (is_transient_of schema f) parts.1;
      first = λ is. eqb-true _ _ (same_first (is_transient_of schema f) (row.first == first_of schema f) is begins);
    }

module _ (schema : Declarations) (image : List ℕ) (s : Study) (of : IsStudyOf image s) (is : IsSchemaOf schema s) where
  row_at : (f : ℕ) (d : GuardRow) → f < field_count schema → IsFieldRow schema f (get_or s.guards.items f d)
  row_at f d low =
      let below : f < length s.guards.items = omega (arith, low, of.holds.control.front.guards_are.size, is.fits.fields) in
      let there = slice_get-get_or s.guards.items f d below in
      by_row schema f (get_or s.guards.items f d) (ap (fits_row schema f) (sym there) ∙ is.fits.rows_are f low) (ap (begins_by schema f) (sym there) ∙ is.begins f low)

  pub fits_schema : FitsSchema schema s.layout s.guards.items
  fits_schema = record {
    objects = is.fits.objects;
    fields = is.fits.fields;
    guarded = λ f d low. (row_at f d low).guard;
    marked = λ f d low. (row_at f d low).mark;
    begun = λ f d low transient. (row_at f d low).first transient;
  }
