-- The fields that a table declares, read by their parts.
use Rattle.std.proofs.Common.{◌≡◌, ℕ, List, [], ◌∷◌, ◌++◌, map, String, Global, string_bytes, Some, slice_get, get_or, option_map, length, refl, sym, ap, ◌∙◌}
use Rattle.std.proofs.lemmas.List.{length-map}
use Rattle.std.proofs.lemmas.Option.{slice_get-map, get_or_from_slice_get}
use Rattle.guards.specs.declared.field_row.FieldRow.{FieldRow}
use Rattle.guards.specs.Schema.{Field, object_count, field_count, field_of, names_of}
use Rattle.guards.specs.Names.{names_in, values_in, AddsEntry}
use Rattle.guards.specs.Tables.{field_in, fields_in, declared_by}

-- there are as many objects, and as many fields, as the tables have entries
pub object_count-declared_by : (objects : List (String Global × Unit {0})) (fields : List (String Global × FieldRow)) → object_count (declared_by objects fields) ≡ length objects
object_count-declared_by objects fields = length-map objects (λ entry. string_bytes entry.0)

pub field_count-declared_by : (objects : List (String Global × Unit {0})) (fields : List (String Global × FieldRow)) → field_count (declared_by objects fields) ≡ length fields
field_count-declared_by objects fields = length-map fields field_in

-- the names of the fields are those in the table
pub names-fields_in : (es : List (String Global × FieldRow)) → names_of (fields_in es) ≡ names_in es
names-fields_in [] = refl
names-fields_in (e ∷ es) = ap (λ names. string_bytes e.0 ∷ names) (names-fields_in es)

fields_in-push : (es : List (String Global × FieldRow)) (e : String Global × FieldRow) → fields_in (es ++ e ∷ []) ≡ fields_in es ++ field_in e ∷ []
fields_in-push [] e = refl
fields_in-push (x ∷ xs) e = ap (λ fields. field_in x ∷ fields) (fields_in-push xs e)

-- an entry behind the others is a field behind the others
pub fields_in-AddsEntry : (old new : List (String Global × FieldRow)) (name : List ℕ) (row : FieldRow) → AddsEntry old new name row
    → fields_in new ≡ fields_in old ++ field_of name row.owner row.guard row.first row.is_transient ∷ []
fields_in-AddsEntry old new name row added = ap fields_in added.entries ∙ fields_in-push old (added.key, row)
    ∙ ap (λ text. fields_in old ++ field_of text row.owner row.guard row.first row.is_transient ∷ []) added.spelled

-- a part of the field at a place is that of the row there
module _ {A : Type 0} (part : Field → A) (own : FieldRow → A) (agree : (e : String Global × FieldRow) → part (field_in e) ≡ own e.1) where
  parts : (es : List (String Global × FieldRow)) → map part (fields_in es) ≡ map own (values_in es)
  parts [] = refl
  parts (e ∷ es) = ap (λ n. n ∷ map part (fields_in es)) (agree e) ∙ ap (λ ns. own e.1 ∷ ns) (parts es)

  pub part-at : (other : A) (es : List (String Global × FieldRow)) (k : ℕ) (row : FieldRow) → slice_get (values_in es) k ≡ Some row → own row ≡ get_or (map part (fields_in es)) k other
  part-at other es k row at = sym (get_or_from_slice_get (map part (fields_in es)) k (own row) other
      (ap (λ numbers. slice_get numbers k) (parts es) ∙ slice_get-map own (values_in es) k ∙ ap (option_map own) at))
