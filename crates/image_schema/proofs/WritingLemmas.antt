-- A schema's file, item by item.
use Rattle.std.proofs.Common.{ℕ, zero, suc, ◌≡◌, ◌+◌, ◌<◌, false, List, [], ◌∷◌, ◌++◌, length, get_or, refl, sym, ap, ◌∙◌, arith}
use Rattle.std.specs.Prelude.{slice_index}
use Rattle.std.specs.List.{flat_map}
use Rattle.guards.specs.Schema.{Declarations, Field, guards_of, marks_of, names_of, owners_of}
use Rattle.script_declarations.specs.SchemaText.{begun_with, ended, field_line, field_lines, object_line, object_lines}
use Rattle.image_schema.specs.Lines.{field_at}

abbrev pub object_item : List ℕ → List ℕ
object_item name = ended (object_line name)

abbrev pub field_item : (objects : List (List ℕ)) → Field → List ℕ
field_item objects f = ended (field_line objects f)

pub objects_text : (names : List (List ℕ)) → flat_map object_item names ≡ flat_map ended (object_lines names)
objects_text [] = refl
objects_text (name ∷ names) = ap (λ text. object_item name ++ text) (objects_text names)

pub fields_text : (objects : List (List ℕ)) (fields : List Field) → flat_map (field_item objects) fields ≡ flat_map ended (field_lines objects fields)
fields_text objects [] = refl
fields_text objects (f ∷ fields) = ap (λ text. field_item objects f ++ text) (fields_text objects fields)

abbrev pub no_field : Field
no_field = record { name = []; owner = 0; guard = 0; first = 0; is_transient = false }

pub begun_length : (values : List ℕ) (k : ℕ) (fields : List Field) → length (begun_with values k fields) ≡ length fields
begun_length values k [] = refl
begun_length values k (f ∷ fields) = ap suc (begun_length values (k + 1) fields)

-- the field of this number, with its value
pub begun_at : (objects : List (List ℕ)) (values : List ℕ) (k : ℕ) (fields : List Field) (i : ℕ) → i < length fields
    → field_item objects (get_or (begun_with values k fields) i no_field)
    ≡ ended (field_line objects (record { name = get_or (names_of fields) i []; owner = get_or (owners_of fields) i 0; guard = get_or (guards_of fields) i 0; first = slice_index values (k + i); is_transient = get_or (marks_of fields) i false }))
begun_at objects values k [] i lt = absurd (omega arith)
begun_at objects values k (f ∷ fields) zero lt = ap (λ (n : ℕ). field_item objects (record f { first = slice_index values n })) (let e : k ≡ k + zero = omega arith in e)
begun_at objects values k (f ∷ fields) (suc i) lt = begun_at objects values (k + 1) fields i (omega arith)
    ∙ ap (λ (n : ℕ). field_item objects (record { name = get_or (names_of fields) i []; owner = get_or (owners_of fields) i 0; guard = get_or (guards_of fields) i 0; first = slice_index values n; is_transient = get_or (marks_of fields) i false })) (let e : k + 1 + i ≡ k + suc i = omega arith in e)

pub field_is : (schema : Declarations) (values : List ℕ) (i : ℕ) → i < length schema.fields
    → field_at schema i (slice_index values i) ≡ field_item schema.objects (get_or (begun_with values 0 schema.fields) i no_field)
field_is schema values i lt = sym (begun_at schema.objects values 0 schema.fields i lt ∙ ap (λ (n : ℕ). field_at schema i (slice_index values n)) (let e : 0 + i ≡ i = omega arith in e))
