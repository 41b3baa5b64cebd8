-- The schema of a dump is a schema, with names that a file may have.
use Rattle.std.proofs.Common.{ℕ, zero, suc, ◌≡◌, ◌+◌, ◌<◌, ◌≤◌, ◌^◌, ◌&&◌, Bool, true, Option, None, Some, List, [], ◌∷◌, ◌++◌, length, get_or, append_assoc, append-nil, length-append, decimal, refl, sym, ap, subst, ◌∙◌, arith}
use Rattle.std.specs.Prelude.{slice_index}
use Rattle.std.specs.List.{list_all}
use Rattle.std.specs.Str.Parse.{AllDigits}
use Rattle.std.proofs.lemmas.Bool.{lt-ltb, le-leb}
use Rattle.std.proofs.lemmas.Bool.Decides.{nat_tests}
use Rattle.std.proofs.lemmas.Fmt.{decimal_is_IsNumeral, length-decimal-le}
use Rattle.std.proofs.lemmas.Str.Parse.{digit_from_value}
use Rattle.guards.specs.Schema.{Declarations, Field, IsSchema, field_count, firsts_of, guards_of, names_of, object_count, owners_of}
use Rattle.heap_model.specs.declared.limits.TheConstants.{MOST_FIELDS, MOST_OBJECTS}
use Rattle.image_parts.specs.Guards.{HasGuards, NamesObjects, no_row}
use Rattle.image_parts.specs.Layout.{IsLayout}
use Rattle.image_parts.specs.declared.guard_row.GuardRow.{GuardRow}
use Rattle.image_parts.specs.declared.layout.Layout.{Layout}
use Rattle.image_parts.specs.NumberedRows.{field_name, fields_from, names_below, numbered, object_name}
use Rattle.image_parts.proofs.Numbered.{field_is_new, fields_are, fields_more, guard_at, object_is_new, objects_are, owner_at}
use Rattle.recover.specs.Study.{IsStudyOf}
use Rattle.recover.specs.declared.studied.Study.{Study}
use Rattle.script_lines.specs.Grammar.{is_name_byte, IsName}
use Rattle.script_declarations.specs.SchemaText.{AreNames, HasNames, SchemaTextLaw, begun_with, beginning_with}
use Rattle.script_declarations.proofs.NameLemmas.{names_more}
use Rattle.script_declarations.proofs.TextLemmas.{names-push}
use Rattle.image_schema.specs.OfImage.{named_as}
use Rattle.image_schema.specs.Dumping.{DumpLaw, IsOfFile, dumped}

-- fields that begin otherwise

begun_names : (values : List ℕ) (k : ℕ) (fields : List Field) → names_of (begun_with values k fields) ≡ names_of fields
begun_names values k [] = refl
begun_names values k (f ∷ fields) = ap (λ ns. f.name ∷ ns) (begun_names values (k + 1) fields)

begun_owners : (values : List ℕ) (k : ℕ) (fields : List Field) → owners_of (begun_with values k fields) ≡ owners_of fields
begun_owners values k [] = refl
begun_owners values k (f ∷ fields) = ap (λ ns. f.owner ∷ ns) (begun_owners values (k + 1) fields)

begun_guards : (values : List ℕ) (k : ℕ) (fields : List Field) → guards_of (begun_with values k fields) ≡ guards_of fields
begun_guards values k [] = refl
begun_guards values k (f ∷ fields) = ap (λ ns. f.guard ∷ ns) (begun_guards values (k + 1) fields)

begun_count : (values : List ℕ) (k : ℕ) (fields : List Field) → length (begun_with values k fields) ≡ length fields
begun_count values k [] = refl
begun_count values k (f ∷ fields) = ap suc (begun_count values (k + 1) fields)

begun_first : (values : List ℕ) (k : ℕ) (fields : List Field) (i : ℕ) → i < length fields → get_or (firsts_of (begun_with values k fields)) i 0 ≡ slice_index values (k + i)
begun_first values k [] i lt = absurd (omega arith)
begun_first values k (f ∷ fields) zero lt = ap (slice_index values) (let e : k ≡ k + zero = omega arith in e)
begun_first values k (f ∷ fields) (suc i) lt = begun_first values (k + 1) fields i (omega arith) ∙ ap (slice_index values) (let e : k + 1 + i ≡ k + suc i = omega arith in e)

-- what is needed of a schema, but for its first values
record HasShape (schema : Declarations) : Type 0 where
  some_object : 0 < object_count schema
  some_field : 0 < field_count schema
  objects : object_count schema ≤ MOST_OBJECTS
  fields : field_count schema ≤ MOST_FIELDS
  owners : (f : ℕ) → f < field_count schema → slice_index (owners_of schema.fields) f < object_count schema
  guards : (f : ℕ) → f < field_count schema → slice_index (guards_of schema.fields) f < object_count schema

begun_schema : (schema : Declarations) (values : List ℕ) → HasShape schema → ((f : ℕ) → f < field_count schema → slice_index values f < 2 ^ 64) → IsSchema (beginning_with values schema)
begun_schema schema values is below =
    let count = begun_count values 0 schema.fields in
    record {
      some_object = is.some_object;
      some_field = omega (arith, count, is.some_field);
      limits = record {
        objects = is.objects;
        fields = omega (arith, count, is.fields);
        owners = λ f lt. subst (λ (owners : List ℕ). slice_index owners f < object_count schema) (sym (begun_owners values 0 schema.fields)) (is.owners f (omega (arith, count, lt)));
        guards = λ f lt. subst (λ (guards : List ℕ). slice_index guards f < object_count schema) (sym (begun_guards values 0 schema.fields)) (is.guards f (omega (arith, count, lt)));
        firsts = λ f lt.
            let low : f < length schema.fields = omega (arith, count, lt) in
            let here : 0 + f ≡ f = omega arith in
            subst (λ (n : ℕ). n < 2 ^ 64) (sym (begun_first values 0 schema.fields f low ∙ ap (slice_index values) here)) (below f low);
      };
    }

begun_has_names : (schema : Declarations) (values : List ℕ) → HasNames schema → HasNames (beginning_with values schema)
begun_has_names schema values is = record { objects = is.objects; fields = subst (AreNames []) (sym (begun_names values 0 schema.fields)) is.fields }

-- numbered names

digits_named : (ds : List ℕ) → AllDigits 10 ds → list_all is_name_byte ds ≡ true
digits_named [] h = refl
digits_named (d ∷ ds) h =
    let here = digit_from_value d h.0 in
    let low : 48 ≤ d = here.0 in
    let high : d ≤ 57 = here.1 in
    let one : is_name_byte d ≡ true = grind (arith, nat_tests) in
    rw one (digits_named ds h.1)

both : {x y : Bool} → x ≡ true → y ≡ true → (x && y) ≡ true
both e f = cc

numbered_name : (letter n : ℕ) → is_name_byte letter ≡ true → n < 2 ^ 64 → IsName (letter ∷ decimal n)
numbered_name letter n here small =
    let most : n < 10 ^ 20 = omega (arith, small) in
    let short : length (letter ∷ decimal n) ≤ 32 = omega (arith, length-decimal-le 20 n (omega arith) most small) in
    both (both (lt-ltb 0 (length (letter ∷ decimal n)) (omega arith)) (le-leb (length (letter ∷ decimal n)) 32 short)) (both here (digits_named (decimal n) (decimal_is_IsNumeral n small).0.1))

objects_named : (n : ℕ) → n < 2 ^ 64 → AreNames [] (names_below n)
objects_named zero small = tt
objects_named (suc n) small = names_more [] (names_below n) (object_name n) (objects_named n (omega (arith, small))) (numbered_name 111 n refl (omega (arith, small)))
    (object_is_new n (omega (arith, small))).1

-- the rows of which the first, so many, are named
fields_named : (earlier later : List GuardRow) → length earlier + length later < 2 ^ 64 → AreNames [] (names_of (fields_from 0 earlier)) → AreNames [] (names_of (fields_from 0 (earlier ++ later)))
fields_named earlier [] small h = subst (λ (rows : List GuardRow). AreNames [] (names_of (fields_from 0 rows))) (sym (append-nil earlier)) h
fields_named earlier (row ∷ later) small h =
    let n = length earlier in
    let long = length-append earlier (row ∷ []) in
    let low : n < 2 ^ 64 = omega (arith, small) in
    let more : AreNames [] (names_of (fields_from 0 earlier) ++ field_name n ∷ []) = names_more [] (names_of (fields_from 0 earlier)) (field_name n) h (numbered_name 102 n refl low) (field_is_new earlier low).1 in
    let same : names_of (fields_from 0 (earlier ++ row ∷ [])) ≡ names_of (fields_from 0 earlier) ++ field_name n ∷ [] =
    ap names_of (fields_more 0 earlier row) ∙ names-push (fields_from 0 earlier) (record { name = field_name (0 + n); owner = row.owner.0; guard = row.guard.0; first = row.first; is_transient = row.transient })
    ∙ ap (λ (k : ℕ). names_of (fields_from 0 earlier) ++ field_name k ∷ []) (let e : 0 + n ≡ n = omega arith in e) in
    subst (λ (rows : List GuardRow). AreNames [] (names_of (fields_from 0 rows))) (append_assoc earlier (row ∷ []) later)
    (fields_named (earlier ++ row ∷ []) later (omega (arith, small, long)) (subst (AreNames []) (sym same) more))

-- the schema of an image

numbered_shape : (l : Layout) (image : List ℕ) (rows : List GuardRow) → IsLayout l → HasGuards l image rows → HasShape (numbered l.objects rows)
numbered_shape l image rows limits is =
    let objects = objects_are l.objects in
    let fields = fields_are 0 rows in
    let size = is.size in
    record {
      some_object = omega (arith, objects, limits.objects.0);
      some_field = omega (arith, fields, size, limits.fields.0);
      objects = omega (arith, objects, limits.objects.1);
      fields = omega (arith, fields, size, limits.fields.1);
      owners = λ f lt.
          let low : f < length rows = omega (arith, fields, lt) in
          let named : NamesObjects l.objects (get_or rows f no_row) = (is.each f no_row (omega (arith, low, size))).objects in
          omega (arith, named.owner, owner_at 0 rows f no_row low, objects);
      guards = λ f lt.
          let low : f < length rows = omega (arith, fields, lt) in
          let named : NamesObjects l.objects (get_or rows f no_row) = (is.each f no_row (omega (arith, low, size))).objects in
          omega (arith, named.guard, guard_at 0 rows f no_row low, objects);
    }

shape_of : (given : Option Declarations) (image : List ℕ) (s : Study) → IsStudyOf image s → IsOfFile given → HasShape (named_as given s)
shape_of None image s of file = numbered_shape s.layout image s.guards.items of.holds.control.front.layout.header.limits of.holds.control.front.guards_are
shape_of (Some schema) image s of file = record {
  some_object = file.0.some_object;
  some_field = file.0.some_field;
  objects = file.0.limits.objects;
  fields = file.0.limits.fields;
  owners = file.0.limits.owners;
  guards = file.0.limits.guards;
}

names_as : (given : Option Declarations) (image : List ℕ) (s : Study) → IsStudyOf image s → IsOfFile given → HasNames (named_as given s)
names_as None image s of file =
    let limits = of.holds.control.front.layout.header.limits in
    let size = of.holds.control.front.guards_are.size in
    record {
      objects = objects_named s.layout.objects (omega (arith, limits.objects.1));
      fields = fields_named [] s.guards.items (omega (arith, size, limits.fields.1)) tt;
    }
names_as (Some schema) image s of file = file.1

pub dump_declares : SchemaTextLaw → DumpLaw
dump_declares law given image s of below file fits =
    law (dumped given s) (begun_schema (named_as given s) s.heap.items (shape_of given image s of file) (λ f lt. below f (omega (arith, lt, fits.fields))))
    (begun_has_names (named_as given s) s.heap.items (names_as given image s of file))
