-- The schema file of a schema: a line for each object and each field, by number (docs/SCRIPTS.md, "Lines").
use Rattle.std.specs.Prelude.{ℕ, ◌≡◌, ◌+◌, ◌++◌, List, [], ◌∷◌, codes, map, slice_index, slice_index_or, Contains}
use Rattle.std.specs.Fmt.{decimal}
use Rattle.std.specs.List.{concat, flat_map}
use Rattle.guards.specs.Schema.{Declarations, Field, IsSchema, names_of, nothing}
use Rattle.script_lines.specs.Grammar.{IsName, field_word}
use Rattle.script_lines.specs.Lines.{lines_of}
use Rattle.script_declarations.specs.SchemaFiles.{DeclaresLines}

-- the line that declares an object
abbrev pub object_line : (name : List ℕ) → List ℕ
object_line name = concat (codes "object " ∷ name ∷ [])

-- the name of the object of this number
abbrev pub name_of : (objects : List (List ℕ)) → ℕ → List ℕ
name_of objects number = slice_index_or objects number []

-- the line that declares a field of one of these objects
abbrev pub field_line : (objects : List (List ℕ)) → Field → List ℕ
field_line objects f = concat (field_word f.is_transient ∷ codes " " ∷ f.name ∷ codes " " ∷ name_of objects f.owner ∷ codes " " ∷ name_of objects f.guard
    ∷ codes " " ∷ decimal f.first ∷ [])

-- a line, with its end
abbrev pub ended : List ℕ → List ℕ
ended line = line ++ codes "\n"

abbrev pub object_lines : List (List ℕ) → List (List ℕ)
object_lines names = map object_line names

abbrev pub field_lines : (objects : List (List ℕ)) → List Field → List (List ℕ)
field_lines objects fields = map (field_line objects) fields

-- the lines that declare all objects, and then all fields
abbrev pub schema_lines : Declarations → List (List ℕ)
schema_lines schema = object_lines schema.objects ++ field_lines schema.objects schema.fields

-- the schema file
abbrev pub schema_text : Declarations → List ℕ
schema_text schema = flat_map ended (schema_lines schema)

-- each name is one that a line may have, and none of those before it
abbrev pub AreNames : (before names : List (List ℕ)) → Type 0
AreNames before [] = Unit {0}
AreNames before (name ∷ names) = IsName name × (Contains before name → ⊥) × AreNames (before ++ name ∷ []) names

-- a schema whose names a file may have
pub record HasNames (schema : Declarations) : Type 0 where
  pub objects : AreNames [] schema.objects
  pub fields : AreNames [] (names_of schema.fields)

-- the field, beginning with another value
abbrev pub begun_with : List ℕ → (number : ℕ) → List Field → List Field
begun_with values number [] = []
begun_with values number (f ∷ fields) = record f { first = slice_index values number } ∷ begun_with values (number + 1) fields

-- the schema, with these first values
abbrev pub beginning_with : (values : List ℕ) → Declarations → Declarations
beginning_with values schema = record schema { fields = begun_with values 0 schema.fields }

-- The lines of a schema's own file declare that schema, and no other.
abbrev pub SchemaTextLaw : Type 0
SchemaTextLaw = (schema : Declarations) → IsSchema schema → HasNames schema
    → DeclaresLines nothing (lines_of (schema_text schema)) schema
    × ((other : Declarations) → DeclaresLines nothing (lines_of (schema_text schema)) other → other ≡ schema)

-- What a file declares has names that a file may have.
abbrev pub NamesLaw : Type 0
NamesLaw = (lines : List (List ℕ)) (schema : Declarations) → DeclaresLines nothing lines schema → HasNames schema
