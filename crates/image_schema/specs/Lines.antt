-- A schema file: its lines, by number, and its parts.
use Rattle.std.specs.Prelude.{ℕ, List, [], slice_index_or}
use Rattle.guards.specs.Schema.{Declarations, guard_of, is_transient_of, names_of, owner_of}
use Rattle.std.specs.List.{flat_map}
use Rattle.script_declarations.specs.SchemaText.{beginning_with, begun_with, ended, field_line, field_lines, name_of, object_line, object_lines, schema_text}

-- the line of the object of this number
abbrev pub object_at : Declarations → ℕ → List ℕ
object_at schema object = ended (object_line (name_of schema.objects object))

-- the line of the field of this number, with this first value
abbrev pub field_at : Declarations → ℕ → (value : ℕ) → List ℕ
field_at schema field value = ended (field_line schema.objects (record {
  name = slice_index_or (names_of schema.fields) field [];
  owner = owner_of schema field;
  guard = guard_of schema field;
  first = value;
  is_transient = is_transient_of schema field;
}))

-- the lines of all objects
abbrev pub objects_of_file : Declarations → List ℕ
objects_of_file schema = flat_map ended (object_lines schema.objects)

-- the lines of all fields, which begin with these values
abbrev pub fields_of_file : Declarations → (values : List ℕ) → List ℕ
fields_of_file schema values = flat_map ended (field_lines schema.objects (begun_with values 0 schema.fields))

-- the schema file of a schema whose fields begin with these values
abbrev pub file_of : Declarations → (values : List ℕ) → List ℕ
file_of schema values = schema_text (beginning_with values schema)
