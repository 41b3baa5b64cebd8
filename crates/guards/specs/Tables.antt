-- What the tables of a builder or a schema declare.
use Rattle.std.specs.Prelude.{List, map, String, string_bytes}
use Rattle.std.specs.Global.{Global}
use Rattle.guards.specs.declared.field_row.FieldRow.{FieldRow}
use Rattle.guards.specs.Schema.{Field, Declarations, field_of}
use Rattle.guards.specs.Names.{names_in}

-- the field that an entry declares
abbrev pub field_in : String Global × FieldRow → Field
field_in entry = field_of (string_bytes entry.0) entry.1.owner entry.1.guard entry.1.first entry.1.is_transient

-- the fields that the entries declare
abbrev pub fields_in : List (String Global × FieldRow) → List Field
fields_in entries = map field_in entries

-- what the entries of both tables declare
abbrev pub declared_by : List (String Global × Unit {0}) → List (String Global × FieldRow) → Declarations
declared_by objects fields = record { objects = names_in objects; fields = fields_in fields }
