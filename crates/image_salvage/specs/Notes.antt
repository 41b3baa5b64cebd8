-- The first line of what is salvaged (docs/SCRIPTS.md, "What is left of a damaged image").
use Rattle.std.specs.Prelude.{ℕ, List, codes, ◌++◌}
use Rattle.script_declarations.specs.SchemaText.{beginning_with, ended, schema_text}
use Rattle.script_declarations.specs.SchemaFiles.{DeclaresLines}
use Rattle.guards.specs.Schema.{Declarations}
use Rattle.image_parts.specs.declared.slot.Slot.{Slot}
use Rattle.image_parts.specs.declared.slot.Slot.TheVariants.{A, B}
use Rattle.script_lines.specs.Lines.{lines_of}

-- of home cells
abbrev pub cells_note : List ℕ
cells_note = codes "# the values of the home cells, which needn't be those of one moment"

-- of the heap by a slot
abbrev pub slot_note : Slot → List ℕ
slot_note A = codes "# the heap by control slot a, which needn't be that of one moment"
slot_note B = codes "# the heap by control slot b, which needn't be that of one moment"

-- this first line, and the schema file
abbrev pub noted_text : (note : List ℕ) → Declarations → List ℕ
noted_text note schema = ended note ++ schema_text schema

-- the same of a schema whose fields begin with these values
abbrev pub noted_file : (note : List ℕ) → Declarations → (values : List ℕ) → List ℕ
noted_file note schema values = noted_text note (beginning_with values schema)

-- lines after this first line declare what they declare without it
abbrev pub IsIdle : (note : List ℕ) → Type 0
IsIdle note = (old new : Declarations) (text : List ℕ) → DeclaresLines old (lines_of text) new → DeclaresLines old (lines_of (ended note ++ text)) new

-- The first line of what is salvaged changes nothing of what the file declares.
pub record NoteLaw : Type 0 where
  pub cells : IsIdle cells_note
  pub slots : (slot : Slot) → IsIdle (slot_note slot)
