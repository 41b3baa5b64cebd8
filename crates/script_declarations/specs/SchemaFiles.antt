-- What a schema file declares, and where it is refused (docs/SCRIPTS.md, "The program's fault texts").
use Rattle.std.specs.Prelude.{◌≡◌, ◌⊎◌, ℕ, ◌+◌, ◌-◌, ◌<◌, ◌≤◌, Bool, true, false, IsTrue, List, [], ◌∷◌, Option, Some, Result, IfErr, length, take, slice_get}
use Rattle.std.specs.Str.{IsAscii}
use Rattle.guards.specs.Schema.{Declarations, object_count, field_count, nothing}
use Rattle.script_lines.specs.declared.line.TheConstants.{LONGEST_LINE}
use Rattle.script_lines.specs.declared.reader.Ending.{Ending}
use Rattle.script_lines.specs.declared.reader.Ending.TheVariants as endings
use Rattle.script_declarations.specs.Declares.{Declares}
use Rattle.script_declarations.specs.declared.declared.Declared.{Declared}
use Rattle.script_declarations.specs.declared.declared.Declared.TheVariants.{Added, Refused}
use Rattle.script_declarations.specs.declared.declared.DeclarationRefusal.TheVariants as why
use Rattle.script_declarations.specs.declared.schema_fault.SchemaFault.{SchemaFault}
use Rattle.script_declarations.specs.declared.schema_fault.SchemaFaultKind.{SchemaFaultKind}
use Rattle.script_declarations.specs.declared.schema_fault.SchemaFaultKind.TheVariants as kinds
use Rattle.script_lines.specs.Grammar.{Asks}
use Rattle.script_lines.specs.Lines.{IsText, IsSkipped}
use Rattle.script_lines.specs.Orders as order
use Rattle.script_lines.specs.Orders.{Order}
use Rattle.script_lines.specs.Endings.{IsWhole, OfScript}

-- an object or a field is declared
abbrev pub declares : Order → Bool
declares (order.Object name) = true
declares (order.Field name owner guard first is_transient) = true
declares _ = false

-- the line declares this
abbrev pub IsDeclaration : Order → List ℕ → Type 0
IsDeclaration order line = Asks order line × IsTrue (declares order)

-- what the line declares is told so
pub record DeclaresBy (old : Declarations) (line : List ℕ) (said : Declared) (new : Declarations) : Type 0 where
  pub order : Order
  pub text : IsText line
  pub asks : Asks order line
  pub declares : Declares old order said new

-- the line declares something, or is skipped
abbrev pub DeclaresLine : Declarations → List ℕ → Declarations → Type 0
DeclaresLine old line new = (IsText line × IsSkipped line × (new ≡ old)) ⊎ DeclaresBy old line Added new

-- the lines do, one after the other
abbrev pub DeclaresLines : Declarations → List (List ℕ) → Declarations → Type 0
DeclaresLines old [] new = new ≡ old
DeclaresLines old (line ∷ lines) new = (middle : Declarations) × DeclaresLine old line middle × DeclaresLines middle lines new

-- what the declarations refuse, and for want of memory any declaration
abbrev pub RefusesDeclaration : Declarations → Order → SchemaFaultKind → Type 0
RefusesDeclaration d order kinds.Syntax = declares order ≡ false
RefusesDeclaration d order kinds.NotText = ⊥
RefusesDeclaration d order kinds.TooLong = ⊥
RefusesDeclaration d order kinds.Read = ⊥
RefusesDeclaration d order kinds.Memory = IsTrue (declares order)
RefusesDeclaration d order kinds.Empty = Declares d order (Refused why.Empty) d
RefusesDeclaration d order kinds.DoubleName = Declares d order (Refused why.DoubleName) d
RefusesDeclaration d order kinds.Unknown = Declares d order (Refused why.Unknown) d
RefusesDeclaration d order kinds.TooMany = Declares d order (Refused why.TooMany) d

-- what they refuse of a field, where something was wrong
abbrev pub RefusesField : {T : Type 0} (old : Declarations) (name owner guard : List ℕ) (first : ℕ) (is_transient : Bool)
    → Result T SchemaFaultKind → Type 0
RefusesField old name owner guard first is_transient result =
    IfErr result (RefusesDeclaration old (order.Field name owner guard first is_transient))

-- what is wrong with a line, after these declarations
abbrev pub RefusesLine : Declarations → List ℕ → SchemaFaultKind → Type 0
RefusesLine d line kinds.Syntax = IsText line × (IsSkipped line → ⊥) × ((order : Order) → IsDeclaration order line → ⊥)
RefusesLine d line kinds.NotText = (length line ≤ LONGEST_LINE) × (IsAscii line → ⊥)
RefusesLine d line kinds.TooLong = LONGEST_LINE < length line
RefusesLine d line kinds.Read = ⊥
RefusesLine d line kinds.Memory = IsText line × (order : Order) × IsDeclaration order line
RefusesLine d line kinds.Empty = DeclaresBy d line (Refused why.Empty) d
RefusesLine d line kinds.DoubleName = DeclaresBy d line (Refused why.DoubleName) d
RefusesLine d line kinds.Unknown = DeclaresBy d line (Refused why.Unknown) d
RefusesLine d line kinds.TooMany = DeclaresBy d line (Refused why.TooMany) d

-- the file is refused at one of its lines, counted from 1; those before it declare what they say
pub record RefusesAt (start : Declarations) (lines : List (List ℕ)) (fault : SchemaFault) : Type 0 where
  pub line : List ℕ
  pub declared : Declarations
  pub counted : 1 ≤ fault.line
  pub there : slice_get lines (fault.line - 1) ≡ Some line
  pub before : DeclaresLines start (take (fault.line - 1) lines) declared
  pub why : RefusesLine declared line fault.why

-- why the line after the last was not had
abbrev pub IsCut : Ending → SchemaFaultKind → Type 0
IsCut endings.Whole kind = ⊥
IsCut endings.TooLong kind = kind ≡ kinds.TooLong
IsCut endings.Fault kind = kind ≡ kinds.Read
IsCut endings.NoMemory kind = kind ≡ kinds.Memory

-- it is refused at the line after them, which was not had
pub record RefusesBehind (lines : List (List ℕ)) (ending : Ending) (fault : SchemaFault) : Type 0 where
  pub declared : Declarations
  pub counted : fault.line ≡ length lines + 1
  pub before : DeclaresLines nothing lines declared
  pub why : IsCut ending fault.why

-- it ends, and declares no object or no field; the last line is told, or 0 where there is none
pub record RefusesEmpty (lines : List (List ℕ)) (ending : Ending) (fault : SchemaFault) : Type 0 where
  pub declared : Declarations
  pub whole : IsWhole ending
  pub counted : fault.line ≡ length lines
  pub before : DeclaresLines nothing lines declared
  pub empty : (object_count declared ≡ 0) ⊎ (field_count declared ≡ 0)
  pub why : fault.why ≡ kinds.Empty

-- the bytes that were read are a schema file that declares this
abbrev pub DeclaresSchema : (old new : Option (List ℕ)) → Declarations → Type 0
DeclaresSchema old new declared = OfScript old new (λ lines ending. IsWhole ending × DeclaresLines nothing lines declared)

-- they are one that is refused: at which line, and why
abbrev pub RefusesSchema : (old new : Option (List ℕ)) → SchemaFault → Type 0
RefusesSchema old new fault = OfScript old new
    (λ lines ending. RefusesAt nothing lines fault ⊎ RefusesBehind lines ending fault ⊎ RefusesEmpty lines ending fault)
