-- How refusals are told by the declarations, and by a schema file.
use Rattle.std.specs.Prelude.{Result, Ok, Err, alloc_error}
use Rattle.std.specs.declared.alloc.AllocError.{AllocError}
use Rattle.guards.specs.declared.error.SchemaError.{SchemaError}
use Rattle.guards.specs.declared.error.SchemaError.TheVariants as schema
use Rattle.script_lines.specs.declared.error.ScriptErrorKind.{ScriptErrorKind}
use Rattle.script_lines.specs.declared.error.ScriptErrorKind.TheVariants as scripts
use Rattle.script_declarations.specs.declared.declared.Declared.{Declared}
use Rattle.script_declarations.specs.declared.declared.Declared.TheVariants.{Added, Refused}
use Rattle.script_declarations.specs.declared.declared.DeclarationRefusal.TheVariants as why
use Rattle.script_declarations.specs.declared.schema_fault.SchemaFaultKind.{SchemaFaultKind}
use Rattle.script_declarations.specs.declared.schema_fault.SchemaFaultKind.TheVariants as kinds

-- a refusal of the schema's builder; want of memory is no refusal
abbrev pub told_of_schema : SchemaError → Result Declared AllocError
told_of_schema schema.Empty = Ok (Refused why.Empty)
told_of_schema schema.DoubleName = Ok (Refused why.DoubleName)
told_of_schema schema.UnknownObject = Ok (Refused why.Unknown)
told_of_schema schema.TooMany = Ok (Refused why.TooMany)
told_of_schema schema.NoMemory = Err alloc_error

-- a fault of a line's text
abbrev pub told_of_text : ScriptErrorKind → SchemaFaultKind
told_of_text scripts.Syntax = kinds.Syntax
told_of_text scripts.NotText = kinds.NotText
told_of_text scripts.TooLong = kinds.TooLong
told_of_text scripts.Read = kinds.Read
told_of_text scripts.Write = kinds.Read
told_of_text scripts.Memory = kinds.Memory

-- what became of a declaration, if it was added
abbrev pub told_of_declared : Result Declared AllocError → Result Unit SchemaFaultKind
told_of_declared (Ok Added) = Ok tt
told_of_declared (Ok (Refused why.Empty)) = Err kinds.Empty
told_of_declared (Ok (Refused why.DoubleName)) = Err kinds.DoubleName
told_of_declared (Ok (Refused why.Unknown)) = Err kinds.Unknown
told_of_declared (Ok (Refused why.TooMany)) = Err kinds.TooMany
told_of_declared (Err none) = Err kinds.Memory
