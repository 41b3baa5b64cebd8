-- Why a schema file gives no names.
use Rattle.std.proofs.Common.{inl, inr, refl}
use Rattle.script_declarations.specs.declared.schema_fault.SchemaFault.{SchemaFault}
use Rattle.script_declarations.specs.declared.schema_fault.SchemaFaultKind.{SchemaFaultKind}
use Rattle.script_declarations.specs.declared.schema_fault.SchemaFaultKind.TheVariants as kinds
use Rattle.image_file.specs.Naming.{IsOfSchemaFile, named_by_kind}

pub of_kind : (kind : SchemaFaultKind) (fault : SchemaFault) → IsOfSchemaFile (named_by_kind kind fault)
of_kind kinds.Read fault = inl refl
of_kind kinds.Memory fault = inr refl
of_kind kinds.Syntax fault = tt
of_kind kinds.NotText fault = tt
of_kind kinds.TooLong fault = tt
of_kind kinds.Empty fault = tt
of_kind kinds.DoubleName fault = tt
of_kind kinds.Unknown fault = tt
of_kind kinds.TooMany fault = tt
