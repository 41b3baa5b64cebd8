use Rattle.std.proofs.Common.{length}
use Rattle.script_declarations.proofs.SchemaLemmas.{IsDeclared}
use Rattle.script_declarations.proofs.schema_file.declare_lines.Given as goal

abbrev pub invariant-loop-rest : goal.invariant-loop-rest
invariant-loop-rest l = IsDeclared l.initial.declaring l.lines l.declaring l.rest l.count

abbrev pub decreases-loop-rest : goal.decreases-loop-rest
decreases-loop-rest l = length l.rest
