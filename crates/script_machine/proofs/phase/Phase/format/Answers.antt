use Rattle.std.proofs.Common.{IfOk, sym, subst}
use Rattle.script_lines.specs.Orders as order
use Rattle.script_machine.specs.Machine as machine
use Rattle.script_machine.specs.Phases.{shown}
use Rattle.script_machine.specs.declared.phase.Phase.{Phase}
use Rattle.script_machine.proofs.phase.Phase.format.Goals as goal

pub returns-in-Declaring : goal.returns-in-Declaring
returns-in-Declaring c =
    subst (λ (p : Phase). IfOk c.format_declared.result (λ r. machine.Steps (shown p) (order.Format c.args.lanes c.args.capacity) r.1 (shown r.0))) (sym c.in-Declaring.is) c.format_declared.ensures
