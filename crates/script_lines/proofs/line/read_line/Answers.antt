use Rattle.std.proofs.Common.{rules, ap}
use Rattle.std.specs.Option.{option_map}
use Rattle.script_lines.proofs.FaultLemmas.{no_form, only}
use Rattle.script_lines.specs.Orders.{order_of}
use Rattle.script_lines.proofs.line.read_line.Goals as goal

pub returns-in_default-clause-fault : goal.returns-in_default-clause-fault
returns-in_default-clause-fault c = (search rules, search rules, no_form c.args.line.now _ (ap (option_map order_of) c.in_default.is) c.parse.ensures)

pub returns-clause-ok : goal.returns-clause-ok
returns-clause-ok c = (c.parse.ensures (order_of c.in-Some.command)).0 (ap (option_map order_of) c.in-Some.is)

pub returns-clause-own : goal.returns-clause-own
returns-clause-own c = λ other asks. only c.args.line.now _ (order_of c.in-Some.command) (ap (option_map order_of) c.in-Some.is) c.parse.ensures other asks
