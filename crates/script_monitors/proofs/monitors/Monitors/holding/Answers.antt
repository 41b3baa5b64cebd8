use Rattle.script_monitors.proofs.StateLemmas.{state_of-free}
use Rattle.script_monitors.proofs.monitors.Monitors.holding.Goals as goal

pub returns-clause-state : goal.returns-clause-state
returns-clause-state c = state_of-free (record { schema = c.args.schema; last = c.args.last; monitors = c.in-Ok.monitors.items; pauses = c.in-Ok-awake.pauses.items; values = c.args.values.items }) c.objects.result c.args.lanes c.in-Ok.ensures c.in-Ok-awake.ensures
