use Rattle.std.proofs.Common.{sym, subst}
use Rattle.heap_model.specs.Sections.{undo_action}
use Rattle.model_tests.specs.Known.{Follows}
use Rattle.model_tests.proofs.Knowing.{store_follows}
use Rattle.model_tests.proofs.graphs.known.after.Goals as goal

pub returns-in-Put-clause-follows : goal.returns-in-Put-clause-follows
returns-in-Put-clause-follows c = subst (λ e. Follows c.args.known.taken c.args.known.freed c.args.known.holders c.args.lane.0 (undo_action e) c.args.known.taken c.args.known.freed c.args.known.holders) (sym c.in-Put.is)
    (store_follows c.args.known.taken c.args.known.freed c.args.known.holders c.args.lane.0)
