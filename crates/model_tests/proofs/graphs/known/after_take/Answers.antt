use Rattle.std.proofs.Common.{arith}
use Rattle.model_tests.proofs.Knowing.{take_follows}
use Rattle.model_tests.proofs.graphs.known.after_take.Goals as goal

pub returns-clause-follows : goal.returns-clause-follows
returns-clause-follows c = take_follows c.args.known.taken c.args.known.freed c.args.known.holders c.args.lane.0 c.args.object.0 c.args.number (omega arith) (omega arith) (omega arith)
