use Rattle.std.proofs.Common.{refl}
use Rattle.image_parts.specs.Control.{empty_control}
use Rattle.image_tests.proofs.commits.commit.Goals as goal

pub commit_control-requires-clause-rows : goal.commit_control-requires-clause-rows
commit_control-requires-clause-rows c = c.empty_rows_law.ensures c.args.layout.now

pub commit_control-requires-clause-steady : goal.commit_control-requires-clause-steady
commit_control-requires-clause-steady c = (empty_control c.args.sequence, c.requires.steady, refl)
