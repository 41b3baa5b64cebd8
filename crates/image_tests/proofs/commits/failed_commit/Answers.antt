use Rattle.std.proofs.Common.{sym, subst}
use Rattle.block_disk.specs.Memory.{Memory, device_of}
use Rattle.image.specs.Commit.{IsSteady}
use Rattle.image_parts.specs.Control.{empty_control}
use Rattle.image_tests.proofs.commits.failed_commit.Goals as goal

pub commit-requires-clause-steady : goal.commit-requires-clause-steady
commit-requires-clause-steady c =
    subst (λ (m : Memory). IsSteady c.args.layout.now (device_of m) c.args.chosen (empty_control c.args.sequence)) (sym c.fail_call.ensures) c.requires.steady
