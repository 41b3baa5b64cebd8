use Rattle.std.proofs.Common.{◌+◌, rules}
use Rattle.image_parts.specs.Control.{control_of}
use Rattle.image.proofs.EitherGates.{durable_turns}
use Rattle.image.proofs.Committed.{commits, turned_starts}
use Rattle.image.proofs.either_gate.rewrite_spare.Goals as goal

pub returns-in-Ok-clause-commits : goal.returns-in-Ok-clause-commits
returns-in-Ok-clause-commits g c =
    commits turned_starts
    (search rules)
    (search rules)
    (search rules)
    (
    λ old steady is.
    durable_turns c.args.layout.now (g.D.Disk.device c.args.disk.now) (g.D.Disk.device c.commit_pending.new.disk) c.args.chosen old (control_of (c.args.sequence + 1) c.args.rows.now)
    (c.commit_pending.ensures.commits.any_moment old steady is)
    )
    (search rules)

pub returns-in-Err-clause-commits : goal.returns-in-Err-clause-commits
returns-in-Err-clause-commits g c =
    commits turned_starts
    (search rules)
    (search rules)
    (search rules)
    (
    λ old steady is.
    durable_turns c.args.layout.now (g.D.Disk.device c.args.disk.now) (g.D.Disk.device c.commit_pending.new.disk) c.args.chosen old (control_of (c.args.sequence + 1) c.args.rows.now)
    (c.commit_pending.ensures.commits.any_moment old steady is)
    )
    (search rules)
