use Rattle.std.proofs.Common.{◌+◌, rules}
use Rattle.std.proofs.lemmas.Result.{on_ok_weaker}
use Rattle.image_parts.specs.Control.{control_bytes, control_of}
use Rattle.image.proofs.Spares.{after_closing, after_commit, after_syncing, pending_made, steady_synced}
use Rattle.image.proofs.Committed.{commits, durable_starts}
use Rattle.image.proofs.pending.commit_pending.Goals as goal

pub returns-in_err-close_spare-clause-commits : goal.returns-in_err-close_spare-clause-commits
returns-in_err-close_spare-clause-commits g c =
    commits durable_starts
    (search rules)
    (search rules)
    (search rules)
    (
    λ old steady is.
    after_closing c.args.layout.now (g.D.Disk.device c.args.disk.now) c.args.chosen old steady (g.D.Disk.device c.close_spare.new.disk)
    (c.close_spare.ensures.any_moment old steady) (control_of (c.args.sequence + 1) c.args.rows.now)
    )
    (search rules)

pub returns-in_err-make_durable-clause-commits : goal.returns-in_err-make_durable-clause-commits
returns-in_err-make_durable-clause-commits g c =
    commits durable_starts
    (search rules)
    (search rules)
    (search rules)
    (
    λ old steady is.
    after_syncing c.args.layout.now (g.D.Disk.device c.args.disk.now) c.args.chosen old steady (g.D.Disk.device c.close_spare.new.disk)
    (c.close_spare.ensures.any_moment old steady) (control_of (c.args.sequence + 1) c.args.rows.now)
    (g.D.Disk.device c.make_durable.new.disk) c.make_durable.ensures.any_moment
    )
    (search rules)

pub commit_control-requires-clause-steady : goal.commit_control-requires-clause-steady
commit_control-requires-clause-steady g c =
    let r = c.requires.steady in (
      r.0,
      steady_synced c.args.layout.now (g.D.Disk.device c.args.disk.now) c.args.chosen r.0 r.1 (g.D.Disk.device c.close_spare.new.disk)
          (c.close_spare.ensures.any_moment r.0 r.1) (g.D.Disk.device c.make_durable.new.disk) c.in_ok-make_durable.ensures.ok,
      r.2,
    )

pub returns-clause-commits : goal.returns-clause-commits
returns-clause-commits g c =
    commits durable_starts
    (search rules)
    (search rules)
    (
    on_ok_weaker c.commit_control.result
    (λ three. pending_made c.args.chosen (control_bytes (control_of (c.args.sequence + 1) c.args.rows.now)) (g.D.Disk.device c.args.disk.now)
    (g.D.Disk.device c.close_spare.new.disk) (g.D.Disk.device c.make_durable.new.disk) (g.D.Disk.device c.commit_control.new.disk)
    c.in_ok-close_spare.ensures.calls c.in_ok-make_durable.ensures.ok c.in_ok-close_spare.ensures.closed three)
    c.commit_control.ensures.commits.calls
    )
    (
    λ old steady is.
    let l = c.args.layout.now in
    let d = g.D.Disk.device c.args.disk.now in
    let d1 = g.D.Disk.device c.close_spare.new.disk in
    let d2 = g.D.Disk.device c.make_durable.new.disk in
    let closing = c.close_spare.ensures.any_moment old steady in
    after_commit l d c.args.chosen old steady d1 closing (control_of (c.args.sequence + 1) c.args.rows.now)
    c.in_ok-close_spare.ensures.calls d2 c.in_ok-make_durable.ensures.ok c.make_durable.ensures.any_moment (g.D.Disk.device c.commit_control.new.disk)
    (c.commit_control.ensures.commits.any_moment old (steady_synced l d c.args.chosen old steady d1 closing d2 c.in_ok-make_durable.ensures.ok) is)
    )
    (search rules)
