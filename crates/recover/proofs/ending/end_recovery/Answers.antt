use Rattle.std.proofs.Common.{◌+◌}
use Rattle.block_disk.proofs.Images.{always_now}
use Rattle.image_parts.specs.Control.{empty_control}
use Rattle.image_parts.specs.Slots.{Shows, other}
use Rattle.image_parts.proofs.Fresh.{empty_rows}
use Rattle.recover.proofs.EndingLemmas.{steady_synced, end_leaves}
use Rattle.recover.proofs.ending.end_recovery.Goals as goal

pub commit_control-requires-clause-rows : goal.commit_control-requires-clause-rows
commit_control-requires-clause-rows g c = empty_rows c.args.layout.now

pub commit_control-requires-clause-steady : goal.commit_control-requires-clause-steady
commit_control-requires-clause-steady g c =
    let shown = c.requires.shows in
    (shown.0, steady_synced c.args.layout.now (g.D.Disk.device c.args.disk.now) (g.D.Disk.device c.sync.new.disk) c.args.chosen shown.0 c.in_ok-sync.ensures.ok shown.2, shown.1)

pub returns-in-Ok-clause-ok : goal.returns-in-Ok-clause-ok
returns-in-Ok-clause-ok g c =
    always_now (g.D.Disk.device c.commit_control.new.disk) (λ image. Shows c.args.layout.now image (other c.args.chosen) (empty_control (c.args.sequence + 1))) c.in-Ok.ensures.commits.ok.shows

pub returns-in-Ok-clause-any_moment : goal.returns-in-Ok-clause-any_moment
returns-in-Ok-clause-any_moment g c = λ old same shows.
    let d = g.D.Disk.device c.args.disk.now in
    let mid = g.D.Disk.device c.sync.new.disk in
    end_leaves c.args.layout.now d mid (g.D.Disk.device c.commit_control.new.disk) c.args.chosen old c.args.sequence c.in_ok-sync.ensures.ok same
    (c.commit_control.ensures.commits.any_moment old (steady_synced c.args.layout.now d mid c.args.chosen old c.in_ok-sync.ensures.ok shows) same)

pub returns-in-Err-clause-any_moment : goal.returns-in-Err-clause-any_moment
returns-in-Err-clause-any_moment g c = λ old same shows.
    let d = g.D.Disk.device c.args.disk.now in
    let mid = g.D.Disk.device c.sync.new.disk in
    end_leaves c.args.layout.now d mid (g.D.Disk.device c.commit_control.new.disk) c.args.chosen old c.args.sequence c.in_ok-sync.ensures.ok same
    (c.commit_control.ensures.commits.any_moment old (steady_synced c.args.layout.now d mid c.args.chosen old c.in_ok-sync.ensures.ok shows) same)
