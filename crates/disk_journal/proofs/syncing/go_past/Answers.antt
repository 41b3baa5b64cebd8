use Rattle.std.proofs.Common.{◌+◌, not, [], arith}
use Rattle.journal_batches.specs.Entries.{replayed}
use Rattle.journal_batches.specs.Shown.{shown}
use Rattle.atomic_sectors.proofs.Calculus.{leaves_weaker, syncs_then}
use Rattle.std.proofs.lemmas.Result.{IfOk-weaker, on_ok_weaker}
use Rattle.disk_journal.specs.Stands.{IsAllHome, IsAtRest}
use Rattle.disk_journal.proofs.KeptLemmas.{has_page, next_brings, past_leaves, still_mixed}
use Rattle.disk_journal.proofs.SettlingLemmas.{rest_brings}
use Rattle.disk_journal.proofs.syncing.go_past.Goals as goal

pub clear-requires-clause-newest : goal.clear-requires-clause-newest
clear-requires-clause-newest g c =
    let d = g.D.Disk.device c.args.disk.now in
    (c.rests_law.ensures c.args.areas c.args.second c.args.stamp c.args.last.now (shown c.args.areas d.now.bytes) d.now.bytes c.requires.rest.rests).1

pub clear-requires-clause-spells : goal.clear-requires-clause-spells
clear-requires-clause-spells g c =
    let d = g.D.Disk.device c.args.disk.now in
    let page = has_page c.args.areas c.args.second c.args.stamp c.args.last.now (shown c.args.areas d.now.bytes) d.now.bytes c.requires.rest.rests in
    record { fits = page; stamp_fits = omega arith; words = λ k e within. absurd (omega (arith, within)); count_fits = omega arith }

pub clear-requires-clause-brings : goal.clear-requires-clause-brings
clear-requires-clause-brings g c = rest_brings c.requires.rest

pub returns-in_err-clear-clause-left : goal.returns-in_err-clear-clause-left
returns-in_err-clear-clause-left g c =
    let before = (g.D.Disk.device c.args.disk.now).now.bytes in
    leaves_weaker (still_mixed c.args.areas (replayed c.args.next.now (shown c.args.areas before)) before) c.in_err-clear.ensures.left

pub returns-clause-left : goal.returns-clause-left
returns-clause-left g c =
    let old = g.D.Disk.device c.args.disk.now in
    let mid = g.D.Disk.device c.clear.new.disk in
    let image = shown c.args.areas old.now.bytes in
    past_leaves c.args.areas (replayed c.args.next.now image) old mid (g.D.Disk.device c.pass.new.disk) c.requires.rest.durable c.in_ok-clear.ensures.left
    (c.pass.ensures.left (replayed c.args.next.now image)
    (next_brings c.args.areas (not c.args.second) (c.args.stamp + 2) c.args.next.now image mid c.in_ok-clear.ensures.home c.in_ok-clear.ensures.image
    c.requires.own))

pub returns-clause-image : goal.returns-clause-image
returns-clause-image g c =
    let old = g.D.Disk.device c.args.disk.now in
    let mid = g.D.Disk.device c.clear.new.disk in
    let image = shown c.args.areas old.now.bytes in
    c.pass.ensures.image (replayed c.args.next.now image)
    (next_brings c.args.areas (not c.args.second) (c.args.stamp + 2) c.args.next.now image mid c.in_ok-clear.ensures.home c.in_ok-clear.ensures.image
    c.requires.own)

pub returns-clause-rest : goal.returns-clause-rest
returns-clause-rest g c =
    let old = g.D.Disk.device c.args.disk.now in
    let mid = g.D.Disk.device c.clear.new.disk in
    let new = g.D.Disk.device c.pass.new.disk in
    let image = shown c.args.areas old.now.bytes in
    let home = c.pass.ensures.home (replayed c.args.next.now image)
    (next_brings c.args.areas (not c.args.second) (c.args.stamp + 2) c.args.next.now image mid c.in_ok-clear.ensures.home c.in_ok-clear.ensures.image
    c.requires.own) in
    IfOk-weaker c.pass.result (λ u. IsAllHome c.args.areas (not c.args.second) (c.args.stamp + 2) new)
    (λ u. IsAtRest c.args.areas (not c.args.second) (c.args.stamp + 2) [] new)
    (λ u home. record { durable = home.durable; rests = home.cleared.rests }) home

pub returns-clause-three_syncs : goal.returns-clause-three_syncs
returns-clause-three_syncs g c = on_ok_weaker c.pass.result (λ one. syncs_then c.in_ok-clear.ensures.two_syncs one) c.pass.ensures.one_sync
