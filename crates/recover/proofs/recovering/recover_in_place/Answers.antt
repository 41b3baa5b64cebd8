use Rattle.std.proofs.Common.{◌≤◌, arith, inr, subst}
use Rattle.std.proofs.lemmas.Result.{err_from_is_err_and}
use Rattle.block_disk.specs.Device.{Device, SameMoments, synced}
use Rattle.block_disk.proofs.Images.{stays}
use Rattle.recover.specs.Recovery.{IsOnTheWay, IsTooOld, RefusesOf}
use Rattle.recover.specs.Study.{IsStudyOf}
use Rattle.recover.proofs.RecoveryLemmas.{made_by, since_synced}
use Rattle.recover.proofs.StudyLemmas.{ok_cause}
use Rattle.recover.proofs.recovering.recover_in_place.Goals as goal

pub returns-in_err-finish-clause-interrupted : goal.returns-in_err-finish-clause-interrupted
returns-in_err-finish-clause-interrupted g c =
    let p = err_from_is_err_and c.from_residual-in_err-finish.result c.from_residual-in_err-finish.ensures.1 in
    let s = c.in_ok-found.found.study in
    let d0 = g.D.Disk.device c.args.disk.now in
    let d1 = g.D.Disk.device c.sync.new.disk in
    let d2 = g.D.Disk.device c.find_recoverable.new.disk in
    let d3 = g.D.Disk.device c.finish.new.disk in
    rw p.1 (λ t of. inr (since_synced s d0 d1 d2 d3 c.in_ok-sync.ensures.ok c.find_recoverable.ensures.same c.in_ok-found.ensures.exact c.finish.ensures.any_moment t of))

pub returns-in_err-finish-clause-cut_off : goal.returns-in_err-finish-clause-cut_off
returns-in_err-finish-clause-cut_off g c =
    let p = err_from_is_err_and c.from_residual-in_err-finish.result c.from_residual-in_err-finish.ensures.1 in
    let s = c.in_ok-found.found.study in
    let d0 = g.D.Disk.device c.args.disk.now in
    let d1 = g.D.Disk.device c.sync.new.disk in
    let d2 = g.D.Disk.device c.find_recoverable.new.disk in
    let d3 = g.D.Disk.device c.finish.new.disk in
    let of : IsStudyOf d0.now.bytes s = subst (λ (d : Device). IsStudyOf d.now.bytes s) c.in_ok-sync.ensures.ok c.in_ok-found.ensures.exact in
    rw p.1 (inr (inr (s, of, since_synced s d0 d1 d2 d3 c.in_ok-sync.ensures.ok c.find_recoverable.ensures.same c.in_ok-found.ensures.exact c.finish.ensures.any_moment s of)))

pub returns-in_err-finish-clause-too_old : goal.returns-in_err-finish-clause-too_old
returns-in_err-finish-clause-too_old g c =
    let p = err_from_is_err_and c.from_residual-in_err-finish.result c.from_residual-in_err-finish.ensures.1 in
    let taken = subst (λ (d : Device). IsTooOld c.args.versions d.now.bytes → ⊥) c.in_ok-sync.ensures.ok c.in_ok-found.ensures.taken in
    rw p.1 (λ old. absurd (taken old))

pub returns-clause-made : goal.returns-clause-made
returns-clause-made g c =
    let s = c.in_ok-found.found.study in
    let d0 = g.D.Disk.device c.args.disk.now in
    let d1 = g.D.Disk.device c.sync.new.disk in
    let d2 = g.D.Disk.device c.find_recoverable.new.disk in
    let d3 = g.D.Disk.device c.finish.new.disk in
    made_by s c.in_ok-found.found.undone.items d0 d1 d2 d3 c.in_ok-sync.ensures.ok c.find_recoverable.ensures.same c.in_ok-found.ensures.undone c.in_ok-finish.ensures.calls

pub returns-clause-any_moment : goal.returns-clause-any_moment
returns-clause-any_moment g c = λ t of.
    let s = c.in_ok-found.found.study in
    let d0 = g.D.Disk.device c.args.disk.now in
    let d1 = g.D.Disk.device c.sync.new.disk in
    let d2 = g.D.Disk.device c.find_recoverable.new.disk in
    let d3 = g.D.Disk.device c.finish.new.disk in
    since_synced s d0 d1 d2 d3 c.in_ok-sync.ensures.ok c.find_recoverable.ensures.same c.in_ok-found.ensures.exact c.finish.ensures.any_moment t of

pub returns-in_err-found-clause-interrupted : goal.returns-in_err-found-clause-interrupted
returns-in_err-found-clause-interrupted g c =
    let p = err_from_is_err_and c.from_residual-in_err-found.result c.from_residual-in_err-found.ensures.1 in
    let d0 = g.D.Disk.device c.args.disk.now in
    let d2 = g.D.Disk.device c.find_recoverable.new.disk in
    let read = subst (λ (d : Device). SameMoments d d2) c.in_ok-sync.ensures.ok c.find_recoverable.ensures.same in
    rw p.1 (λ t of. inr (stays (synced d0) d2 (IsOnTheWay t) read))

pub returns-in_err-found-clause-too_old : goal.returns-in_err-found-clause-too_old
returns-in_err-found-clause-too_old g c =
    let p = err_from_is_err_and c.from_residual-in_err-found.result c.from_residual-in_err-found.ensures.1 in
    let d0 = g.D.Disk.device c.args.disk.now in
    let d2 = g.D.Disk.device c.find_recoverable.new.disk in
    let read = subst (λ (d : Device). SameMoments d d2) c.in_ok-sync.ensures.ok c.find_recoverable.ensures.same in
    rw p.1 (λ old. inr read)

pub returns-in_err-found-clause-refused : goal.returns-in_err-found-clause-refused
returns-in_err-found-clause-refused g c =
    let p = err_from_is_err_and c.from_residual-in_err-found.result c.from_residual-in_err-found.ensures.1 in
    rw (p.1, p.2) (subst (λ (d : Device). RefusesOf c.args.versions d.now.bytes c.in_err-found.field-0.0) c.in_ok-sync.ensures.ok c.in_err-found.ensures.exact)

pub returns-clause-cause : goal.returns-clause-cause
returns-clause-cause g c =
    let d0 = (g.D.Disk.device c.args.disk.now).failures in
    let d3 = (g.D.Disk.device c.finish.new.disk).failures in
    let later : d0 ≤ d3 = omega (arith, c.sync.ensures.cause.later, c.find_recoverable.ensures.cause.later, c.finish.ensures.cause.later) in
    ok_cause d0 d3 _ later
