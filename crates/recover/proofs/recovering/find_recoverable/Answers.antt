use Rattle.std.proofs.Common.{MatchResult, subst}
use Rattle.std.proofs.lemmas.Result.{err_from_is_err_and}
use Rattle.block_disk.specs.Device.{Moment}
use Rattle.recover.specs.Reading.{RefusesLive}
use Rattle.recover.specs.Recovery.{IsTooOld}
use Rattle.recover.specs.Study.{IsStudyOf}
use Rattle.recover.proofs.RecoveryLemmas.{not_old, recoverable_if, refused_front, refused_old, taken_if}
use Rattle.recover.proofs.recovering.find_recoverable.Goals as goal

pub returns-in_err-front-clause-exact : goal.returns-in_err-front-clause-exact
returns-in_err-front-clause-exact g c =
    let p = err_from_is_err_and c.from_residual.result c.from_residual.ensures.1 in
    rw (p.1, p.2) (refused_front c.args.versions (g.D.Disk.device c.args.disk.now).now.bytes c.in_err-front.field-0.0 c.in_err-front.ensures.exact)

pub returns-in_err-test_version-clause-exact : goal.returns-in_err-test_version-clause-exact
returns-in_err-test_version-clause-exact g c =
    let front = c.in_ok-front.front in
    let p = err_from_is_err_and c.from_residual-in_err-test_version.result c.from_residual-in_err-test_version.ensures.1 in
    rw (p.1, p.2) (refused_old c.args.versions (g.D.Disk.device c.args.disk.now).now.bytes front.layout front.guards.items front.slot front.control c.in_err-test_version.field-0.0 c.in_ok-front.ensures.exact
    c.in_err-test_version.ensures.exact.0 c.in_err-test_version.ensures.exact.1 c.in_err-test_version.ensures.only)

pub returns-then-front-clause-exact : goal.returns-then-front-clause-exact
returns-then-front-clause-exact g c =
    let front = c.in_ok-front.front in
    let has = c.in_ok-front.ensures.exact in (
      not_old c.args.versions (g.D.Disk.device c.args.disk.now).now.bytes front.layout front.guards.items front.slot front.control has c.in_ok-test_version.ensures.exact,
      record { layout = front.layout; guards = front.guards.items; slot = front.slot; control = front.control; shown = has; last = c.if-front.true },
    )

pub returns-clause-exact : goal.returns-clause-exact
returns-clause-exact g c =
    let front = c.in_ok-front.front in
    recoverable_if c.args.versions (g.D.Disk.device c.args.disk.now).now.bytes front.layout front.guards.items front.slot front.control c.find_out.result c.in_ok-front.ensures.exact c.in_ok-test_version.ensures.exact c.if-front.false
    (subst (λ (m : Moment). MatchResult c.find_out.result (λ found. IsStudyOf m.bytes found.study) (RefusesLive m.bytes front.layout front.guards.items front.control)) c.read_front.ensures.same.now c.find_out.ensures.exact)

pub returns-clause-taken : goal.returns-clause-taken
returns-clause-taken g c =
    let front = c.in_ok-front.front in
    let image = (g.D.Disk.device c.args.disk.now).now.bytes in
    taken_if c.find_out.result (IsTooOld c.args.versions image → ⊥) (not_old c.args.versions image front.layout front.guards.items front.slot front.control c.in_ok-front.ensures.exact c.in_ok-test_version.ensures.exact)
