use Rattle.std.proofs.Common.{◌≤◌, subst, arith}
use Rattle.std.proofs.lemmas.Result.{err_from_is_err_and}
use Rattle.block_disk.specs.Device.{Moment}
use Rattle.recover.specs.Reading.{RefusesLive}
use Rattle.recover.proofs.ReadingLemmas.{refused_live}
use Rattle.recover.proofs.StudyLemmas.{ok_cause}
use Rattle.recover.proofs.studying.study.Goals as goal

pub returns-in_err-findings-clause-exact : goal.returns-in_err-findings-clause-exact
returns-in_err-findings-clause-exact g c =
    let front = c.in_ok-front.front in
    let e = c.in_err-findings.field-0.0 in
    let p = err_from_is_err_and c.from_residual-in_err-findings.result c.from_residual-in_err-findings.ensures.1 in
    rw (p.1, p.2) (refused_live (g.D.Disk.device c.args.disk.now).now.bytes front.layout front.guards.items front.slot front.control e c.in_ok-front.ensures.exact
    (subst (λ (m : Moment). RefusesLive m.bytes front.layout front.guards.items front.control e) c.read_front.ensures.same.now c.in_err-findings.ensures.exact))

pub returns-clause-cause : goal.returns-clause-cause
returns-clause-cause g c =
    let d0 = (g.D.Disk.device c.args.disk.now).failures in
    let d2 = (g.D.Disk.device c.find_out.new.disk).failures in
    let later : d0 ≤ d2 = omega (arith, c.read_front.ensures.cause.later, c.find_out.ensures.cause.later) in
    ok_cause d0 d2 _ later
