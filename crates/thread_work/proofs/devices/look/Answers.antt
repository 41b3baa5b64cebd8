use Rattle.std.proofs.Common.{◌≡◌, Err, true, false, ap, sym, ◌∙◌}
use Rattle.thread_work.proofs.Refused.{study_stops}
use Rattle.thread_work.proofs.devices.look.Goals as goal

pub returns-in-Err-clause-refused : goal.returns-in-Err-clause-refused
returns-in-Err-clause-refused g c =
    let device = g.D.Disk.device in
    study_stops (device c.args.disk.now) (device c.study.new.disk) c.in-Err.refusal c.in-Err.ensures.exact (λ is. c.study.ensures.cause.failed (c.in-Err.is ∙ ap Err is))

pub returns-then-is_theirs-clause-ok : goal.returns-then-is_theirs-clause-ok
returns-then-is_theirs-clause-ok g c = (c.in-Ok.study, c.in-Ok.ensures.exact, c.is_theirs.ensures.0 c.if-is_theirs.true)

pub returns-clause-refused : goal.returns-clause-refused
returns-clause-refused g c = (
  c.in-Ok.study,
  c.in-Ok.ensures.exact,
  λ theirs. let both : true ≡ false = sym (c.is_theirs.ensures.1 theirs) ∙ c.if-is_theirs.false in absurd cc,
)
