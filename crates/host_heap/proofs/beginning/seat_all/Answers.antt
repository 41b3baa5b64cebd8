use Rattle.std.proofs.Common.{◌∙◌, All, ap, sym, subst}
use Rattle.monitor.specs.Seats.{Home}
use Rattle.session.specs.Sessions.{IsSessionOf}
use Rattle.host_heap.specs.Seating.{AreSeated}
use Rattle.host_heap.specs.Stopping.{Stopping}
use Rattle.host_heap.proofs.beginning.seat_all.Goals as goal

pub begin_all-requires-clause-of : goal.begin_all-requires-clause-of
begin_all-requires-clause-of c = subst (λ (h : Home). All (IsSessionOf h) c.args.sessions.items) (sym c.in-Ok.ensures.ok) c.requires.of

pub returns-in-Ok-begin_all-clause-seated : goal.returns-in-Ok-begin_all-clause-seated
returns-in-Ok-begin_all-clause-seated c =
    let unused = c.in-Ok-begin_all.unused.items in
    let ends = c.in-Ok-begin_all.lanes.items in
    let all = c.args.sessions.items in
    subst (λ (s : Stopping). AreSeated c.args.shared all s.word unused ends) (sym c.in-Ok-begin_all.ensures.stop)
    (subst (λ (h : Home). AreSeated h all c.in-Ok-new.stop.word unused ends) c.in-Ok.ensures.ok c.in-Ok-begin_all.ensures.seated)

pub returns-in-Ok-begin_all-clause-unstopped : goal.returns-in-Ok-begin_all-clause-unstopped
returns-in-Ok-begin_all-clause-unstopped c = ap (λ (s : Stopping). s.seen) c.in-Ok-begin_all.ensures.stop ∙ c.in-Ok-new.ensures
