use Rattle.session.specs.Logs.{sections_ended}
use Rattle.session.specs.Sessions.{view_of}
use Rattle.thread_work.proofs.Durables.{has_read, keeps_fewer}
use Rattle.thread_work.proofs.crashes.durable_law.Goals as goal

pub returns-clause-since : goal.returns-clause-since
returns-clause-since g c = λ h p x y s t now helper image was layout runs moment left.
    keeps_fewer h y.store.known.layout p now image (view_of t).lane.0 (sections_ended (view_of t)) (view_of t).stable was.durable.all
    (c.stable_law.ensures.since h p x y t (view_of t).stable now helper image (has_read g.D.Disk.device h p x s t was) layout runs moment left)

pub returns-clause-in_round : goal.returns-clause-in_round
returns-clause-in_round g c = λ h p x y answer s t now helper image was round moment seen left.
    keeps_fewer h y.store.known.layout p now image (view_of t).lane.0 (sections_ended (view_of t)) (view_of t).stable was.durable.all
    (c.stable_law.ensures.in_round h p x y answer t (view_of t).stable now helper image (has_read g.D.Disk.device h p x s t was) round moment seen left)

pub returns-clause-at_rest : goal.returns-clause-at_rest
returns-clause-at_rest g c = λ h p x s t now helper image was rests moment left.
    keeps_fewer h x.store.known.layout p now image (view_of t).lane.0 (sections_ended (view_of t)) (view_of t).stable was.durable.all
    (c.stable_law.ensures.at_rest h p x t (view_of t).stable now helper image (has_read g.D.Disk.device h p x s t was) rests moment left)
