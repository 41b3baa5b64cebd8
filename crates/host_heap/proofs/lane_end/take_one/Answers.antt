use Rattle.std.proofs.Common.{List, append-nil, ap, sym, ◌∙◌}
use Rattle.rtrb.specs.Ring.{received}
use Rattle.session.specs.declared.session.Session.{Session}
use Rattle.host_heap.specs.Lanes.{lane_in}
use Rattle.host_heap.proofs.Later.{begins_more, joined_back, lane_more}
use Rattle.host_heap.proofs.lane_end.take_one.Goals as goal

pub returns-in-Ok-clause-first : goal.returns-in-Ok-clause-first
returns-in-Ok-clause-first c = λ h k rings begins. (
  begins_more h k rings (received c.args.back.now) (received c.pop.new.self) c.in-Ok.session c.in-Ok.ensures.ok.0 begins,
  lane_more h k rings (received c.args.back.now) (received c.pop.new.self) c.in-Ok.session c.in-Ok.ensures.ok.0 begins,
)

pub returns-in-Ok-clause-back : goal.returns-in-Ok-clause-back
returns-in-Ok-clause-back c = λ h k rings begins. joined_back c.joined_law.ensures.call h k rings (received c.args.back.now) c.in-Ok.session begins c.in-Ok.ensures.ok.2

pub returns-in-Err-clause-first : goal.returns-in-Err-clause-first
returns-in-Err-clause-first c = λ h k rings begins. ((begins.0, begins.1, c.in-Err.ensures.empty.0 ∙ begins.2, begins.3), ap (λ (items : List Session). lane_in items) c.in-Err.ensures.empty.0)

pub returns-in-Ok-clause-received : goal.returns-in-Ok-clause-received
returns-in-Ok-clause-received c = c.in-Ok.ensures.ok.0

pub returns-in-Err-clause-received : goal.returns-in-Err-clause-received
returns-in-Err-clause-received c = c.in-Err.ensures.empty.0 ∙ sym (append-nil (received c.args.back.now))
