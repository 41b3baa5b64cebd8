use Rattle.pool.proofs.Calling.{takes_slot}
use Rattle.pool.proofs.section_calls.take.Goals as goal

pub returns-clause-told : goal.returns-clause-told
returns-clause-told c =
    let cells = c.new-cells.ensures in
    let taken = c.take-answer.ensures in
    takes_slot c.args.shared.now c.args.session c.into_session.result c.new-cells.result c.take-answer.new.cells c.args.pool.now taken.answer.0 c.take-answer.result
    cells.session cells.home c.into_session.ensures.session taken.answer.1 taken.answer.2
