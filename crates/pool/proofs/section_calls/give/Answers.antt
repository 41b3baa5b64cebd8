use Rattle.pool.proofs.Calling.{gives_slot}
use Rattle.pool.proofs.section_calls.give.Goals as goal

pub returns-clause-told : goal.returns-clause-told
returns-clause-told c =
    let cells = c.new-cells.ensures in
    let given = c.give-answer.ensures in
    gives_slot c.args.shared.now c.args.session c.into_session.result c.new-cells.result c.give-answer.new.cells c.args.pool.now c.args.slot given.answer.0 c.give-answer.result
    cells.session cells.home c.into_session.ensures.session given.answer.1 given.answer.2
