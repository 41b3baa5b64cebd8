use Rattle.std.proofs.Common.{◌∙◌}
use Rattle.ledger.proofs.Responding.{is_written, responded}
use Rattle.ledger.proofs.accounts.AccountsService.call.Goals as goal

pub returns-clause-ok : goal.returns-clause-ok
returns-clause-ok g c = responded g.J.Joint.home c.args.self.now.thread.now c.answer-told.new.thread c.args.request.now _ c.in_ok-order.order c.answer-told.result c.reserve.new.self.items c.as_bytes.result.now c.put_slice.result
    c.status-response.ensures c.requires.headers (c.in_ok-reserve.ensures.kept ∙ c.requires.body) (c.as_bytes.ensures.value ∙ c.text.ensures) c.put_slice.ensures.ok c.in_ok-order.ensures c.answer-told.ensures

pub returns-clause-err : goal.returns-clause-err
returns-clause-err g c = is_written _ c.answer-told.result c.as_bytes.result.now c.reserve.new.self.spare c.put_slice.new.self.spare c.put_slice.result (c.as_bytes.ensures.value ∙ c.text.ensures) c.in_ok-reserve.ensures.spare.1 c.put_slice.ensures.spare
