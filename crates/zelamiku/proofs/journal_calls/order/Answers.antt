use Rattle.std.proofs.Common.{refl}
use Rattle.zelamiku.proofs.journal_calls.order.Goals as goal

pub returns-in-Journal : goal.returns-in-Journal
returns-in-Journal c = rw c.in-Journal.is (c.order.new.self, c.order.result, c.order.ensures, c.of_turn.ensures, refl)
