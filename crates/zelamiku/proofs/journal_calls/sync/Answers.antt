use Rattle.std.proofs.Common.{refl}
use Rattle.zelamiku.proofs.journal_calls.sync.Goals as goal

pub returns-in-Journal : goal.returns-in-Journal
returns-in-Journal c = rw c.in-Journal.is (c.sync.new.self, c.sync.result, c.sync.ensures, c.of_turn.ensures, refl)
