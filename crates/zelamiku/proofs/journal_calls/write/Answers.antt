use Rattle.std.proofs.Common.{refl}
use Rattle.zelamiku.proofs.journal_calls.write.Goals as goal

pub returns-in-Journal : goal.returns-in-Journal
returns-in-Journal c = rw c.in-Journal.is (c.write.new.self, c.write.result, c.write.ensures, c.of_call.ensures, refl)
