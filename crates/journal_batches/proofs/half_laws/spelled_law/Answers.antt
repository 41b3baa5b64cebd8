-- What was spelled is read back.
use Rattle.journal_batches.proofs.HalfLemmas.{spelled_holds, stamps_hold}
use Rattle.journal_batches.proofs.half_laws.spelled_law.Goals as goal

pub returns-clause-spelled : goal.returns-clause-spelled
returns-clause-spelled c = spelled_holds

pub returns-clause-stamps : goal.returns-clause-stamps
returns-clause-stamps c = stamps_hold
