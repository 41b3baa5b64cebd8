use Rattle.std.proofs.Common.{arith}
use Rattle.disk_journal.proofs.WordLemmas.{new_place}
use Rattle.disk_journal.proofs.syncing.is_new.Goals as goal

pub returns-else-i-eq0 : goal.returns-else-i-eq0
returns-else-i-eq0 c = new_place c.args.places.now c.args.i (omega (arith, c.if-i-eq0.false)) c.requires.within c.requires.sorted
