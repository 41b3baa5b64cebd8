use Rattle.std.proofs.Common.{sym, subst, arith}
use Rattle.disk_journal.specs.Kept.{AreWithin}
use Rattle.disk_journal.proofs.touching.touch.Goals as goal

pub returns-clause-within : goal.returns-clause-within
returns-clause-within c = c.note.ensures.within c.args.size (omega arith) (subst (AreWithin c.args.size) (sym c.reserve.ensures.items) c.requires.within)
