use Rattle.std.proofs.Common.{refl}
use Rattle.host_journal.proofs.Hosting.{hosted_new}
use Rattle.host_journal.proofs.journal.HostJournal.holding.Goals as goal

pub invariant_of-result : goal.invariant_of-result
invariant_of-result c =
    hosted_new (record { disk = c.args.disk; group = c.new.result; moved = 0; taken = 0; words = 0; turns = 0 })
    c.of-trace.result.past c.of.result.past c.image.result.now c.requires.device c.requires.turned c.requires.label
    c.new.ensures.items refl refl refl c.image.ensures c.of-trace.ensures c.of.ensures
