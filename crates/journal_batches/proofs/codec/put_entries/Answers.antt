use Rattle.std.proofs.Common.{arith}
use Rattle.journal_batches.specs.declared.entry.Entry.{Entry}
use Rattle.journal_batches.proofs.CodecLemmas.{entry_put}
use Rattle.journal_batches.proofs.codec.put_entries.Goals as goal

-- no entry
abbrev none : Entry
none = record { at = 0; word = 0 }

pub loop-i-preserved : goal.loop-i-preserved
loop-i-preserved c =
    entry_put c.args.entries.now none c.loop-i.out c.put_two.new.out c.loop-i.i _ c.loop-i-test.true (omega arith) c.loop-i.invariant c.put_two.ensures
