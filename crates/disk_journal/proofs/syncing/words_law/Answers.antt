use Rattle.std.specs.Prelude.{◌^◌}
use Rattle.std.proofs.Common.{◌<◌, ◌≤◌, length, subst, arith}
use Rattle.std.proofs.lemmas.List.{take_all}
use Rattle.std.proofs.lemmas.List.Elements.{All-more}
use Rattle.journal_batches.specs.declared.entry.Entry.{Entry}
use Rattle.journal_batches.specs.Spelled.{AreWords}
use Rattle.disk_journal.proofs.syncing.words_law.Goals as goal

pub loop-e-preserved : goal.loop-e-preserved
loop-e-preserved c =
    All-more (λ (e : Entry). (e.at < 2 ^ 64) × (e.word < 2 ^ 64)) c.args.entries.now c.loop-e.e-index (record { at = 0; word = 0 }) c.loop-e-test.true
    c.loop-e.invariant c.fit.ensures

pub returns : goal.returns
returns c =
    let end : length c.args.entries.now ≤ c.loop-e.e-index = omega arith in
    subst AreWords (take_all c.loop-e.e-index c.args.entries.now end) c.loop-e.invariant
