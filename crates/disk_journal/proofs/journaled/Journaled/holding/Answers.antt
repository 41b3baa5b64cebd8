use Rattle.std.proofs.Common.{◌*◌, ap, ◌∙◌, arith}
use Rattle.disk_journal.specs.Kept.{words_among}
use Rattle.disk_journal.proofs.KeptLemmas.{opened_kept}
use Rattle.disk_journal.proofs.WordLemmas.{none_among}
use Rattle.disk_journal.proofs.journaled.Journaled.holding.Goals as goal

pub invariant_of-result : goal.invariant_of-result
invariant_of-result g c =
    rw (c.new.ensures.items, c.new-2.ensures.items, c.of-trace.ensures, c.deref.ensures.value) (
      opened_kept c.args.opened (g.D.Disk.device c.args.disk) c.requires,
      λ works. record { none = c.new-3.ensures.items; zero = c.new-3.ensures.len; room = omega (arith, c.new-2.ensures.len) },
    )

pub returns-clause-waiting : goal.returns-clause-waiting
returns-clause-waiting g c =
    let n = c.args.opened.areas.image * 512 in ap (words_among n) c.new-2.ensures.items ∙ none_among n
