use Rattle.journal_batches.specs.Spelled.{spelled}
use Rattle.disk_journal.proofs.PageLemmas.{Batched}
use Rattle.disk_journal.proofs.pages.write_batch.Given as goal

-- the pages so far are written
abbrev pub invariant-loop-page : goal.invariant-loop-page
invariant-loop-page g l = Batched l.areas l.second (spelled l.stamp l.entries) l.page (g.D.Disk.device l.fn.disk) (g.D.Disk.device l.disk)
