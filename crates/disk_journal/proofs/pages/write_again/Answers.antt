use Rattle.std.proofs.Common.{length, ap, ◌∙◌, refl, arith}
use Rattle.atomic_sectors.proofs.Calculus.{reads_begin, syncs_begin, syncs_then}
use Rattle.disk_journal.proofs.PageLemmas.{again_then, pages_pending, reads_now, still_pending}
use Rattle.disk_journal.proofs.pages.write_again.Goals as goal

pub loop-page-init : goal.loop-page-init
loop-page-init g c = record {
  reads = reads_begin;
  same = refl;
  pending = λ i from within. absurd (omega (arith, from, within));
  others = λ i was. was;
  syncs = syncs_begin;
  failures = refl;
}

pub write_page_again-requires : goal.write_page_again-requires
write_page_again-requires g c = omega (arith, ap length c.loop-page.invariant.same)

pub loop-page-preserved : goal.loop-page-preserved
loop-page-preserved g c =
    let mid = g.D.Disk.device c.loop-page.disk in
    let new = g.D.Disk.device c.write_page_again.new.disk in
    let reads = again_then c.loop-page.invariant.reads c.write_page_again.ensures.reads in
    record {
      reads = reads;
      same = reads_now reads refl;
      pending = pages_pending c.args.at c.loop-page.page mid new c.loop-page.invariant.pending c.in_ok-write_page_again.ensures.pending;
      others = λ i was. still_pending mid new _ c.in_ok-write_page_again.ensures.pending i (c.loop-page.invariant.others i was);
      syncs = syncs_then c.loop-page.invariant.syncs c.write_page_again.ensures.syncs;
      failures = c.in_ok-write_page_again.ensures.steady ∙ c.loop-page.invariant.failures;
    }

pub returns-in_err-write_page_again-clause-reads : goal.returns-in_err-write_page_again-clause-reads
returns-in_err-write_page_again-clause-reads g c = again_then c.loop-page.invariant.reads c.write_page_again.ensures.reads

pub returns-in_err-write_page_again-clause-syncs : goal.returns-in_err-write_page_again-clause-syncs
returns-in_err-write_page_again-clause-syncs g c = syncs_then c.loop-page.invariant.syncs c.write_page_again.ensures.syncs

pub returns-clause-pending : goal.returns-clause-pending
returns-clause-pending g c = λ i from within. c.loop-page.invariant.pending i from (omega (arith, within))
