use Rattle.std.proofs.Common.{◌∙◌, ℕ, List, get_or, ◌+◌, ◌*◌, ap, refl, replicate, arith}
use Rattle.std.proofs.lemmas.List.{length-replicate}
use Rattle.block_disk.specs.Device.{Device}
use Rattle.block_disk.proofs.Failures.{failed_since}
use Rattle.atomic_sectors.proofs.Calculus.{reads_begin, reads_is, reads_untorn, reads_written, syncs_begin, syncs_is, syncs_written}
use Rattle.disk_journal.proofs.MakingLemmas.{area_now, fill_more, zeros_at}
use Rattle.disk_journal.proofs.OpeningLemmas.{on_err}
use Rattle.disk_journal.proofs.making.fill.Goals as goal

pub loop-page-init : goal.loop-page-init
loop-page-init g c = record { area = reads_begin; zeros = λ i low high. absurd (omega (arith, low, high)); syncs = syncs_begin; failures = refl }

pub write_untorn-requires : goal.write_untorn-requires
write_untorn-requires g c = omega (arith, c.requires, (area_now c.args.areas c.loop-page.invariant.area).size)

pub returns-in_err-write_untorn-clause-area : goal.returns-in_err-write_untorn-clause-area
returns-in_err-write_untorn-clause-area g c =
    reads_untorn c.loop-page.invariant.area (area_now c.args.areas c.loop-page.invariant.area) c.in_err-write_untorn.ensures.err

pub returns-in_err-write_untorn-clause-cause : goal.returns-in_err-write_untorn-clause-cause
returns-in_err-write_untorn-clause-cause g c =
    on_err c.from_residual.result
    (failed_since (g.D.Disk.device c.args.disk.now).failures (g.D.Disk.device c.loop-page.disk).failures (g.D.Disk.device c.write_untorn.new.self).failures
    (omega (arith, c.loop-page.invariant.failures)) c.in_err-write_untorn.ensures.cause)

pub loop-page-preserved : goal.loop-page-preserved
loop-page-preserved g c =
    let at = 4096 + c.loop-page.page * 4096 in
    let zeros : List ℕ = replicate 4096 0 in
    let more = fill_more c.args.areas c.loop-page.page zeros c.requires.room c.loop-page-test.true (length-replicate {A = ℕ} 4096 0) (zeros_at 4096)
    c.loop-page.invariant.area c.loop-page.invariant.zeros in record {
      area = reads_is (reads_written at zeros c.loop-page.invariant.area more.0) c.in_ok-write_untorn.ensures.ok;
      zeros = λ i low high. ap (λ (d : Device). get_or d.now.bytes i 0) c.in_ok-write_untorn.ensures.ok ∙ more.1 i low high;
      syncs = syncs_is (syncs_written at zeros c.loop-page.invariant.syncs) c.in_ok-write_untorn.ensures.ok;
      failures = ap (λ (d : Device). d.failures) c.in_ok-write_untorn.ensures.ok ∙ c.loop-page.invariant.failures;
    }

pub returns-clause-ok : goal.returns-clause-ok
returns-clause-ok g c = λ i low high. c.loop-page.invariant.zeros i low (omega (arith, high))

pub returns-clause-area : goal.returns-clause-area
returns-clause-area g c = c.loop-page.invariant.area

pub returns-clause-steady : goal.returns-clause-steady
returns-clause-steady g c = c.loop-page.invariant.failures

pub returns-clause-syncs : goal.returns-clause-syncs
returns-clause-syncs g c = c.loop-page.invariant.syncs
