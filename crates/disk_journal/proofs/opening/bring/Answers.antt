use Rattle.std.proofs.Common.{inl, inr, ◌∙◌, sym, ap, subst, arith, length, ℕ, List}
use Rattle.std.proofs.lemmas.Result.{on_err_weaker, on_ok_weaker}
use Rattle.block_disk.specs.Device.{Device}
use Rattle.block_disk.proofs.Failures.{failed_since}
use Rattle.block_disk.proofs.Images.{grows_then}
use Rattle.atomic_sectors.specs.Left.{LeavesWhole}
use Rattle.atomic_sectors.proofs.Calculus.{leaves_then, reads_same, syncs_is, syncs_same, syncs_synced, syncs_then, whole_same}
use Rattle.journal_batches.specs.declared.entry.Entry.{Entry}
use Rattle.journal_batches.specs.Batches.{AllUpTo}
use Rattle.journal_batches.specs.Shown.{newest_half, shown}
use Rattle.disk_journal.specs.Stands.{StandsStill}
use Rattle.disk_journal.specs.Steps.{BringsHome}
use Rattle.disk_journal.proofs.OpeningLemmas.{again_later, again_same, again_whole, flush_later, on_err, on_ok, planned_brings}
use Rattle.disk_journal.proofs.opening.bring.Goals as goal

pub returns-in_err-write_trusted-clause-left : goal.returns-in_err-write_trusted-clause-left
returns-in_err-write_trusted-clause-left g c = whole_same c.write_trusted.ensures.reads

pub returns-in_err-flush-clause-left : goal.returns-in_err-flush-clause-left
returns-in_err-flush-clause-left g c = whole_same (reads_same c.write_trusted.ensures.reads c.in_err-flush.ensures.err)

pub returns-in_err-flush-clause-cause : goal.returns-in_err-flush-clause-cause
returns-in_err-flush-clause-cause g c =
    on_err c.from_residual-in_err-flush.result
    (failed_since (g.D.Disk.device c.args.disk.now).failures (g.D.Disk.device c.write_trusted.new.disk).failures (g.D.Disk.device c.flush.new.disk).failures
    (omega (arith, c.in_ok-write_trusted.ensures.steady)) c.in_err-flush.ensures.cause)

pub clear-requires-clause-room : goal.clear-requires-clause-room
clear-requires-clause-room g c = omega (arith, c.requires.room, ap length (again_same c.write_trusted.ensures.reads c.in_ok-flush.ensures.ok))

pub clear-requires-clause-newest : goal.clear-requires-clause-newest
clear-requires-clause-newest g c =
    ap (newest_half c.args.areas) (again_same c.write_trusted.ensures.reads c.in_ok-flush.ensures.ok) ∙ c.requires.planned.newest

pub clear-requires-clause-top : goal.clear-requires-clause-top
clear-requires-clause-top g c =
    subst (AllUpTo c.args.areas c.args.choice.now.top) (sym (again_same c.write_trusted.ensures.reads c.in_ok-flush.ensures.ok))
    c.requires.planned.stamps

pub clear-requires-clause-brings : goal.clear-requires-clause-brings
clear-requires-clause-brings g c =
    let d = g.D.Disk.device c.flush.new.disk in
    subst (λ (es : List Entry). BringsHome c.args.areas (shown c.args.areas d.now.bytes) es d) (sym c.deref.ensures.value)
    (planned_brings d c.requires.planned (again_same c.write_trusted.ensures.reads c.in_ok-flush.ensures.ok))

pub returns-clause-left : goal.returns-clause-left
returns-clause-left g c =
    let d2 = g.D.Disk.device c.flush.new.disk in
    let d3 = g.D.Disk.device c.clear.new.disk in
    leaves_then (again_whole c.write_trusted.ensures.reads c.in_ok-flush.ensures.ok)
    (subst (λ (bs : List ℕ). LeavesWhole d2 d3 (StandsStill c.args.areas bs))
    (again_same c.write_trusted.ensures.reads c.in_ok-flush.ensures.ok) c.clear.ensures.left)

pub returns-clause-image : goal.returns-clause-image
returns-clause-image g c =
    on_ok_weaker c.clear.result (λ is. is ∙ ap (shown c.args.areas) (again_same c.write_trusted.ensures.reads c.in_ok-flush.ensures.ok)) c.clear.ensures.image

pub returns-clause-cause : goal.returns-clause-cause
returns-clause-cause g c =
    on_err_weaker c.clear.result
    (λ failed. failed_since (g.D.Disk.device c.args.disk.now).failures (g.D.Disk.device c.flush.new.disk).failures (g.D.Disk.device c.clear.new.disk).failures
    (omega (arith, ap (λ (d : Device). d.failures) c.in_ok-flush.ensures.ok, c.in_ok-write_trusted.ensures.steady)) failed)
    c.clear.ensures.cause

-- ---- what is trusted ----

pub returns-in_err-write_trusted-clause-first : goal.returns-in_err-write_trusted-clause-first
returns-in_err-write_trusted-clause-first g c = inl c.write_trusted.ensures.syncs

pub returns-in_err-flush-clause-first : goal.returns-in_err-flush-clause-first
returns-in_err-flush-clause-first g c = inl (syncs_same c.write_trusted.ensures.syncs c.in_err-flush.ensures.err)

pub returns-clause-first : goal.returns-clause-first
returns-clause-first g c =
    let mid = g.D.Disk.device c.write_trusted.new.disk in
    let late = g.D.Disk.device c.flush.new.disk in
    let new = g.D.Disk.device c.clear.new.disk in
    inr (again_later c.in_ok-write_trusted.ensures.again (grows_then mid late new (flush_later c.in_ok-flush.ensures.ok) c.clear.ensures.left.grows))

pub returns-clause-again : goal.returns-clause-again
returns-clause-again g c =
    let mid = g.D.Disk.device c.write_trusted.new.disk in
    let late = g.D.Disk.device c.flush.new.disk in
    let new = g.D.Disk.device c.clear.new.disk in
    on_ok c.clear.result
    (again_later c.in_ok-write_trusted.ensures.again (grows_then mid late new (flush_later c.in_ok-flush.ensures.ok) c.clear.ensures.left.grows))

pub returns-clause-syncs : goal.returns-clause-syncs
returns-clause-syncs g c =
    let one = syncs_is (syncs_synced c.write_trusted.ensures.syncs) c.in_ok-flush.ensures.ok in
    on_ok_weaker c.clear.result (λ two. syncs_then one two) c.clear.ensures.two_syncs

pub returns-clause-steady : goal.returns-clause-steady
returns-clause-steady g c =
    on_ok_weaker c.clear.result
    (λ is. is ∙ ap (λ (d : Device). d.failures) c.in_ok-flush.ensures.ok ∙ c.in_ok-write_trusted.ensures.steady) c.clear.ensures.steady
