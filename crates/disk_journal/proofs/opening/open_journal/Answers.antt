use Rattle.std.specs.Prelude.{IfErr, IfOk, OnOk}
use Rattle.std.proofs.Common.{◌≡◌, ◌⊎◌, inl, inr, ⊎_elim, sym, subst, arith}
use Rattle.block_disk.specs.Device.{Device}
use Rattle.atomic_sectors.specs.Left.{LeavesWhole, MakesSyncs}
use Rattle.atomic_sectors.proofs.Calculus.{leaves_same, syncs_begin, syncs_same}
use Rattle.journal_batches.specs.declared.areas.Areas.{Areas}
use Rattle.disk_journal.specs.Opened.{IsAfterAll, WritesAgain}
use Rattle.disk_journal.specs.Refusals.{IsUntouched}
use Rattle.disk_journal.specs.Stands.{StandsStill}
use Rattle.disk_journal.proofs.LabelLemmas.{is_journal, one_label}
use Rattle.disk_journal.proofs.opening.open_journal.Goals as goal

pub returns-in_err-areas-clause-left : goal.returns-in_err-areas-clause-left
returns-in_err-areas-clause-left g c = λ a label room. leaves_same c.find_areas.ensures.same

pub returns-clause-left : goal.returns-clause-left
returns-clause-left g c = λ a label room.
    let old = g.D.Disk.device c.args.disk.now in
    let mid = g.D.Disk.device c.find_areas.new.disk in
    let new = g.D.Disk.device c.open_areas.new.disk in
    let one = c.in_ok-areas.areas in
    let is : a ≡ one =
    one_label a one old.now.bytes (omega (arith, room, c.find_areas.ensures.size)) (omega (arith, room, c.find_areas.ensures.size))
    (omega (arith, c.in_ok-areas.ensures.room, c.find_areas.ensures.size)) (omega (arith, c.in_ok-areas.ensures.room, c.find_areas.ensures.size))
    label c.in_ok-areas.ensures.label in
    subst (λ (d : Device). LeavesWhole d new (StandsStill a d.now.bytes)) c.in_ok-areas.ensures.ok
    (subst (λ (b : Areas). LeavesWhole mid new (StandsStill b mid.now.bytes)) (sym is) c.open_areas.ensures.left)

pub returns-clause-untouched : goal.returns-clause-untouched
returns-clause-untouched g c =
    subst (λ (d : Device). IfErr c.open_areas.result (λ why. IsUntouched why d (g.D.Disk.device c.open_areas.new.disk)))
    c.in_ok-areas.ensures.ok c.open_areas.ensures.untouched

pub returns-in_err-areas-clause-first : goal.returns-in_err-areas-clause-first
returns-in_err-areas-clause-first g c = inl (syncs_same syncs_begin c.find_areas.ensures.same)

pub returns-clause-first : goal.returns-clause-first
returns-clause-first g c =
    let old = g.D.Disk.device c.args.disk.now in
    let new = g.D.Disk.device c.open_areas.new.disk in
    let one = c.in_ok-areas.areas in
    let first = subst (λ (d : Device). MakesSyncs 0 d new ⊎ WritesAgain one d new) c.in_ok-areas.ensures.ok c.open_areas.ensures.first in
    ⊎_elim (λ none. inl none) (λ again. inr (λ a label room.
    let is : a ≡ one =
    one_label a one old.now.bytes (omega (arith, room, c.find_areas.ensures.size)) (omega (arith, room, c.find_areas.ensures.size))
    (omega (arith, c.in_ok-areas.ensures.room, c.find_areas.ensures.size)) (omega (arith, c.in_ok-areas.ensures.room, c.find_areas.ensures.size))
    label c.in_ok-areas.ensures.label in
    subst (λ (b : Areas). WritesAgain b old new) (sym is) again)) first

pub returns-clause-again : goal.returns-clause-again
returns-clause-again g c =
    subst (λ (d : Device). IfOk c.open_areas.result (λ opened. WritesAgain opened.areas d (g.D.Disk.device c.open_areas.new.disk)))
    c.in_ok-areas.ensures.ok c.open_areas.ensures.again

pub returns-clause-syncs : goal.returns-clause-syncs
returns-clause-syncs g c =
    subst (λ (d : Device). OnOk c.open_areas.result (MakesSyncs 3 d (g.D.Disk.device c.open_areas.new.disk)))
    c.in_ok-areas.ensures.ok c.open_areas.ensures.syncs

pub returns-clause-steady : goal.returns-clause-steady
returns-clause-steady g c =
    subst (λ (d : Device). OnOk c.open_areas.result ((g.D.Disk.device c.open_areas.new.disk).failures ≡ d.failures))
    c.in_ok-areas.ensures.ok c.open_areas.ensures.steady

pub returns-clause-after : goal.returns-clause-after
returns-clause-after g c =
    subst (λ (d : Device). IfOk c.open_areas.result (λ opened. IsAfterAll opened.areas d.now.bytes opened.stamp))
    c.in_ok-areas.ensures.ok c.open_areas.ensures.after

-- ---- what is no journal ----

pub returns-in_err-areas-clause-others : goal.returns-in_err-areas-clause-others
returns-in_err-areas-clause-others g c = λ none. c.find_areas.ensures.same

pub returns-clause-others : goal.returns-clause-others
returns-clause-others g c = λ none.
    let found = c.in_ok-areas.ensures in
    absurd (is_journal c.in_ok-areas.areas (g.D.Disk.device c.args.disk.now).now.bytes (omega (arith, found.room, c.find_areas.ensures.size))
    (omega (arith, found.room, c.find_areas.ensures.size)) found.label found.room found.half none)
