use Rattle.std.proofs.Common.{◌≡◌, ◌-◌, List, ℕ, length, take, drop, ap, arith, length-drop, length-take}
use Rattle.std.proofs.lemmas.List.{take_all}
use Rattle.atomic_sectors.proofs.Calculus.{syncs_then}
use Rattle.journal_batches.specs.declared.entry.Entry.{Entry}
use Rattle.disk_journal.proofs.PageLemmas.{brought_all, brought_between, brought_more, brought_none}
use Rattle.disk_journal.proofs.pages.bring_home.Goals as goal

-- the first entries of those that are left
run_of : (entries : List Entry) (done count : ℕ) → List Entry
run_of entries done count = take count (take (length entries - done) (drop done entries))

these : (entries : List Entry) (done count : ℕ) → run_of entries done count ≡ take count (drop done entries)
unfolding run_of
these entries done count = ap (take count) (take_all (length entries - done) (drop done entries) (omega (arith, length-drop done entries)))

pub loop-done-init : goal.loop-done-init
loop-done-init g c = record {
  within = omega arith;
  brought = brought_none c.args.areas c.args.entries.now (g.D.Disk.device c.args.disk.now) c.requires.room;
}

pub loop-done-preserved : goal.loop-done-preserved
unfolding run_of
loop-done-preserved g c = record {
  within =
      let left = drop c.loop-done.done c.args.entries.now in
      omega (arith, c.first_run-page.ensures.within, length-drop c.loop-done.done c.args.entries.now, length-take (length c.args.entries.now - c.loop-done.done) left);
  brought =
      brought_more c.args.areas c.args.entries.now (run_of c.args.entries.now c.loop-done.done c.first_run-page.result.1) c.loop-done.done c.first_run-page.result.1
      (g.D.Disk.device c.args.disk.now) (g.D.Disk.device c.loop-done.disk) (g.D.Disk.device c.bring_page.new.disk) c.requires.room
      (these c.args.entries.now c.loop-done.done c.first_run-page.result.1) c.loop-done.invariant.brought c.in_ok-bring_page.ensures.ok c.bring_page.ensures.between
      c.bring_page.ensures.syncs c.in_ok-bring_page.ensures.steady;
}

pub returns-in_err-bring_page-clause-between : goal.returns-in_err-bring_page-clause-between
unfolding run_of
returns-in_err-bring_page-clause-between g c = λ image brings.
    brought_between c.args.areas c.args.entries.now (run_of c.args.entries.now c.loop-done.done c.first_run-page.result.1) c.loop-done.done c.first_run-page.result.1
    (g.D.Disk.device c.args.disk.now) (g.D.Disk.device c.loop-done.disk) (g.D.Disk.device c.bring_page.new.disk) c.requires.room
    (these c.args.entries.now c.loop-done.done c.first_run-page.result.1) c.loop-done.invariant.brought c.bring_page.ensures.between image brings.size brings.own

pub returns-in_err-bring_page-clause-syncs : goal.returns-in_err-bring_page-clause-syncs
returns-in_err-bring_page-clause-syncs g c = syncs_then c.loop-done.invariant.brought.syncs c.bring_page.ensures.syncs

pub returns-clause-ok : goal.returns-clause-ok
returns-clause-ok g c =
    brought_all c.args.areas c.args.entries.now c.loop-done.done (g.D.Disk.device c.args.disk.now) (g.D.Disk.device c.loop-done.disk) (omega arith)
    c.loop-done.invariant.brought

pub returns-clause-between : goal.returns-clause-between
returns-clause-between g c = λ image brings. c.loop-done.invariant.brought.between image brings.size brings.own
