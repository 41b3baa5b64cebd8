use Rattle.std.proofs.Common.{ℕ, not, suc, List, ap, subst, sym, ◌∙◌, add-one}
use Rattle.journal_batches.specs.declared.entry.Entry.{Entry}
use Rattle.disk_journal.specs.Stands.{IsAtRest}
use Rattle.disk_journal.proofs.KeptLemmas.{leaves_mixed}
use Rattle.disk_journal.proofs.syncing.go_on.Goals as goal

pub returns-in-Err-clause-left : goal.returns-in-Err-clause-left
returns-in-Err-clause-left g c =
    let old = g.D.Disk.device c.args.disk.now in
    leaves_mixed c.args.areas c.deref-then-pages_of-areas.result.now c.args.next.now.items old.now.bytes old (g.D.Disk.device c.turn.new.disk)
    c.deref-then-pages_of-areas.ensures.value
    c.in-Err.ensures.left

pub returns-then-pages_of-areas-clause-left : goal.returns-then-pages_of-areas-clause-left
returns-then-pages_of-areas-clause-left g c =
    let old = g.D.Disk.device c.args.disk.now in
    leaves_mixed c.args.areas c.deref-then-pages_of-areas.result.now c.args.next.now.items old.now.bytes old (g.D.Disk.device c.turn.new.disk)
    c.deref-then-pages_of-areas.ensures.value
    c.in-Ok.ensures.left

pub returns-then-pages_of-areas-clause-rest : goal.returns-then-pages_of-areas-clause-rest
returns-then-pages_of-areas-clause-rest g c =
    let new = g.D.Disk.device c.turn.new.disk in
    subst (λ (n : ℕ). IsAtRest c.args.areas (not c.args.second.now) n c.swap.new.x.items new) (sym (add-one c.args.stamp.now))
    (subst (λ (es : List Entry). IsAtRest c.args.areas (not c.args.second.now) (suc c.args.stamp.now) es new)
    (c.deref-then-pages_of-areas.ensures.value ∙ sym (ap (λ v. v.items) c.swap.ensures.x_after)) c.in-Ok.ensures.rest)
