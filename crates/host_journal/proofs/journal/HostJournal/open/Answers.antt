use Rattle.std.proofs.Common.{⊎_elim, sym, subst}
use Rattle.disk_deferred.specs.Deferred.{deferred_device}
use Rattle.disk_journal.specs.Labels.{HasNoLabel}
use Rattle.host_journal.proofs.Beginning.{ever_still, fresh_disk, label_still, opened_is}
use Rattle.host_journal.proofs.journal.HostJournal.open.Goals as goal

pub holding-requires-clause-label : goal.holding-requires-clause-label
holding-requires-clause-label c =
    let d = c.in-Ok.both.0 in
    let o = c.in-Ok-open.disk in
    let e = c.in-Ok-open.ensures in
    let is = fresh_disk d c.args.bytes.now c.in-Ok.ensures.disk in
    label_still o.areas (deferred_device d) o.disk c.args.bytes.now is e.label
    (ever_still o.areas (deferred_device d) o.disk c.args.bytes.now is e.label e.room e.left)

pub returns-in-Ok-open-clause-ok : goal.returns-in-Ok-open-clause-ok
returns-in-Ok-open-clause-ok c =
    let e = c.in-Ok-open.ensures in
    let h = c.holding.ensures in
    opened_is c.holding.result c.in-Ok-open.disk c.in-Ok.both.0 c.args.bytes.now c.in-Ok.ensures.disk h.heap h.disk h.areas h.new e.ok e.label e.room e.left e.again
    e.three_syncs

pub returns-in-Ok-open-clause-unlabelled : goal.returns-in-Ok-open-clause-unlabelled
returns-in-Ok-open-clause-unlabelled c =
    λ none done.
    let d = c.in-Ok.both.0 in
    let is = fresh_disk d c.args.bytes.now c.in-Ok.ensures.disk in
    ⊎_elim (λ no. no) (λ no. no) (c.in-Ok-open.ensures.unlabelled (subst HasNoLabel (λ i. (sym is.0 i).bytes) none))
