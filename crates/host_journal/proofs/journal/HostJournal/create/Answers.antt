use Rattle.std.proofs.Common.{◌≡◌, ℕ, ap, length, replicate, arith}
use Rattle.std.proofs.lemmas.List.{length-replicate}
use Rattle.disk_deferred.specs.Deferred.{deferred_device}
use Rattle.host_journal.proofs.Beginning.{fresh_disk, made_is, refuses_making}
use Rattle.host_journal.proofs.journal.HostJournal.create.Goals as goal

pub returns-in-Ok-create-clause-ok : goal.returns-in-Ok-create-clause-ok
returns-in-Ok-create-clause-ok c =
    let o = c.in-Ok-create.ensures in
    let h = c.holding.ensures in
    made_is c.holding.result c.in-Ok-create.disk c.in-Ok.both.0 c.args.areas c.in-Some.size c.in-Ok.ensures.disk h.heap h.disk h.areas h.new o.ok o.areas o.left

pub returns-in-Err-create-clause-why : goal.returns-in-Err-create-clause-why
returns-in-Err-create-clause-why c =
    let d = c.in-Ok.both.0 in
    let is = fresh_disk d (replicate c.in-Some.size 0) c.in-Ok.ensures.disk in
    let bytes : (deferred_device d).now.bytes ≡ replicate c.in-Some.size 0 = λ i. (is.0 i).bytes in
    let size = c.in-Some.ensures in
    refuses_making c.args.areas (deferred_device d).now.bytes c.in-Err-create.why
    (omega (arith, ap length bytes, length-replicate {A = ℕ} c.in-Some.size 0, size)) c.in-Err-create.ensures.why
