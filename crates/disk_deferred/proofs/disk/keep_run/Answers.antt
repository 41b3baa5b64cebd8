use Rattle.std.proofs.Common.{◌≡◌, ◌*◌, ◌∙◌, Bool, if◌then◌else◌, ℕ, List, length, take, subst, arith, length-take}
use Rattle.block_disk.specs.Memory.{Stop}
use Rattle.disk_deferred.specs.Deferred.{onto}
use Rattle.disk_deferred.specs.Joined.{join_write}
use Rattle.disk_deferred.proofs.Units.{join_run, join_taken}
use Rattle.disk_deferred.proofs.disk.keep_run.Goals as goal

pub returns-then-keep_write-clause-kept : goal.returns-then-keep_write-clause-kept
returns-then-keep_write-clause-kept c = λ before sync.
    let n = c.run_length-run.result in
    let units : List ℕ = c.args.units.now in
    let cs : List Stop = onto before c.args.calls.now.items in
    let run : List ℕ = take (n * 16) units in
    let few = c.run_length-run.ensures.few in
    let whole = c.requires.whole in
    let long : length run ≡ n * 16 = omega (arith, length-take (n * 16) units, few, whole) in
    subst (λ (b : Bool). onto before c.keep_write.new.calls.items ≡ (if b then join_write c.args.at run cs else cs)) c.if-keep_write.true (c.keep_write.ensures before sync)
    ∙ join_run n c.args.at run cs c.run_length-run.ensures.some c.run_length-run.ensures.one long (c.run_length-run.ensures.fits before sync)
    ∙ join_taken n c.args.at units cs
