-- What a crash of the host's device keeps while threads run.
use Rattle.std.proofs.Common.{suc, List, ℕ, sym, subst, ◌∙◌, arith}
use Rattle.block_disk.specs.Device.{Device}
use Rattle.block_disk.specs.Images.{Continues}
use Rattle.disk_deferred.specs.Deferred.{Deferred, onto}
use Rattle.disk_deferred.specs.Host.{Host}
use Rattle.disk_deferred.specs.Syncs.{syncs_in}
use Rattle.disk_deferred.proofs.Moments.{left_since_then}
use Rattle.image_parts.specs.declared.layout.Layout.{Layout}
use Rattle.store_rounds.specs.Runs.{HasRun}
use Rattle.store_rounds.proofs.Running.{run_on}
use Rattle.law_running.specs.Crashes.{CrashInClosingLaw}
use Rattle.law_running.specs.Running.{CrashInRunLaw}
use Rattle.thread_steps.specs.Views.{plan}
use Rattle.law_survival.specs.WholeRun.{MayBeLeft}
use Rattle.trim_helper.specs.Heard.{SeenLaw}
use Rattle.host_heap.specs.Hosting.{hosted_device}
use Rattle.law_hosted.specs.Running.{HostClosingLaw, HostRoundLaw, HostRunLaw}
use Rattle.law_hosted.specs.Safe.{LeavesSince}
use Rattle.law_hosted.proofs.Safe.{run_of, syncs_onto}

-- it is left of the heap's own disk, since then
left_since : (old : Device) (d : Deferred) (c : Host) (image : List ℕ) → Continues old (hosted_device d) → LeavesSince old d c image → MayBeLeft old (hosted_device d) image
left_since old d c image grows since =
    let by = since.by in
    left_since_then (suc (syncs_in (onto c.made by.next))) old (hosted_device d) image grows (omega (arith, since.made, syncs_onto c.made by.next))
    (by.met.synced by.next by.more image by.left by.leaves)

pub run_keeps : CrashInRunLaw hosted_device → HostRunLaw
run_keeps keeps h p old y seen c image on since = keeps h p old y seen image on (left_since old y.store.disk c image on.run.ran.shown.grows since)

pub round_keeps : CrashInRunLaw hosted_device → SeenLaw hosted_device → HostRoundLaw
round_keeps keeps seen_of x y answer p old c image ran makes heard since =
    let run = ran.run in
    let round = makes run.now ran.serves in
    let seen = heard.seen ran.running in
    let same = heard.goes_on.layout in
    let as_many = heard.goes_on.threads in
    let l : Layout = y.helper.store.known.layout in
    let t : ℕ = y.helper.store.known.threads in
    let before : HasRun l t (plan x.home) p old run.now (hosted_device x.helper.store.disk) =
    run_of x.helper.store.known.layout l x.helper.store.known.threads t (plan x.home) p run.now old (hosted_device x.helper.store.disk) same as_many run.ran in
    let on = run_on l t (plan x.home) p run.now round.now old (hosted_device x.helper.store.disk) (hosted_device y.helper.store.disk) before round.ran in
    run_keeps keeps x.home p old y.helper y.helper.seat.view.history c image
    (record {
      run = record { store = run.store; layout = run.layout ∙ sym same; threads = run.threads ∙ sym as_many; has = run.has; now = round.now; ran = on };
      serves = round.serves;
      legal = seen.legal;
      seen_of = seen_of x.home (plan x.home) round.now y.helper seen round.serves;
    }) since

pub closing_keeps : CrashInClosingLaw hosted_device → HostClosingLaw
closing_keeps keeps h x p old d c image lanes run serves closing since =
    let from = closing.from run.now serves in
    let l : Layout = x.store.known.layout in
    let there : Device = hosted_device x.store.disk in
    let before : HasRun l h.plan.lanes (plan h) p old run.now there = subst (λ (t : ℕ). HasRun l t (plan h) p old run.now there) (sym lanes) run.ran in
    let ran = run_on l h.plan.lanes (plan h) p run.now from.closed.now old there (hosted_device d) before from.ran in
    keeps h p old x (hosted_device d) closing.ended image lanes run from (left_since old d c image ran.shown.grows since)
