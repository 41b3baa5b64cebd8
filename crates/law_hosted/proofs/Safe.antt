-- What a crash of the host's device leaves.
use Rattle.std.proofs.Common.{ℕ, suc, ◌≡◌, ◌≤◌, ◌∷◌, [], List, refl, sym, subst, inl, inr, arith}
use Rattle.block_disk.specs.Device.{Device, Image, LeftSince, synced}
use Rattle.disk_deferred.specs.Deferred.{Deferred, onto, stop_of}
use Rattle.disk_deferred.specs.Host.{Host}
use Rattle.disk_deferred.specs.Syncs.{LeftAt, durable_moments, moments_of, syncs_in}
use Rattle.disk_deferred.specs.declared.call.DeviceCall.{DeviceCall}
use Rattle.disk_deferred.specs.declared.call.DeviceCall.TheVariants.{Write, Sync}
use Rattle.disk_deferred.proofs.Moments.{left_since_then}
use Rattle.block_disk.specs.Memory.{Stop}
use Rattle.image_parts.specs.declared.layout.Layout.{Layout}
use Rattle.heap_model.specs.Setting.{Setting}
use Rattle.monitor.specs.Seats.{Home}
use Rattle.store_rounds.specs.Runs.{HasRun}
use Rattle.store_rounds.specs.Store.{HasPast}
use Rattle.store_rounds.proofs.Running.{run_none, run_on}
use Rattle.law_rounds.specs.Histories.{HasLogged, RoundRunsLaw}
use Rattle.law_running.proofs.Shown.{run_shows}
use Rattle.thread_steps.specs.Views.{plan}
use Rattle.heap_model.specs.Past.{Past, applied, no_past}
use Rattle.law_survival.specs.Running.{KeepsIn}
use Rattle.trim_helper.specs.Closed.{disk_of}
use Rattle.trim_helper.specs.Parts.{IsServing}
use Rattle.host_heap.specs.Hosting.{hosted_device}
use Rattle.law_hosted.specs.Safe.{AcknowledgedLaw, BegunLaw, ClosedLaw, EndsLaw, HostLaw, KeptRunLaw, LivesLaw, NowLaw, OpeningLaw}
use Rattle.host_heap.specs.Opening.{device_on}

pub keeps_run : RoundRunsLaw → KeptRunLaw
keeps_run keeps l t s p old new image run left =
    let log = applied run.now in
    let kept : KeepsIn (HasLogged s log) l s p image = keeps l t s p log image (run_shows l t s p old new image run left) in
    record { accepted = kept.accepted; keeps = λ lane below. let stays = kept.stays lane in let same = kept.kept_are lane below in omega (arith, stays, same) }

-- no call takes a sync back
pub syncs_onto : (made : List Stop) (calls : List DeviceCall) → syncs_in made ≤ syncs_in (onto made calls)
syncs_onto made [] = omega arith
syncs_onto made (Write at bytes ∷ calls) = syncs_onto (stop_of (Write at bytes) ∷ made) calls
syncs_onto made (Sync ∷ calls) = let more = syncs_onto (stop_of Sync ∷ made) calls in omega (arith, more)

pub by_host : KeptRunLaw → HostLaw
by_host kept l t s p old d c image run since =
    let by = since.by in
    let far = since.made in
    let up = syncs_onto c.made by.next in
    let synced = by.met.synced by.next by.more image by.left by.leaves in
    kept l t s p old (hosted_device d) image run
    (left_since_then (suc (syncs_in (onto c.made by.next))) old (hosted_device d) image run.ran.shown.grows (omega (arith, far, up)) synced)

pub by_host_begun : KeptRunLaw → BegunLaw
by_host_begun kept schema threads r x q d c image begun ran since =
    let had : HasPast x.helper.store.known (plan x.home) no_past (hosted_device r.disk) =
    subst (λ (e : Deferred). HasPast x.helper.store.known (plan x.home) no_past (hosted_device e)) begun.disk_is begun.untold.taken.has in
    by_host kept r.layout threads (plan x.home) no_past (hosted_device r.disk) d c image
    (record { store = x.helper.store.known; layout = begun.layout_is; threads = begun.threads_are; has = had; now = q; ran = ran }) since

pub by_host_acknowledged : KeptRunLaw → AcknowledgedLaw
by_host_acknowledged kept x y same were made p d c image serving run later =
    let old = hosted_device y.helper.store.disk in
    let more_made = later.made in
    let all : durable_moments (moments_of old) ≡ suc (syncs_in y.calls.made) = were.all made.none_left made.none_known in
    by_host kept x.helper.store.known.layout x.helper.store.known.threads (plan x.home) p old d c image run (record { by = later.by; made = omega (arith, all, more_made) })

pub by_host_now : KeptRunLaw → NowLaw
by_host_now kept x y same met made p image serving left =
    let known = x.helper.store.known in
    let disk = y.helper.store.disk in
    let had : HasPast known (plan x.home) p (hosted_device disk) = subst (λ (e : Device). HasPast known (plan x.home) p e) (sym same.helper.device_is) serving.taken.has in
    by_host_acknowledged kept x y same met made p disk y.calls image serving
    (record { store = known; layout = refl; threads = refl; has = had; now = p; ran = run_none known.layout known.threads (plan x.home) p (hosted_device disk) })
    (record { by = record { met = met; next = []; more = []; left = made.none_left; leaves = left }; made = omega arith })

-- a run, where it is of this layout and of so many threads
pub run_of : (l k : Layout) (t u : ℕ) (s : Setting) (p q : Past) (old new : Device) → k ≡ l → u ≡ t → HasRun l t s p old q new → HasRun k u s p old q new
run_of l k t u s p q old new layout threads ran =
    subst (λ (n : ℕ). HasRun k n s p old q new) (sym threads) (subst (λ (o : Layout). HasRun o t s p old q new) (sym layout) ran)

pub lives_on : LivesLaw
lives_on x y answer old first p serving ran makes stays =
    let round = makes p serving in
    let l : Layout = y.helper.store.known.layout in
    let t : ℕ = y.helper.store.known.threads in
    let before : HasRun l t (plan x.home) first old p (hosted_device x.helper.store.disk) =
    run_of x.helper.store.known.layout l x.helper.store.known.threads t (plan x.home) first p old (hosted_device x.helper.store.disk) stays.layout stays.threads ran in
    let on = run_on l t (plan x.home) first p round.now old (hosted_device x.helper.store.disk) (hosted_device y.helper.store.disk) before round.ran in (
      round.now,
      subst (λ (h : Home). IsServing hosted_device y.helper (plan h) round.now) (sym stays.home) round.serves,
      subst (λ (h : Home). HasRun l t (plan h) first old round.now (hosted_device y.helper.store.disk)) (sym stays.home) on,
    )

pub ends_on : EndsLaw
ends_on h x ended answer old first p serving ran met =
    let l : Layout = x.store.known.layout in
    let stood = (met p serving).stood in
    (stood.then, run_on l x.store.known.threads (plan h) first p stood.then old (hosted_device x.store.disk) (hosted_device (disk_of answer)) ran stood.ran)

-- where its moments are so many, it is of the last one
left_last : (n : ℕ) (d : Device) (image : List ℕ) → durable_moments (moments_of d) ≡ n → LeftAt n (moments_of d) image → Image d.now image
left_last n d image all (inl here) = here.1
left_last n d image all (inr before) = let more = before.0 in absurd (omega (arith, all, more))

pub closed_on : ClosedLaw
closed_on h x d c image closing met made left =
    let is = left_last (suc (syncs_in c.made)) (hosted_device d) image (met.all made.none_left made.none_known) (met.synced [] [] image made.none_left left) in
    record { left = closing.closed.left image is; stands = closing.closed.stands image is; values = closing.closed.values image is }

-- before recovery has written, a crash leaves the bytes that there were
as_found : (c : Host) (bytes image : List ℕ) → LeftSince 0 (synced (device_on c bytes)) image → Image (record { bytes = bytes; pending = [] }) image
as_found c bytes image (inl now) = now.1
as_found c bytes image (inr (inl first)) = first.1
as_found c bytes image (inr (inr none)) = elim none [ ]

pub opens_on : OpeningLaw
opens_on versions threads ring bytes x report s c image found of by =
    let left : LeftSince 0 (hosted_device found.found.disk) image =
    subst (λ (e : Deferred). LeftSince 0 (hosted_device e) image) found.begun.disk_is (by.met.earlier by.next by.more image by.left by.leaves) in
    elim ((found.any_moment s of).each 0 image (omega arith) left) [
      | inl before ↦ inl (as_found x.calls bytes image before)
      | inr way ↦ inr way
    ]
