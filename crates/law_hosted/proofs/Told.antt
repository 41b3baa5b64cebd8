-- What was told of a hosted heap that runs.
use Rattle.std.proofs.Common.{suc, ◌≡◌, arith}
use Rattle.disk_deferred.specs.Syncs.{durable_moments, moments_of, syncs_in}
use Rattle.law_running.specs.Told.{KeepsToldLaw}
use Rattle.law_running.proofs.Told.{read_of_kept}
use Rattle.host_heap.specs.Hosting.{hosted_device}
use Rattle.law_hosted.specs.Running.{HostRunLaw}
use Rattle.law_hosted.specs.Told.{AcknowledgedToldLaw, HostReadLaw}

pub acknowledged_told : KeepsToldLaw → HostRunLaw → AcknowledgedToldLaw
acknowledged_told told runs p x z y now helper c image serving same met made on at later =
    let old = hosted_device z.helper.store.disk in
    let all : durable_moments (moments_of old) ≡ suc (syncs_in z.calls.made) = met.all made.none_left made.none_known in
    let more = later.made in
    told x.home y.store.known.layout p now helper image at
    (runs x.home p old y helper.view.history c image on (record { by = later.by; made = omega (arith, all, more) }))

pub host_read : KeepsToldLaw → HostRunLaw → HostReadLaw
host_read told runs h p x y t sections now helper c image had layout on at since =
    read_of_kept hosted_device h p x y.store.known.layout t sections now image had layout
    (told h y.store.known.layout p now helper image at (runs h p (hosted_device x.store.disk) y helper.view.history c image on since))
