-- What a crash keeps of a heap's life.
use Rattle.std.proofs.Common.{[], sym}
use Rattle.block_disk.specs.Device.{Device}
use Rattle.thread_heap.specs.Life.{ClosedLifeLaw}
use Rattle.thread_steps.specs.Views.{plan}
use Rattle.heap_model.specs.Past.{applied, no_past}
use Rattle.law_rounds.specs.Histories.{RoundRunLaw}
use Rattle.law_running.specs.Crashes.{CrashLaw}
use Rattle.law_running.proofs.Shown.{run_shows}

pub kept : {D : Type 0} (device : D → Device) → ClosedLifeLaw device → RoundRunLaw → CrashLaw device
kept device closes law h opened d x p ended was from image left =
    let life = closes h opened d x p ended was from in
    let c = from.closed in
    let l = x.store.known.layout in
    law l h.plan.lanes (plan h) no_past (applied c.now) c.history image c.legal (λ k. ([], sym (c.logs k)))
    (run_shows l h.plan.lanes (plan h) no_past opened d image
    (record { store = life.began; layout = life.layout; threads = life.threads; has = life.nothing; now = c.now; ran = life.ran }) left)
