-- What a crash keeps after a fault.
use Rattle.std.proofs.Common.{ℕ, ◌≡◌, sym, ap, ◌∙◌, subst}
use Rattle.block_disk.specs.Device.{Device}
use Rattle.store_rounds.specs.Runs.{HasRun}
use Rattle.store_rounds.specs.Store as stores
use Rattle.thread_steps.specs.Views.{plan}
use Rattle.law_survival.specs.WholeRun.{MayBeLeft}
use Rattle.trim_helper.specs.Heard.{IsSeenOf}
use Rattle.thread_heap.specs.Life.{FailedLaw}
use Rattle.law_running.specs.Running.{CrashInRunLaw}
use Rattle.law_running.specs.Faults.{CrashInFailedCloseLaw, RunsOnFailedLaw}

module _ {D : Type 0} (device : D → Device) where
  pub runs_on_failed : FailedLaw device → RunsOnFailedLaw device
  runs_on_failed failed h p old y z answer seen on off goes round =
      let run = on.run in
      let still = failed h run.now y z answer on.serves goes round off in
      let same : z.store ≡ y.store = still.1 in
      let layout : z.store.known.layout ≡ y.store.known.layout = ap (λ (x : stores.Parts D). x.known.layout) same in
      let threads : z.store.known.threads ≡ y.store.known.threads = ap (λ (x : stores.Parts D). x.known.threads) same in
      record {
        run = record {
          store = run.store;
          layout = run.layout ∙ sym layout;
          threads = run.threads ∙ sym threads;
          has = run.has;
          now = run.now;
          ran = subst (λ (x : stores.Parts D). HasRun x.known.layout x.known.threads (plan h) p old run.now (device x.disk)) (sym same) run.ran;
        };
        serves = still.0;
        legal = on.legal;
        seen_of = subst (λ (n : ℕ). IsSeenOf h n run.now seen) (sym goes.rings.count) on.seen_of;
      }

  pub failed_close_kept : CrashInRunLaw device → CrashInFailedCloseLaw device
  failed_close_kept crash h p old y ended answer seen image on off closes left =
      crash h p old y seen image on (subst (λ (x : D). MayBeLeft old (device x) image) (closes.still off) left)
