-- A heap's life since its opening.
use Rattle.std.proofs.Common.{ℕ, ◌≡◌, false, refl, sym, ◌∙◌, subst}
use Rattle.block_disk.specs.Device.{Device}
use Rattle.image_parts.specs.declared.layout.Layout.{Layout}
use Rattle.store_rounds.specs.Runs.{HasRun}
use Rattle.store_rounds.proofs.Running.{run_none, run_on}
use Rattle.monitor.specs.Seats.{Home}
use Rattle.thread_steps.specs.Views.{plan}
use Rattle.heap_model.specs.Past.{Past, no_past}
use Rattle.trim_helper.specs.Parts.{IsServing, Parts}
use Rattle.trim_helper.proofs.Rounds.{drained_serves}
use Rattle.thread_heap.specs.Life.{BirthLaw, ClosedLifeLaw, DrainLifeLaw, HasLived, LifeLaw}

module _ {D : Type 0} (device : D → Device) where
  pub begins : BirthLaw device
  begins h x lanes serving running = record {
    life = record { began = x.store.known; nothing = serving.taken.has; layout = refl; threads = sym lanes; ran = run_none x.store.known.layout h.plan.lanes (plan h) no_past (device x.store.disk) };
    lanes = lanes;
    serving = serving;
    running = running;
  }

  -- the calls of a round, or of a drain, behind those since the opening
  lives_by : (h : Home) (opened : Device) (x y : Parts D) (p q : Past) → HasLived device h opened x p → y.store.known.layout ≡ x.store.known.layout → y.store.known.threads ≡ x.store.known.threads →
      HasRun y.store.known.layout y.store.known.threads (plan h) p (device x.store.disk) q (device y.store.disk) →
      IsServing device y (plan h) q → y.store.known.has_failed ≡ false → HasLived device h opened y q
  lives_by h opened x y p q was layout threads ran serves running =
      let life = was.life in
      let l = y.store.known.layout in
      let lanes : h.plan.lanes ≡ y.store.known.threads = was.lanes ∙ sym threads in
      let before : HasRun l h.plan.lanes (plan h) no_past opened p (device x.store.disk) =
      subst (λ (k : Layout). HasRun k h.plan.lanes (plan h) no_past opened p (device x.store.disk)) (sym layout) life.ran in
      let after : HasRun l h.plan.lanes (plan h) p (device x.store.disk) q (device y.store.disk) =
      subst (λ (n : ℕ). HasRun l n (plan h) p (device x.store.disk) q (device y.store.disk)) (sym lanes) ran in
      record {
        life = record {
          began = life.began;
          nothing = life.nothing;
          layout = life.layout ∙ sym layout;
          threads = life.threads;
          ran = run_on l h.plan.lanes (plan h) no_past p q opened (device x.store.disk) (device y.store.disk) before after;
        };
        lanes = lanes;
        serving = serves;
        running = running;
      }

  pub lives_on : LifeLaw device
  lives_on h opened p x y answer was on round running = lives_by h opened x y p round.now was on.layout on.threads round.ran round.serves running

  pub lives_drained : DrainLifeLaw device
  lives_drained h opened x y p n was seat drained quiet =
      let served = drained_serves device x y n (plan h) p drained seat quiet was.serving in
      (served.now, lives_by h opened x y p served.now was drained.layout drained.threads served.ran served.serves (drained.running ∙ was.running))

  pub lives_closed : ClosedLifeLaw device
  lives_closed h opened d x p ended was from =
      let life = was.life in
      let l = x.store.known.layout in
      record {
        began = life.began;
        nothing = life.nothing;
        layout = life.layout;
        threads = life.threads;
        ran = run_on l h.plan.lanes (plan h) no_past p from.closed.now opened (device x.store.disk) d life.ran from.ran;
      }
