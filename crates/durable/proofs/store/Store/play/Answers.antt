use Rattle.std.proofs.Common.{◌∙◌, Err, ap, inl, inr, ⊎_elim, arith}
use Rattle.std.proofs.lemmas.Option.{slice_get-get_or}
use Rattle.durable.proofs.Playing.{begins_on, shown_on, stands_on, played_on, played_all, reached_on, reached_all, quiet_on, stopped, takes_all, takes_on, writes_on, fault_since, fault_leaves}
use Rattle.durable.proofs.store.Store.play.Goals as goal

pub loop-place-init : goal.loop-place-init
loop-place-init g c = begins_on c.args.self.now.known (g.D.Disk.device c.args.self.now.disk) c.args.calls.now

pub loop-place-preserved : goal.loop-place-preserved
loop-place-preserved g c =
    let w = c.make.ensures.writes in
    played_on c.args.self.now.known c.loop-place.self.known (g.D.Disk.device c.args.self.now.disk) (g.D.Disk.device c.loop-place.self.disk) (g.D.Disk.device c.make.new.self.disk)
    c.args.calls.now c.loop-place.place c.loop-place.invariant c.loop-place-test.true _ (slice_get-get_or c.args.calls.now c.loop-place.place _ c.loop-place-test.true) w.shown c.make.new.self.known w.layout c.in_default.ensures.writes.running w.cause.later
    (record { known = w.sequence; shown = w.any_sequence }) w.within
    c.in_default.ensures.ok c.make.ensures.quiet

pub returns-in-Err : goal.returns-in-Err
returns-in-Err g c =
    let w = c.make.ensures.writes in
    let takes = takes_on c.args.self.now.known c.loop-place.self.known (g.D.Disk.device c.args.self.now.disk) (g.D.Disk.device c.loop-place.self.disk) (g.D.Disk.device c.make.new.self.disk)
    c.args.calls.now c.loop-place.place c.loop-place.invariant.played c.loop-place-test.true _ (slice_get-get_or c.args.calls.now c.loop-place.place _ c.loop-place-test.true) w.shown c.make.new.self.known (record { known = w.sequence; shown = w.any_sequence }) in
    record {
      ok = λ s p has. tt;
      stopped = stopped c.args.self.now.known c.loop-place.self.known (g.D.Disk.device c.args.self.now.disk) (g.D.Disk.device c.loop-place.self.disk) (g.D.Disk.device c.make.new.self.disk)
          c.args.calls.now c.loop-place.place c.loop-place.invariant.played c.loop-place-test.true _ (slice_get-get_or c.args.calls.now c.loop-place.place _ c.loop-place-test.true) w.shown c.make.new.self.known c.in-Err.reason
          c.in-Err.ensures.refused c.in-Err.ensures.writes.kept
          (⊎_elim (λ fault. inl fault) (λ same. inr (ap (λ z. z.known) same)) c.in-Err.ensures.writes.refused)
          (⊎_elim (λ fault. inl fault) (λ same. inr (ap (λ z. g.D.Disk.device z.disk) same)) c.in-Err.ensures.writes.refused);
      running = tt;
      moments = reached_on c.args.self.now.known c.loop-place.self.known (g.D.Disk.device c.args.self.now.disk) (g.D.Disk.device c.loop-place.self.disk) (g.D.Disk.device c.make.new.self.disk)
          c.args.calls.now c.loop-place.place c.loop-place.invariant c.loop-place-test.true _ (slice_get-get_or c.args.calls.now c.loop-place.place _ c.loop-place-test.true) w.shown;
      quiet = quiet_on c.args.self.now.known c.loop-place.self.known (g.D.Disk.device c.args.self.now.disk) (g.D.Disk.device c.loop-place.self.disk) (g.D.Disk.device c.make.new.self.disk)
          c.args.calls.now c.loop-place.place c.loop-place.invariant.played c.loop-place-test.true _ (slice_get-get_or c.args.calls.now c.loop-place.place _ c.loop-place-test.true) w.shown c.make.ensures.quiet;
      shown = shown_on c.args.self.now.known c.loop-place.self.known (g.D.Disk.device c.args.self.now.disk) (g.D.Disk.device c.loop-place.self.disk) (g.D.Disk.device c.make.new.self.disk)
          c.args.calls.now c.loop-place.place c.loop-place.invariant.played c.loop-place-test.true _ (slice_get-get_or c.args.calls.now c.loop-place.place _ c.loop-place-test.true) w.shown;
      any_moment = stands_on c.args.self.now.known c.loop-place.self.known (g.D.Disk.device c.args.self.now.disk) (g.D.Disk.device c.loop-place.self.disk) (g.D.Disk.device c.make.new.self.disk)
          c.args.calls.now c.loop-place.place c.loop-place.invariant.played c.loop-place-test.true _ (slice_get-get_or c.args.calls.now c.loop-place.place _ c.loop-place-test.true) w.shown;
      failed = λ fault. w.failed (c.in-Err.is ∙ ap (λ e. Err e) fault);
      in_doubt = fault_leaves c.args.calls.now c.loop-place.place _ c.make.result c.in-Err.reason c.make.new.self.known.doubt (slice_get-get_or c.args.calls.now c.loop-place.place _ c.loop-place-test.true) w.in_doubt c.in-Err.is;
      cause = fault_since _ _ _ c.make.result c.in-Err.reason c.loop-place.invariant.played.later w.cause c.in-Err.is;
      sequence = takes.known;
      any_sequence = takes.shown;
      within = writes_on c.args.self.now.known c.loop-place.self.known (g.D.Disk.device c.args.self.now.disk) (g.D.Disk.device c.loop-place.self.disk) (g.D.Disk.device c.make.new.self.disk)
          c.args.calls.now c.loop-place.place c.loop-place.invariant.played c.loop-place-test.true _ (slice_get-get_or c.args.calls.now c.loop-place.place _ c.loop-place-test.true) w.shown w.within;
      layout = w.layout ∙ c.loop-place.invariant.played.layout;
    }

pub returns : goal.returns
returns g c =
    let all = c.loop-place.invariant in
    let takes = takes_all c.args.self.now.known c.loop-place.self.known (g.D.Disk.device c.args.self.now.disk) (g.D.Disk.device c.loop-place.self.disk) c.args.calls.now c.loop-place.place all.played in
    record {
      ok = played_all c.args.self.now.known c.loop-place.self.known (g.D.Disk.device c.args.self.now.disk) (g.D.Disk.device c.loop-place.self.disk) c.args.calls.now c.loop-place.place all.played (omega (arith, c.loop-place-test.false));
      stopped = λ s p has. tt;
      running = all.played.running;
      moments = reached_all c.args.self.now.known c.loop-place.self.known (g.D.Disk.device c.args.self.now.disk) (g.D.Disk.device c.loop-place.self.disk) c.args.calls.now c.loop-place.place all (omega (arith, c.loop-place-test.false));
      quiet = all.played.quiet;
      shown = all.played.shown;
      any_moment = all.played.stands;
      failed = tt;
      in_doubt = tt;
      cause = tt;
      sequence = takes.known;
      any_sequence = takes.shown;
      within = all.played.writes;
      layout = all.played.layout;
    }
