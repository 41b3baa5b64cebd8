use Rattle.std.proofs.Common.{ℕ, Err, refl, inl, ◌≡◌, ◌<◌, ◌≤◌, List, length, ap, sym, subst, ◌∙◌, arith}
use Rattle.trim_helper.specs.Closed.{HasSpelled}
use Rattle.heap_model.specs.declared.event.Event.{Event}
use Rattle.heap_model.specs.History.{log_of}
use Rattle.monitor.specs.Views.{GoesOn}
use Rattle.monitor.specs.Words.{setting_of}
use Rattle.trim_helper.specs.Helping.{place_published, taken_in}
use Rattle.trim_helper.specs.Meeting.{HasPart}
use Rattle.trim_helper.specs.Taken.{applied_more, trimmed_of, with_rings}
use Rattle.block_disk.specs.Device.{HasFailed}
use Rattle.trim_helper.proofs.Advancing.{count_low}
use Rattle.trim_helper.proofs.ClosingReasons.{why_drained, why_settled}
use Rattle.trim_helper.proofs.Counting.{count_later, have_kept}
use Rattle.trim_helper.proofs.Rounding.{applied_then, ran_moved, stops_round}
use Rattle.trim_helper.proofs.Sequences.{takes_more, takes_none, takes_then}
use Rattle.trim_helper.proofs.Looking.{looks_taken}
use Rattle.trim_helper.proofs.Rounds.{stood_round, stood_still, taken_follows}
use Rattle.trim_helper.proofs.Sent.{HasMet, are_sent}
use Rattle.trim_helper.specs.Serving.{Among, Part}
use Rattle.trim_helper.specs.Endings.{parts_of}
use Rattle.heap_model.specs.Past.{applied}
use Rattle.trim_helper.proofs.Closing.{all_applied, all_free, has_spelled, same_lanes}
use Rattle.heap_model.specs.declared.store_error.StoreError.TheVariants.{Failed as StoreFailed}
use Rattle.trim_helper.proofs.closing_down.finish.Goals as goal

pub returns-clause-finishes : goal.returns-clause-finishes
returns-clause-finishes g c = λ p has.
    let s = setting_of c.args.shared.plan in
    let layout = c.layout-layout.ensures in
    let lanes : c.args.shared.plan.lanes ≡ c.args.store.now.known.threads = c.requires.lanes in
    let history = c.close-words.ensures.history in
    let present : (l : ℕ) → l < c.args.shared.plan.lanes → HasPart (taken_in c.meet.new.seat) l = λ l lt. c.meet.ensures.present l (omega (arith, c.requires.rings)) in
    let count : length c.meet.new.rings ≡ c.args.shared.plan.lanes = c.meet.ensures.looks.same.count ∙ c.requires.rings ∙ sym lanes in
    let x = with_rings c.args.store.now c.args.rings.now c.args.waiting.now in
    let met = with_rings c.args.store.now c.meet.new.rings c.args.waiting.now in
    let y = with_rings c.drain_known.new.store c.drain_known.new.rings c.drain_known.new.waiting in
    let w = c.make_durable.new.store in
    let taken = looks_taken g.D.Disk.device x c.meet.new.rings s p c.meet.ensures.looks has in
    let on = c.in_default.ensures.takes.ok in
    let low = count_low g.D.Disk.device met y _ on (omega (arith, c.meet.ensures.looks.same.rooms, c.requires.room)) (omega (arith, c.meet.ensures.looks.same.count, c.requires.few)) c.requires.slots in
    let all = λ (behind : (l : ℕ) → l < c.args.shared.plan.lanes → place_published c.meet.new.seat l ≤ trimmed_of p l).
    all_applied s c.args.shared.plan.lanes c.layout-layout.result.capacity (place_published c.meet.new.seat) (taken_in c.meet.new.seat) history.history history.one c.meet.new.rings c.meet.ensures.met present count
    c.log_law.ensures c.own_log_law.ensures g.D.Disk.device c.args.store.now c.args.waiting.now y _ p c.next_law.ensures taken lanes (ap (λ l. l.capacity) layout)
    (λ x among. (c.close-words.ensures.read x among).1) behind on (c.in_default.ensures.stuck low) in
    let free = all_free s c.args.shared.plan.lanes c.layout-layout.result.capacity (place_published c.meet.new.seat) (taken_in c.meet.new.seat) history.history history.one c.meet.new.rings c.meet.ensures.met present count
    c.log_law.ensures c.own_log_law.ensures in
    let each : (x : Part) → Among (parts_of c.args.ended.items) x → HasMet c.args.shared c.drain_known.new.rings x = λ x among. on.whole x.lane ∙ c.meet.ensures.met.whole x (subst (λ parts. Among parts x) (sym c.meet.ensures.gathered) among) in
    record {
      ok = λ places stand.
          let every = all (λ l lt. let place = c.meet.ensures.place l in omega (arith, (places l (omega arith)).1)) in
          let seat = c.args.seat in
          let read = have_kept seat c.meet.new.seat c.meet.ensures.notes c.close-words.ensures.published in
          let settled = (c.in_default-make_durable.ensures.settles s (applied_more every.0 p) every.1.has).settles in
          let now = settled.same.now in
          let since = g.D.Disk.device c.args.store.now.disk in
          let device = g.D.Disk.device w.disk in
          let threads : w.known.threads ≡ c.args.shared.plan.lanes = c.make_durable.ensures.threads ∙ on.threads ∙ sym lanes in
          let ran = ran_moved w.known.layout w.known.layout w.known.threads c.args.shared.plan.lanes s p now since device refl (sym threads) (applied_then w.known.layout w.known.threads s p now since _ device every.0 on.uncalled settled.same.ran) in
          subst (λ parts. HasSpelled c.args.shared.plan c.args.store.now.known.layout parts p seat since device c.close-words.result) c.meet.ensures.gathered
          (subst (λ l. HasSpelled c.args.shared.plan l (taken_in c.meet.new.seat) p seat since device c.close-words.result) (c.make_durable.ensures.layout ∙ on.layout)
          (has_spelled c.args.shared.plan (taken_in c.meet.new.seat) history.history history.one c.log_law.ensures c.order_law.ensures c.all_kept_law.ensures c.stable_law.ensures.one c.unlogged_law.ensures c.close-words.result history.spelled history.values p
          (λ x among lt. let counts = c.meet.ensures.count x.lane in omega (arith, (c.close-words.ensures.read x among).0, (places x.lane (omega arith)).0))
          (λ x among lt. let place = c.meet.ensures.place x.lane in omega (arith, (c.close-words.ensures.read x among).1, (places x.lane (omega arith)).1))
          seat (subst (λ (seen : List (ℕ × Event)). GoesOn history.history seen) c.meet.ensures.sight.history history.later) (λ x among lt. read x among)
          (λ x among lt. count_later s p every.0 (log_of s history.history) x.lane x.count has.has.past.legal (c.log_law.ensures s history.history history.one.legal) every.2 (stand x.lane x.count (omega (arith, lt, lanes)) (read x among)))
          w.known since device now ran threads settled.same.has c.in_default-make_durable.ensures.running settled.settled (same_lanes _ _ _ settled.same.same every.2) free));
      stop = tt;
      why = tt;
      failed = λ off.
          let made = on.made s p taken in
          absurd (let no = (c.in_default-make_durable.ensures.settles s (applied_more made.0 p) made.2.has).settles.failed (on.running ∙ off) in cc);
      stood = stood_round g.D.Disk.device met y _ w s p c.args.ended.items on taken (λ log follows. are_sent c.args.shared _ c.args.rings.now c.drain_known.new.rings c.args.ended.items log c.requires.ended each follows) c.make_durable.ensures.layout c.make_durable.ensures.threads
          (λ s p has. (c.in_default-make_durable.ensures.settles s p has).settles.same);
      read = λ places x among lt.
          let read = (c.close-words.ensures.read x (subst (λ parts. Among parts x) (sym c.meet.ensures.gathered) among)).0 in
          let same = c.meet.ensures.count x.lane in
          let most = (places x.lane lt).0 in
          omega (arith, read, same, most);
      later = let rose = c.make_durable.ensures.cause.later in let same = ap (λ d. d.failures) on.uncalled in omega (arith, rose, same);
      shown = (takes_then 0 2 c.args.store.now.known y.store.known w.known _ _ _ on.layout (takes_none c.args.store.now.known y.store.known _ _ on.sequence on.uncalled) c.make_durable.ensures.takes).shown;
    }

pub returns-in-Err-clause-finishes : goal.returns-in-Err-clause-finishes
returns-in-Err-clause-finishes g c = λ p has.
    let s = setting_of c.args.shared.plan in
    let x = with_rings c.args.store.now c.args.rings.now c.args.waiting.now in
    let taken = looks_taken g.D.Disk.device x c.meet.new.rings s p c.meet.ensures.looks has in
    let takes = c.in-Err.ensures.takes in
    let each : (x : Part) → Among (parts_of c.args.ended.items) x → HasMet c.args.shared c.meet.new.rings x = λ x among. c.meet.ensures.met.whole x (subst (λ parts. Among parts x) (sym c.meet.ensures.gathered) among) in
    record {
      ok = λ places stand. tt;
      stop = c.close_error.ensures.stop;
      why = why_drained c.args.store.now.known _ _ c.in-Err.reason c.close_error.result (inl takes.failed) c.close_error.ensures.failed c.close_error.ensures.worn c.close_error.ensures.fault takes.failed (takes.why s p taken);
      failed = λ off. ap Err (c.close_error.ensures.from_failed takes.failed);
      stood = stood_still _ _ s p c.args.ended.items _ _ has.has.past.legal
          (λ none complete. are_sent c.args.shared _ c.args.rings.now c.meet.new.rings c.args.ended.items (applied p) c.requires.ended each (taken_follows g.D.Disk.device _ s p taken)) takes.kept.1.uncalled;
      read = λ places x among lt.
          let read = (c.close.ensures.read x (subst (λ parts. Among parts x) (sym c.meet.ensures.gathered) among)).0 in
          let same = c.meet.ensures.count x.lane in
          let most = (places x.lane lt).0 in
          omega (arith, read, same, most);
      later = tt;
      shown = (takes_more 0 2 c.args.store.now.known _ _ _ (omega arith) (takes_none c.args.store.now.known c.drain_known.new.store.known _ _ takes.kept.1.sequence takes.kept.1.uncalled)).shown;
    }

pub returns-in-Err-make_durable-clause-finishes : goal.returns-in-Err-make_durable-clause-finishes
returns-in-Err-make_durable-clause-finishes g c = λ p has.
    let s = setting_of c.args.shared.plan in
    let x = with_rings c.args.store.now c.args.rings.now c.args.waiting.now in
    let met = with_rings c.args.store.now c.meet.new.rings c.args.waiting.now in
    let y = with_rings c.drain_known.new.store c.drain_known.new.rings c.drain_known.new.waiting in
    let w = c.make_durable.new.store in
    let taken = looks_taken g.D.Disk.device x c.meet.new.rings s p c.meet.ensures.looks has in
    let on = c.in_default.ensures.takes.ok in
    let made = on.made s p taken in
    let left = (c.in-Err-make_durable.ensures.settles s (applied_more made.0 p) made.2.has).settles in
    let told = c.close_error-in-Err-make_durable.ensures in
    let took = takes_then 0 2 c.args.store.now.known y.store.known w.known _ _ _ on.layout (takes_none c.args.store.now.known y.store.known _ _ on.sequence on.uncalled) c.make_durable.ensures.takes in
    let each : (x : Part) → Among (parts_of c.args.ended.items) x → HasMet c.args.shared c.drain_known.new.rings x = λ x among. on.whole x.lane ∙ c.meet.ensures.met.whole x (subst (λ parts. Among parts x) (sym c.meet.ensures.gathered) among) in
    record {
      ok = λ places stand. tt;
      stop = told.stop;
      why = why_settled c.args.store.now.known (g.D.Disk.device c.args.store.now.disk) _ c.in-Err-make_durable.reason c.close_error-in-Err-make_durable.result (stops_round y.store.known w.known c.in-Err-make_durable.reason left.refused) told.failed told.worn told.fault
          y.store.known w.known s left.same.now on.running left.refused left.same.has took.known
          (λ is. subst (λ d. HasFailed d.failures (g.D.Disk.device w.disk).failures) on.uncalled (c.make_durable.ensures.cause.failed (c.in-Err-make_durable.is ∙ ap Err is)));
      failed = λ off. let is = left.failed (on.running ∙ off) in ap Err (told.from_failed (let same : Err c.in-Err-make_durable.reason ≡ Err StoreFailed = is in cc));
      stood = stood_round g.D.Disk.device met y _ w s p c.args.ended.items on taken (λ log follows. are_sent c.args.shared _ c.args.rings.now c.drain_known.new.rings c.args.ended.items log c.requires.ended each follows) c.make_durable.ensures.layout c.make_durable.ensures.threads
          (λ s p has. (c.in-Err-make_durable.ensures.settles s p has).settles.same);
      read = λ places x among lt.
          let read = (c.close-in-Err-make_durable.ensures.read x (subst (λ parts. Among parts x) (sym c.meet.ensures.gathered) among)).0 in
          let same = c.meet.ensures.count x.lane in
          let most = (places x.lane lt).0 in
          omega (arith, read, same, most);
      later = tt;
      shown = took.shown;
    }

pub returns-clause-still : goal.returns-clause-still
returns-clause-still g c = λ s p taken off.
    let x = with_rings c.args.store.now c.args.rings.now c.args.waiting.now in
    let on = c.in_default.ensures.takes.ok in
    let made = on.made s p (looks_taken g.D.Disk.device x c.meet.new.rings s p c.meet.ensures.looks taken) in
    absurd (let no = (c.in_default-make_durable.ensures.settles s (applied_more made.0 p) made.2.has).settles.failed (on.running ∙ off) in cc)

pub returns-in-Err-clause-still : goal.returns-in-Err-clause-still
returns-in-Err-clause-still g c = λ s p taken off. (c.in-Err.ensures.takes.kept.1.still off).1

pub returns-in-Err-make_durable-clause-still : goal.returns-in-Err-make_durable-clause-still
returns-in-Err-make_durable-clause-still g c = λ s p taken off.
    let x = with_rings c.args.store.now c.args.rings.now c.args.waiting.now in
    let on = c.in_default.ensures.takes.ok in
    let made = on.made s p (looks_taken g.D.Disk.device x c.meet.new.rings s p c.meet.ensures.looks taken) in
    c.make_durable.ensures.still s (applied_more made.0 p) made.2.has (on.running ∙ off) ∙ (on.still off).1
