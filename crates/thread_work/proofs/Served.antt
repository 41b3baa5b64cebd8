-- A helper goes on over rounds, whatever they answer.
use Rattle.std.proofs.Common.{ℕ, ◌≡◌, ◌++◌, [], false, List, Result, Ok, Err, OnErr, OnOk, append_assoc, refl, sym, ap, ◌∙◌, arith}
use Rattle.std.proofs.lemmas.List.{append-nil}
use Rattle.heap_model.specs.declared.event.Event.{Event}
use Rattle.heap_model.specs.Setting.{Setting}
use Rattle.block_disk.specs.Device.{Device}
use Rattle.monitor.specs.Seats.{Home}
use Rattle.thread_heap.specs.Life.{BirthLaw, LifeLaw}
use Rattle.law_running.specs.Running.{CrashSinceLaw}
use Rattle.thread_steps.specs.Views.{plan}
use Rattle.heap_model.specs.Past.{Past, no_past}
use Rattle.heap_model.specs.declared.store_error.StoreError.{StoreError}
use Rattle.trim_helper.specs.Calls.{HasGoneOn, Rounds}
use Rattle.trim_helper.specs.Heard.{HasSeen, SeenLaw}
use Rattle.trim_helper.specs.Parts.{IsServing, Parts}
use Rattle.thread_work.specs.Serving.{CrashesSince, HasStayed, IsLiving, LivesOn}

-- of what is answered Ok
pub on_ok : {A E : Type 0} (r : Result A E) (P Q : Type 0) → (P → Q) → OnOk r P → OnOk r Q
on_ok (Ok n) P Q step is = step is
on_ok (Err e) P Q step is = tt

-- of what is refused
pub on_err : {A E : Type 0} (r : Result A E) (P : Type 0) → P → OnErr r P
on_err (Ok n) P is = tt
on_err (Err e) P is = is

-- after a round that answers Ok the store hasn't failed
pub runs_on : {D : Type 0} (device : D → Device) (s : Setting) (p : Past) (x y : Parts D) (r : Result ℕ StoreError) → Rounds device s p x y r → OnOk r (y.store.known.has_failed ≡ false)
runs_on device s p x y (Ok n) round = round.serves.running round.settled
runs_on device s p x y (Err e) round = tt

pub stays : {D : Type 0} (device : D → Device) (x : Parts D) → HasStayed device x x
stays device x = record { rings = record { count = refl; ends = λ p l at. at; rooms = refl }; layout = refl; later = omega arith; sight = ([], refl) }

pub stays_on : {D : Type 0} (device : D → Device) (x y z : Parts D) → HasStayed device x y → HasStayed device y z → HasStayed device x z
stays_on device x y z before after = record {
  rings = record {
    count = after.rings.count ∙ before.rings.count;
    ends = λ p l at. after.rings.ends p l (before.rings.ends p l at);
    rooms = after.rings.rooms ∙ before.rings.rooms;
  };
  layout = after.layout ∙ before.layout;
  later = let first = before.later in let second = after.later in omega (arith, first, second);
  sight = (
    after.sight.0 ++ before.sight.0,
    after.sight.1 ∙ ap (λ (h : List (ℕ × Event)). after.sight.0 ++ h) before.sight.1 ∙ sym (append_assoc after.sight.0 before.sight.0 x.seat.view.history),
  );
}

-- a round, in which the helper has seen what it took
module _ {D : Type 0} (device : D → Device) (h : Home) (x y : Parts D) (r : Result ℕ StoreError) (on : HasGoneOn h x y) (rounds : (s : Setting) (p : Past) → IsServing device x s p → Rounds device s p x y r) (seen : HasSeen h y) where
  pub lives_on : LifeLaw device → SeenLaw device → y.store.known.has_failed ≡ false → LivesOn device h x y
  lives_on life sight running opened p was =
      let round = rounds (plan h) p was.lived.serving in (
        round.now,
        record {
          lived = life h opened p x y r was.lived on round running;
          seen = y.seat.view.history;
          legal = seen.legal;
          of = sight h (plan h) round.now y seen round.serves;
          sight = ([], refl);
        },
      )

  pub crashes_since : CrashSinceLaw device → CrashesSince device h x y
  crashes_since law opened p was image left = law h opened p x y r image was.lived (record { on = on; round = rounds (plan h) p was.lived.serving; seen = seen }) left

pub lives_same : {D : Type 0} (device : D → Device) (h : Home) (x : Parts D) → LivesOn device h x x
lives_same device h x opened p was = (p, was)

pub lives_then : {D : Type 0} (device : D → Device) (h : Home) (x y z : Parts D) → LivesOn device h x y → LivesOn device h y z → LivesOn device h x z
lives_then device h x y z before after opened p was =
    let mid = before opened p was in
    after opened mid.0 mid.1

pub crashes_then : {D : Type 0} (device : D → Device) (h : Home) (x y z : Parts D) → LivesOn device h x y → CrashesSince device h y z → CrashesSince device h x z
crashes_then device h x y z before after opened p was =
    let mid = before opened p was in
    after opened mid.0 mid.1

-- before the first round nothing is applied, and so it is of what was seen, of nothing
pub begins_living : {D : Type 0} (device : D → Device) (h : Home) (x : Parts D) → BirthLaw device → h.plan.lanes ≡ x.store.known.threads → IsServing device x (plan h) no_past → x.store.known.has_failed ≡ false → IsLiving device h (device x.store.disk) x no_past
begins_living device h x birth lanes serving running = record {
  lived = birth h x lanes serving running;
  seen = [];
  legal = tt;
  of = λ l low. ([], refl);
  sight = (x.seat.view.history, sym (append-nil x.seat.view.history));
}
