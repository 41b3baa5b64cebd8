-- A heap whose threads have come back, by how its run went on, and what its closing says of the run.
use Rattle.std.proofs.Common.{ℕ, ◌≡◌, ◌≤◌, ◌∙◌, All, false, sym, subst}
use Rattle.std.specs.List.{range_with_len}
use Rattle.block_disk.specs.Device.{Device}
use Rattle.guards.specs.Schema.{Declarations}
use Rattle.image_parts.specs.Recovered.{Parts}
use Rattle.image_parts.specs.declared.layout.Layout.{Layout}
use Rattle.monitor.specs.Seats.{Home}
use Rattle.thread_heap.specs.Joined.{IsHelping}
use Rattle.law_running.specs.Running.{CrashBetweenLaw}
use Rattle.session.specs.declared.session.Session.{Session}
use Rattle.heap_model.specs.Past.{no_past}
use Rattle.trim_helper.specs.Endings.{IsEnded, lanes_ended}
use Rattle.trim_helper.specs.Parts as helpers
use Rattle.thread_work.specs.Bodies.{Answer, WereCalled}
use Rattle.thread_work.specs.Crashes.{CrashesOf, KeepsLater}
use Rattle.thread_work.specs.Outcomes.{EndsRun, HasRunFrom, IsRunBy}
use Rattle.thread_work.specs.Returns.{HasReturned, HaveReturned}
use Rattle.thread_work.specs.Serving.{CrashesBy, HasStayed, IsLiving, LivesOn}
use Rattle.thread_work.specs.Stops.{IsHomeOf, StopsEnd, StopsRun}
use Rattle.thread_work.specs.declared.error.RunError.{RunError}
use Rattle.thread_work.specs.declared.outcome.Outcome.{Outcome}
use Rattle.thread_work.specs.declared.returned.Returned.{Returned}
use Rattle.thread_work.proofs.Ends.{living_later}
use Rattle.thread_work.proofs.Refused.{run_stops}
use Rattle.thread_work.proofs.Stopped.{stops_since}

module _ (does : Home → Session → Session → Answer → Type 0) {D : Type 0} (device : D → Device) where
  -- threads have come back, with the helper that served beside them
  pub have_returned : (h : Home) (x : helpers.Parts D) (r : Returned D) → r.shared ≡ h → HasStayed device x r.helper → LivesOn device h x r.helper → IsHelping device h r.helper → r.helper.store.known.has_failed ≡ false
      → All (IsEnded h r.helper.store.known.layout.capacity r.helper.rings) r.ended.items → lanes_ended r.ended.items ≡ range_with_len 0 h.plan.lanes
      → WereCalled does h x.store.known.layout.capacity r.answer r.ended.items → HaveReturned does device h x r
  have_returned h x r same stayed lives helping running ended lanes called = record {
    shared = same;
    stayed = stayed;
    lives = lives;
    back = record {
      helping = subst (λ (k : Home). IsHelping device k r.helper) (sym same) helping;
      running = running;
      ended = subst (λ (k : Home). All (IsEnded k r.helper.store.known.layout.capacity r.helper.rings) r.ended.items) (sym same) ended;
      lanes = subst (λ (k : Home). lanes_ended r.ended.items ≡ range_with_len 0 k.plan.lanes) (sym same) lanes;
      called = subst (λ (k : Home). WereCalled does k r.helper.store.known.layout.capacity r.answer r.ended.items) (sym same)
          (subst (λ (l : Layout). WereCalled does h l.capacity r.answer r.ended.items) (sym stayed.layout) called);
    };
  }

  -- the threads have come back that began with the helper of a heap of this schema
  pub returned_from : (schema : Declarations) (n : ℕ) (was : Parts D) (h : Home) (x : helpers.Parts D) (r : Returned D) → CrashBetweenLaw device → IsHomeOf schema was.heap n h → x.store.known.layout ≡ was.layout
      → device x.store.disk ≡ device was.disk → IsLiving device h (device x.store.disk) x no_past → HaveReturned does device h x r → HasReturned does device schema n was r
  returned_from schema n was h x r law home layouts devices living come =
      let on = come.lives (device x.store.disk) no_past living in
      let now : IsLiving device r.shared (device was.disk) r.helper on.0 =
      subst (λ (d : Device). IsLiving device r.shared d r.helper on.0) devices (subst (λ (k : Home). IsLiving device k (device x.store.disk) r.helper on.0) (sym come.shared) on.1) in
      let same : r.helper.store.known.layout ≡ was.layout = come.stayed.layout ∙ layouts in
      record {
        plan = subst (λ (k : Home). IsHomeOf schema was.heap n k) (sym come.shared) home;
        layout = same;
        later = subst (λ (d : Device). d.failures ≤ (device r.helper.store.disk).failures) devices come.stayed.later;
        past = on.0;
        living = now;
        crashes = subst (λ (l : Layout). KeepsLater r.shared l r.helper.seat.view.history (device was.disk) (device r.helper.store.disk)) same (living_later device r.shared (device was.disk) r.helper on.0 law now);
        back = come.back;
      }

  -- their heap was closed, and what is told is what the whole run tells
  pub ran_from : (schema : Declarations) (n : ℕ) (was now : Parts D) (r : Returned D) (outcome : Outcome) → HasReturned does device schema n was r → EndsRun does device r.shared r.helper now outcome
      → HasRunFrom does device schema n was now outcome
  ran_from schema n was now r outcome back ran = record {
    shared = r.shared;
    plan = back.plan;
    run = subst (λ (l : Layout). IsRunBy does device r.shared l (device was.disk) now outcome) back.layout (ran (device was.disk) back.past back.living);
  }

  -- it wasn't closed
  pub stopped_from : (schema : Declarations) (n : ℕ) (was : Parts D) (r : Returned D) (new : Device) (e : RunError) → HasReturned does device schema n was r → StopsEnd (device r.helper.store.disk) new e
      → CrashesBy device does r.shared r.helper new e → StopsRun does device schema n was new e
  stopped_from schema n was r new e back stops crashes =
      run_stops does device schema n was r.shared new e back.plan
      (subst (λ (k : Layout). CrashesOf does r.shared k (device was.disk) new e) back.layout (crashes (device was.disk) back.past back.living))
      (stops_since (device was.disk) (device r.helper.store.disk) new e back.later stops)
