-- What workers leave, by what the heap's threads do.
use Rattle.std.proofs.Common.{ℕ, ◌≡◌, ◌+◌, Ok, Err, inl, inr, refl, subst, arith}
use Rattle.block_disk.specs.Device.{Device}
use Rattle.guards.specs.Schema.{Declarations}
use Rattle.thread_work.specs.Bodies.{Answer, WereCalled}
use Rattle.thread_work.specs.Crashes.{HaveLeft}
use Rattle.thread_work.specs.Outcomes.{HasRunFrom}
use Rattle.thread_work.specs.Returns.{HasReturned, LeavesBack}
use Rattle.thread_work.specs.Stops as threads
use Rattle.thread_work.specs.declared.error.RunError.{RunError}
use Rattle.thread_work.specs.declared.error.RunError.TheVariants as run
use Rattle.thread_work.specs.declared.outcome.Outcome.{Outcome}
use Rattle.thread_work.specs.declared.returned.Returned.{Returned}
use Rattle.image_parts.specs.Recovered.{Parts}
use Rattle.image_parts.specs.declared.layout.Layout.{Layout}
use Rattle.session.specs.declared.error.SessionError.{SessionError}
use Rattle.thread_drive.specs.Driven.{IsDriven, driven_by}
use Rattle.thread_drive.specs.Stops.{StopsRun, said_of}
use Rattle.thread_drive.specs.Working.{HasCounted, StopsWorker}
use Rattle.thread_drive.specs.declared.error.DriveError.TheVariants.{Session}
use Rattle.thread_drive.proofs.Ending.{first_stops, never_open}
use Rattle.thread_drive.proofs.Refusing.{stops_low}

module _ {D : Type 0} (device : D → Device) where
  -- what they have run
  pub driven_from : (schema : Declarations) (n : ℕ) (was now : Parts D) (outcome : Outcome) → outcome.answer ≡ Ok tt → HasRunFrom HasCounted device schema n was now outcome → IsDriven device schema n was now (driven_by outcome)
  driven_from schema n was now outcome is ran =
      let run = ran.run in
      let told = run.told in
      record {
        shared = ran.shared;
        plan = ran.plan;
        run = record {
          ended = run.ended;
          none = run.none;
          complete = run.complete;
          called = subst (λ (a : Answer). WereCalled HasCounted ran.shared was.layout.capacity a run.ended) is run.called;
          disk = run.disk;
          closed = run.closed;
          crashes = run.crashes;
          told = record { report = told.report; recovery = told.recovery; acknowledged = told.acknowledged; heap = told.heap; any_moment = told.any_moment };
        };
      }

  -- why they were stopped
  pub said_stops : (schema : Declarations) (n : ℕ) (was : Parts D) (new : Device) (e : RunError) → threads.StopsRun HasCounted device schema n was new e → StopsRun device schema n was new (said_of e)
  said_stops schema n was new run.NoMemory stops = elim stops [
    | inl none ↦ inl none
    | inr s ↦ inr (record { shared = s.shared; plan = s.plan; stops = tt; crashes = s.crashes })
  ]
  said_stops schema n was new run.NoThread s = inr (record { shared = s.shared; plan = s.plan; stops = tt; crashes = inl s.crashes })
  said_stops schema n was new (run.Image e) s = absurd s.stops
  said_stops schema n was new (run.Helper e) s = record { shared = s.shared; plan = s.plan; stops = s.stops; crashes = s.crashes }
  said_stops schema n was new run.Unfinished s = absurd (never_open s.shared was.layout (device was.disk) new s.crashes)
  said_stops schema n was new (run.Close e) s = record { shared = s.shared; plan = s.plan; stops = s.stops; crashes = s.crashes }
  said_stops schema n was new (run.Recover e) s = record { shared = s.shared; plan = s.plan; stops = s.stops; crashes = s.crashes }
  said_stops schema n was new run.OtherSchema s = absurd s.stops

  -- since a worker has ended early
  pub session_stops : (schema : Declarations) (n : ℕ) (was : Parts D) (r : Returned D) (new : Device) (e : SessionError) → HasReturned HasCounted device schema n was r → r.answer ≡ Err e → LeavesBack HasCounted device r new
      → StopsRun device schema n was new (Session e)
  session_stops schema n was r new e returned is leaves =
      let back = returned.back in
      let called = subst (λ (a : Answer). WereCalled HasCounted r.shared r.helper.store.known.layout.capacity a r.ended.items) is back.called in
      let first = first_stops r.shared r.helper.store.known.layout.capacity 0 r.shared.plan.lanes e r.ended.items back.lanes called.1 in
      let low = first.1 in
      let stops : StopsWorker r.shared r.helper.store.known.layout.capacity e =
      stops_low r.shared (first.0 + 1) r.helper.store.known.layout.capacity r.helper.store.known.layout.capacity e (omega (arith, low)) refl first.2 in
      record {
        shared = r.shared;
        plan = returned.plan;
        stops = subst (λ (k : Layout). StopsWorker r.shared k.capacity e) returned.layout stops;
        crashes = (r.ended.items, subst (λ (k : Layout). HaveLeft HasCounted r.shared k r.ended.items (device was.disk) new) returned.layout (leaves (device was.disk) returned.past returned.living));
      }
