-- What a refusal says, by the refusal of a part.
use Rattle.std.proofs.Common.{ℕ, suc, ◌≡◌, ◌<◌, ◌≤◌, ◌⊎◌, List, inl, inr, length, refl, sym, ap, subst, ◌∙◌, arith}
use Rattle.block_disk.specs.Device.{Device}
use Rattle.guards.specs.Schema.{Declarations, field_count, first_of, guard_of, object_count}
use Rattle.thread_work.specs.ImageLanes.{HasLanesFor}
use Rattle.thread_work.specs.Runs.{HasFound, RefusesFound}
use Rattle.thread_work.specs.Runs as threads
use Rattle.thread_work.specs.Stops.{IsHomeOf}
use Rattle.thread_work.specs.declared.error.RunError.{RunError}
use Rattle.thread_work.specs.declared.error.RunError.TheVariants as run
use Rattle.image_parts.specs.Calls.{after}
use Rattle.image_parts.specs.Format.{format_calls}
use Rattle.image_parts.specs.Layout.{size_of}
use Rattle.image_parts.specs.Recovered.{Parts}
use Rattle.image_parts.specs.declared.error.ImageError.{ImageError}
use Rattle.image_parts.specs.declared.error.ImageError.TheVariants as images
use Rattle.monitor.specs.Seats.{Home}
use Rattle.monitor.specs.declared.view.Plan.{Plan}
use Rattle.recover.specs.declared.report.Report.{Report}
use Rattle.session.specs.declared.error.SessionError.{SessionError}
use Rattle.session.specs.declared.error.SessionError.TheVariants as sessions
use Rattle.store_image.specs.Formatting.{RefusesFormat, layout_with}
use Rattle.thread_drive.specs.Driven.{IsMadeOf, blank_device}
use Rattle.thread_drive.specs.Refusals.{IsOwnStop, IsStoppedFirst, RefusesNew, RefusesOn, RefusesWith}
use Rattle.thread_drive.specs.Schemas.{HoldsWorkers, IsOfWorkers, MayHaveImage, schema_of}
use Rattle.thread_drive.specs.Stops.{StopsRun, said_of}
use Rattle.thread_drive.specs.Working.{StopsWorker}
use Rattle.thread_drive.specs.declared.error.DriveError.{DriveError}
use Rattle.thread_drive.specs.declared.error.DriveError.TheVariants.{NoMemory, Schema, Image, Helper, Session, Close, Recover, OtherSchema}
use Rattle.thread_drive.proofs.SchemaLemmas.{fields_are, first_is_zero, guards_are, objects_are}

-- a session refuses workers of their own schema only as behind or worn
own_session : (workers : ℕ) (h : Home) (capacity : ℕ) (values : List ℕ) (e : SessionError) → IsHomeOf (schema_of workers) values workers h → StopsWorker h capacity e → (e ≡ sessions.Behind) ⊎ (e ≡ sessions.Worn)
own_session workers h capacity values sessions.UnknownObject home stops =
    let most : h.plan.lanes ≡ workers = ap (λ (p : Plan). p.lanes) home in
    let count : object_count h.plan.schema ≡ suc workers = ap (λ (p : Plan). object_count p.schema) home ∙ objects_are workers in
    let few : object_count h.plan.schema ≤ h.plan.lanes = stops in
    absurd (omega (arith, most, count, few))
own_session workers h capacity values sessions.UnknownField home stops =
    let most : h.plan.lanes ≡ workers = ap (λ (p : Plan). p.lanes) home in
    let count : field_count h.plan.schema ≡ suc workers = ap (λ (p : Plan). field_count p.schema) home ∙ fields_are workers in
    let few : field_count h.plan.schema ≤ h.plan.lanes = stops in
    absurd (omega (arith, most, count, few))
own_session workers h capacity values sessions.NotHeld home stops =
    let most : h.plan.lanes ≡ workers = ap (λ (p : Plan). p.lanes) home in
    let low : stops.0 ≤ h.plan.lanes = stops.1 in
    absurd (stops.2 (ap (λ (p : Plan). guard_of p.schema stops.0) home ∙ guards_are workers stops.0 (omega (arith, most, low))))
own_session workers h capacity values sessions.Behind home stops = inl refl
own_session workers h capacity values sessions.SectionFull home stops = absurd stops
own_session workers h capacity values sessions.TooMany home stops = absurd stops
own_session workers h capacity values sessions.TooDeep home stops = absurd stops
own_session workers h capacity values sessions.NoFat home stops = absurd stops
own_session workers h capacity values sessions.Worn home stops = inr refl
own_session workers h capacity values (sessions.Held x) home stops = absurd stops

-- an image of as many lanes as there are workers has a lane for each
pub just : (workers lanes : ℕ) → lanes ≡ workers → 1 ≤ workers → HasLanesFor workers lanes
just workers lanes same some = record { some = some; within = omega (arith, same); most = omega (arith, same) }

module _ {D : Type 0} (device : D → Device) where
  pub own_stops : (workers : ℕ) (was : Parts D) (new : Device) (e : DriveError) → StopsRun device (schema_of workers) workers was new e → IsOwnStop e
  own_stops workers was new NoMemory stops = tt
  own_stops workers was new (Schema e) stops = tt
  own_stops workers was new (Image e) stops = tt
  own_stops workers was new (Helper e) stops = tt
  own_stops workers was new (Session e) stops = own_session workers stops.shared was.layout.capacity was.heap e stops.plan stops.stops
  own_stops workers was new (Close e) stops = tt
  own_stops workers was new (Recover e) stops = tt
  own_stops workers was new OtherSchema stops = tt

  -- behind the image that was found
  pub stopped_on : (workers : ℕ) (old : Device) (was : Parts D) (report : Report) (new : Device) (e : DriveError) → HoldsWorkers workers old.now.bytes → HasFound device (schema_of workers) workers old report was
      → StopsRun device (schema_of workers) workers was new e → IsOwnStop e → RefusesOn device workers old new e
  stopped_on workers old was report new NoMemory holds found stops own = (holds, record { was = was; report = report; found = found.found; stopped = record { theirs = found.theirs; later = found.later; stops = stops; own = own } })
  stopped_on workers old was report new (Helper e) holds found stops own = (holds, record { was = was; report = report; found = found.found; stopped = record { theirs = found.theirs; later = found.later; stops = stops; own = own } })
  stopped_on workers old was report new (Session e) holds found stops own = (holds, record { was = was; report = report; found = found.found; stopped = record { theirs = found.theirs; later = found.later; stops = stops; own = own } })
  stopped_on workers old was report new (Close e) holds found stops own = (holds, record { was = was; report = report; found = found.found; stopped = record { theirs = found.theirs; later = found.later; stops = stops; own = own } })
  stopped_on workers old was report new (Recover e) holds found stops own = inr (holds, inr (record { was = was; report = report; found = found.found; stopped = record { theirs = found.theirs; later = found.later; stops = stops; own = own } }))
  stopped_on workers old was report new (Schema e) holds found stops own = elim stops.stops [ ]
  stopped_on workers old was report new (Image e) holds found stops own = elim stops.stops [ ]
  stopped_on workers old was report new OtherSchema holds found stops own = elim stops.stops [ ]

  -- before it
  pub unfound_on : (workers : ℕ) (old new : Device) (e : RunError) → RefusesFound (schema_of workers) workers old new e → RefusesOn device workers old new (said_of e)
  unfound_on workers old new run.NoMemory refused = absurd refused
  unfound_on workers old new run.NoThread refused = absurd refused
  unfound_on workers old new (run.Image e) refused = absurd refused
  unfound_on workers old new (run.Helper e) refused = absurd refused
  unfound_on workers old new run.Unfinished refused = absurd refused
  unfound_on workers old new (run.Close e) refused = absurd refused
  unfound_on workers old new (run.Recover e) refused = elim refused [
    | inl study ↦ inl study
    | inr found ↦ inr (found.0, inl found.1)
  ]
  unfound_on workers old new run.OtherSchema refused = refused

  -- an image that was made for the workers' schema
  pub made_from : (workers : ℕ) (schema : Declarations) (old : Device) (made : Parts D) → schema ≡ schema_of workers → threads.IsMadeOf device schema workers 4000 old made → IsMadeOf device workers old made
  made_from workers schema old made is so = record {
    layout = so.layout ∙ ap (λ (s : Declarations). layout_with s workers 4000) is;
    first = λ f below. so.first f (subst (λ (s : Declarations). f < field_count s) (sym is) below) ∙ ap (λ (s : Declarations). first_of s f) is ∙ first_is_zero workers f;
    calls = so.calls ∙ ap (λ (s : Declarations). after (format_calls made.layout s) old) is;
  }

  -- behind the image that was made
  pub made_new : (workers : ℕ) (old : Device) (was : Parts D) (new : Device) (e : DriveError) → MayHaveImage workers → IsMadeOf device workers old was → IsOfWorkers workers was.layout was.guards → old.failures ≤ (device was.disk).failures
      → StopsRun device (schema_of workers) workers was new e → IsOwnStop e → RefusesNew device workers old new e
  made_new workers old was new NoMemory may made theirs later stops own = (may, record { was = was; made = made; stopped = record { theirs = theirs; later = later; stops = stops; own = own } })
  made_new workers old was new (Schema e) may made theirs later stops own = elim stops.stops [ ]
  made_new workers old was new (Image e) may made theirs later stops own = elim stops.stops [ ]
  made_new workers old was new (Helper e) may made theirs later stops own = (may, record { was = was; made = made; stopped = record { theirs = theirs; later = later; stops = stops; own = own } })
  made_new workers old was new (Session e) may made theirs later stops own = (may, record { was = was; made = made; stopped = record { theirs = theirs; later = later; stops = stops; own = own } })
  made_new workers old was new (Close e) may made theirs later stops own = (may, record { was = was; made = made; stopped = record { theirs = theirs; later = later; stops = stops; own = own } })
  made_new workers old was new (Recover e) may made theirs later stops own = (may, record { was = was; made = made; stopped = record { theirs = theirs; later = later; stops = stops; own = own } })
  made_new workers old was new OtherSchema may made theirs later stops own = elim stops.stops [ ]

  -- on a new device of the image's size
  image_with : (workers : ℕ) (old new : Device) (e : ImageError) → length old.now.bytes ≡ size_of (layout_with (schema_of workers) workers 4000)
      → RefusesFormat (schema_of workers) workers 4000 old new e → RefusesWith device workers (Image e)
  image_with workers old new images.Fault size refused = refused.0
  image_with workers old new images.BadHeader size refused = refused.0
  image_with workers old new images.Worn size refused = elim refused [ ]
  image_with workers old new images.TooSmall size refused = let small = refused.1 in omega (arith, size, small)
  image_with workers old new images.NoMemory size refused = refused.0

  first_with : (workers : ℕ) (old new : Device) (e : DriveError) → old ≡ blank_device workers → IsStoppedFirst device workers old new e → (d : Device) × IsStoppedFirst device workers (blank_device workers) d e
  first_with workers old new e blank stopped = (new, subst (λ (d : Device). IsStoppedFirst device workers d new e) blank stopped)

  pub new_with : (workers : ℕ) (old new : Device) (e : DriveError) → old ≡ blank_device workers → length old.now.bytes ≡ size_of (layout_with (schema_of workers) workers 4000)
      → RefusesNew device workers old new e → RefusesWith device workers e
  new_with workers old new NoMemory blank size refused = refused.0
  new_with workers old new (Schema e) blank size refused = refused.0
  new_with workers old new (Image e) blank size refused = image_with workers old new e size refused
  new_with workers old new (Helper e) blank size refused = let stopped = first_with workers old new (Helper e) blank refused.1 in (refused.0, stopped.0, stopped.1)
  new_with workers old new (Session e) blank size refused = let stopped = first_with workers old new (Session e) blank refused.1 in (refused.0, stopped.0, stopped.1)
  new_with workers old new (Close e) blank size refused = let stopped = first_with workers old new (Close e) blank refused.1 in (refused.0, stopped.0, stopped.1)
  new_with workers old new (Recover e) blank size refused = let stopped = first_with workers old new (Recover e) blank refused.1 in (refused.0, stopped.0, stopped.1)
  new_with workers old new OtherSchema blank size refused = let stopped = first_with workers old new OtherSchema blank refused.1 in (refused.0, stopped.0, stopped.1)
