-- What a crash left by the end of a run of threads.
use Rattle.std.proofs.Common.{ℕ, ◌≡◌, [], List, All, Result, Ok, Err, inl, inr, refl, sym, ap, ◌∙◌, subst, arith}
use Rattle.heap_model.specs.Log.{IsLegal}
use Rattle.heap_model.specs.declared.event.Event.{Event}
use Rattle.heap_model.specs.declared.record.Record.{Record}
use Rattle.block_disk.specs.Device.{Device}
use Rattle.store_rounds.specs.Runs.{HasRun}
use Rattle.store_rounds.proofs.Running.{run_on}
use Rattle.image_parts.specs.declared.layout.Layout.{Layout}
use Rattle.law_rounds.specs.Laws.{RoundLaw}
use Rattle.monitor.specs.Seats.{Home}
use Rattle.recover.specs.Recovery.{IsCutOff}
use Rattle.session.specs.declared.session.Session.{Session}
use Rattle.thread_heap.specs.Closed.{IsClosedFrom}
use Rattle.thread_heap.specs.Joined.{IsHelping}
use Rattle.thread_heap.specs.Life.{HasLived}
use Rattle.law_running.specs.Crashes.{CrashLaw}
use Rattle.law_running.specs.Running.{CrashBetweenLaw, CrashNowLaw}
use Rattle.thread_steps.specs.Views.{plan}
use Rattle.heap_model.specs.Past.{Past, no_past}
use Rattle.heap_model.specs.declared.store_error.StoreError.{StoreError}
use Rattle.trim_helper.specs.Closed.{Stood}
use Rattle.trim_helper.specs.Endings.{HoldNone, IsComplete, IsEnded, parts_of}
use Rattle.trim_helper.specs.Heard.{HasSeen, SeenLaw}
use Rattle.trim_helper.specs.Leaving.{HasLeft, ReadNoMore}
use Rattle.trim_helper.specs.Parts.{IsServing, Parts}
use Rattle.trim_helper.specs.declared.ended.Ended.{Ended}
use Rattle.thread_work.specs.Bodies.{Answer}
use Rattle.thread_work.specs.Crashes.{CrashesOf, HaveEnded, HaveLeft, IsLeftBehind, IsLeftByCalls, KeepsEach, KeepsLater, KeepsReadsNow, KeepsSeen, KeepsSome, RecoveryTakenLaw, RunTakenLaw, TakesEach}
use Rattle.thread_work.specs.Serving.{CrashesBy, CrashesSince, HasServed, HasStayed, IsLiving, LivesOn}
use Rattle.thread_work.specs.Stops.{StopsTelling}
use Rattle.thread_work.specs.declared.error.RunError.{RunError}
use Rattle.thread_work.specs.declared.error.RunError.TheVariants.{NoMemory, NoThread, Image, Helper, Unfinished, Close, Recover, OtherSchema}
use Rattle.thread_work.proofs.Left.{have_read, later_kept, left_of, rest_reads, run_reads}
use Rattle.thread_work.proofs.Stopped.{closed_taken, loses_closed}

-- recovery accepts what it keeps something of
pub kept_taken : (h : Home) (l : Layout) (history : List (ℕ × Event)) (old new : Device) → KeepsEach h l history old new → TakesEach old new
kept_taken h l history old new keeps image left = (keeps image left).accepted

module _ (does : Home → Session → Session → Answer → Type 0) where
  -- the recovery after a closing is stopped by no other part of a run
  pub telling_crashes : RoundLaw → (h : Home) (l : Layout) (opened closed new : Device) (e : RunError) → IsLeftBehind does h l closed opened new → StopsTelling closed new e → CrashesOf does h l opened new e
  telling_crashes law h l opened closed new NoMemory left stops = inr (closed, left)
  telling_crashes law h l opened closed new NoThread left stops = absurd stops
  telling_crashes law h l opened closed new (Image e) left stops = stops
  telling_crashes law h l opened closed new (Helper e) left stops = absurd stops
  telling_crashes law h l opened closed new Unfinished left stops = absurd stops
  telling_crashes law h l opened closed new (Close e) left stops = absurd stops
  telling_crashes law h l opened closed new (Recover e) left stops = record { closed = closed; left = left; refused = loses_closed closed new e (closed_taken law h l left.ended closed left.ran) stops }
  telling_crashes law h l opened closed new OtherSchema left stops = stops

  -- layouts are the same
  on_layout : (h : Home) (l k : Layout) (opened new : Device) (e : RunError) → l ≡ k → CrashesOf does h l opened new e → CrashesOf does h k opened new e
  on_layout h l k opened new e same crashes = subst (λ (m : Layout). CrashesOf does h m opened new e) same crashes

module _ {D : Type 0} (device : D → Device) where
  -- between two rounds
  living_seen : (h : Home) (opened : Device) (x : Parts D) (p : Past) → CrashBetweenLaw device → (was : IsLiving device h opened x p) → KeepsSeen h x.store.known.layout was.seen opened (device x.store.disk)
  living_seen h opened x p law was image left = law h opened p x was.seen image was.lived (record { serves = was.lived.serving; legal = was.legal; seen_of = was.of }) left

  living_keeps : (h : Home) (opened : Device) (x : Parts D) (p : Past) → CrashBetweenLaw device → IsLiving device h opened x p → KeepsSome h x.store.known.layout opened (device x.store.disk)
  living_keeps h opened x p law was = record { seen = was.seen; each = living_seen h opened x p law was }

  pub living_later : (h : Home) (opened : Device) (x : Parts D) (p : Past) → CrashBetweenLaw device → IsLiving device h opened x p → KeepsLater h x.store.known.layout x.seat.view.history opened (device x.store.disk)
  living_later h opened x p law was = later_kept h x.store.known.layout was.seen x.seat.view.history opened (device x.store.disk) was.sight (living_seen h opened x p law was)

  -- what leaving a heap says of its sessions
  abbrev pub Leaves : (h : Home) (x : Parts D) (es : List Ended) → Type 0
  Leaves h x es = HasLeft h.plan (parts_of es) x.seat × ((p : Past) → IsServing device x (plan h) p → ReadNoMore (parts_of es) x.store.known.threads p)

  module _ (does : Home → Session → Session → Answer → Type 0) (h : Home) (x : Parts D) where
    -- of a helper whose device is given back: for want of memory, or for want of a thread
    back_wanting : (disk : D) → CrashBetweenLaw device → disk ≡ x.store.disk → CrashesBy device does h x (device disk) NoMemory
    back_wanting disk law is opened p was = inl (subst (λ (d : Device). KeepsSome h x.store.known.layout opened d) (sym (ap device is)) (living_keeps h opened x p law was))

    pub back_threadless : (disk : D) → CrashBetweenLaw device → disk ≡ x.store.disk → CrashesBy device does h x (device disk) NoThread
    back_threadless disk law is opened p was = subst (λ (d : Device). KeepsSome h x.store.known.layout opened d) (sym (ap device is)) (living_keeps h opened x p law was)

    -- all threads have left a helper that rests
    pub living_left : (opened : Device) (p : Past) (es : List Ended) → CrashBetweenLaw device → CrashNowLaw device → IsHelping device h x → All (IsEnded h x.store.known.layout.capacity x.rings) es
        → HaveEnded does h x.store.known.layout es → Leaves h x es → IsLiving device h opened x p → HaveLeft does h x.store.known.layout es opened (device x.store.disk)
    living_left opened p es between now helping ended are leaves was =
        left_of does h x.store.known.layout x.seat was.seen es opened (device x.store.disk) are leaves.0 was.sight (living_seen h opened x p between was)
        (rest_reads device h p x was.seen es now helping (record { serves = was.lived.serving; legal = was.legal; seen_of = was.of }) ended (leaves.1 p was.lived.serving))

    -- a body has left a monitor held
    pub back_open : (disk : D) (es : List Ended) → CrashBetweenLaw device → CrashNowLaw device → IsHelping device h x → All (IsEnded h x.store.known.layout.capacity x.rings) es
        → HaveEnded does h x.store.known.layout es → Leaves h x es → (HoldNone es → ⊥) → disk ≡ x.store.disk → CrashesBy device does h x (device disk) Unfinished
    back_open disk es between now helping ended are leaves holds is opened p was = record {
      ended = es;
      left = subst (λ (d : Device). HaveLeft does h x.store.known.layout es opened d) (sym (ap device is)) (living_left opened p es between now helping ended are leaves was);
      holds = holds;
    }

    module _ (y : Parts D) where
      -- the helper as it was, and as it is
      pub back_before : (new : Device) (e : RunError) → HasStayed device x y → LivesOn device h x y → CrashesBy device does h y new e → CrashesBy device does h x new e
      back_before new e stayed lives crashes opened p was =
          let on = lives opened p was in
          on_layout does h y.store.known.layout x.store.known.layout opened new e stayed.layout (crashes opened on.0 on.1)

      -- since a round was refused
      pub back_stopped : (disk : D) (e : StoreError) (es : List Ended) → SeenLaw device → CrashNowLaw device → HasStayed device x y → CrashesSince device h x y → HasSeen h y → IsHelping device h y
          → All (IsEnded h y.store.known.layout.capacity y.rings) es → HaveEnded does h y.store.known.layout es → Leaves h y es → disk ≡ y.store.disk → CrashesBy device does h x (device disk) (Helper e)
      back_stopped disk e es seen_of now stayed since seen helping ended are leaves is opened p was =
          let q = helping.past in
          let reads : KeepsReadsNow es (device y.store.disk) =
          rest_reads device h q y y.seat.view.history es now helping (record { serves = helping.serving; legal = seen.legal; seen_of = seen_of h (plan h) q y seen helping.serving }) ended (leaves.1 q helping.serving) in
          let left : HaveLeft does h y.store.known.layout es opened (device y.store.disk) =
          left_of does h y.store.known.layout y.seat y.seat.view.history es opened (device y.store.disk) are leaves.0 ([], refl) (since opened p was) reads in
          (es, subst (λ (d : Device). HaveLeft does h x.store.known.layout es opened d) (sym (ap device is)) (subst (λ (l : Layout). HaveLeft does h l es opened (device y.store.disk)) stayed.layout left))

  -- for want of memory, whatever the last round answered
  pub back_served : {A : Type 0} (does : Home → Session → Session → Answer → Type 0) (h : Home) (x y : Parts D) (disk : D) (answer : Result A StoreError) → CrashBetweenLaw device → HasServed device h x y answer → disk ≡ y.store.disk
      → CrashesBy device does h x (device disk) NoMemory
  back_served does h x y disk (Ok a) law served is opened p was = back_before does h x y (device disk) NoMemory served.stayed served.lives (back_wanting does h y disk law is) opened p was
  back_served does h x y disk (Err e) law served is opened p was =
      inl (subst (λ (d : Device). KeepsSome h x.store.known.layout opened d) (sym (ap device is))
      (subst (λ (l : Layout). KeepsSome h l opened (device y.store.disk)) served.stayed.layout (record { seen = y.seat.view.history; each = served.crashes opened p was })))

  pub back_same : (does : Home → Session → Session → Answer → Type 0) (h : Home) (x y : Parts D) (new : Device) (e : RunError) → y ≡ x → CrashesBy device does h y new e → CrashesBy device does h x new e
  back_same does h x y new e same crashes = subst (λ (z : Parts D). CrashesBy device does h z new e) same crashes

  module _ (does : Home → Session → Session → Answer → Type 0) (h : Home) (opened d : Device) (x : Parts D) (p : Past) (es : List Ended) (was : HasLived device h opened x p) (helping : IsHelping device h x)
      (ended : All (IsEnded h x.store.known.layout.capacity x.rings) es) (are : HaveEnded does h x.store.known.layout es) (rounds : RoundLaw) where
    -- what they had read, since a run of the store from then on
    reads_then : (q : Past) → HasRun x.store.known.layout x.store.known.threads (plan h) p (device x.store.disk) q d → ReadNoMore (parts_of es) x.store.known.threads p → KeepsReadsNow es d
    reads_then q ran read =
        let has = was.serving.taken.has in
        run_reads rounds x.store.known.layout x.store.known.threads (plan h) p q x.store.known (device x.store.disk) d es refl refl has.layout.within has ran
        (have_read h x.store.known.layout.capacity x.store.known.threads x.rings p es (helping.rings ∙ helping.lanes) ended read)

    -- a closing that was stopped
    pub closing_left : RunTakenLaw → Stood x.store.known.layout x.store.known.threads (plan h) p es (device x.store.disk) d → ReadNoMore (parts_of es) x.store.known.threads p → IsLeftByCalls does h x.store.known.layout opened d
    closing_left law stood read =
        let life = was.life in
        let l = x.store.known.layout in
        let n = h.plan.lanes in
        let since : HasRun l n (plan h) p (device x.store.disk) stood.then d = subst (λ (m : ℕ). HasRun l m (plan h) p (device x.store.disk) stood.then d) (sym was.lanes) stood.ran in
        let ran : HasRun l n (plan h) no_past opened stood.then d = run_on l n (plan h) no_past p stood.then opened (device x.store.disk) d life.ran since in
        let here : HasRun life.began.layout life.began.threads (plan h) no_past opened stood.then d =
        subst (λ (m : ℕ). HasRun life.began.layout m (plan h) no_past opened stood.then d) (sym life.threads)
        (subst (λ (k : Layout). HasRun k n (plan h) no_past opened stood.then d) (sym life.layout) ran) in
        record {
          began = life.began;
          nothing = life.nothing;
          layout = life.layout;
          threads = life.threads;
          now = stood.then;
          ran = ran;
          legal = subst (λ (rs : List (ℕ × Record)). IsLegal (plan h) rs) (sym stood.same) stood.legal;
          takes = law life.began (plan h) no_past stood.then opened d life.nothing here;
          ended = es;
          are = are;
          durable = reads_then stood.then stood.ran read;
        }

    -- a closing, and the recovery after it
    pub closed_left : (new : Device) → CrashLaw device → RecoveryTakenLaw → HoldNone es → IsComplete h.plan.lanes es → IsClosedFrom h x.store.known.layout es p x.seat (device x.store.disk) d
        → ReadNoMore (parts_of es) x.store.known.threads p → IsCutOff d new → IsLeftBehind does h x.store.known.layout d opened new
    closed_left new crash taken none complete from read cut_off =
        let l = x.store.known.layout in
        let first = was.life.ran.shown.later in
        let second = from.ran.shown.later in
        let keeps : KeepsEach h l from.closed.history opened d = crash h opened d x p es was from in
        let takes : TakesEach opened d = kept_taken h l from.closed.history opened d keeps in
        record {
          ended = es;
          are = are;
          none = none;
          complete = complete;
          ran = from.closed;
          keeps = keeps;
          durable = reads_then from.closed.now (subst (λ (m : ℕ). HasRun l m (plan h) p (device x.store.disk) from.closed.now d) was.lanes from.ran) read;
          cut_off = cut_off;
          takes = taken opened d new (omega (arith, first, second)) takes cut_off;
        }
