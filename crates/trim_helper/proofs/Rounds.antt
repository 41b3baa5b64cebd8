-- A round of the helper.
use Rattle.std.proofs.Common.{ℕ, zero, suc, ◌≡◌, ◌≢◌, ◌+◌, ◌<◌, ◌≤◌, ◌⊎◌, ◌==◌, if◌then◌else◌, Bool, true, false, List, [], ◌∷◌, ◌++◌, length, replicate, Result, Ok, Err, IfOk, OnErr, IsErrOf, Option, None, Some, refl, sym, ap, ◌∙◌, subst, inl, inr, arith}
use Rattle.std.proofs.lemmas.Bool.Decides.{eqb_tells}
use Rattle.std.proofs.lemmas.List.{append_assoc}
use Rattle.thread_rings.specs.Rings.{Receiving}
use Rattle.heap_model.specs.declared.record.Record.{Record}
use Rattle.heap_model.specs.Setting.{Setting}
use Rattle.block_disk.specs.Device.{Device, HasCause}
use Rattle.block_disk.proofs.Failures.{cause_since}
use Rattle.image_parts.specs.declared.layout.Layout.{Layout}
use Rattle.monitor.specs.declared.view.Note.{Note}
use Rattle.monitor.specs.Seats.{Helping, Home}
use Rattle.monitor.specs.Views.{noted}
use Rattle.heap_model.specs.Past.{Past, applied, no_past}
use Rattle.heap_model.specs.declared.store_error.StoreError.{StoreError}
use Rattle.heap_model.specs.declared.store_error.StoreError.TheVariants.{Failed, BadLane, BadId, Worn, NotNext, TooLong, LogFull, Unwritten, Fault, Unfinished}
use Rattle.store_rounds.specs.Runs.{HasRun, TakesSequences}
use Rattle.store_rounds.specs.Store as stores
use Rattle.store_rounds.specs.Store.{Known, HasPast}
use Rattle.store_rounds.proofs.Shown.{rests}
use Rattle.trim_helper.specs.Calls.{AreStuck, DrainsUpTo, HasGoneOn, IsBelow, IsWithin, Publishes, RoundsUpTo, SettlesUpTo, SharesOut}
use Rattle.trim_helper.specs.Counts.{WasCount}
use Rattle.trim_helper.specs.Draining.{DrainsRings}
use Rattle.trim_helper.specs.declared.draining.TheConstants.{LOOKS}
use Rattle.trim_helper.specs.Helping.{IsHelper, IsPublished, count_published, place_published, taken_in}
use Rattle.trim_helper.specs.Parts.{HasDrained, IsServing, IsWhole, Parts, taking_of}
use Rattle.trim_helper.specs.Rings.{received_of, known_of, held_back, waiting_in, stream}
use Rattle.trim_helper.specs.Moves.{SameRings}
use Rattle.trim_helper.specs.Taken.{Taking, HasTaken, Advances, AllStuck, applied_more, trimmed_of}
use Rattle.trim_helper.specs.Settled.{HasSame, IsDurable, IsSettled, RefusesRound, SettlesAndTrimsApplied, StaysFailed}
use Rattle.heap_model.specs.Log.{IsLegal}
use Rattle.trim_helper.specs.Closed.{AreSent, Stood}
use Rattle.trim_helper.specs.declared.ended.Ended.{Ended}
use Rattle.trim_helper.specs.Endings.{HoldNone, IsComplete}
use Rattle.trim_helper.proofs.Counting.{stand_added, stand_more, stand_none, stand_same}
use Rattle.trim_helper.proofs.Rounding.{applied_ran, applied_then, err_same, ran_moved, still_ran}
use Rattle.trim_helper.proofs.Sequences.{takes_more, takes_none, takes_then}
use Rattle.trim_helper.specs.Seen.{SeesFrom}
use Rattle.trim_helper.proofs.Noting.{noted_same}
use Rattle.trim_helper.proofs.Reordered.{stable_none}
use Rattle.trim_helper.proofs.Seeing.{sees_kept}

pub chosen : (i k a b : ℕ) {r : ℕ} → i ≡ k → r ≡ (if i == k then a else b) → r ≡ a
chosen i k a b same e = elim (eqb_tells i k) [
  | inl t ↦ e ∙ ap (λ c. if c then a else b) t.0
  | inr t ↦ absurd (t.1 same)
]

pub unchosen : (i k a b : ℕ) {r : ℕ} → i ≢ k → r ≡ (if i == k then a else b) → r ≡ b
unchosen i k a b other e = elim (eqb_tells i k) [
  | inl t ↦ absurd (other t.1)
  | inr t ↦ e ∙ ap (λ c. if c then a else b) t.0
]

pub none_of : {A : Type 0} → (xs : List A) → length xs ≡ 0 → xs ≡ []
none_of [] e = refl
none_of (x ∷ xs) e = absurd (omega arith)

-- of each lane, what its rings have is what was applied of it, and more
abbrev pub Follows : List Receiving → List (ℕ × Record) → Type 0
Follows rings log = (l : ℕ) → (later : List Record) × (received_of rings l ++ known_of rings l ≡ stream l log ++ later)

-- a helper by its parts
abbrev pub parts_from : {D : Type 0} → stores.Parts D → List Receiving → List (Option Record) → Bool → Helping → Parts D
parts_from store rings waiting is_settled seat = record { store = store; rings = rings; waiting = waiting; is_settled = is_settled; seat = seat }

-- So many records were applied after those of the past, and the helper goes on: what was acknowledged and what was trimmed stay so.
pub record Served {D : Type 0} (device : D → Device) (before : Device) (y : Parts D) (s : Setting) (p : Past) (n : ℕ) : Type 0 where
  pub newer : List (ℕ × Record)
  pub long : length newer ≡ n
  pub now : Past
  pub same : applied now ≡ newer ++ applied p
  pub cut : (l : ℕ) → p.cut l ≤ now.cut l
  pub places : (l : ℕ) → trimmed_of p l ≤ trimmed_of now l
  pub serves : IsServing device y s now
  pub ran : HasRun y.store.known.layout y.store.known.threads s p before now (device y.store.disk)

module _ {D : Type 0} (device : D → Device) where
  -- a drain that keeps the seat
  abbrev pub drained_serves : (x y : Parts D) (n : ℕ) (s : Setting) (p : Past) → HasDrained device x y n → y.seat ≡ x.seat → (y.is_settled ≡ true → (x.is_settled ≡ true) × (n ≡ 0)) → IsServing device x s p → Served device (device x.store.disk) y s p n
  drained_serves x y n s p drained seat quiet was =
      let now = drained.made s p was.taken in
      let threads : y.store.known.threads ≡ x.store.known.threads = drained.threads in
      record {
        newer = now.0;
        long = now.1;
        now = applied_more now.0 p;
        same = append_assoc now.0 p.fresh p.logged;
        cut = λ l. omega arith;
        places = λ l. omega arith;
        serves = record {
          taken = now.2;
          counts = λ l lt. subst (λ k. count_published k l ≤ p.cut l) (sym seat) (was.counts l (omega arith));
          places = λ l lt. subst (λ k. place_published k l ≤ trimmed_of p l) (sym seat) (was.places l (omega arith));
          running = λ is. drained.running ∙ was.running (quiet is).0;
          settled = λ is. let q = quiet is in subst (λ xs. IsSettled s (applied_more xs p)) (sym (none_of now.0 (now.1 ∙ q.1))) (was.settled q.0);
          trimmed = λ is. was.trimmed (quiet is).0;
          published = λ is l lt. subst (λ k. (count_published k l ≡ p.cut l) × (place_published k l ≡ trimmed_of p l)) (sym seat) (was.published (quiet is).0 l (omega arith));
          stand = λ l n lt count. stand_more x.seat x.store.known.threads s p now.0 now.2.has.past.legal was.stand l n (omega arith) (subst (λ k. WasCount k l n) seat count);
        };
        ran = applied_ran y.store.known.layout y.store.known.threads s p (device x.store.disk) (device y.store.disk) now.0 drained.uncalled;
      }

  -- the store goes on with the same records
  pub same_taken : (x : Taking D) (w : stores.Parts D) (s : Setting) (p : Past) → HasTaken device x s p → (h : HasSame (device x.store.disk) w.known (device w.disk) s p) → HasTaken device (record x { store = w }) s h.now
  same_taken x w s p was h = record {
    has = h.has;
    taken = λ l. was.taken l ∙ ap (λ (xs : List (ℕ × Record)). stream l xs ++ held_back (waiting_in x.waiting l)) (sym h.same);
  }

  pub same_serves : (z : Parts D) (w : stores.Parts D) (s : Setting) (p : Past) → z.is_settled ≡ false → w.known.threads ≡ z.store.known.threads → IsServing device z s p → (h : HasSame (device z.store.disk) w.known (device w.disk) s p) →
      IsServing device (record z { store = w }) s h.now
  same_serves z w s p unsettled threads was h = record {
    taken = same_taken (taking_of z) w s p was.taken h;
    counts = λ l lt. omega (arith, was.counts l (omega arith), h.cut l);
    places = λ l lt. omega (arith, was.places l (omega arith), h.places l);
    running = λ is. absurd (let no : false ≡ true = sym unsettled ∙ is in cc);
    settled = λ is. absurd (let no : false ≡ true = sym unsettled ∙ is in cc);
    trimmed = λ is. absurd (let no : false ≡ true = sym unsettled ∙ is in cc);
    published = λ is l lt. absurd (let no : false ≡ true = sym unsettled ∙ is in cc);
    stand = λ l n lt count. stand_same z.seat z.store.known.threads p h.now h.same was.stand l n (omega arith) count;
  }

  -- and it is published
  pub published_serves : (z : Parts D) (seat : Helping) (s : Setting) (p : Past) → IsServing device z s p → IsDurable z.store.known s p → IsPublished seat z.store.known.threads p →
      ((l n : ℕ) → l < z.store.known.threads → WasCount seat l n → WasCount z.seat l n ⊎ (n ≡ p.cut l)) → IsServing device (parts_from z.store z.rings z.waiting true seat) s p
  published_serves z seat s p was durable published added = record {
    taken = was.taken;
    counts = λ l lt. omega (arith, (published l lt).0);
    places = λ l lt. omega (arith, (published l lt).1);
    running = λ is. durable.running;
    settled = λ is. durable.settled;
    trimmed = λ is. durable.trimmed;
    published = λ is l lt. published l lt;
    stand = stand_added z.seat seat z.store.known.threads p durable.settled.stable added was.stand;
  }

  -- each lane has its ring still
  pub whole_still : (x z : Parts D) (whole : IsWhole device x) → SameRings x.rings z.rings → SeesFrom z.seat 0 z.rings → z.store.known.threads ≡ x.store.known.threads → (q : Past) → IsServing device z whole.setting q → IsWhole device z
  whole_still x z whole same sees threads q serving = record {
    lanes = omega (arith, threads, same.count, whole.lanes);
    few = omega (arith, same.count, whole.few);
    rooms = omega (arith, same.rooms, whole.rooms);
    sees = sees;
    setting = whole.setting;
    past = q;
    serving = serving;
  }

  -- a drain keeps the seat
  pub seat_sees : (x z : Parts D) (n : ℕ) → HasDrained device x z n → z.seat ≡ x.seat → SeesFrom x.seat 0 x.rings → SeesFrom z.seat 0 z.rings
  seat_sees x z n drained seat sees = subst (λ (h : Helping). SeesFrom h 0 z.rings) (sym seat) (sees_kept x.seat 0 x.rings z.rings drained.told sees)

  -- whatever a drain answered
  pub whole_drained : (most : Option ℕ) (x z : Parts D) (answer : Result ℕ StoreError) → IsWhole device x → DrainsUpTo device most x z answer → IsWhole device z
  whole_drained most x z (Ok n) whole drains =
      let was = drained_serves x z n whole.setting whole.past drains.rings.ok drains.seat drains.settled whole.serving in
      whole_still x z whole drains.rings.ok.same (seat_sees x z n drains.rings.ok drains.seat whole.sees) drains.threads was.now was.serves
  whole_drained most x z (Err e) whole drains =
      let kept = drains.rings.kept in
      let off : z.is_settled ≡ false = drains.unsettled in
      let was = drained_serves x z kept.0 whole.setting whole.past kept.1 drains.seat (λ is. absurd (let no : false ≡ true = sym off ∙ is in cc)) whole.serving in
      whole_still x z whole kept.1.same (seat_sees x z kept.0 kept.1 drains.seat whole.sees) drains.threads was.now was.serves

  pub taken_follows : (x : Taking D) (s : Setting) (p : Past) → HasTaken device x s p → Follows x.rings (applied p)
  taken_follows x s p was = λ l.
      (held_back (waiting_in x.waiting l) ++ known_of x.rings l, ap (λ (xs : List Record). xs ++ known_of x.rings l) (was.taken l) ∙ append_assoc (stream l (applied p)) (held_back (waiting_in x.waiting l)) (known_of x.rings l))

  -- what was applied, and then settled as far as that went
  pub stood_round : (x y : Taking D) (n : ℕ) (w : stores.Parts D) (s : Setting) (p : Past) (ended : List Ended) → Advances device x y n → HasTaken device x s p → ((log : List (ℕ × Record)) → Follows y.rings log → AreSent ended log) →
      w.known.layout ≡ y.store.known.layout → w.known.threads ≡ y.store.known.threads → ((s : Setting) (p : Past) → HasPast y.store.known s p (device y.store.disk) → HasSame (device y.store.disk) w.known (device w.disk) s p) →
      Stood x.store.known.layout x.store.known.threads s p ended (device x.store.disk) (device w.disk)
  stood_round x y n w s p ended on taken meets layout threads same =
      let now = on.made s p taken in
      let h = same s (applied_more now.0 p) now.2.has in
      let ran : HasRun w.known.layout w.known.threads s p (device x.store.disk) h.now (device w.disk) =
      applied_then w.known.layout w.known.threads s p h.now (device x.store.disk) (device y.store.disk) (device w.disk) now.0 on.uncalled h.ran in
      let same_layout : w.known.layout ≡ x.store.known.layout = layout ∙ on.layout in
      let same_threads : w.known.threads ≡ x.store.known.threads = threads ∙ on.threads in
      record {
        newer = now.0;
        legal = subst (IsLegal s) (append_assoc now.0 p.fresh p.logged) now.2.has.past.legal;
        sent = λ none complete. meets (now.0 ++ applied p) (subst (λ (log : List (ℕ × Record)). Follows y.rings log) (append_assoc now.0 p.fresh p.logged) (taken_follows y s (applied_more now.0 p) now.2));
        then = h.now;
        same = h.same ∙ append_assoc now.0 p.fresh p.logged;
        ran = ran_moved w.known.layout x.store.known.layout w.known.threads x.store.known.threads s p h.now (device x.store.disk) (device w.disk) (sym same_layout) (sym same_threads) ran;
      }

  -- nothing was taken yet, nor told: all is settled
  pub serves_new : (x : Parts D) (s : Setting) → x.store.known.has_failed ≡ false → ((l : ℕ) → waiting_in x.waiting l ≡ None) → HasPast x.store.known s no_past (device x.store.disk) → ((l : ℕ) → received_of x.rings l ≡ []) →
      x.seat.view.notes ≡ [] → IsServing device x s no_past
  serves_new x s running none has taken silent =
      let counts : (l : ℕ) → count_published x.seat l ≡ 0 = λ l. ap (λ (ns : List Note). noted l ns) silent in
      let places : (l : ℕ) → place_published x.seat l ≡ 0 = λ l. ap (λ (ns : List Note). noted (32 + l) ns) silent in
      record {
        taken = record { has = has; taken = λ l. taken l ∙ sym (ap held_back (none l)) };
        counts = λ l lt. omega (arith, counts l);
        places = λ l lt. omega (arith, places l);
        running = λ is. running;
        settled = λ is. record { logged = refl; stable = stable_none };
        trimmed = λ is l. refl;
        published = λ is l lt. (counts l, places l);
        stand = stand_none x.seat x.store.known.threads no_past silent;
      }

  -- a helper's drain, by its rings'
  pub helper_drains : (most : Option ℕ) (x : Parts D) (y : Taking D) (b : Bool) (answer : Result ℕ StoreError) → IsWhole device x → DrainsRings device LOOKS most (taking_of x) y answer → IfOk answer (λ n. b ≡ true → (x.is_settled ≡ true) × (n ≡ 0)) →
      IfOk answer (λ n. n ≡ 0 → x.is_settled ≡ true → b ≡ true) → OnErr answer (b ≡ false) → DrainsUpTo device most x (parts_from y.store y.rings y.waiting b x.seat) answer
  helper_drains most x y b (Ok n) whole drains settled stays off = record { rings = drains; failed = tt; settled = settled; stays = stays; unsettled = tt; seat = refl; layout = drains.ok.layout; threads = drains.ok.threads; still = λ is_off. (drains.ok.still is_off).1 }
  helper_drains most x y b (Err e) whole drains settled stays off = record {
    rings = drains;
    failed = (drains.failed, drains.why whole.setting whole.past whole.serving.taken);
    settled = tt;
    stays = tt;
    unsettled = off;
    seat = refl;
    layout = drains.kept.1.layout;
    threads = drains.kept.1.threads;
    still = λ is_off. (drains.kept.1.still is_off).1;
  }

  -- no lane goes on after the drain
  pub stuck_drained : (x z : Parts D) (n : ℕ) (s : Setting) (q : Past) → HasDrained device x z n → HasPast z.store.known s q (device z.store.disk) → AllStuck device (taking_of z) → AreStuck x.store.known.layout x.store.known.threads (device x.store.disk) z.rings z.waiting s q
  stuck_drained x z n s q drained has stuck = record {
    known = z.store.known;
    layout = drained.layout;
    threads = drained.threads;
    has = subst (λ (k : Device). HasPast z.store.known s q k) drained.uncalled has;
    stuck = λ l lt. stuck l lt s q has;
  }

pub stood_still : (l : Layout) (t : ℕ) (s : Setting) (p : Past) (ended : List Ended) (d e : Device) → IsLegal s (applied p) → (HoldNone ended → IsComplete t ended → AreSent ended (applied p)) → e ≡ d → Stood l t s p ended d e
stood_still l t s p ended d e legal sent same = record {
  newer = [];
  legal = legal;
  sent = sent;
  then = p;
  same = refl;
  ran = still_ran l t s p d e same;
}

pub nobody_waits : (n l : ℕ) → waiting_in (replicate n None) l ≡ None
nobody_waits zero l = refl
nobody_waits (suc n) zero = refl
nobody_waits (suc n) (suc l) = nobody_waits n l

refused_moved : (x x' y : Known) (e : StoreError) → x'.has_failed ≡ x.has_failed → RefusesRound x' y e → RefusesRound x y e
refused_moved x x' y Failed same h = (sym same ∙ h.0, h.1)
refused_moved x x' y Worn same h = (sym same ∙ h.0, h.1, h.2)
refused_moved x x' y Fault same h = (sym same ∙ h.0, h.1)
refused_moved x x' y BadLane same h = elim h [ ]
refused_moved x x' y BadId same h = elim h [ ]
refused_moved x x' y NotNext same h = elim h [ ]
refused_moved x x' y TooLong same h = elim h [ ]
refused_moved x x' y LogFull same h = elim h [ ]
refused_moved x x' y Unwritten same h = elim h [ ]
refused_moved x x' y Unfinished same h = elim h [ ]

-- a refusal of a round
abbrev refusal : StoreError → Result ℕ StoreError
refusal e = Err e

no_fault_of : {T : Type 0} (a b : ℕ) (r : Result T StoreError) → a ≤ b → (IsErrOf r Fault → ⊥) → HasCause a b Fault r
no_fault_of a b r le none = record { later = le; failed = λ is. absurd (none is) }

-- the drain keeps the seat
pub goes_drained : {D : Type 0} (h : Home) (x z : Parts D) → IsHelper h x.seat → z.seat ≡ x.seat → SameRings x.rings z.rings → z.store.known.layout ≡ x.store.known.layout → z.store.known.threads ≡ x.store.known.threads → HasGoneOn h x z
goes_drained h x z of seat rings layout threads = record { seat = subst (λ k. IsHelper h k) (sym seat) of; taken = ap (λ k. taken_in k) seat; rings = rings; layout = layout; threads = threads }

pub goes_on_drained : {D : Type 0} (device : D → Device) (most : Option ℕ) (h : Home) (x z : Parts D) (answer : Result ℕ StoreError) → IsHelper h x.seat → DrainsUpTo device most x z answer → HasGoneOn h x z
goes_on_drained device most h x z (Ok n) of drains = goes_drained h x z of drains.seat drains.rings.ok.same drains.layout drains.threads
goes_on_drained device most h x z (Err e) of drains = goes_drained h x z of drains.seat drains.rings.kept.1.same drains.layout drains.threads

-- none is within each bound
within_none : (most : Option ℕ) (n : ℕ) → n ≡ 0 → IsWithin most n
within_none None n none = tt
within_none (Some most) n none = let le : n ≤ most = omega arith in le

-- A round, from the drain on.
module _ {D : Type 0} (device : D → Device) (s : Setting) (p : Past) (x : Parts D) (serving : IsServing device x s p) (z : Parts D) (most : Option ℕ) where
  -- nothing could be applied
  pub rounds_failed : (e : StoreError) → DrainsUpTo device most x z (Err e) → SettlesUpTo device most s p x z (Err e)
  rounds_failed e drains =
      let kept = drains.rings.kept in
      let is : e ≡ Failed = drains.failed.0 in
      let off : x.store.known.has_failed ≡ true = drains.failed.1 in
      let unsettled : z.is_settled ≡ false = drains.unsettled in
      let was = drained_serves device x z kept.0 s p kept.1 drains.seat (λ settled. absurd (let no : false ≡ true = sym unsettled ∙ settled in cc)) serving in
      let same_failures : (device z.store.disk).failures ≡ (device x.store.disk).failures = ap (λ (d : Device). d.failures) kept.1.uncalled in
      record {
        works = record {
          newer = was.newer;
          count = tt;
          most = kept.1.most;
          now = was.now;
          same = was.same;
          cut = was.cut;
          places = was.places;
          ran = was.ran;
          serves = was.serves;
          takes = takes_more 0 2 _ _ _ _ (omega arith) (takes_none x.store.known z.store.known (device x.store.disk) (device z.store.disk) kept.1.sequence kept.1.uncalled);
          settled = tt;
          durable = tt;
          left = tt;
          quiet = λ settled none. absurd (let no : false ≡ true = sym (serving.running settled) ∙ off in cc);
          still = λ is_off. let stays = kept.1.still is_off in (none_of was.newer (was.long ∙ stays.0), stays.1);
          failed = λ was_off. ap Err is;
          refused = subst (λ k. RefusesRound x.store.known z.store.known k) (sym is) (off, kept.1.running ∙ off);
          unsettled = unsettled;
          unpublished = noted_same x.seat z.seat drains.seat;
          cause = no_fault_of _ _ _ (omega (arith, same_failures)) (λ fault. absurd (let no : Failed ≡ Fault = sym is ∙ err_same (refusal e) e Fault refl fault in cc));
        };
        within = within_none most (length was.newer) (was.long ∙ (kept.1.still off).0);
        stuck = λ runs below. absurd (let no : false ≡ true = sym runs ∙ off in cc);
      }

  module _ (n : ℕ) (drains : DrainsUpTo device most x z (Ok n)) where
    -- what the drain has done
    abbrev drained : Served device (device x.store.disk) z s p n
    drained = drained_serves device x z n s p drains.rings.ok drains.seat drains.settled serving

    same_failures : (device z.store.disk).failures ≡ (device x.store.disk).failures
    same_failures = ap (λ (d : Device). d.failures) drains.rings.ok.uncalled

    drained_takes : TakesSequences 0 x.store.known (device x.store.disk) z.store.known (device z.store.disk)
    drained_takes = takes_none x.store.known z.store.known (device x.store.disk) (device z.store.disk) drains.rings.ok.sequence drains.rings.ok.uncalled

    within_now : IsWithin most (length drained.newer)
    within_now = subst (λ (k : ℕ). IsWithin most k) (sym drained.long) drains.rings.within

    stuck_now : IsBelow most (length drained.newer) → AreStuck x.store.known.layout x.store.known.threads (device x.store.disk) z.rings z.waiting s drained.now
    stuck_now below = stuck_drained device x z n s drained.now drains.rings.ok drained.serves.taken.has (drains.rings.stuck (subst (λ (k : ℕ). IsBelow most k) drained.long below))

    -- all was settled, and nothing new came
    pub rounds_quiet : z.is_settled ≡ true → SettlesUpTo device most s p x z (Ok n)
    rounds_quiet settled =
        let was_so = drains.settled settled in
        let runs = drains.rings.ok.running ∙ serving.running was_so.0 in
        record {
          works = record {
            newer = drained.newer;
            count = drained.long;
            most = drains.rings.ok.most;
            now = drained.now;
            same = drained.same;
            cut = drained.cut;
            places = drained.places;
            ran = drained.ran;
            serves = drained.serves;
            takes = takes_more 0 2 _ _ _ _ (omega arith) drained_takes;
            settled = tt;
            durable = record { running = runs; settled = drained.serves.settled settled; trimmed = drained.serves.trimmed settled };
            left = rests z.store.known s drained.now (device z.store.disk) drained.serves.taken.has runs;
            quiet = λ is empty. (ap Ok was_so.1, drains.rings.ok.uncalled);
            still = λ off. absurd (let no : false ≡ true = sym (serving.running was_so.0) ∙ off in cc);
            failed = λ off. absurd (let no : false ≡ true = sym (serving.running was_so.0) ∙ off in cc);
            refused = tt;
            unsettled = tt;
            unpublished = tt;
            cause = no_fault_of _ _ _ (omega (arith, same_failures)) (λ is. absurd cc);
          };
          within = within_now;
          stuck = λ ran below. stuck_now below;
        }

    -- what was drained is made durable, where something is to be
    module _ (w : stores.Parts D) (unsettled : z.is_settled ≡ false) (threads : w.known.threads ≡ z.store.known.threads) where
      ran_to : (q : Past) → HasRun w.known.layout w.known.threads s drained.now (device z.store.disk) q (device w.disk) → HasRun w.known.layout w.known.threads s p (device x.store.disk) q (device w.disk)
      ran_to q on = applied_then w.known.layout w.known.threads s p q (device x.store.disk) (device z.store.disk) (device w.disk) drained.newer drains.rings.ok.uncalled on

      takes_on : TakesSequences 2 z.store.known (device z.store.disk) w.known (device w.disk) → TakesSequences 2 x.store.known (device x.store.disk) w.known (device w.disk)
      takes_on takes = takes_then 0 2 x.store.known z.store.known w.known (device x.store.disk) (device z.store.disk) (device w.disk) drains.rings.ok.layout drained_takes takes

      never_quiet : {T : Type 0} → x.is_settled ≡ true → drained.newer ≡ [] → T
      never_quiet is empty =
          let none : n ≡ 0 = sym drained.long ∙ ap (λ (xs : List (ℕ × Record)). length xs) empty in
          absurd (let no : false ≡ true = sym unsettled ∙ drains.stays none is in cc)

      pub rounds_refused : (e : StoreError) → SettlesAndTrimsApplied device z.store w (Err e) → StaysFailed device z.store w → TakesSequences 2 z.store.known (device z.store.disk) w.known (device w.disk) → HasCause (device z.store.disk).failures (device w.disk).failures Fault (refusal e) → SettlesUpTo device most s p x (record z { store = w }) (Err e)
      rounds_refused e settles still takes cause =
          let told = (settles s drained.now drained.serves.taken.has).settles in
          let h = told.same in
          record {
            works = record {
              newer = drained.newer;
              count = tt;
              most = drains.rings.ok.most;
              now = h.now;
              same = h.same ∙ drained.same;
              cut = λ l. omega (arith, drained.cut l, h.cut l);
              places = λ l. omega (arith, drained.places l, h.places l);
              ran = ran_to h.now h.ran;
              serves = same_serves device z w s drained.now unsettled threads drained.serves h;
              takes = takes_on takes;
              settled = tt;
              durable = tt;
              left = tt;
              quiet = λ is empty. never_quiet is empty;
              still = λ off. let stays = drains.rings.ok.still off in
                  (none_of drained.newer (drained.long ∙ stays.0), still s drained.now drained.serves.taken.has (drains.rings.ok.running ∙ off) ∙ stays.1);
              failed = λ off. ap Err (err_same (Err e) e Failed refl (told.failed (drains.rings.ok.running ∙ off)));
              refused = refused_moved x.store.known z.store.known w.known e drains.rings.ok.running told.refused;
              unsettled = unsettled;
              unpublished = noted_same x.seat z.seat drains.seat;
              cause = cause_since _ _ _ Fault (refusal e) (omega (arith, same_failures)) cause;
            };
            within = within_now;
            stuck = λ runs below. stuck_now below;
          }

      pub rounds_done : {t : Unit {0}} → w.known.has_failed ≡ false → SettlesAndTrimsApplied device z.store w (Ok t) → TakesSequences 2 z.store.known (device z.store.disk) w.known (device w.disk) → (device z.store.disk).failures ≤ (device w.disk).failures →
          SettlesUpTo device most s p x (record z { store = w }) (Ok n)
      rounds_done {t} runs settles takes later =
          let both = settles s drained.now drained.serves.taken.has in
          let told = both.settles in
          let h = told.same in
          record {
            works = record {
              newer = drained.newer;
              count = drained.long;
              most = drains.rings.ok.most;
              now = h.now;
              same = h.same ∙ drained.same;
              cut = λ l. omega (arith, drained.cut l, h.cut l);
              places = λ l. omega (arith, drained.places l, h.places l);
              ran = ran_to h.now h.ran;
              serves = same_serves device z w s drained.now unsettled threads drained.serves h;
              takes = takes_on takes;
              settled = tt;
              durable = record { running = runs; settled = told.settled; trimmed = both.trimmed };
              left = rests w.known s h.now (device w.disk) h.has runs;
              quiet = λ is empty. never_quiet is empty;
              still = λ off. absurd (let no = told.failed (drains.rings.ok.running ∙ off) in cc);
              failed = λ off. absurd (let no = told.failed (drains.rings.ok.running ∙ off) in cc);
              refused = tt;
              unsettled = tt;
              unpublished = tt;
              cause = no_fault_of _ _ _ (omega (arith, same_failures, later)) (λ is. absurd cc);
            };
            within = within_now;
            stuck = λ ran below. stuck_now below;
          }

-- A settling, and then what it has made durable is published.
module _ {D : Type 0} (device : D → Device) (most : Option ℕ) (s : Setting) (p : Past) (x z : Parts D) where
  -- a refused settling is a refused round
  pub round_refused : (e : StoreError) → SettlesUpTo device most s p x z (Err e) → RoundsUpTo device most s p x z (Err e)
  round_refused e r =
      let w = r.works in
      record {
        works = record {
          newer = w.newer;
          count = tt;
          most = w.most;
          now = w.now;
          same = w.same;
          cut = w.cut;
          places = w.places;
          ran = w.ran;
          serves = w.serves;
          takes = w.takes;
          settled = tt;
          durable = tt;
          left = tt;
          quiet = w.quiet;
          still = w.still;
          failed = w.failed;
          refused = w.refused;
          unsettled = w.unsettled;
          unpublished = w.unpublished;
          cause = w.cause;
        };
        within = r.within;
        stuck = r.stuck;
      }

  module _ (h : Home) (y : Parts D) (published : Publishes device h z y) where
    -- but for its seat, and that all is settled, the helper is as it was
    published_parts : parts_from z.store z.rings z.waiting true y.seat ≡ y
    published_parts = λ i. record { store = sym published.store i; rings = sym published.rings i; waiting = sym published.waiting i; is_settled = sym published.settled i; seat = y.seat }

    pub round_published : (n : ℕ) → SettlesUpTo device most s p x z (Ok n) → RoundsUpTo device most s p x y (Ok n)
    round_published n r =
        let w = r.works in
        subst (λ (k : Parts D). RoundsUpTo device most s p x k (Ok n)) published_parts record {
          works = record {
            newer = w.newer;
            count = w.count;
            most = w.most;
            now = w.now;
            same = w.same;
            cut = w.cut;
            places = w.places;
            ran = w.ran;
            serves = subst (λ (k : Parts D). IsServing device k s w.now) (sym published_parts) (published.serves s w.now w.serves w.durable);
            takes = w.takes;
            settled = refl;
            durable = w.durable;
            left = w.left;
            quiet = w.quiet;
            still = w.still;
            failed = w.failed;
            refused = tt;
            unsettled = tt;
            unpublished = tt;
            cause = w.cause;
          };
          within = r.within;
          stuck = r.stuck;
        }

-- publishing keeps what was applied of each lane
pub shares_published : {D : Type 0} (device : D → Device) (x z : Parts D) (h : Home) (y : Parts D) → Publishes device h z y → (n : ℕ) → SharesOut device n x z → SharesOut device n x y
shares_published device x z h y published n shares = record {
  drained = shares.drained;
  shares = shares.shares;
  received = λ l. ap (λ (rings : List Receiving). received_of rings l) published.rings ∙ shares.received l;
  waiting = published.waiting ∙ shares.waiting;
}

-- publishing keeps the words, the lanes and the rings
pub goes_on_published : {D : Type 0} (device : D → Device) (h : Home) (x z y : Parts D) → Publishes device h z y → HasGoneOn h x z → HasGoneOn h x y
goes_on_published device h x z y published on = record {
  seat = published.seat;
  taken = published.taken ∙ on.taken;
  rings = subst (λ (k : List Receiving). SameRings x.rings k) (sym published.rings) on.rings;
  layout = ap (λ (k : stores.Parts _). k.known.layout) published.store ∙ on.layout;
  threads = ap (λ (k : stores.Parts _). k.known.threads) published.store ∙ on.threads;
}
