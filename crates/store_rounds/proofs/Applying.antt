-- What a store has after a record was applied.
use Rattle.std.proofs.Common.{ℕ, ◌≡◌, ◌+◌, ◌<◌, ◌≤◌, ◌≢◌, false, true, [], ◌∷◌, Result, Ok, Err, MatchResult, length, refl, sym, ap, ◌∙◌, subst, arith}
use Rattle.std.proofs.lemmas.List.Elements.{All-nil, All-cons}
use Rattle.heap_model.specs.declared.record.Record.{Record}
use Rattle.heap_model.specs.Log.{IsOfLanes, lane}
use Rattle.heap_model.specs.Setting.{Setting}
use Rattle.block_disk.specs.Device.{Device}
use Rattle.undo_log.specs.Dropped.{records_in, undo_logs}
use Rattle.heap_model.specs.declared.store_error.StoreError.{StoreError}
use Rattle.heap_model.specs.declared.store_error.StoreError.TheVariants.{Failed, BadLane, BadId, Worn, NotNext, TooLong, LogFull, Unwritten, Fault, Unfinished}
use Rattle.heap_model.specs.Past.{Past, after_apply, after_log, applied}
use Rattle.store_image.proofs.Growing.{places_grown}
use Rattle.store_memory.specs.Apply.{Answers}
use Rattle.store_memory.specs.Limits.{AreWithin}
use Rattle.store_memory.specs.Memory.{KeepsLayout, Memory, lane_in}
use Rattle.store_memory.specs.Remembers.{Remembers}
use Rattle.store_memory.specs.Sections.{Logged, MayBeLogged, TellsSections}
use Rattle.durable.proofs.Behind.{behind_undo}
use Rattle.durable.proofs.Pasts.{past_apply}
use Rattle.store_round_memory.specs.Rounds.{KeepsFound, KnowsRounds, MayLog, Rounds}
use Rattle.store_rounds.specs.Steps.{Applies, IsPastOf, RefusesApply}
use Rattle.store_rounds.specs.Store.{HasPast, Known, Parts}
use Rattle.store_rounds.proofs.Shown.{shows_more}

-- what is true of what a store's parts are equal to, is true of them
pub to_parts : {D : Type 0} (device : D → Device) (y z : Parts D) (Q : Known → Device → Type 0) → y ≡ z → Q z.known (device z.disk) → Q y.known (device y.disk)
to_parts device y z Q same holds = subst (λ w. Q w.known (device w.disk)) (sym same) holds

refuses : (x : Known) (s : Setting) (p : Past) (k : ℕ) (r : Record) (e : StoreError) → x.has_failed ≡ false → Answers s x.memory p k r (Err e) → RefusesApply x s p k r e
refuses x s p k r Failed serves answers = absurd answers
refuses x s p k r BadLane serves answers = (serves, answers)
refuses x s p k r BadId serves answers = (serves, answers)
refuses x s p k r Worn serves answers = (serves, answers)
refuses x s p k r NotNext serves answers = (serves, answers)
refuses x s p k r TooLong serves answers = (serves, answers)
refuses x s p k r LogFull serves answers = (serves, answers)
refuses x s p k r Unwritten serves answers = (serves, answers)
refuses x s p k r Fault serves answers = (serves, answers)
refuses x s p k r Unfinished serves answers = (serves, answers)

pub apply_answers : (x : Known) (s : Setting) (p : Past) (k : ℕ) (r : Record) (answer : Result (Unit {0}) StoreError) → x.has_failed ≡ false → Answers s x.memory p k r answer →
    MatchResult answer (λ done. Answers s x.memory p k r (Ok done)) (RefusesApply x s p k r)
apply_answers x s p k r (Ok done) serves answers = answers
apply_answers x s p k r (Err e) serves answers = refuses x s p k r e serves answers

-- the past whose one fresh record is the newest that was applied
abbrev pub with_next : Past → (lane : ℕ) → Record → Past
with_next p k r = record (after_log p) { fresh = (k, r) ∷ [] }

module _ (x : Known) (s : Setting) (p : Past) (d : Device) (has : HasPast x s p d) (k : ℕ) (r : Record) (m : Memory) (there : k < length x.memory.lanes)
    (remembers : Remembers s m (after_apply p k r)) (keeps : KeepsLayout x.memory m) (within : AreWithin m) where
  low : k < x.threads
  low = omega (arith, there, has.layout.lanes)

  -- a lane of the threads' is one of the memory's
  lane_low : (j : ℕ) → j < x.threads → j < length m.lanes
  lane_low j below = omega (arith, below, has.layout.lanes, keeps.lanes)

  -- the lane begins behind the cut's sections, among all that was applied
  start_is : (j : ℕ) → j < x.threads → (lane_in m.lanes j).start ≡ records_in (p.cut j) (undo_logs (applied p) j)
  start_is j below = keeps.starts j ∙ has.starts j below ∙ sym (places_grown (p.cut j) p.fresh p.logged j (has.past.whole j))

  long : (j : ℕ) → j < x.threads → length (lane j ((k, r) ∷ applied p)) ≤ records_in (p.cut j) (undo_logs (applied p) j) + x.layout.capacity
  long j below = omega (arith, start_is j below, (remembers.lanes j (lane_low j below)).place, (within j (lane_low j below)).room, keeps.capacity, has.layout.capacity)

  pub may_push : MayBeLogged s x.sections p.cut (applied p) ((k, r) ∷ [])
  may_push = record {
    tells = has.sections;
    legal = remembers.legal;
    objects = omega (arith, has.setting.objects, has.layout.limits.objects.1);
    of_lanes = All-cons (λ (e : ℕ × Record). e.0 < x.sections.lanes) (k, r) [] (omega (arith, low, has.layout.logged_lanes)) (All-nil (λ (e : ℕ × Record). e.0 < x.sections.lanes));
    room = λ j below. omega (arith, below, has.layout.logged_lanes, has.layout.logged_capacity, long j (omega (arith, below, has.layout.logged_lanes)), behind_undo (p.cut j) (lane j (applied p)));
    places = λ j below.
        let lane_is : j < length m.lanes = lane_low j (omega (arith, below, has.layout.logged_lanes)) in
        omega (arith, (remembers.lanes j lane_is).place, (within j lane_is).low);
  }

  pub may_extend : MayLog s x.rounds (with_next p k r)
  may_extend = record {
    knows = record { fields = has.rounds.fields; objects = has.rounds.objects; kept = has.rounds.kept; beyond = has.rounds.beyond; starts = has.rounds.starts; taken = has.rounds.taken };
    legal = remembers.legal;
    lanes = subst (λ n. IsOfLanes n ((k, r) ∷ applied p)) (keeps.lanes ∙ has.layout.lanes ∙ sym has.layout.rounds_lanes) remembers.of_lanes;
    whole = has.sections.whole;
    last = omega (arith, has.setting.last);
    room = λ j below. omega (arith, long j (omega (arith, below, has.layout.rounds_lanes)), has.layout.rounds_capacity);
  }

  -- the record is the newest that was applied
  module _ (g : Logged) (n : Rounds) (tells : TellsSections g p.cut ((k, r) ∷ applied p)) (lanes : g.lanes ≡ x.sections.lanes) (capacity : g.capacity ≡ x.sections.capacity)
      (knows : KnowsRounds s n (after_log (with_next p k r))) (found : KeepsFound x.rounds n) where
    pub applied_has : HasPast (record { layout = x.layout; threads = x.threads; committed = x.committed; memory = m; sections = g; rounds = n; guards = x.guards; pending = x.pending; has_failed = x.has_failed }) s (after_apply p k r) d
    applied_has = record {
      layout = record {
        limits = has.layout.limits;
        some = has.layout.some;
        within = has.layout.within;
        most = has.layout.most;
        lanes = keeps.lanes ∙ has.layout.lanes;
        capacity = keeps.capacity ∙ has.layout.capacity;
        logged_lanes = lanes ∙ has.layout.logged_lanes;
        logged_capacity = capacity ∙ has.layout.logged_capacity;
        rounds_lanes = found.lanes ∙ has.layout.rounds_lanes;
        rounds_capacity = found.capacity ∙ has.layout.rounds_capacity;
      };
      setting = record { objects = has.setting.objects; fields = has.setting.fields; last = has.setting.last; many = has.setting.many; guards = has.setting.guards };
      past = past_apply s p k r has.past remembers.legal;
      trimmed = has.trimmed;
      remembers = remembers;
      sections = tells;
      rounds = record { fields = knows.fields; objects = knows.objects; kept = knows.kept; beyond = knows.beyond; starts = knows.starts; taken = knows.taken };
      starts = λ j below. keeps.starts j ∙ has.starts j below;
      kept = has.kept;
      agrees = λ serves.
          let was = has.agrees serves in
          record { helped = was.helped; on = was.on; values = was.values; covered = was.covered; complete = was.complete };
      images = λ image left. shows_more x.layout x.threads s ((k, r) ∷ []) (applied p) ((k, r) ∷ applied p) p.cut p.cut image refl (λ j. omega arith) (has.images image left);
    }

-- what is true of the fields that a store has
pub applies_from : {D : Type 0} {device : D → Device} {z x y : Parts D} {lane : ℕ} {next : Record} {answer : Result (Unit {0}) StoreError} → z ≡ x → Applies device z y lane next answer → Applies device x y lane next answer
applies_from {D} {device} {z} {x} {y} {lane} {next} {answer} is applies = subst (λ (w : Parts D). Applies device w y lane next answer) is applies

-- a store that has failed refuses
pub apply_failed : {D : Type 0} (device : D → Device) (x : Parts D) (lane : ℕ) (next : Record) → x.known.has_failed ≡ true → Applies device x x lane next (Err Failed)
apply_failed device x lane next off = record { answer = λ s p has. off; ok = λ s p has. tt; running = tt; no_fault = λ is. cc; err = refl; disk = refl; sequence = refl; layout = refl; threads = refl }

-- a record is never refused for a fault
pub never_fault : (x : Known) (s : Setting) (p : Past) (k : ℕ) (r : Record) (e : StoreError) → Answers s x.memory p k r (Err e) → e ≢ Fault
never_fault x s p k r e answers is = subst (λ f. Answers s x.memory p k r (Err f)) is answers

-- a record that isn't taken changes nothing
pub apply_refused : {D : Type 0} (device : D → Device) (x y : Parts D) (lane : ℕ) (next : Record) (e : StoreError) (s : Setting) (p : Past) → IsPastOf device x s p → x.known.has_failed ≡ false → y ≡ x →
    ((s : Setting) (p : Past) → Remembers s x.known.memory p → Answers s x.known.memory p lane next (Err e)) → Applies device x y lane next (Err e)
apply_refused {D} device x y lane next e s p was serves same answers = record {
  answer = λ s p has. refuses x.known s p lane next e serves (answers s p has.remembers);
  ok = λ s p has. tt;
  running = tt;
  no_fault = never_fault x.known s p lane next e (answers s p was.remembers);
  err = same;
  disk = ap (λ (z : Parts D). z.disk) same;
  sequence = ap (λ (z : Parts D). z.known.committed.sequence) same;
  layout = ap (λ (z : Parts D). z.known.layout) same;
  threads = ap (λ (z : Parts D). z.known.threads) same;
}
