-- What a heap is while it lives, and what a crash keeps of it.
use Rattle.std.proofs.Common.{ℕ, ◌≡◌, ◌<◌, ◌≤◌, Bool, true, false, List, [], Option, Result, refl, sym, ap, ◌∙◌, subst, arith}
use Rattle.heap_model.specs.declared.event.Event.{Event}
use Rattle.heap_model.specs.Past.{Past, no_past}
use Rattle.heap_model.specs.declared.store_error.StoreError.{StoreError}
use Rattle.block_disk.specs.Device.{Device}
use Rattle.image_parts.specs.declared.layout.Layout.{Layout}
use Rattle.monitor.specs.Seats.{Home}
use Rattle.store_rounds.proofs.Running.{run_none}
use Rattle.thread_steps.specs.Views.{plan}
use Rattle.trim_helper.specs.Calls.{MakesRound}
use Rattle.trim_helper.specs.Heard.{IsSeenOf, SeenLaw}
use Rattle.trim_helper.specs.Parts.{Parts}
use Rattle.thread_heap.specs.Life.{FailedLaw}
use Rattle.law_running.specs.Crashes.{CrashInClosingLaw}
use Rattle.law_running.specs.Running.{CrashInRoundLaw, CrashNowLaw, KeepsRunning, Rests}
use Rattle.headline.specs.Living.{OpenedLaw, RoundLaw, SinceLaw}
use Rattle.headline.specs.Life.{AtRest, InClosing, InRound, Life, LifeSince, Lives, LivesSince, MadeNone, MadeRound, Still}

-- the threads have the lanes of the words, and the helper rests
pub record IsAtRest {D : Type 0} (device : D → Device) (h : Home) (p : Past) (x : Parts D) (seen : List (ℕ × Event)) : Type 0 where
  pub lanes : h.plan.lanes ≡ x.store.known.threads
  pub rests : Rests device h p x seen

module _ {D : Type 0} (device : D → Device) (h : Home) (failed : FailedLaw device) (seen_of : SeenLaw device) where
  at_rest_since : (first : Parts D) (before : Past) (saw : List (ℕ × Event)) → IsAtRest device h before first saw → (x : Parts D) (p : Past) (seen : List (ℕ × Event)) →
      LivesSince device h first before saw x p seen → IsAtRest device h p x seen
  at_rest_since first before saw began _ _ _ Still = began
  at_rest_since first before saw began x p seen (MadeRound w _ q earlier answer lived made) = record {
    lanes = (at_rest_since first before saw began w q earlier lived).lanes ∙ sym made.on.threads;
    rests = record { serves = made.round.serves; legal = made.seen.legal; seen_of = seen_of h (plan h) made.round.now x made.seen made.round.serves };
  }
  at_rest_since first before saw began x p seen (MadeNone w _ _ _ answer lived off on round) =
      let was = at_rest_since first before saw began w p seen lived in
      record {
        lanes = was.lanes ∙ sym on.threads;
        rests = record {
          serves = (failed h p w x answer was.rests.serves on round off).0;
          legal = was.rests.legal;
          seen_of = subst (λ (n : ℕ). IsSeenOf h n p seen) (sym on.rings.count) was.rests.seen_of;
        };
      }

  pub at_rest : (x : Parts D) (p : Past) (seen : List (ℕ × Event)) → Lives device h x p seen → IsAtRest device h p x seen
  at_rest x p seen lives =
      let began : IsAtRest device h no_past lives.opened [] =
      record { lanes = lives.lanes; rests = record { serves = lives.serves; legal = record {}; seen_of = λ l low. ([], refl) } } in
      at_rest_since lives.opened no_past [] began x p seen lives.since

  -- what was acknowledged stays so
  rises : (first : Parts D) (before : Past) (saw : List (ℕ × Event)) (x : Parts D) (p : Past) (seen : List (ℕ × Event)) (lane : ℕ) →
      LivesSince device h first before saw x p seen → before.cut lane ≤ p.cut lane
  rises first before saw _ _ _ lane Still = omega arith
  rises first before saw x p seen lane (MadeRound w _ q earlier answer lived made) =
      let was = rises first before saw w q earlier lane lived in
      let more = made.round.cut lane in
      omega (arith, was, more)
  rises first before saw x p seen lane (MadeNone w _ _ _ answer lived off on round) = rises first before saw w p seen lane lived

  -- a lane of the threads is one of the image that a crash leaves later, and what was acknowledged of it stays so
  pub until_rises : (first : Parts D) (before : Past) (saw : List (ℕ × Event)) → IsAtRest device h before first saw → (image : List ℕ) (l : Layout) (q : Past) (later : List (ℕ × Event)) (lane : ℕ) →
      LifeSince device h first before saw image l q later → lane < first.store.known.threads → (lane < l.lanes) × (before.cut lane ≤ q.cut lane)
  until_rises first before saw began image l q later lane (AtRest x _ _ lived left) there =
      let now = at_rest_since first before saw began x q later lived in
      let within : x.store.known.threads ≤ x.store.known.layout.lanes = now.rests.serves.taken.has.layout.within in
      let one = began.lanes in
      let two = now.lanes in
      (omega (arith, there, within, one, two), rises first before saw x q later lane lived)
  until_rises first before saw began image l q later lane (InRound x y _ earlier answer lived made left) there =
      let now = at_rest_since first before saw began x q earlier lived in
      let within : x.store.known.threads ≤ x.store.known.layout.lanes = now.rests.serves.taken.has.layout.within in
      let same : y.store.known.layout.lanes ≡ x.store.known.layout.lanes = ap (λ (o : Layout). o.lanes) made.on.layout in
      let one = began.lanes in
      let two = now.lanes in
      (omega (arith, there, within, one, two, same), rises first before saw x q earlier lane lived)
  until_rises first before saw began image l q later lane (InClosing x _ earlier ended d lived from left) there =
      let now = at_rest_since first before saw began x q earlier lived in
      let within : x.store.known.threads ≤ x.store.known.layout.lanes = now.rests.serves.taken.has.layout.within in
      let one = began.lanes in
      let two = now.lanes in
      (omega (arith, there, within, one, two), rises first before saw x q earlier lane lived)

  module _ (now : CrashNowLaw device) (round : CrashInRoundLaw device) (closing : CrashInClosingLaw device) where
    pub until_kept : (first : Parts D) (before : Past) (saw : List (ℕ × Event)) → IsAtRest device h before first saw → (image : List ℕ) (l : Layout) (p : Past) (seen : List (ℕ × Event)) →
        LifeSince device h first before saw image l p seen → KeepsRunning l (plan h) p seen image
    until_kept first before saw began image l p seen (AtRest x _ _ lived left) = now h p x seen image (at_rest_since first before saw began x p seen lived).rests left
    until_kept first before saw began image l p seen (InRound x y _ earlier answer lived made left) =
        round h p x y answer image (at_rest_since first before saw began x p earlier lived).rests.serves made left
    until_kept first before saw began image l p seen (InClosing x _ earlier ended d lived from left) =
        let was = at_rest_since first before saw began x p earlier lived in
        let k : Layout = x.store.known.layout in
        closing h p (device x.store.disk) x d ended image was.lanes
        (record { store = x.store.known; layout = refl; threads = refl; has = was.rests.serves.taken.has; now = p; ran = run_none k x.store.known.threads (plan h) p (device x.store.disk) }) from left

    pub life_kept : (image : List ℕ) (l : Layout) (p : Past) (seen : List (ℕ × Event)) → Life device h image l p seen → KeepsRunning l (plan h) p seen image
    life_kept image l p seen life = until_kept life.first life.before life.saw (at_rest life.first life.before life.saw life.lives) image l p seen life.until

  -- a round of such a heap, by whether its store had failed
  on_over : (first : Parts D) (before : Past) (saw : List (ℕ × Event)) → Lives device h first before saw → (p : Past) (x y : Parts D) (seen : List (ℕ × Event)) (most : Option ℕ) (answer : Result ℕ StoreError) →
      LivesSince device h first before saw x p seen → MakesRound device h most x y answer → (off : Bool) → x.store.known.has_failed ≡ off →
      (q : Past) × (later : List (ℕ × Event)) × LivesSince device h first before saw y q later
  on_over first before saw lives p x y seen most answer lived made false is =
      let rests = (at_rest_since first before saw (at_rest first before saw lives) x p seen lived).rests in
      let round = (made.rounds (plan h) p rests.serves).works in
      (round.now, y.seat.view.history, MadeRound x y p seen answer lived (record { on = made.goes_on; round = round; seen = made.seen is }))
  on_over first before saw lives p x y seen most answer lived made true is =
      let rests = (at_rest_since first before saw (at_rest first before saw lives) x p seen lived).rests in
      (p, seen, MadeNone x y p seen answer lived is made.goes_on (made.rounds (plan h) p rests.serves).works)

  -- since a moment of what lives since another
  since_since : (opened : Parts D) (none : Past) (nobody : List (ℕ × Event)) (first : Parts D) (before : Past) (saw : List (ℕ × Event)) (x : Parts D) (p : Past) (seen : List (ℕ × Event)) →
      LivesSince device h opened none nobody first before saw → LivesSince device h first before saw x p seen → LivesSince device h opened none nobody x p seen
  since_since opened none nobody first before saw _ _ _ since Still = since
  since_since opened none nobody first before saw x p seen since (MadeRound w _ q earlier answer lived made) =
      MadeRound w x q earlier answer (since_since opened none nobody first before saw w q earlier since lived) made
  since_since opened none nobody first before saw x p seen since (MadeNone w _ _ _ answer lived off on round) =
      MadeNone w x p seen answer (since_since opened none nobody first before saw w p seen since lived) off on round

pub lives_on : {D : Type 0} (device : D → Device) → FailedLaw device → SeenLaw device → RoundLaw device
lives_on device failed seen_of h most first x y answer before p saw seen lives lived made =
    on_over device h failed seen_of first before saw lives p x y seen most answer lived made x.store.known.has_failed refl

pub lives_since : {D : Type 0} (device : D → Device) → FailedLaw device → SeenLaw device → SinceLaw device
lives_since device failed seen_of h first x before p saw seen lives lived = record {
  opened = lives.opened;
  lanes = lives.lanes;
  serves = lives.serves;
  since = since_since device h failed seen_of lives.opened no_past [] first before saw x p seen lives.since lived;
}

pub lives_first : {D : Type 0} (device : D → Device) → OpenedLaw device
lives_first device schema recovered threads last ring o opened = record { opened = o.helper; lanes = opened.helping.lanes; serves = opened.past; since = Still }
