-- What a crash keeps of a heap that runs.
use Rattle.std.proofs.Common.{ℕ, ◌≡◌, List, ◌++◌, refl, sym, ap, ◌∙◌, subst, append_assoc}
use Rattle.heap_model.specs.declared.event.Event.{Event}
use Rattle.heap_model.specs.declared.record.Record.{Record}
use Rattle.heap_model.specs.History.{IsLegalHistory, log_of}
use Rattle.heap_model.specs.Setting.{Setting}
use Rattle.block_disk.specs.Device.{Device}
use Rattle.store_helper_sections.specs.Image.{ShowsCutOf, kept_by}
use Rattle.law_histories.specs.Laws.{LogLaw, OwnLogLaw, SentLaw}
use Rattle.image_parts.specs.declared.layout.Layout.{Layout}
use Rattle.monitor.specs.Views.{GoesOn}
use Rattle.law_running.specs.Released.{IsReleasedPrefix, OlderLaw, ReleasedLaw}
use Rattle.store_rounds.specs.Runs.{HasRun}
use Rattle.store_rounds.proofs.Running.{run_none, run_on}
use Rattle.law_rounds.specs.Laws.{Gives, RoundLaw}
use Rattle.thread_steps.specs.Views.{plan}
use Rattle.store_image.specs.KeptHeap.{kept_heap}
use Rattle.store_image.proofs.Stands.{same_heap}
use Rattle.heap_model.specs.Past.{Past, applied, no_past}
use Rattle.law_survival.specs.History.{KeepsHistory}
use Rattle.law_survival.specs.Running.{KeepsIn}
use Rattle.trim_helper.specs.Heard.{SeenLaw}
use Rattle.law_running.specs.Crashes.{CrashInClosingLaw}
use Rattle.law_running.specs.Running.{CrashBetweenLaw, CrashInRoundLaw, CrashInRunLaw, CrashNowLaw, CrashSinceLaw, GoesOnLegally, KeepsRunning, SeesMoreLaw, ToldLaw}
use Rattle.law_running.proofs.Seen.{logged_first, seen_first}
use Rattle.law_running.proofs.Shown.{run_shows}

-- what goes on from more goes on from less
goes_further : (last later seen : List (ℕ × Event)) → GoesOn last later → GoesOn later seen → GoesOn last seen
goes_further last later seen goes on = (goes.0 ++ on.0, goes.1 ∙ ap (λ (xs : List (ℕ × Event)). goes.0 ++ xs) on.1 ∙ sym (append_assoc goes.0 on.0 seen))

-- what is kept in some histories is kept in fewer
pub kept_in : (many few : List (ℕ × Event) → Type 0) (l : Layout) (s : Setting) (p : Past) (image : List ℕ) → ((history : List (ℕ × Event)) → few history → many history) → KeepsIn many l s p image → KeepsIn few l s p image
kept_in many few l s p image are was =
    record { accepted = was.accepted; cut = was.cut; stays = was.stays; kept_are = was.kept_are; keeps = λ history is. was.keeps history (are history is) }

pub more_kept : SeesMoreLaw
more_kept l s p seen later image was on = record {
  legal = on.legal;
  kept = kept_in (GoesOnLegally s seen) (GoesOnLegally s later) l s p image
      (λ last goes. record { goes_on = goes_further last later seen goes.goes_on on.goes_on; legal = goes.legal }) was.kept;
}

pub told_kept : ToldLaw
told_kept h l ended p q seat since d seen image was goes from =
    let told = from.closed.history in
    let is : GoesOnLegally (plan h) seen told = record { goes_on = goes_further told seat.view.history seen from.later goes; legal = from.closed.legal } in
    kept_in (GoesOnLegally (plan h) seen) (λ other. other ≡ told) l (plan h) p image (λ other same. subst (GoesOnLegally (plan h) seen) (sym same) is) was.kept

module _ (log_legal : LogLaw) (released : ReleasedLaw) (older : OlderLaw) (gives : RoundLaw) where
  -- what is kept of an image is of each history that has of each lane what this log has up to its last release
  kept_of : (l : Layout) (t : ℕ) (s : Setting) (p : Past) (log : List (ℕ × Record)) (seen : List (ℕ × Event)) (image : List ℕ) → ShowsCutOf l t s log p.cut image → IsLegalHistory s seen →
      ((later : List (ℕ × Event)) → GoesOn later seen → IsReleasedPrefix log (log_of s later)) → KeepsRunning l s p seen image
  kept_of l t s p log seen image shows legal first =
      let given : Gives l (kept_by s shows.shown shows.kept) shows.kept image = gives l t s shows.shown shows.kept shows.sections image shows.round shows.shows in
      record {
        legal = legal;
        kept = record {
          accepted = given.accepted;
          cut = shows.kept;
          stays = shows.more;
          kept_are = given.kept_are;
          keeps = λ later goes. keeps later goes.legal (first later goes.goes_on) given.accepted.study.heap.items given.heap_is;
        };
      }
    where
      keeps : (later : List (ℕ × Event)) → IsLegalHistory s later → IsReleasedPrefix log (log_of s later) → (heap : List ℕ) → heap ≡ kept_heap l s shows.shown shows.kept → KeepsHistory l s later shows.kept heap
      keeps later legal_later prefix heap heap_is =
          let same = released s shows.shown (log_of s later) shows.kept shows.round.legal (log_legal s later legal_later)
          (older shows.later shows.shown (log_of s later) (subst (λ (xs : List (ℕ × Record)). IsReleasedPrefix xs (log_of s later)) shows.parts prefix)) shows.round.whole shows.round.closed in
          record { whole = same.whole; closed = same.closed; heap_is = heap_is ∙ same_heap l s shows.shown (log_of s later) shows.kept same.same }

  module _ {D : Type 0} (device : D → Device) (sent : SentLaw) (own : OwnLogLaw) (seen_of : SeenLaw device) where
    -- of a run that a helper serves, by what it has seen
    pub served_kept : CrashInRunLaw device
    served_kept h p old y seen image on left =
        let run = on.run in
        let l : Layout = y.store.known.layout in
        kept_of l y.store.known.threads (plan h) p (applied run.now) seen image (run_shows l y.store.known.threads (plan h) p old (device y.store.disk) image run left) on.legal
        (λ later goes. seen_first device sent own h run.now y seen later on.serves on.seen_of goes)

    pub round_kept : CrashInRoundLaw device
    round_kept h p x y answer image serving made left =
        let round = made.round in
        served_kept h p (device x.store.disk) y y.seat.view.history image
        (record {
          run = record { store = x.store.known; layout = sym made.on.layout; threads = sym made.on.threads; has = serving.taken.has; now = round.now; ran = round.ran };
          serves = round.serves;
          legal = made.seen.legal;
          seen_of = seen_of h (plan h) round.now y made.seen round.serves;
        }) left

    pub since_kept : CrashSinceLaw device
    since_kept h opened p x y answer image lived made left =
        let life = lived.life in
        let round = made.round in
        let l : Layout = y.store.known.layout in
        let n : ℕ = y.store.known.threads in
        let lanes : h.plan.lanes ≡ n = lived.lanes ∙ sym made.on.threads in
        let of_layout : HasRun l h.plan.lanes (plan h) no_past opened p (device x.store.disk) =
        subst (λ (k : Layout). HasRun k h.plan.lanes (plan h) no_past opened p (device x.store.disk)) (sym made.on.layout) life.ran in
        let before : HasRun l n (plan h) no_past opened p (device x.store.disk) = subst (λ (t : ℕ). HasRun l t (plan h) no_past opened p (device x.store.disk)) lanes of_layout in
        let ran = run_on l n (plan h) no_past p round.now opened (device x.store.disk) (device y.store.disk) before round.ran in
        served_kept h no_past opened y y.seat.view.history image
        (record {
          run = record { store = life.began; layout = life.layout ∙ sym made.on.layout; threads = life.threads ∙ lanes; has = life.nothing; now = round.now; ran = ran };
          serves = round.serves;
          legal = made.seen.legal;
          seen_of = seen_of h (plan h) round.now y made.seen round.serves;
        }) left

    pub between_kept : CrashBetweenLaw device
    between_kept h opened p x seen image lived rests left =
        let life = lived.life in
        let ran : HasRun x.store.known.layout x.store.known.threads (plan h) no_past opened p (device x.store.disk) =
        subst (λ (t : ℕ). HasRun x.store.known.layout t (plan h) no_past opened p (device x.store.disk)) lived.lanes life.ran in
        served_kept h no_past opened x seen image
        (record {
          run = record { store = life.began; layout = life.layout; threads = life.threads ∙ lived.lanes; has = life.nothing; now = p; ran = ran };
          serves = rests.serves;
          legal = rests.legal;
          seen_of = rests.seen_of;
        }) left

    pub now_kept : CrashNowLaw device
    now_kept h p x seen image rests left =
        let ran = run_none x.store.known.layout x.store.known.threads (plan h) p (device x.store.disk) in
        served_kept h p (device x.store.disk) x seen image
        (record {
          run = record { store = x.store.known; layout = refl; threads = refl; has = rests.serves.taken.has; now = p; ran = ran };
          serves = rests.serves;
          legal = rests.legal;
          seen_of = rests.seen_of;
        }) left

    -- of a run that ends with a closing, by the history that the closing tells of
    pub closing_kept : CrashInClosingLaw device
    closing_kept h p old x d ended image lanes run from left =
        let closed = from.closed in
        let l : Layout = x.store.known.layout in
        let before : HasRun l h.plan.lanes (plan h) p old run.now (device x.store.disk) =
        subst (λ (t : ℕ). HasRun l t (plan h) p old run.now (device x.store.disk)) (sym lanes) run.ran in
        let ran = run_on l h.plan.lanes (plan h) p run.now closed.now old (device x.store.disk) d before from.ran in
        kept_of l h.plan.lanes (plan h) p (applied closed.now) closed.history image
        (run_shows l h.plan.lanes (plan h) p old d image
        (record { store = run.store; layout = run.layout; threads = run.threads ∙ sym lanes; has = run.has; now = closed.now; ran = ran }) left) closed.legal
        (λ later goes. logged_first sent own h (applied closed.now) closed.history later closed.logs goes)
