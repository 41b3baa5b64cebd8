-- What sessions have read of a heap that runs.
use Rattle.std.proofs.Common.{if◌then◌else◌, ℕ, ◌≡◌, ◌<◌, ◌≤◌, List, [], ◌∷◌, ◌++◌, length, refl, sym, ap, subst, inr, arith}
use Rattle.heap_model.specs.declared.event.Event.{Event}
use Rattle.heap_model.specs.History.{IsLegalHistory}
use Rattle.heap_model.specs.Setting.{Setting}
use Rattle.block_disk.specs.Device.{Device}
use Rattle.law_histories.proofs.Own.{by_test}
use Rattle.image_parts.specs.declared.layout.Layout.{Layout}
use Rattle.monitor.specs.Posts.{ArePublished, NeverFall, WasPublished}
use Rattle.monitor.specs.Seats.{Helping, Home, Sitting}
use Rattle.monitor.specs.Views.{lane_of, noted}
use Rattle.monitor.specs.declared.view.Note.{Note}
use Rattle.store_rounds.proofs.Running.{run_none}
use Rattle.session.specs.Sessions.{seat_of, view_of}
use Rattle.session.specs.declared.session.Session.{Session}
use Rattle.thread_steps.specs.Views.{plan, view}
use Rattle.heap_model.specs.Past.{Past}
use Rattle.trim_helper.specs.Heard.{IsSeenOf, SeenLaw}
use Rattle.trim_helper.specs.Parts.{Parts}
use Rattle.thread_heap.specs.Joined.{IsHelping}
use Rattle.law_running.specs.Running.{CrashInRunLaw, GoesOnLegally}
use Rattle.law_running.specs.Runs.{RunsSince}
use Rattle.law_running.specs.Told.{HasPublishedNoMore, HasReadOf, IsMoment, IsSeated, KeepsRead, KeepsReadAtRestLaw, KeepsReadInRoundLaw, KeepsReadLaw, KeepsTold, KeepsToldLaw, Moment, ReadLaw, RestLaw, RisesLaw}
use Rattle.law_running.proofs.Running.{kept_in}

-- none was published: none stands there
published_none : (p : ℕ) (ps : List Note) → WasPublished p 0 ps
published_none p [] = refl
published_none p (q ∷ ps) = inr (published_none p ps)

-- of what was read the last of each post was published
read_last : (p : ℕ) (ns ps : List Note) → ArePublished ns ps → WasPublished p (noted p ns) ps
read_last p [] ps are = published_none p ps
read_last p (q ∷ ns) ps are = by_test q.post p (λ b. WasPublished p (if b then q.number else noted p ns) ps) (λ e. subst (λ (z : ℕ). WasPublished z q.number ps) e are.0) (λ other. read_last p ns ps are.1)

-- the beginning of a legal history is one
legal_first : (s : Setting) (newer older : List (ℕ × Event)) → IsLegalHistory s (newer ++ older) → IsLegalHistory s older
legal_first s [] older legal = legal
legal_first s (x ∷ newer) older legal = legal_first s newer older legal.0

module _ (h : Home) (now : Moment) (helper : Helping) (seat : Sitting) (at : IsMoment h now helper) (sits : IsSeated now seat) where
  -- the lane is one that was given out
  lane_below : (lane_of seat.view).0 < helper.next
  lane_below = at.kept.seated.undealt helper.id seat.id helper.view seat.view helper.next (lane_of seat.view) at.seated sits.seated at.role sits.role

  -- the count that it last read isn't above what is published
  read_most : noted (lane_of seat.view).0 seat.view.notes ≤ noted (lane_of seat.view).0 helper.view.notes
  read_most =
      let l = lane_of seat.view in
      let read = (at.kept.facts.truths seat.id seat.view l sits.seated sits.role).notes l.0 in
      let exact = (at.kept.facts.helped helper.id helper.view helper.next at.seated at.role).exact l.0 in
      omega (arith, read, exact)

  -- and was published
  read_one : WasPublished (lane_of seat.view).0 (noted (lane_of seat.view).0 seat.view.notes) helper.view.notes
  read_one = read_last (lane_of seat.view).0 seat.view.notes helper.view.notes
      (at.kept.facts.published seat.id helper.id seat.view helper.view (lane_of seat.view) helper.next sits.seated at.seated sits.role at.role)

-- the last number of a post is at least an earlier one
last_most : (p : ℕ) (newer older : List Note) → NeverFall (newer ++ older) → noted p older ≤ noted p (newer ++ older)
last_most p [] older rises = omega arith
last_most p (q ∷ newer) older rises = by_test q.post p (λ b. noted p older ≤ (if b then q.number else noted p (newer ++ older)))
    (λ e. let up = subst (λ (z : ℕ). noted z (newer ++ older) ≤ q.number) e rises.0 in let more = last_most p newer older rises.1 in omega (arith, up, more))
    (λ other. last_most p newer older rises.1)

pub rises : RisesLaw
rises h now before helper at next goes = record {
  next = next;
  counts = λ l. subst (λ (ns : List Note). noted l before.view.notes ≤ noted l ns) (sym goes.1)
      (last_most l goes.0 before.view.notes (subst NeverFall goes.1 (at.kept.facts.helped helper.id helper.view helper.next at.seated at.role).rises));
}

pub keeps_told : KeepsToldLaw
keeps_told h l p now helper image at keeps =
    let kept = at.kept in
    let first = kept.seated.begins helper.id helper.view helper.next at.seated at.role in
    let is : GoesOnLegally (plan h) helper.view.history kept.history = record { goes_on = first; legal = kept.legal } in
    record {
      history = kept.history;
      legal = kept.legal;
      told = λ seat sits. kept.seated.parts seat.id seat.view (lane_of seat.view) sits.seated sits.role;
      kept = kept_in (GoesOnLegally (plan h) helper.view.history) (λ other. other ≡ kept.history) l (plan h) p image
          (λ other same. subst (GoesOnLegally (plan h) helper.view.history) (sym same) is) keeps.kept;
    }

-- what the helper has seen by then is legal
pub seen_legal : (h : Home) (now : Moment) (helper : Helping) → IsMoment h now helper → IsLegalHistory (plan h) helper.view.history
seen_legal h now helper at =
    let goes = at.kept.seated.begins helper.id helper.view helper.next at.seated at.role in
    legal_first (plan h) goes.0 helper.view.history (subst (λ (z : List (ℕ × Event)). IsLegalHistory (plan h) z) goes.1 at.kept.legal)

module _ {D : Type 0} (device : D → Device) where
  -- the lane of a seat is one of the threads'
  pub lane_there : (h : Home) (x : Parts D) (now : Moment) (helper : Helping) (seat : Sitting) → IsHelping device h x → IsMoment h now helper → IsSeated now seat → HasPublishedNoMore helper x.seat → (lane_of seat.view).0 < x.store.known.threads
  lane_there h x now helper seat helping at sits no_more =
      let below = lane_below h now helper seat at sits in
      let next = no_more.next in
      let all = helping.seat.all in
      let lanes = helping.lanes in
      omega (arith, below, next, all, lanes)

  pub rest_read : RestLaw device
  rest_read h p x now seat helping serving at sits =
      let within = lane_there h x now x.seat seat helping at sits (record { next = refl; counts = λ l. omega arith }) in
      let read = read_most h now x.seat seat at sits in
      let most = serving.counts (lane_of seat.view).0 within in
      let one = read_one h now x.seat seat at sits in
      record { stable = omega (arith, read, most); published = one; in_cut = serving.stand (lane_of seat.view).0 (view seat).stable within one }

  pub session_read : ReadLaw device
  session_read h p x t sections had =
      let by = had.reads in
      let most = read_most h by.moment by.helper (seat_of t) by.is by.seated in
      let published = by.no_more.counts (lane_of (seat_of t).view).0 in
      let there = lane_there h x by.moment by.helper (seat_of t) had.helping by.is by.seated by.no_more in
      let acknowledged = had.serves.counts (lane_of (seat_of t).view).0 there in
      let is = by.reads.read in
      omega (arith, most, published, acknowledged, is)

  -- what is kept with all that was acknowledged then
  pub read_of_kept : (h : Home) (p : Past) (x : Parts D) (l : Layout) (t : Session) (sections : ℕ) (now : Moment) (image : List ℕ) → HasReadOf device h p x t sections → l ≡ x.store.known.layout →
      KeepsTold h l p now image → KeepsRead h l p now image (view_of t).lane.0 sections
  read_of_kept h p x l t sections now image had layout told =
      let by = had.reads in
      let k = (lane_of (seat_of t).view).0 in
      let below : k < x.store.known.threads = lane_there h x by.moment by.helper (seat_of t) had.helping by.is by.seated by.no_more in
      let within : x.store.known.threads ≤ x.store.known.layout.lanes = had.serves.taken.has.layout.within in
      let same_lanes : l.lanes ≡ x.store.known.layout.lanes = ap (λ (o : Layout). o.lanes) layout in
      let there : k < l.lanes = omega (arith, below, within, same_lanes) in
      let least = session_read h p x t sections had in
      let stays = told.kept.stays k in
      let same = told.kept.kept_are k there in
      record { told = told; least = omega (arith, least, stays, same) }

  module _ (crash : CrashInRunLaw device) where
    pub read_kept : KeepsReadLaw device
    read_kept h p x y t sections now helper image had layout on at left =
        read_of_kept h p x y.store.known.layout t sections now image had layout
        (keeps_told h y.store.known.layout p now helper image at (crash h p (device x.store.disk) y helper.view.history image on left))

    pub round_read : SeenLaw device → KeepsReadInRoundLaw device
    round_read seen_of h p x y answer t sections now helper image had made at seen left =
        let round = made.round in
        let run : RunsSince y.store.known.layout y.store.known.threads (plan h) p (device x.store.disk) (device y.store.disk) =
        record { store = x.store.known; layout = sym made.on.layout; threads = sym made.on.threads; has = had.serves.taken.has; now = round.now; ran = round.ran } in
        let of : IsSeenOf h (length y.rings) round.now helper.view.history =
        subst (λ (z : List (ℕ × Event)). IsSeenOf h (length y.rings) round.now z) (sym seen) (seen_of h (plan h) round.now y made.seen round.serves) in
        read_kept h p x y t sections now helper image had made.on.layout (record { run = run; serves = round.serves; legal = seen_legal h now helper at; seen_of = of }) at left

    pub rest_kept : KeepsReadAtRestLaw device
    rest_kept h p x t sections now helper image had rests at left =
        let l : Layout = x.store.known.layout in
        let ran = run_none l x.store.known.threads (plan h) p (device x.store.disk) in
        let run : RunsSince l x.store.known.threads (plan h) p (device x.store.disk) (device x.store.disk) =
        record { store = x.store.known; layout = refl; threads = refl; has = rests.serves.taken.has; now = p; ran = ran } in
        read_kept h p x x t sections now helper image had refl (record { run = run; serves = rests.serves; legal = rests.legal; seen_of = rests.seen_of }) at left
