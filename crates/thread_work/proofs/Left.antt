-- What threads leave of a heap that isn't closed, and what a crash keeps of what they had read.
use Rattle.std.proofs.Common.{ℕ, ◌≡◌, ◌≤◌, ◌<◌, ◌++◌, List, [], ◌∷◌, All, length, map, inl, inr, refl, ap, ◌∙◌, sym, subst, append_assoc, arith}
use Rattle.std.proofs.lemmas.List.Elements.{All-cons, All-head, All-nil, All-tail, All-weaker}
use Rattle.std.specs.List.{range_with_len}
use Rattle.block_disk.specs.Device.{Device}
use Rattle.block_disk.proofs.Images.{left_now, left_since}
use Rattle.heap_model.specs.Cuts.{counts_of}
use Rattle.heap_model.specs.Log.{lane}
use Rattle.heap_model.specs.Own.{own_log}
use Rattle.heap_model.specs.Sections.{action, holding}
use Rattle.heap_model.specs.Past.{Past, no_past}
use Rattle.heap_model.specs.Setting.{Setting}
use Rattle.heap_model.specs.declared.event.Event.{Event}
use Rattle.image_parts.specs.declared.layout.Layout.{Layout}
use Rattle.law_rounds.specs.Laws.{RoundLaw}
use Rattle.law_running.specs.Running.{CrashNowLaw, GoesOnLegally, KeepsRunning, Rests}
use Rattle.law_running.specs.Runs.{RunsSince}
use Rattle.law_running.proofs.Running.{kept_in}
use Rattle.law_running.proofs.Shown.{run_shows}
use Rattle.law_survival.specs.WholeRun.{MayBeLeft}
use Rattle.monitor.specs.Seats.{Helping, Home}
use Rattle.monitor.specs.Views.{GoesOn}
use Rattle.session.specs.declared.session.Session.{Session}
use Rattle.store_rounds.specs.Runs.{HasRun}
use Rattle.store_rounds.specs.Store.{HasPast, Known}
use Rattle.thread_heap.proofs.Ending.{of_parts}
use Rattle.thread_heap.specs.Joined.{IsHelping}
use Rattle.thread_steps.specs.Views.{plan, view}
use Rattle.trim_helper.specs.Endings.{IsEnded, Rings, lanes_ended, part_at, parts_of}
use Rattle.trim_helper.specs.Leaving.{HasLeft, ReadNoMore}
use Rattle.trim_helper.specs.Parts.{Parts}
use Rattle.trim_helper.specs.declared.ended.Ended.{Ended}
use Rattle.trim_helper.proofs.Gathering.{end_below}
use Rattle.thread_work.specs.Bodies.{Answer, WereCalled}
use Rattle.thread_work.specs.Crashes.{HaveEnded, HaveLeft, KeepsLater, KeepsReadsNow, KeepsSeen}

-- what goes on from more goes on from less
goes_further : (last later seen : List (ℕ × Event)) → GoesOn last later → GoesOn later seen → GoesOn last seen
goes_further last later seen goes on = (goes.0 ++ on.0, goes.1 ∙ ap (λ (xs : List (ℕ × Event)). goes.0 ++ xs) on.1 ∙ sym (append_assoc goes.0 on.0 seen))

-- the session has read no more than what is acknowledged, of a lane of these
pub record HasRead (p : Past) (lanes : ℕ) (e : Ended) : Type 0 where
  pub stable : (view e.seat).stable ≤ p.cut (view e.seat).lane.0
  pub low : (view e.seat).lane.0 < lanes

pub have_read : (h : Home) (c lanes : ℕ) (rings : Rings) (p : Past) (es : List Ended) → length rings ≡ lanes → All (IsEnded h c rings) es → ReadNoMore (parts_of es) lanes p → All (HasRead p lanes) es
have_read h c lanes rings p [] count all read = All-nil (HasRead p lanes)
have_read h c lanes rings p (e ∷ es) count all read =
    let one = All-head (IsEnded h c rings) e es all in
    let below = end_below e.producer rings e.lane.0 one.ring in
    let same = one.lane in
    let low : (part_at e.seat).lane < lanes = omega (arith, below, same, count) in
    All-cons (HasRead p lanes) e es (record { stable = read (part_at e.seat) (inl refl) low; low = low })
    (have_read h c lanes rings p es count (All-tail (IsEnded h c rings) e es all) (λ x among. read x (inr among)))

-- what is acknowledged is kept
least : (p : Past) (lanes most : ℕ) (cut : ℕ → ℕ) (kept : ℕ → ℕ) (es : List Ended) → lanes ≤ most → ((k : ℕ) → p.cut k ≤ cut k) → ((k : ℕ) → k < most → kept k ≡ cut k) → All (HasRead p lanes) es
    → All (λ e. (view e.seat).stable ≤ kept (view e.seat).lane.0) es
least p lanes most cut kept es few more are all =
    All-weaker (HasRead p lanes) (λ e. (view e.seat).stable ≤ kept (view e.seat).lane.0)
    (λ e one.
    let k = (view e.seat).lane.0 in
    let low = one.low in
    let stable = one.stable in
    let stays = more k in
    let same = are k (omega (arith, low, few)) in
    omega (arith, stable, stays, same)) es all

-- of a run of a store since they had read that
pub run_reads : RoundLaw → (l : Layout) (t : ℕ) (s : Setting) (p q : Past) (x : Known) (old new : Device) (es : List Ended) → x.layout ≡ l → x.threads ≡ t → t ≤ l.lanes → HasPast x s p old
    → HasRun l t s p old q new → All (HasRead p t) es → KeepsReadsNow es new
run_reads law l t s p q x old new es layout threads few has ran read image left =
    let since : MayBeLeft old new image = left_since (length old.past) new image ran.shown.later (left_now new image left) in
    let run : RunsSince l t s p old new = record { store = x; layout = layout; threads = threads; has = has; now = q; ran = ran } in
    let shows = run_shows l t s p old new image run since in
    let given = law l t s shows.shown shows.kept shows.sections image shows.round shows.shows in
    record { accepted = given.accepted; least = least p t l.lanes shows.kept (λ k. counts_of given.accepted.study.report.kept k) es few shows.more given.kept_are read }

module _ (does : Home → Session → Session → Answer → Type 0) where
  -- what the threads leave, with the capacity of the helper's layout
  pub have_ended : (h : Home) (l : Layout) (rings : Rings) (es : List Ended) (a : Answer) → All (IsEnded h l.capacity rings) es → lanes_ended es ≡ range_with_len 0 h.plan.lanes → WereCalled does h l.capacity a es → HaveEnded does h l es
  have_ended h l rings es a ended lanes called = record { lanes = lanes; answer = a; called = called; held = All-weaker (IsEnded h l.capacity rings) (λ e. e.held ≡ length (holding (map action (own_log (plan h) e.seat.view.events)))) (λ e one. one.held) es ended }

  -- one history has what each of them was told, and what was seen goes on to it
  pub left_of : (h : Home) (l : Layout) (seat : Helping) (seen : List (ℕ × Event)) (es : List Ended) (opened new : Device) → HaveEnded does h l es → HasLeft h.plan (parts_of es) seat → GoesOn seat.view.history seen
      → KeepsSeen h l seen opened new → KeepsReadsNow es new → HaveLeft does h l es opened new
  left_of h l seat seen es opened new are left sight keeps durable =
      let is : GoesOnLegally (plan h) seen left.history = record { goes_on = goes_further left.history seat.view.history seen left.later sight; legal = left.one.legal } in
      record {
        are = are;
        history = left.history;
        legal = left.one.legal;
        told = of_parts (λ x. lane x.lane left.history ≡ x.events) es left.one.part;
        no_other = left.one.no_other;
        crashes = λ image may. kept_in (GoesOnLegally (plan h) seen) (λ other. other ≡ left.history) l (plan h) no_past image
            (λ other same. subst (GoesOnLegally (plan h) seen) (sym same) is) (keeps image may).kept;
        durable = durable;
      }

-- what is kept of each history that goes on from one, is kept of those that go on from a later one
pub later_kept : (h : Home) (l : Layout) (seen later : List (ℕ × Event)) (old new : Device) → GoesOn later seen → KeepsSeen h l seen old new → KeepsLater h l later old new
later_kept h l seen later old new on keeps image may =
    kept_in (GoesOnLegally (plan h) seen) (GoesOnLegally (plan h) later) l (plan h) no_past image
    (λ last goes. record { goes_on = goes_further last later seen goes.goes_on on; legal = goes.legal }) (keeps image may).kept

module _ {D : Type 0} (device : D → Device) where
  -- of a helper that rests
  pub rest_reads : (h : Home) (p : Past) (x : Parts D) (seen : List (ℕ × Event)) (es : List Ended) → CrashNowLaw device → IsHelping device h x → Rests device h p x seen
      → All (IsEnded h x.store.known.layout.capacity x.rings) es → ReadNoMore (parts_of es) x.store.known.threads p → KeepsReadsNow es (device x.store.disk)
  rest_reads h p x seen es law helping rests ended read image left =
      let lanes = x.store.known.threads in
      let layout : Layout = x.store.known.layout in
      let kept : KeepsRunning layout (plan h) p seen image = law h p x seen image rests left in
      let in_lanes : All (HasRead p lanes) es = have_read h layout.capacity lanes x.rings p es (helping.rings ∙ helping.lanes) ended read in
      record {
        accepted = kept.kept.accepted;
        least = least p lanes layout.lanes kept.kept.cut (λ k. counts_of kept.kept.accepted.study.report.kept k) es rests.serves.taken.has.layout.within kept.kept.stays kept.kept.kept_are in_lanes;
      }
