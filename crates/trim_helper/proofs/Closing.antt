-- Both ends have met, and all that was sent is applied, logged, at home and acknowledged.
use Rattle.std.proofs.Common.{ℕ, zero, suc, ◌≡◌, ◌<◌, ◌≤◌, if◌then◌else◌, true, false, List, [], ◌∷◌, ◌++◌, map, length, reverse, Option, refl, sym, ap, ◌∙◌, subst, inl, inr, arith}
use Rattle.std.proofs.lemmas.Bool.{cases_lt}
use Rattle.thread_rings.specs.Rings.{Receiving}
use Rattle.heap_model.specs.declared.record.Record.{Record}
use Rattle.heap_model.specs.declared.event.Event.{Event}
use Rattle.heap_model.specs.Setting.{Setting}
use Rattle.heap_model.specs.History.{state_after, log_of}
use Rattle.heap_model.specs.Own.{own_log}
use Rattle.heap_model.specs.Log.{lane, IsLegal}
use Rattle.law_cuts.specs.Laws.{OneStableLaw, UnloggedLaw}
use Rattle.law_histories.specs.Laws.{LogLaw, OwnLogLaw, NextLaw, OrderLaw}
use Rattle.law_histories.specs.SectionLaws.{AllKeptLaw}
use Rattle.heap_model.specs.Sections.{Action, action, actions, holding, ended}
use Rattle.heap_model.specs.Cuts.{IsStable, all_ended}
use Rattle.heap_model.specs.KeptHeap.{kept_value}
use Rattle.law_cuts.proofs.Lanes.{lane_actions}
use Rattle.law_histories.proofs.Logged.{value_log}
use Rattle.block_disk.specs.Device.{Device}
use Rattle.block_disk.specs.Images.{Always}
use Rattle.block_disk.proofs.Images.{always_weaker}
use Rattle.undo_log.specs.StandsFor.{StandsFor}
use Rattle.store_image.specs.KeptHeap.{StandsForCut, values_below}
use Rattle.heap_model.specs.Past.{Past, applied}
use Rattle.store_rounds.specs.Runs.{HasRun}
use Rattle.store_rounds.specs.Stops.{ShowsCut}
use Rattle.store_rounds.specs.Store as stores
use Rattle.store_rounds.specs.Store.{Known, HasPast}
use Rattle.store_rounds.proofs.Shown.{rests}
use Rattle.store_image.proofs.Stands.{same_heap}
use Rattle.trim_helper.specs.Rings.{received_of, known_of, stream}
use Rattle.trim_helper.specs.Limits.{KeepsLimits}
use Rattle.trim_helper.specs.Endings.{Rings}
use Rattle.trim_helper.specs.Taken.{Taking, HasTaken, Advances, AllStuck, applied_more, trimmed_of, with_rings}
use Rattle.trim_helper.specs.Settled.{IsSettled, closed_value}
use Rattle.trim_helper.specs.Serving.{Part, Among, IsOneHistory}
use Rattle.trim_helper.specs.Meeting.{HasPart, HaveMet}
use Rattle.trim_helper.specs.Closed.{HasSpelled, IsClosedDown}
use Rattle.monitor.specs.Rule.{Spelled}
use Rattle.monitor.specs.Seats.{Final, Helping, final_value}
use Rattle.monitor.specs.Views.{GoesOn}
use Rattle.monitor.specs.Words.{fields, setting_of, spread}
use Rattle.monitor.specs.declared.view.Plan.{Plan}
use Rattle.trim_helper.specs.Counts.{IsCutCount, WasCount}
use Rattle.trim_helper.proofs.Refusing.{drained}
use Rattle.trim_helper.proofs.Standing.{cut_stands}

-- a later start leaves more room
pub limits_more : (start later capacity : ℕ) (rs : List Record) → start ≤ later → KeepsLimits start capacity rs → KeepsLimits later capacity rs
limits_more start later capacity [] le keeps = tt
limits_more start later capacity (r ∷ rs) le keeps = (
  limits_more start later capacity rs le keeps.0,
  record { short = keeps.1.short; low = keeps.1.low; room = λ none. let room = keeps.1.room none in omega arith },
)

-- a part that no list has
pub received_past : (cs : List Receiving) (l : ℕ) → length cs ≤ l → received_of cs l ++ known_of cs l ≡ []
received_past [] l le = refl
received_past (c ∷ cs) zero le = absurd (omega arith)
received_past (c ∷ cs) (suc l) le = received_past cs l (omega arith)

module _ (s : Setting) (lanes capacity : ℕ) (place : ℕ → ℕ) (parts : List Part) (h : List (ℕ × Event)) (one : IsOneHistory s lanes parts h) (r1 : Rings) (met : HaveMet s r1 parts capacity)
    (present : (l : ℕ) → l < lanes → HasPart parts l) (count : length r1 ≡ lanes) (log_law : LogLaw) (own_log_law : OwnLogLaw) where
  abbrev log : List (ℕ × Record)
  log = log_of s h

  lane_is : (l : ℕ) (x : Part) → Among parts x → x.lane ≡ l → lane l log ≡ own_log s x.events
  lane_is l x among at = own_log_law s h l ∙ ap (own_log s) (ap (λ k. lane k h) (sym at) ∙ one.part x among)

  none_past : (l : ℕ) → lanes ≤ l → lane l log ≡ []
  none_past l le = own_log_law s h l ∙ ap (own_log s) (one.no_other l le)

  -- what was received and what is left is the history's log, lane by lane
  pub streams : (l : ℕ) → stream l log ≡ received_of r1 l ++ known_of r1 l
  streams l = elim (cases_lt l lanes) [
    | inl low ↦ let here = present l low in ap (λ (xs : List Record). reverse xs) (lane_is l here.0 here.1 here.2) ∙ sym (met.whole here.0 here.1) ∙ ap (λ k. received_of r1 k ++ known_of r1 k) here.2
    | inr high ↦ ap (λ (xs : List Record). reverse xs) (none_past l high) ∙ sym (received_past r1 l (omega arith))
  ]

  pub all_free : (l : ℕ) → length (holding (map action (lane l log))) ≡ 0
  all_free l = elim (cases_lt l lanes) [
    | inl low ↦ let here = present l low in ap (λ (xs : List Record). length (holding (map action xs))) (lane_is l here.0 here.1 here.2) ∙ met.free here.0 here.1
    | inr high ↦ ap (λ (xs : List Record). length (holding (map action xs))) (none_past l high)
  ]

  -- All that was sent is applied.
  pub all_applied : {D : Type 0} (device : D → Device) (store : stores.Parts D) (w1 : List (Option Record)) (y : Taking D) (n : ℕ) (p : Past) → NextLaw → HasTaken device (with_rings store r1 w1) s p → lanes ≡ store.known.threads →
      capacity ≡ store.known.layout.capacity →
      ((x : Part) → Among parts x → x.place ≤ place x.lane) → ((l : ℕ) → l < lanes → place l ≤ trimmed_of p l) → Advances device (with_rings store r1 w1) y n → AllStuck device y →
      (newer : List (ℕ × Record)) × HasTaken device y s (applied_more newer p) × ((l : ℕ) → lane l (applied (applied_more newer p)) ≡ lane l log)
  all_applied device store w1 y n p next taken same room read places on stuck =
      let made = on.made s p taken in
      let lanes' : y.store.known.threads ≡ lanes = on.threads ∙ sym same in
      let room' : y.store.known.layout.capacity ≡ capacity = ap (λ l. l.capacity) on.layout ∙ sym room in
      let count' : length y.rings ≡ lanes = on.same.count ∙ count in
      let limits : (l : ℕ) → l < y.store.known.threads → KeepsLimits (trimmed_of (applied_more made.0 p) l) y.store.known.layout.capacity (lane l log) = λ l lt.
      let low : l < lanes = omega arith in
      let here = present l low in
      subst (λ (k : ℕ). KeepsLimits (trimmed_of p l) k (lane l log)) (sym room')
      (subst (λ (xs : List Record). KeepsLimits (trimmed_of p l) capacity xs) (sym (lane_is l here.0 here.1 here.2))
      (limits_more here.0.place (trimmed_of p l) capacity (own_log s here.0.events) (let at : place here.0.lane ≡ place l = ap place here.2 in omega (arith, read here.0 here.1, places l low)) (met.limits here.0 here.1))) in (
        made.0,
        made.2,
        drained device y s (applied_more made.0 p) made.2 log (log_law s h one.legal) next (λ l. streams l ∙ sym (on.whole l)) (λ l le. none_past l (omega arith)) limits
            (λ l lt. stuck l (omega arith) s (applied_more made.0 p) made.2.has),
      )

module _ (k : Plan) (parts : List Part) (h : List (ℕ × Event)) (one : IsOneHistory (setting_of k) k.lanes parts h) (log_law : LogLaw) (order_law : OrderLaw) (all_kept : AllKeptLaw) (one_stable : OneStableLaw) (unlogged : UnloggedLaw)
    (words : Final) (spelled : Spelled k (spread k words.words) (state_after (setting_of k) h)) (last_values : (f : ℕ) → f < fields k → final_value words f ≡ (state_after (setting_of k) h).value f) (p : Past) (told : (x : Part) → Among parts x → x.lane < k.lanes → x.count ≤ p.cut x.lane) (places : (x : Part) → Among parts x → x.lane < k.lanes → x.place ≤ trimmed_of p x.lane)
    (seat : Helping) (later : GoesOn h seat.view.history) (published : (x : Part) → Among parts x → x.lane < k.lanes → WasCount seat x.lane x.count) (counts : (x : Part) → Among parts x → x.lane < k.lanes → IsCutCount (log_of (setting_of k) h) x.lane x.count)
    (x : Known) (since d : Device) (now : Past) (ran : HasRun x.layout k.lanes (setting_of k) p since now d) (threads : x.threads ≡ k.lanes) (has : HasPast x (setting_of k) now d) (running : x.has_failed ≡ false) (settled : IsSettled (setting_of k) now)
    (same : (l : ℕ) → lane l (applied now) ≡ lane l (log_of (setting_of k) h)) (free : (l : ℕ) → length (holding (map action (lane l (log_of (setting_of k) h)))) ≡ 0) where
  abbrev s : Setting
  s = setting_of k

  abbrev cut : ℕ → ℕ
  cut = all_ended (actions (log_of s h))

  logged_is : now.logged ≡ applied now
  logged_is = ap (λ (xs : List (ℕ × Record)). xs ++ now.logged) (sym settled.logged)

  same_logged : (l : ℕ) → lane l now.logged ≡ lane l (log_of s h)
  same_logged l = ap (lane l) logged_is ∙ same l

  acts_same : (l : ℕ) → lane l (actions now.logged) ≡ lane l (actions (log_of s h))
  acts_same l = lane_actions l now.logged ∙ ap (map action) (same_logged l) ∙ sym (lane_actions l (log_of s h))

  free_log : (l : ℕ) → length (holding (lane l (actions (log_of s h)))) ≡ 0
  free_log l = ap (λ (xs : List Action). length (holding xs)) (lane_actions l (log_of s h)) ∙ free l

  -- what is acknowledged is all sections
  cut_is : (l : ℕ) → now.cut l ≡ cut l
  cut_is l =
      let stable : IsStable (actions now.logged) now.cut = subst (λ (xs : List (ℕ × Record)). IsStable (actions xs) now.cut) (sym logged_is) settled.stable in
      let all : IsStable (actions now.logged) (all_ended (actions now.logged)) = (all_kept s now.logged (subst (IsLegal s) (sym logged_is) has.past.legal) (λ l. ap (λ (xs : List Action). length (holding xs)) (acts_same l) ∙ free_log l)).0 in
      one_stable (actions now.logged) now.cut (all_ended (actions now.logged)) stable all l ∙ ap (λ (xs : List Action). ended xs) (acts_same l)

  cuts_are : now.cut ≡ cut
  cuts_are i l = cut_is l i

  -- whatever the order in which the lanes came, the heap is the history's
  same_kept : (f : ℕ) → kept_value s.first cut f now.logged ≡ kept_value s.first cut f (log_of s h)
  same_kept f = order_law s now.logged (log_of s h) (subst (IsLegal s) (sym logged_is) has.past.legal) (log_law s h one.legal) (λ l. ([], sym (same_logged l))) cut (λ l. let e : ended (lane l (actions now.logged)) ≡ cut l = ap (λ (xs : List Action). ended xs) (acts_same l) in omega arith) f

  left : Always d (ShowsCut x.layout k.lanes s now.logged now.cut)
  left = subst (λ (t : ℕ). Always d (ShowsCut x.layout t s now.logged now.cut)) threads (rests x s now d has running)

  stands : Always d (StandsForCut x.layout s (log_of s h) cut)
  stands = always_weaker d (ShowsCut x.layout k.lanes s now.logged now.cut) (StandsForCut x.layout s (log_of s h) cut) (λ image shown.
      let moved : StandsForCut x.layout s now.logged cut image = subst (λ c. StandsForCut x.layout s now.logged c image) cuts_are (cut_stands x.layout k.lanes s now.logged now.cut image shown) in
      record { heap = subst (λ heap. StandsFor x.layout image heap) (same_heap x.layout s now.logged (log_of s h) cut same_kept) moved.heap; sections = moved.sections })
      left

  -- a field whose stores are logged keeps its last value, and another one its first
  values : (f : ℕ) → kept_value s.first cut f (log_of s h) ≡ closed_value s (state_after s h).value f
  values f = elim (s.is_logged f) as (λ b. s.is_logged f ≡ b → kept_value s.first cut f (log_of s h) ≡ (if b then (state_after s h).value f else s.first f)) [
    | true ↦ λ is. (all_kept s (log_of s h) (log_law s h one.legal) free_log).1 f ∙ value_log s h f is
    | false ↦ λ not. (unlogged s (log_of s h) f (log_law s h one.legal) not).1 cut
  ] refl

  closed_down : IsClosedDown k x.layout parts p seat since d
  closed_down = record {
    history = h;
    one = one;
    words = spread k words.words;
    spelled = spelled;
    later = later;
    now = now;
    ran = ran;
    logs = same;
    left = left;
    stands = stands;
    values = always_weaker d (StandsForCut x.layout s (log_of s h) cut) (λ image. StandsFor x.layout image (values_below (closed_value s (state_after s h).value) x.layout.fields))
        (λ image st. subst (λ (v : ℕ → ℕ). StandsFor x.layout image (values_below v x.layout.fields)) (λ i f. values f i) st.heap) stands;
    told = told;
    places = places;
    published = published;
    counts = counts;
  }

  pub has_spelled : HasSpelled k x.layout parts p seat since d words
  unfolding closed_down
  has_spelled = record { closed = closed_down; are = refl; values = last_values }

-- the same records, lane by lane
pub same_lanes : (xs ys zs : List (ℕ × Record)) → xs ≡ ys → ((l : ℕ) → lane l ys ≡ lane l zs) → (l : ℕ) → lane l xs ≡ lane l zs
same_lanes xs ys zs same lanes l = ap (lane l) same ∙ lanes l
