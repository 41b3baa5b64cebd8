-- Images that a store leaves aren't refused, and what is found in them is what the store's past says.
use Rattle.std.proofs.Common.{ℕ, zero, suc, ◌≡◌, ◌+◌, ◌-◌, ◌<◌, ◌⊎◌, ◌==◌, if◌then◌else◌, Bool, true, false, List, [], ◌∷◌, ◌++◌, length, map, get_or, reverse, Option, Some, None, Result, Ok, Err, refl, sym, ap, ◌∙◌, subst, inl, inr, arith, Contains, Vec, Global}
use Rattle.std.specs.Prelude.{not}
use Rattle.std.proofs.lemmas.Bool.{cases_lt}
use Rattle.std.proofs.lemmas.List.{get_or_past, map-append, length-reverse, reverse-reverse}
use Rattle.heap_model.specs.declared.ids.ObjectId.{ObjectId}
use Rattle.heap_model.specs.declared.ids.FieldId.{FieldId}
use Rattle.heap_model.specs.declared.record.Record.{Record}
use Rattle.heap_model.specs.declared.record.Record.TheVariants as record_is
use Rattle.heap_model.specs.declared.record.UndoRecord.{UndoRecord}
use Rattle.heap_model.specs.declared.record.UndoRecord.TheVariants as undo
use Rattle.heap_model.specs.Record.{undo_of}
use Rattle.heap_model.specs.Setting.{Setting}
use Rattle.heap_model.specs.Log.{lane, holder, IsLegal, IsRecordOf}
use Rattle.heap_model.specs.Sections.{actions, holding, ended, undo_action}
use Rattle.heap_model.specs.Cuts.{IsWhole, IsClosed}
use Rattle.heap_model.specs.Base.{records_since, records_until}
use Rattle.law_cuts.proofs.Chain.{In, holds_in}
use Rattle.law_cuts.proofs.Next.{legal_before}
use Rattle.law_histories.proofs.Rebase.{until_ends}
use Rattle.law_histories.proofs.Reorder.{rest_after_until}
use Rattle.image_parts.specs.Guards.{HasGuards, no_row}
use Rattle.image_parts.specs.Header.{HasHeader, ReadsHeader}
use Rattle.image_parts.specs.Layout.{size_of}
use Rattle.image_parts.specs.Slots.{Shows}
use Rattle.image_parts.specs.declared.control.Control.{Control}
use Rattle.image_parts.specs.declared.error.ControlError.{ControlError}
use Rattle.image_parts.specs.declared.error.ControlError.TheVariants as control_error
use Rattle.image_parts.specs.declared.error.HeaderError.{HeaderError}
use Rattle.image_parts.specs.declared.error.HeaderError.TheVariants as header_error
use Rattle.image_parts.specs.declared.guard_row.GuardRow.{GuardRow}
use Rattle.image_parts.specs.declared.lane_row.LaneRow.{LaneRow}
use Rattle.image_parts.specs.declared.layout.Layout.{Layout}
use Rattle.image_parts.specs.declared.slot.Slot.{Slot}
use Rattle.image_parts.proofs.Reading.{one_layout, header_is_read, control_is_chosen, guards_are_read}
use Rattle.undo_log.specs.Area.{IsOfImage, HasRecord, HasRecords}
use Rattle.undo_log.specs.Dropped.{undo_logs, records_in}
use Rattle.undo_log.specs.StandsFor.{row_of, row_in, is_transient_in, settled_of, AreRowsOf, HasLive, ShowsCut, StandsFor}
use Rattle.undo_log.proofs.ImageStands.{image_stands}
use Rattle.undo_log.proofs.OneHeap.{one_span, one_heap}
use Rattle.heap_model.specs.Past.{Past}
use Rattle.store_image.specs.Consistent.{TellsCut}
use Rattle.store_image.specs.KeptHeap.{kept_heap}
use Rattle.store_image.proofs.Places.{live_size, cut_place}
use Rattle.store_image.proofs.Stands.{empty, kept_at, kept_size}
use Rattle.law_survival.specs.Accepted.{IsLeftBy, FindsPast}
use Rattle.law_survival.specs.Old.{IsLeftOf}
use Rattle.recover_heap.specs.Logs.{AreLogs, IsBadAt, lanes_of, logged_guard_in}
use Rattle.recover.specs.Reading.{HasFront, HasLayout, HasControl, HasStrayMark, IsOfOldVersion, RefusesRows, RefusesImage, Holds}
use Rattle.recover_logs.specs.Replay.{IsStuckAt, Replays}
use Rattle.recover.specs.Settled.{first_of, settled_records, AreLegal, IsAtRest, TakesUnsettled, IsIllegalAt, Stuck, Restless, Crossing}
use Rattle.recover_heap.specs.declared.error.RecoverError.{RecoverError}
use Rattle.recover_heap.specs.declared.error.RecoverError.TheVariants.{Fault, NotFormatted, BadHeader, TooSmall, NoControl, BadControl, OldVersion, Worn, BadRecord, IllegalLog, NoMemory}
use Rattle.recover.specs.declared.logged_image.LoggedImage.{LoggedImage}
use Rattle.recover_heap.proofs.HomeLemmas.{persistent_logged}
use Rattle.recover.proofs.RecoveryLemmas.{not_old}
use Rattle.recover.specs.declared.versions.Versions.TheVariants.{Current}
use Rattle.law_survival.proofs.LaneParts.{contains_reverse, lane_map}
use Rattle.law_survival.proofs.Blank.{blanks, undone, valueless, blank_legal, holder_blank}
use Rattle.law_survival.proofs.Unstuck.{IsGuarded, unstuck}
use Rattle.law_survival.proofs.Replays.{replay_there}
use Rattle.law_survival.proofs.Rests.{first_none, at_some, rests, inside}

-- the record's field, if it is a store, is one whose stores logs keep
abbrev IsLogged : Setting → UndoRecord → Type 0
IsLogged s (undo.Acq o n) = Unit {0}
IsLogged s (undo.Rel o n) = Unit {0}
IsLogged s (undo.WaitRel o n) = Unit {0}
IsLogged s (undo.Put f v) = s.is_logged f.0 ≡ true

one_logged : (s : Setting) (r : Record) → IsRecordOf s r → IsLogged s (undo_of r)
one_logged s (record_is.Acq o n) h = tt
one_logged s (record_is.Rel o n) h = tt
one_logged s (record_is.WaitRel o n) h = tt
one_logged s (record_is.Put f before after) h = h.1

-- so it is of each of a legal list
each_logged : (s : Setting) (log older : List (ℕ × Record)) → IsLegal s (log ++ older) → (l : ℕ) (r : UndoRecord) → Contains (lane l (undone log)) r → IsLogged s r
each_logged s [] older legal l r h = absurd (omega (arith, h.1))
each_logged s ((m, x) ∷ log) older legal l r h =
    let rest : Contains (lane l (undone log)) r → IsLogged s r = (λ among. each_logged s log older legal.0 l r among) in
    (elim (m == l) as (λ b. Contains (if b then undo_of x ∷ lane l (undone log) else lane l (undone log)) r → IsLogged s r) [
      | true ↦ λ among. first rest among.0 among.1 among.2
      | false ↦ rest
    ]) h
  where
    first : (Contains (lane l (undone log)) r → IsLogged s r) → (k : ℕ) → k < length (undo_of x ∷ lane l (undone log)) → get_or (undo_of x ∷ lane l (undone log)) k r ≡ r → IsLogged s r
    first rest zero lt is = subst (IsLogged s) is (one_logged s x legal.3)
    first rest (suc k) lt is = rest (k, omega (arith, lt), is)

-- what a legal log's lanes have since a whole closed base
module _ (s : Setting) (log : List (ℕ × Record)) (base : ℕ → ℕ) (legal : IsLegal s log) (whole : IsWhole (actions log) base) (closed : IsClosed (actions log) base) where
  abbrev since : List (ℕ × Record)
  since = records_since base log

  abbrev gone : List (ℕ × Record)
  gone = records_until base log

  both : IsLegal s (since ++ gone)
  both = rest_after_until s base log legal closed

  -- nothing is held behind the base
  nobody : (o : ℕ) (v : Option ℕ) → holder o gone ≡ v → holder o gone ≡ None
  nobody o None h = h
  nobody o (Some l) h = absurd (
      let held : In o (holding (lane l (actions gone))) = holds_in s gone o l (legal_before s since gone both) h in
      let none : In o [] = subst (λ (os : List ℕ). In o os) (until_ends base l log (whole l)).0 held in
      none)

  split_undone : undone (since ++ gone) ≡ undone since ++ undone gone
  split_undone = map-append (λ (x : ℕ × Record). (x.0, undo_of x.1)) since gone

  logs_are : (λ (l : ℕ). lane l (undone since)) ≡ undo_logs since
  logs_are = λ i l. lane_map undo_of l since i

  -- a store since the base is of a field whose stores logs keep
  pub stored_logged : (l : ℕ) (f : FieldId) (v : ℕ) → Contains (undo_logs since l) (undo.Put f v) → s.is_logged f.0 ≡ true
  stored_logged l f v h = each_logged s since gone both l (undo.Put f v) (subst (λ (xs : List UndoRecord). Contains xs (undo.Put f v)) (sym (lane_map undo_of l since)) h)

  pub never_stuck : (guard : ℕ → Option ObjectId) (l count : ℕ) → ((l : ℕ) (r : UndoRecord) → Contains (undo_logs since l) r → IsGuarded s guard r) → IsStuckAt guard (undo_logs since) l count → ⊥
  never_stuck guard l count guarded stuck =
      unstuck s (undone gone) (undone since) (subst (λ (xs : List (ℕ × UndoRecord)). IsLegal (valueless s) (blanks xs)) split_undone (blank_legal s (since ++ gone) both))
      (λ o. holder_blank o gone ∙ nobody o (holder o gone) refl) guard l count
      (λ m r h. guarded m r (subst (λ (xs : List UndoRecord). Contains xs r) (lane_map undo_of m since) h))
      (subst (λ (lanes : ℕ → List UndoRecord). IsStuckAt guard lanes l count) (sym logs_are) stuck)

  -- and they have a replay, which does all of them
  pub replays_since : (guard : ℕ → Option ObjectId) (count : ℕ) → ((l : ℕ) (r : UndoRecord) → Contains (undo_logs since l) r → IsGuarded s guard r) → ((l : ℕ) (r : UndoRecord) → Contains (undo_logs since l) r → l < count) →
      (done : List (ℕ × UndoRecord)) × Replays guard (undo_logs since) done
  replays_since guard count guarded few =
      let found = replay_there s (undone gone) (undone since) (subst (λ (xs : List (ℕ × UndoRecord)). IsLegal (valueless s) (blanks xs)) split_undone (blank_legal s (since ++ gone) both))
      (λ o. holder_blank o gone ∙ nobody o (holder o gone) refl) guard
      (λ m r h. guarded m r (subst (λ (xs : List UndoRecord). Contains xs r) (lane_map undo_of m since) h)) count
      (λ m r h. few m r (subst (λ (xs : List UndoRecord). Contains xs r) (lane_map undo_of m since) h)) in
      (found.0, subst (λ (lanes : ℕ → List UndoRecord). Replays guard lanes found.0) logs_are found.1)

same_answer : (x y : Slot × Control) → (let a : Result (Slot × Control) ControlError = Ok x in a ≡ Ok y) → x ≡ y
same_answer x y is = cc

no_fault : (x : Slot × Control) → (let a : Result (Slot × Control) ControlError = Ok x in a ≡ Err control_error.Fault) → ⊥
no_fault x is = cc

-- an image shows one control
one_shown : (l : Layout) (image : List ℕ) (s t : Slot) (c d : Control) → Shows l image s c → Shows l image t d → d ≡ c
one_shown l image s t c d p q = elim (control_is_chosen l image s c (Ok (t, d)) p q) as (λ _. d ≡ c) [
  | inl is ↦ ap (λ (x : Slot × Control). x.1) (same_answer (t, d) (s, c) is)
  | inr bad ↦ absurd (no_fault (t, d) bad)
]

-- a record among these is one that the image has at its place
has_at : (l : Layout) (lane place : ℕ) (image : List ℕ) (xs : List UndoRecord) (i : ℕ) (d : UndoRecord) → HasRecords l lane place image xs → i < length xs → HasRecord l lane (place + i) image (get_or xs i d)
has_at l lane place image [] i d has lt = absurd (omega (arith, lt))
has_at l lane place image (x ∷ xs) zero d has lt = let here : place ≡ place + 0 = omega arith in subst (λ (k : ℕ). HasRecord l lane k image x) here has.0
has_at l lane place image (x ∷ xs) (suc i) d has lt =
    let next : place + 1 + i ≡ place + suc i = omega arith in
    subst (λ (k : ℕ). HasRecord l lane k image (get_or xs i d)) next (has_at l lane (place + 1) image xs i d has.1 (omega (arith, lt)))

-- an empty list has none
none_there : (xs : List UndoRecord) (r : UndoRecord) → xs ≡ [] → Contains xs r → ⊥
none_there xs r is h = omega (arith, h.1, ap (λ (ys : List UndoRecord). length ys) is)

-- what a store leaves today is of version 2
pub of_today : (l : Layout) (s : Setting) (p : Past) (image : List ℕ) → IsLeftBy l s p image → IsLeftOf 2 l s p image
of_today l s p image left = record {
  past = left.past;
  lanes = left.lanes;
  slot = left.shows.slot;
  control = left.shows.control;
  shows = left.shows.shows;
  version_is = left.shows.current;
  tells = left.shows.tells;
  parts = left.shows.parts;
  persistent = λ is. absurd (omega (arith, is));
}

module _ {v : ℕ} (l : Layout) (s : Setting) (p : Past) (image : List ℕ) (left : IsLeftOf v l s p image) where
  abbrev pub logs : ℕ → List UndoRecord
  logs = undo_logs (records_since p.base p.logged)

  abbrev pub rows : List LaneRow
  rows = left.control.rows

  abbrev pub guards : List GuardRow
  guards = left.parts.guards

  -- what was logged is a legal list
  legal : IsLegal s p.logged
  legal = legal_before s p.fresh p.logged left.past.legal

  -- the lanes' live records are the records since what was trimmed
  pub live : HasLive l image rows logs
  live = record {
    live = λ lane below.
        let start = sym (left.tells.start lane below) in
        record {
          size = omega (arith, left.tells.start lane below, left.tells.logged lane below, live_size p.base lane p.logged, length-reverse (logs lane));
          each = subst (λ (k : ℕ). HasRecords l lane k image (reverse (logs lane))) start (left.parts.live lane below);
        };
    others = λ lane from. empty (logs lane) (omega (arith, ap (λ (xs : List UndoRecord). length xs) (left.lanes lane from), live_size p.base lane p.logged));
  }

  -- the acknowledged ones among them are those of the cut's sections past the base
  settled_is : (lane : ℕ) → lane < l.lanes → settled_of rows lane ≡ records_in (p.cut lane - p.base lane) (logs lane)
  settled_is lane below = omega (arith, left.tells.start lane below, left.tells.settled lane below, cut_place p.base lane p.cut p.logged (left.past.within lane))

  -- so it stands for the heap of the cut
  shows_cut : ShowsCut l s p.logged p.base p.cut image
  shows_cut = record {
    slot = left.slot;
    control = left.control;
    shows = left.shows;
    guards = guards;
    guarded = left.parts.guarded;
    rows = left.parts.rows;
    live = live;
    settled = settled_is;
    homes = left.parts.homes;
  }

  pub stands_there : StandsFor l image (kept_heap l s p.logged p.cut)
  stands_there = image_stands l s p.logged p.base p.cut image (kept_heap l s p.logged p.cut) legal left.past.base_whole left.past.closed left.past.within shows_cut (kept_size l s p.logged p.cut) (kept_at l s p.logged p.cut)

  -- a live record's field is one of the image's
  named : (lane : ℕ) (r : UndoRecord) → Contains (logs lane) r → IsOfImage l r
  named lane r h = elim (cases_lt lane l.lanes) [
    | inr from ↦ absurd (none_there (logs lane) r (live.others lane from) h)
    | inl below ↦
        let c : Contains (reverse (logs lane)) r = contains_reverse (logs lane) r h in
        let has = has_at l lane (row_of rows lane).start image (reverse (logs lane)) c.0 r (live.live lane below).each c.1 in
        subst (IsOfImage l) c.2 has.named
  ]

  -- logs keep the stores of a live record's field, under the setting's guard
  guarded_one : (lane : ℕ) (r : UndoRecord) → Contains (logs lane) r → IsOfImage l r → IsGuarded s (logged_guard_in guards) r
  guarded_one lane (undo.Acq o n) has h = tt
  guarded_one lane (undo.Rel o n) has h = tt
  guarded_one lane (undo.WaitRel o n) has h = tt
  guarded_one lane (undo.Put f v) has h =
      let kept : s.is_logged f.0 ≡ true = stored_logged s p.logged p.base legal left.past.base_whole left.past.base_closed lane f v has in
      let persistent : is_transient_in guards f.0 ≡ false = left.parts.rows.mark f.0 h ∙ ap (λ (b : Bool). not b) kept in
      let guard : (row_in guards f.0).guard.0 ≡ s.guard f.0 = left.parts.rows.guard f.0 h in
      persistent_logged guards f.0 (omega (arith, h, left.parts.guarded.size)) persistent ∙ (λ i. Some (record { 0 = guard i }))

  -- each lane is at rest where it is settled
  rest : (lane : ℕ) → IsAtRest rows logs lane
  rest lane = elim (cases_lt lane l.lanes) [
    | inl below ↦
        let ends = rests p.logged p.base p.cut left.past.base_whole left.past.whole left.past.closed left.past.within lane in
        let same : first_of (records_in (p.cut lane - p.base lane) (logs lane)) (logs lane) ≡ settled_records rows logs lane = ap (λ (k : ℕ). first_of k (logs lane)) (sym (settled_is lane below)) in
        record {
          free = ap (λ (xs : List UndoRecord). holding (map undo_action xs)) (sym same) ∙ ends.free;
          kept = omega (arith, ap (λ (xs : List UndoRecord). ended (map undo_action xs)) same, ends.count, left.tells.kept lane below);
        }
    | inr from ↦
        let none : settled_records rows logs lane ≡ [] = ap (λ (xs : List UndoRecord). first_of (settled_of rows lane) xs) (live.others lane from) ∙ first_none (settled_of rows lane) in
        record {
          free = ap (λ (xs : List UndoRecord). holding (map undo_action xs)) none;
          kept = omega (arith, ap (λ (xs : List UndoRecord). ended (map undo_action xs)) none);
        }
  ]

  -- and none of its acknowledged sections takes from outside
  not_crossed : (lane i : ℕ) → TakesUnsettled (settled_of rows) logs lane i → ⊥
  not_crossed lane i h = inside p.logged p.base p.cut left.past.base_whole left.past.whole left.past.closed left.past.within (settled_of rows)
      (λ m j r has. elim (cases_lt m l.lanes) [
        | inl below ↦ settled_is m below
        | inr from ↦ absurd (omega (arith, at_some (logs m) j r has, ap (λ (xs : List UndoRecord). length xs) (live.others m from)))
      ]) lane i h

  -- they have a replay
  pub replayed : (done : List (ℕ × UndoRecord)) × Replays (logged_guard_in guards) logs done
  replayed = replays_since s p.logged p.base legal left.past.base_whole left.past.base_closed (logged_guard_in guards) l.lanes (λ m r h. guarded_one m r h (named m r h))
      (λ m r h. elim (cases_lt m l.lanes) [
        | inl below ↦ below
        | inr from ↦ absurd (none_there (logs m) r (live.others m from) h)
      ])

  -- and are such as no test refuses
  pub legal_there : AreLegal (logged_guard_in guards) rows logs
  legal_there = record { logs = record { done = replayed.0; replays = replayed.1; rest = rest }; inside = not_crossed }

  -- no test of the logs refuses them
  legal_logs : (lane place : ℕ) → IsIllegalAt (logged_guard_in guards) rows logs lane place → ⊥
  legal_logs lane place (Stuck count stuck at) = never_stuck s p.logged p.base legal left.past.base_whole left.past.base_closed (logged_guard_in guards) lane count (λ m r h. guarded_one m r h (named m r h)) stuck
  legal_logs lane place (Restless done replays least at) = least.restless (rest lane)
  legal_logs lane place (Crossing i at_rest least at) = not_crossed lane i least.takes

  -- an image has one layout, one list of guard rows and one control
  one_header : (other : Layout) → HasHeader image other → other ≡ l
  one_header other has = one_layout other l has.limits left.parts.header.limits (sym has.spelled ∙ left.parts.header.spelled)

  module _ (m : Layout) (others : List GuardRow) (t : Slot) (c : Control) (has : HasControl image m others t c) where
    layout_is : m ≡ l
    layout_is = one_header m has.front.layout.header

    guards_is : others ≡ guards
    guards_is = guards_are_read l image others guards (subst (λ (k : Layout). HasGuards k image others) layout_is has.front.guards_are) left.parts.guarded

    control_is : c ≡ left.control
    control_is = one_shown l image left.slot t left.control c left.shows (subst (λ (k : Layout). Shows k image t c) layout_is has.shows)

    rows_is : c.rows ≡ rows
    rows_is = ap (λ (d : Control). d.rows) control_is

    -- and one list of live records for each lane
    lanes_is : (logged : List (Vec UndoRecord Global)) → AreLogs m image c.rows logged → (lane : ℕ) → lanes_of logged lane ≡ logs lane
    lanes_is logged are lane =
        let mine : HasLive l image rows (lanes_of logged) =
        subst (λ (rs : List LaneRow). HasLive l image rs (lanes_of logged)) rows_is (subst (λ (k : Layout). HasLive k image c.rows (lanes_of logged)) layout_is are.live) in
        elim (cases_lt lane l.lanes) [
          | inr from ↦ mine.others lane from ∙ sym (live.others lane from)
          | inl below ↦
              let back : reverse (lanes_of logged lane) ≡ reverse (logs lane) =
              one_span l lane (row_of rows lane).start (row_of rows lane).logged image (reverse (lanes_of logged lane)) (reverse (logs lane)) (mine.live lane below) (live.live lane below) in
              sym (reverse-reverse (lanes_of logged lane)) ∙ ap (λ (xs : List UndoRecord). reverse xs) back ∙ reverse-reverse (logs lane)
        ]

    -- no live place is without a record
    not_bad : (lane place : ℕ) → lane < m.lanes → IsBadAt m image c.rows lane place → ⊥
    not_bad lane place below bad_there =
        let bad : IsBadAt l image rows lane place =
        subst (λ (rs : List LaneRow). IsBadAt l image rs lane place) rows_is (subst (λ (k : Layout). IsBadAt k image c.rows lane place) layout_is bad_there) in
        let under : lane < l.lanes = subst (λ (k : Layout). lane < k.lanes) layout_is below in
        let span = live.live lane under in
        let i : ℕ = length bad.before.0 in
        let at : (row_of rows lane).start + i ≡ place = bad.before.1.size in
        let none : UndoRecord = undo.Put (record { 0 = 0 }) 0 in
        bad.bad (get_or (reverse (logs lane)) i none)
        (subst (λ (k : ℕ). HasRecord l lane k image (get_or (reverse (logs lane)) i none)) at
        (has_at l lane (row_of rows lane).start image (reverse (logs lane)) i none span.each (omega (arith, at, bad.live, span.size))))

    -- nor do the logs show anything that no threads leave
    not_illegal : (logged : List (Vec UndoRecord Global)) → AreLogs m image c.rows logged → (lane place : ℕ) → IsIllegalAt (logged_guard_in others) c.rows (lanes_of logged) lane place → ⊥
    not_illegal logged are lane place h =
        let lanes : lanes_of logged ≡ logs = λ i k. lanes_is logged are k i in
        legal_logs lane place
        (subst (λ (rs : List LaneRow). IsIllegalAt (logged_guard_in guards) rs logs lane place) rows_is
        (subst (λ (ls : ℕ → List UndoRecord). IsIllegalAt (logged_guard_in guards) c.rows ls lane place) lanes
        (subst (λ (gs : List GuardRow). IsIllegalAt (logged_guard_in gs) c.rows (lanes_of logged) lane place) guards_is h)))

  -- the header's answers
  layout_read : (answer : Result Layout HeaderError) → ReadsHeader image answer → (answer ≡ Ok l) ⊎ (answer ≡ Err header_error.Fault)
  layout_read answer reads = header_is_read l image answer left.parts.header left.parts.room reads

  -- nor is a guard row bad
  no_guards : (m : Layout) → HasLayout image m → RefusesRows m image BadHeader → ⊥
  no_guards m has bad = bad guards (subst (λ (k : Layout). HasGuards k image guards) (sym (one_header m has.header)) left.parts.guarded)

  -- no row is marked beside a control of version 1
  pub unmarked : v ≡ 1 → (f : ℕ) → is_transient_in guards f ≡ false
  unmarked old f = elim (cases_lt f l.fields) [
    | inl below ↦ left.parts.rows.mark f below ∙ ap (λ (b : Bool). not b) (left.persistent old f below)
    | inr from ↦ ap (λ (row : GuardRow). row.transient) (get_or_past guards f no_row (omega (arith, from, left.parts.guarded.size)))
  ]

  -- what it shows
  pub has_control : HasControl image l guards left.slot left.control
  has_control = record {
    front = record { layout = record { header = left.parts.header; room = left.parts.room }; guards_are = left.parts.guarded };
    shows = left.shows;
    marks = λ old. unmarked (sym left.version_is ∙ old);
  }

  no_stray : (m : Layout) (others : List GuardRow) → HasFront image m others → HasStrayMark image m others → ⊥
  no_stray m others front stray =
      let is : m ≡ l = one_header m front.layout.header in
      let control : stray.control ≡ left.control = one_shown l image left.slot stray.slot left.control stray.control left.shows (subst (λ (k : Layout). Shows k image stray.slot stray.control) is stray.shows) in
      let same : others ≡ guards = guards_are_read l image others guards (subst (λ (k : Layout). HasGuards k image others) is front.guards_are) left.parts.guarded in
      let old : v ≡ 1 = sym left.version_is ∙ sym (ap (λ (c : Control). c.version) control) ∙ stray.version in
      let none : is_transient_in others stray.field ≡ false = subst (λ (gs : List GuardRow). is_transient_in gs stray.field ≡ false) (sym same) (unmarked old stray.field) in
      absurd (let both : true ≡ false = sym stray.marked ∙ none in cc)

  -- nor is a control of version 2 an old one
  pub isnt_old : v ≡ 2 → IsOfOldVersion image → ⊥
  isnt_old two = not_old Current image l guards left.slot left.control has_control (λ _ one. omega (arith, one, left.version_is, two))

  -- no refusal but that of the device and want of memory
  pub accepted : (e : RecoverError) → RefusesImage image e → (e ≡ Fault) ⊎ (e ≡ NoMemory)
  accepted Fault h = inl refl
  accepted NotFormatted h = elim (layout_read (Err header_error.NotFormatted) h) [ inl is ↦ absurd cc | inr is ↦ absurd cc ]
  accepted BadHeader (inl h) = absurd (h.1 l left.parts.header)
  accepted BadHeader (inr h) = absurd (no_guards h.0 h.1 h.2)
  accepted TooSmall h = absurd (omega (arith, h.2, left.parts.room, ap size_of (one_header h.0 h.1)))
  accepted NoControl h = absurd (h.3 left.slot left.shows.is_open)
  accepted BadControl h = elim h.3 [
    | inl none ↦ absurd (none.1 left.slot left.control (subst (λ (k : Layout). Shows k image left.slot left.control) (sym (one_header h.0 h.2.layout.header)) left.shows))
    | inr stray ↦ absurd (no_stray h.0 h.1 h.2 stray)
  ]
  accepted OldVersion h = absurd h
  accepted Worn h = absurd h
  accepted (BadRecord lane place) h = absurd (not_bad h.0 h.1 h.2 h.3 h.4 lane.0 place h.5.0 h.5.1)
  accepted (IllegalLog lane place) h = absurd (not_illegal h.0 h.1 h.2 h.3 h.4 h.5.0 h.5.1 lane.0 place h.5.2)
  accepted NoMemory h = inr refl

  -- what is found is what the past says
  pub finds : (found : LoggedImage) → Holds image found → FindsPast l s p found
  finds found holds =
      let has = holds.control in
      record {
        layout = layout_is found.layout found.guards.items found.slot found.control has;
        rows = subst (λ (gs : List GuardRow). AreRowsOf l.fields gs s) (sym (guards_is found.layout found.guards.items found.slot found.control has)) left.parts.rows;
        tells = subst (λ (c : Control). TellsCut l p.logged p.base p.cut c.rows) (sym (control_is found.layout found.guards.items found.slot found.control has)) left.tells;
        live = lanes_is found.layout found.guards.items found.slot found.control has found.records.items holds.logs;
      }

  -- and the heap is the kept one
  pub finds_heap : (heap : List ℕ) (found : LoggedImage) → Holds image found → StandsFor found.layout image heap → heap ≡ kept_heap l s p.logged p.cut
  finds_heap heap found holds for_it =
      one_heap l image heap (kept_heap l s p.logged p.cut)
      (subst (λ (k : Layout). StandsFor k image heap) (layout_is found.layout found.guards.items found.slot found.control holds.control) for_it)
      stands_there
