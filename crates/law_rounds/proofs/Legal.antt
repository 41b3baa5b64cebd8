-- No test of recovery's refuses live records that go on from a heap, none of them acknowledged.
use Rattle.std.proofs.Common.{ℕ, zero, suc, ◌≡◌, ◌+◌, ◌<◌, ◌==◌, if◌then◌else◌, Bool, true, false, List, [], ◌∷◌, ◌++◌, map, length, get_or, reverse, Some, ap, ◌∙◌, subst, inl, inr, arith, Contains}
use Rattle.std.specs.Prelude.{not}
use Rattle.std.proofs.lemmas.Bool.{cases_lt}
use Rattle.std.proofs.lemmas.List.{map-append}
use Rattle.heap_model.specs.declared.record.Record.{Record}
use Rattle.heap_model.specs.declared.record.Record.TheVariants as record_is
use Rattle.heap_model.specs.declared.record.UndoRecord.{UndoRecord}
use Rattle.heap_model.specs.declared.record.UndoRecord.TheVariants as undo
use Rattle.heap_model.specs.Record.{undo_of}
use Rattle.heap_model.specs.Setting.{Setting}
use Rattle.heap_model.specs.Log.{lane, IsLegal, IsRecordOf}
use Rattle.heap_model.specs.Sections.{holding, ended, undo_action}
use Rattle.image_parts.specs.declared.guard_row.GuardRow.{GuardRow}
use Rattle.image_parts.specs.declared.lane_row.LaneRow.{LaneRow}
use Rattle.image_parts.specs.declared.layout.Layout.{Layout}
use Rattle.undo_log.specs.Area.{IsOfImage, HasRecord, HasRecords}
use Rattle.undo_log.specs.Dropped.{undo_logs}
use Rattle.undo_log.specs.StandsFor.{row_of, row_in, is_transient_in, settled_of}
use Rattle.recover_logs.specs.Replay.{Replays}
use Rattle.recover_heap.specs.Logs.{logged_guard_in}
use Rattle.recover.specs.Reading.{HasControl}
use Rattle.recover.specs.Settled.{settled_records, first_of, AreLegal, IsAtRest, TakesUnsettled}
use Rattle.recover_heap.proofs.HomeLemmas.{persistent_logged}
use Rattle.law_survival.proofs.Blank.{blanks, undone, valueless, blank_legal, holder_blank}
use Rattle.law_survival.proofs.LaneParts.{contains_reverse, lane_map}
use Rattle.law_survival.proofs.Replays.{replay_there}
use Rattle.law_survival.proofs.Rests.{at_some, first_none}
use Rattle.law_survival.proofs.Unstuck.{IsGuarded}
use Rattle.store_helper_sections.specs.Going.{GoesOn}
use Rattle.store_helper_sections.specs.Image.{ShowsHeap}

-- the record's field, if it is a store, is one whose stores logs keep
abbrev IsLogged : Setting → UndoRecord → Type 0
IsLogged s (undo.Acq o n) = Unit {0}
IsLogged s (undo.Rel o n) = Unit {0}
IsLogged s (undo.WaitRel o n) = Unit {0}
IsLogged s (undo.Put f v) = s.is_logged f.0 ≡ true

one_logged : (s : Setting) (r : Record) → IsRecordOf s r → IsLogged s (undo_of r)
one_logged s (record_is.Acq o n) h = tt
one_logged s (record_is.Rel o n) h = tt
one_logged s (record_is.WaitRel o n) h = tt
one_logged s (record_is.Put f before after) h = h.1

-- so it is of each of a legal list
each_logged : (s : Setting) (log older : List (ℕ × Record)) → IsLegal s (log ++ older) → (l : ℕ) (r : UndoRecord) → Contains (lane l (undone log)) r → IsLogged s r
each_logged s [] older legal l r h = absurd (omega (arith, h.1))
each_logged s ((m, x) ∷ log) older legal l r h =
    let rest : Contains (lane l (undone log)) r → IsLogged s r = (λ among. each_logged s log older legal.0 l r among) in
    (elim (m == l) as (λ b. Contains (if b then undo_of x ∷ lane l (undone log) else lane l (undone log)) r → IsLogged s r) [
      | true ↦ λ among. first rest among.0 among.1 among.2
      | false ↦ rest
    ]) h
  where
    first : (Contains (lane l (undone log)) r → IsLogged s r) → (k : ℕ) → k < length (undo_of x ∷ lane l (undone log)) → get_or (undo_of x ∷ lane l (undone log)) k r ≡ r → IsLogged s r
    first rest zero lt is = subst (IsLogged s) is (one_logged s x legal.3)
    first rest (suc k) lt is = rest (k, omega (arith, lt), is)

-- a record among these is one that the image has at its place
has_at : (l : Layout) (lane place : ℕ) (image : List ℕ) (xs : List UndoRecord) (i : ℕ) (d : UndoRecord) → HasRecords l lane place image xs → i < length xs → HasRecord l lane (place + i) image (get_or xs i d)
has_at l lane place image [] i d has lt = absurd (omega (arith, lt))
has_at l lane place image (x ∷ xs) zero d has lt = let here : place ≡ place + 0 = omega arith in subst (λ (k : ℕ). HasRecord l lane k image x) here has.0
has_at l lane place image (x ∷ xs) (suc i) d has lt =
    let next : place + 1 + i ≡ place + suc i = omega arith in
    subst (λ (k : ℕ). HasRecord l lane k image (get_or xs i d)) next (has_at l lane (place + 1) image xs i d has.1 (omega (arith, lt)))

none_in : (xs : List UndoRecord) (r : UndoRecord) → xs ≡ [] → Contains xs r → ⊥
none_in xs r is h = omega (arith, h.1, ap (λ (ys : List UndoRecord). length ys) is)

module _ (l : Layout) (s : Setting) (records : List (ℕ × Record)) (image : List ℕ) (going : GoesOn s records) (shown : ShowsHeap l s records image) where
  abbrev pub logs : ℕ → List UndoRecord
  logs = undo_logs records

  abbrev pub rows : List LaneRow
  rows = shown.control.rows

  abbrev pub guards : List GuardRow
  guards = shown.parts.guards

  in_lane : (m : ℕ) (r : UndoRecord) → Contains (lane m (undone records)) r → Contains (logs m) r
  in_lane m r h = subst (λ (xs : List UndoRecord). Contains xs r) (lane_map undo_of m records) h

  -- a live record is of a lane of the image
  low : (m : ℕ) (r : UndoRecord) → Contains (logs m) r → m < l.lanes
  low m r h = elim (cases_lt m l.lanes) [
    | inl below ↦ below
    | inr from ↦ absurd (none_in (logs m) r (shown.parts.live.others m from) h)
  ]

  -- and its field is one of the image's
  named : (m : ℕ) (r : UndoRecord) → Contains (logs m) r → IsOfImage l r
  named m r h =
      let c : Contains (reverse (logs m)) r = contains_reverse (logs m) r h in
      let has = has_at l m (row_of rows m).start image (reverse (logs m)) c.0 r (shown.parts.live.live m (low m r h)).each c.1 in
      subst (IsOfImage l) c.2 has.named

  -- logs keep its stores, under the setting's guard
  guarded : (m : ℕ) (r : UndoRecord) → Contains (lane m (undone records)) r → IsOfImage l r → IsGuarded s (logged_guard_in guards) r
  guarded m (undo.Acq o n) has h = tt
  guarded m (undo.Rel o n) has h = tt
  guarded m (undo.WaitRel o n) has h = tt
  guarded m (undo.Put f v) has h =
      let kept : s.is_logged f.0 ≡ true = each_logged s records going.before going.legal m (undo.Put f v) has in
      let persistent : is_transient_in guards f.0 ≡ false = shown.parts.rows_of.mark f.0 h ∙ ap (λ (b : Bool). not b) kept in
      let guard : (row_in guards f.0).guard.0 ≡ s.guard f.0 = shown.parts.rows_of.guard f.0 h in
      persistent_logged guards f.0 (omega (arith, h, shown.parts.guarded.size)) persistent ∙ (λ i. Some (record { 0 = guard i }))

  split : undone (records ++ going.before) ≡ undone records ++ undone going.before
  split = map-append (λ (x : ℕ × Record). (x.0, undo_of x.1)) records going.before

  logs_are : (λ (m : ℕ). lane m (undone records)) ≡ logs
  logs_are = λ i m. lane_map undo_of m records i

  -- they have a replay
  pub replayed : (done : List (ℕ × UndoRecord)) × Replays (logged_guard_in guards) logs done
  replayed =
      let found = replay_there s (undone going.before) (undone records)
      (subst (λ (xs : List (ℕ × UndoRecord)). IsLegal (valueless s) (blanks xs)) split (blank_legal s (records ++ going.before) going.legal))
      (λ o. holder_blank o going.before ∙ going.free o) (logged_guard_in guards)
      (λ m r h. guarded m r h (named m r (in_lane m r h))) l.lanes
      (λ m r h. low m r (in_lane m r h)) in
      (found.0, subst (λ (lanes : ℕ → List UndoRecord). Replays (logged_guard_in guards) lanes found.0) logs_are found.1)

  -- nothing is acknowledged among them
  none_settled : (m : ℕ) → settled_records rows logs m ≡ []
  none_settled m = elim (cases_lt m l.lanes) [
    | inl below ↦ let none : settled_of rows m ≡ 0 = omega (arith, shown.unsettled m below) in ap (λ (k : ℕ). first_of k (logs m)) none
    | inr from ↦ ap (λ (xs : List UndoRecord). first_of (settled_of rows m) xs) (shown.parts.live.others m from) ∙ first_none (settled_of rows m)
  ]

  rest : (m : ℕ) → IsAtRest rows logs m
  rest m = record {
    free = ap (λ (xs : List UndoRecord). holding (map undo_action xs)) (none_settled m);
    kept = omega (arith, ap (λ (xs : List UndoRecord). ended (map undo_action xs)) (none_settled m));
  }

  inside : (m i : ℕ) → TakesUnsettled (settled_of rows) logs m i → ⊥
  inside m i h = elim (cases_lt m l.lanes) [
    | inl below ↦ omega (arith, h.inside, shown.unsettled m below)
    | inr from ↦ omega (arith, at_some (logs m) i (undo.Acq h.object (h.number + 1)) h.took, ap (λ (xs : List UndoRecord). length xs) (shown.parts.live.others m from))
  ]

  pub legal_there : AreLegal (logged_guard_in guards) rows logs
  legal_there = record { logs = record { done = replayed.0; replays = replayed.1; rest = rest }; inside = inside }

  pub has_control : HasControl image l guards shown.slot shown.control
  has_control = record {
    front = record { layout = record { header = shown.parts.header; room = shown.parts.room }; guards_are = shown.parts.guarded };
    shows = shown.shows;
    marks = λ old. absurd (omega (arith, old, shown.current));
  }
