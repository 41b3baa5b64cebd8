-- The study of a recovered image.
use Rattle.std.proofs.Common.{ℕ, zero, suc, ◌≡◌, ◌∙◌, ◌+◌, ◌-◌, ◌≤◌, List, [], ◌∷◌, ◌++◌, length, length-append, get_or, replicate, map, reverse, take, refl, sym, ap, subst, arith, Vec, Global, Option}
use Rattle.std.proofs.lemmas.List.{length-replicate}
use Rattle.heap_model.specs.Cuts.{counts_of, IsStable}
use Rattle.heap_model.specs.Sections.{Section, DependsOn, Earlier, Took, undo_action, holding, ended}
use Rattle.heap_model.specs.declared.ids.ObjectId.{ObjectId}
use Rattle.heap_model.specs.declared.record.UndoRecord.{UndoRecord}
use Rattle.image_parts.specs.Cells.{HasHomes}
use Rattle.image_parts.specs.Guards.{no_row}
use Rattle.image_parts.specs.Control.{empty_control}
use Rattle.image_parts.specs.Rows.{empty_row}
use Rattle.image_parts.specs.Slots.{Shows, other}
use Rattle.image_parts.specs.declared.control.Control.{Control}
use Rattle.image_parts.specs.declared.guard_row.GuardRow.{GuardRow}
use Rattle.image_parts.specs.declared.lane_row.LaneRow.{LaneRow}
use Rattle.image_parts.specs.declared.layout.Layout.{Layout}
use Rattle.image_parts.specs.declared.slot.Slot.{Slot}
use Rattle.undo_log.specs.OldValues.{OldValue, HasOld, NothingBack}
use Rattle.undo_log.specs.StandsFor.{HasLive, row_of, settled_of, guard_in}
use Rattle.recover.specs.declared.report.Dropped.{Dropped}
use Rattle.recover.specs.declared.report.Report.{Report}
use Rattle.recover.specs.declared.studied.Study.{Study}
use Rattle.recover.specs.Dropping.{AreDropped, AreEntriesOf, sections_after, settled_sections, trimmed_sections, unsettled_sections}
use Rattle.recover_heap.specs.Logs.{lanes_of, records_of, logged_guard_in}
use Rattle.recover.specs.Reading.{HasFront, Holds}
use Rattle.recover.specs.Recovery.{IsEnded}
use Rattle.recover_logs.specs.Replay.{Replays}
use Rattle.recover.specs.Settled.{AreLegal, IsAtRest, TakesUnsettled, settled_records}
use Rattle.recover.specs.Study.{AreUndone, IsReportOf, IsStudyOf, held_by}
use Rattle.recover_logs.proofs.ReplayLemmas.{zeros}
use Rattle.recover.proofs.StudyLemmas.{stands_for}

-- the rows of empty logs
rows_empty : (n k : ℕ) → get_or (replicate n empty_row) k empty_row ≡ empty_row
rows_empty zero k = refl
rows_empty (suc n) zero = refl
rows_empty (suc n) (suc k) = rows_empty n k

row_empty : (k : ℕ) → row_of (replicate 32 empty_row) k ≡ empty_row
row_empty k = rows_empty 32 k

replays_none : (guard : ℕ → Option ObjectId) → Replays guard (λ l. []) []
replays_none guard = record {
  replay = record {
    first = λ o. 0;
    begins = record { least = λ l n o among. absurd (omega (arith, among.1)); taken = λ l n o among. absurd (omega (arith, among.1)) };
    greedy = tt;
    ended = λ l r goes. no_next goes.next.0 r goes.next.1;
  };
  all = λ l. refl;
}
  where
    no_next : (later : List UndoRecord) (r : UndoRecord) → (let none : List UndoRecord = [] in none ≡ later ++ r ∷ []) → ⊥
    no_next later r is = absurd (omega (arith, ap (λ (xs : List UndoRecord). length xs) is, length-append later (r ∷ [])))

take_none : (n : ℕ) → (let none : List UndoRecord = [] in take n none ≡ [])
take_none zero = refl
take_none (suc n) = refl

nothing_settled : (rows : List LaneRow) (l : ℕ) → settled_records rows (λ m. []) l ≡ []
nothing_settled rows l = ap (λ (xs : List UndoRecord). reverse xs) (take_none (settled_of rows l))

at_rest : (rows : List LaneRow) (l : ℕ) → IsAtRest rows (λ m. []) l
at_rest rows l = record {
  free = ap (λ (xs : List UndoRecord). holding (map undo_action xs)) (nothing_settled rows l);
  kept = omega (arith, ap (λ (xs : List UndoRecord). ended (map undo_action xs)) (nothing_settled rows l));
}

none_taken : (settled : ℕ → ℕ) (l i : ℕ) → TakesUnsettled settled (λ m. []) l i → ⊥
none_taken settled l i takes = takes.took

legal_none : (guard : ℕ → Option ObjectId) (rows : List LaneRow) → AreLegal guard rows (λ m. [])
legal_none guard rows = record {
  logs = record { done = []; replays = replays_none guard; rest = at_rest rows };
  inside = none_taken (settled_of rows);
}

no_sections : (rows : List LaneRow) (n : ℕ) → unsettled_sections rows (λ m. []) n ≡ []
no_sections rows zero = refl
no_sections rows (suc l) =
    let none : 0 - settled_sections rows (λ m. []) l ≡ 0 = omega arith in
    ap (λ (xs : List Section). xs ++ sections_after l (settled_sections rows (λ m. []) l) (0 - settled_sections rows (λ m. []) l)) (no_sections rows l)
    ∙ ap (λ (n : ℕ). sections_after l (settled_sections rows (λ m. []) l) n) none

stable_none : IsStable [] (λ l. 0)
stable_none = record {
  whole = λ l. omega arith;
  closed = none_closed;
  greatest = λ cut whole closed l. whole l;
}
  where
    none_closed : (a b : Section) → a.number ≤ 0 → DependsOn [] a b → b.number ≤ 0
    none_closed a b le (Earlier same before) = omega arith
    none_closed a b le (Took o n did freed other) = absurd did

dropped_none : (rows : List LaneRow) (n : ℕ) → AreDropped rows (λ m. []) [] n []
dropped_none rows n = record {
  cut = λ l. 0;
  stable = stable_none;
  entries = subst (λ (xs : List Section). AreEntriesOf (trimmed_sections rows (λ m. [])) [] (λ l. 0) xs []) (sym (no_sections rows n)) tt;
}

undone_none : (l : Layout) (guards : List GuardRow) (rows : List LaneRow) → AreUndone l guards rows (λ m. []) []
undone_none l guards rows = record {
  rising = λ k lt. absurd (omega arith);
  each = λ f. (λ among. absurd (omega (arith, among.1)), λ such. absurd such.1.had);
}

-- a report on an image with nothing logged
report_none : (l : Layout) (guards : List GuardRow) (r : Report) → ((lane : ℕ) → counts_of r.kept lane ≡ 0) → r.dropped.items ≡ [] → r.undone ≡ 0 →
    IsReportOf l guards (replicate 32 empty_row) (λ m. []) r
report_none l guards r kept dropped undone = record {
  kept_are = λ lane. kept lane ∙ sym (ap (λ (row : LaneRow). row.kept) (row_empty lane));
  done = [];
  replays = replays_none (logged_guard_in guards);
  dropped_are = subst (λ (xs : List Dropped). AreDropped (replicate 32 empty_row) (λ m. []) [] l.lanes xs) (sym dropped) (dropped_none (replicate 32 empty_row) l.lanes);
  fields = [];
  undone_are = undone_none l guards (replicate 32 empty_row);
  undone_is = undone;
}

live_none : (l : Layout) (image : List ℕ) → HasLive l image (replicate 32 empty_row) (λ m. [])
live_none l image = record {
  live = λ lane lt. record {
    size = subst (λ (row : LaneRow). row.start + 0 ≡ row.logged) (sym (row_empty lane)) refl;
    each = tt;
  };
  others = λ lane le. refl;
}

-- an image with nothing logged has the study that says so
pub study_ended : (image : List ℕ) (s e : Study) → IsEnded s e → HasFront image s.layout s.guards.items → Shows s.layout image (other s.slot) (empty_control (s.control.sequence + 1)) →
    HasHomes s.layout s.guards.items image s.heap.items → length e.records.items ≡ s.layout.lanes → IsStudyOf image e
study_ended image s e ended front shows homes count =
    let lanes : lanes_of e.records.items ≡ (λ (m : ℕ). let none : List UndoRecord = [] in none) = λ i lane. ap (λ (xs : List UndoRecord). reverse xs) (ended.logs_are lane) i in
    let version : e.control.version ≡ 2 = ap (λ (c : Control). c.version) ended.control_is in
    let rows : e.control.rows ≡ replicate 32 empty_row = ap (λ (c : Control). c.rows) ended.control_is in
    let front_there : HasFront image e.layout e.guards.items =
    subst (λ (l : Layout). HasFront image l e.guards.items) (sym ended.layout_is) (subst (λ (gs : List GuardRow). HasFront image s.layout gs) (sym ended.guards_are) front) in
    let one : Shows s.layout image e.slot (empty_control (s.control.sequence + 1)) = subst (λ (t : Slot). Shows s.layout image t (empty_control (s.control.sequence + 1))) (sym ended.slot_is) shows in
    let two : Shows s.layout image e.slot e.control = subst (λ (c : Control). Shows s.layout image e.slot c) (sym ended.control_is) one in
    let shows_there : Shows e.layout image e.slot e.control = subst (λ (l : Layout). Shows l image e.slot e.control) (sym ended.layout_is) two in
    let live : HasLive e.layout image e.control.rows (lanes_of e.records.items) =
    subst (λ (rs : List LaneRow). HasLive e.layout image rs (lanes_of e.records.items)) (sym rows)
    (subst (λ (ls : ℕ → List UndoRecord). HasLive e.layout image (replicate 32 empty_row) ls) (sym lanes) (live_none e.layout image)) in
    let legal : AreLegal (logged_guard_in e.guards.items) e.control.rows (lanes_of e.records.items) =
    subst (λ (ls : ℕ → List UndoRecord). AreLegal (logged_guard_in e.guards.items) e.control.rows ls) (sym lanes) (legal_none (logged_guard_in e.guards.items) e.control.rows) in
    let holds : Holds image (held_by e) = record {
      control = record { front = front_there; shows = shows_there; marks = λ is. absurd (omega (arith, is, version)) };
      logs = record { count = count ∙ ap (λ (l : Layout). l.lanes) (sym ended.layout_is); live = live };
      legal = legal;
    } in
    let homes_there : HasHomes e.layout e.guards.items image e.heap.items =
    subst (λ (l : Layout). HasHomes l e.guards.items image e.heap.items) (sym ended.layout_is)
    (subst (λ (gs : List GuardRow). HasHomes s.layout gs image e.heap.items) (sym ended.guards_are) (subst (λ (xs : List ℕ). HasHomes s.layout s.guards.items image xs) (sym ended.heap_is) homes)) in
    let none : (l : ℕ) (k : OldValue) (o f : ℕ) → HasOld o f (lanes_of e.records.items l) k → ⊥ = λ l k o f had. subst (λ (ls : ℕ → List UndoRecord). HasOld o f (ls l) k) lanes had in
    record {
      holds = holds;
      stands = stands_for image (held_by e) e.heap.items holds homes_there.size (λ f below. NothingBack (λ l k had out. none l k (guard_in e.guards.items f) f had) (homes_there.each f no_row below));
      reports = subst (λ (rs : List LaneRow). IsReportOf e.layout e.guards.items rs (lanes_of e.records.items) e.report) (sym rows)
          (subst (λ (ls : ℕ → List UndoRecord). IsReportOf e.layout e.guards.items (replicate 32 empty_row) ls e.report) (sym lanes)
          (report_none e.layout e.guards.items e.report ended.kept_none ended.dropped_none ended.undone_none));
    }

-- there is such a study

abbrev none_in : {X : Type 0} → Vec ℕ Global → Vec X Global
none_in v = record { ptr = v.ptr; len = 0; cap = 0; alloc = v.alloc; items = []; ok = (refl, omega arith); small = omega arith }

none_logged : (v : Vec UndoRecord Global) → v.items ≡ [] → (n l : ℕ) → records_of (replicate n v) l ≡ []
none_logged v is zero l = refl
none_logged v is (suc n) zero = is
none_logged v is (suc n) (suc l) = none_logged v is n l

pub ended_of : (s : Study) → s.layout.lanes ≤ 32 → (e : Study) × IsEnded s e × (length e.records.items ≡ s.layout.lanes)
ended_of s few =
    let n : ℕ = s.layout.lanes in
    let none : Vec UndoRecord Global = none_in s.heap in
    let dropped : Vec Dropped Global = none_in s.heap in
    let logs : List (Vec UndoRecord Global) = replicate n none in
    let size : length logs ≡ n = length-replicate n none in
    let records : Vec (Vec UndoRecord Global) Global = record { ptr = s.heap.ptr; len = n; cap = n; alloc = s.heap.alloc; items = logs; ok = (sym size, omega arith); small = omega (arith, few) } in
    let e : Study = record {
      layout = s.layout;
      slot = other s.slot;
      control = empty_control (s.control.sequence + 1);
      guards = s.guards;
      records = records;
      heap = s.heap;
      report = record { kept = record { counts = replicate 32 0 }; dropped = dropped; undone = 0 };
    } in
    let ended : IsEnded s e = record {
      layout_is = refl;
      slot_is = refl;
      control_is = refl;
      guards_are = refl;
      logs_are = none_logged none refl n;
      heap_is = refl;
      kept_none = zeros 32;
      dropped_none = refl;
      undone_none = refl;
    } in
    (e, ended, size)
