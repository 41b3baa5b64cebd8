-- What the steps of a replay say of the lanes' records, and of the graph of them.
use Rattle.std.proofs.Common.{ℕ, ◌≡◌, ◌+◌, ◌^◌, ◌<◌, ◌≤◌, ◌==◌, if◌then◌else◌, ◌++◌, Bool, true, false, List, [], ◌∷◌, length, map, get_or, take, drop, refl, sym, ap, ◌∙◌, subst, inl, inr, arith, Some, Contains, Vec, Global, Option}
use Rattle.std.specs.Prelude.{slice_get}
use Rattle.std.proofs.lemmas.Bool.{cases_lt, eq-eqb}
use Rattle.std.proofs.lemmas.List.{length-reverse}
use Rattle.std.proofs.lemmas.List.Elements.{All-contains}
use Rattle.heap_model.specs.Log.{lane}
use Rattle.heap_model.specs.Sections.{Action, undo_action, ended, Section, Did}
use Rattle.heap_model.specs.declared.ids.ObjectId.{ObjectId}
use Rattle.heap_model.specs.declared.record.UndoRecord.{UndoRecord}
use Rattle.heap_model.specs.declared.record.UndoRecord.TheVariants.{Acq, Rel, WaitRel, Put}
use Rattle.law_cuts.proofs.Lanes.{lane_append}
use Rattle.dependence.specs.Next.{IsObjectBelow}
use Rattle.dependence.specs.Trace.{Trace}
use Rattle.image_parts.specs.Layout.{IsLayout}
use Rattle.image_parts.specs.Control.{AreRows}
use Rattle.image_parts.specs.Rows.{IsRow, empty_row}
use Rattle.image_parts.specs.declared.layout.Layout.{Layout}
use Rattle.image_parts.specs.declared.lane_row.LaneRow.{LaneRow}
use Rattle.undo_log.specs.Area.{IsLoggable}
use Rattle.undo_log.specs.StandsFor.{row_of}
use Rattle.recover.specs.declared.live_sections.LiveSections.{LiveSections}
use Rattle.recover_logs.specs.declared.step.Step.{Step}
use Rattle.recover_heap.specs.Logs.{records_of, lanes_of, AreLoggable}
use Rattle.recover_logs.specs.Replay.{Replays}
use Rattle.recover_logs.specs.Tables.{log_of}
use Rattle.recover_logs.specs.Tally.{acts_of}
use Rattle.recover.specs.Dropping.{acts_in}
use Rattle.recover.specs.Live.{live_at, IsLiveIn, IsGraphOf, IsReady}
use Rattle.recover.proofs.LogLemmas.{row_is}
use Rattle.recover_logs.proofs.LaneLemmas.{records_past}
use Rattle.recover_logs.proofs.FirstLemmas.{All-reverse}
use Rattle.recover_logs.proofs.ReplayLemmas.{is_there}
use Rattle.recover.proofs.PushingLemmas.{lane_acts, log_parts, log_step, ended_short}
use Rattle.recover.proofs.LiveLemmas.{acts_long, row_past}

get_behind : {A : Type 0} (later : List A) (r : A) (rest : List A) → slice_get (later ++ r ∷ rest) (length later) ≡ Some r
get_behind [] r rest = refl
get_behind (x ∷ later) r rest = get_behind later r rest

lane_head : (l : ℕ) (r : UndoRecord) (older : List (ℕ × UndoRecord)) → lane l ((l, r) ∷ older) ≡ r ∷ lane l older
lane_head l r older = ap (λ (b : Bool). if b then r ∷ lane l older else lane l older) (eq-eqb l l refl)

-- a step's record is one of its lane's
pub step_in : (steps : List Step) (i : ℕ) (d : Step) → i < length steps → Contains (lane (get_or steps i d).lane.0 (log_of steps)) (get_or steps i d).entry
step_in steps i d lt =
    let l : ℕ = (get_or steps i d).lane.0 in
    let r : UndoRecord = (get_or steps i d).entry in
    let newer : List (ℕ × UndoRecord) = log_of (drop (i + 1) steps) in
    let older : List (ℕ × UndoRecord) = log_of (take i steps) in
    let parts : lane l (log_of steps) ≡ lane l newer ++ r ∷ lane l older =
    ap (lane l) (log_parts steps (i + 1)) ∙ lane_append l newer (log_of (take (i + 1) steps)) ∙ ap (λ (log : List (ℕ × UndoRecord)). lane l newer ++ lane l log) (log_step steps i d lt)
    ∙ ap (λ (xs : List UndoRecord). lane l newer ++ xs) (lane_head l r older) in
    subst (λ (xs : List UndoRecord). Contains xs r) (sym parts) (is_there (lane l newer ++ r ∷ lane l older) (length (lane l newer)) r (get_behind (lane l newer) r (lane l older)))

lane_more : (l m : ℕ) (x : UndoRecord) (older : List (ℕ × UndoRecord)) → length (lane l older) ≤ length (lane l ((m, x) ∷ older))
lane_more l m x older = elim (m == l) as (λ b. length (lane l older) ≤ length (if b then x ∷ lane l older else lane l older)) [ true ↦ omega arith | false ↦ omega arith ]

-- the lane of a section that did something has a record
pub did_some : (done : List (ℕ × UndoRecord)) (a : Section) (act : Action) → Did (acts_in done) a act → 0 < length (lane a.lane done)
did_some [] a act h = absurd h
did_some ((m, r) ∷ older) a act h = elim h [
  | inl top ↦
      let at_lane : a.lane ≡ m = ap (λ (s : Section). s.lane) top.0 in
      let some : 0 < length (lane m ((m, r) ∷ older)) = omega (arith, ap (λ (xs : List UndoRecord). length xs) (lane_head m r older)) in
      subst (λ (k : ℕ). 0 < length (lane k ((m, r) ∷ older))) (sym at_lane) some
  | inr rest ↦ omega (arith, did_some older a act rest, lane_more a.lane m r older)
]

-- a lane that has a record is one of the image
lane_there : (logs : List (Vec UndoRecord Global)) (l : ℕ) → 0 < length (lanes_of logs l) → l < length logs
lane_there logs l some = elim (cases_lt l (length logs)) [
  | inl lt ↦ lt
  | inr le ↦ absurd (omega (arith, length-reverse (records_of logs l), ap (λ (xs : List UndoRecord). length xs) (records_past logs l le)))
]

pub done_there : (guard : ℕ → Option ObjectId) (logs : List (Vec UndoRecord Global)) (done : List (ℕ × UndoRecord)) → Replays guard (lanes_of logs) done → (l : ℕ) → 0 < length (lane l done) → l < length logs
done_there guard logs done replays l some = lane_there logs l (omega (arith, ap (λ (xs : List UndoRecord). length xs) (replays.all l)))

contains_some : (xs : List UndoRecord) (r : UndoRecord) → Contains xs r → 0 < length xs
contains_some xs r h = omega (arith, h.1)

-- each step is of a lane of the image
pub steps_low : (guard : ℕ → Option ObjectId) (logs : List (Vec UndoRecord Global)) (steps : List Step) → Replays guard (lanes_of logs) (log_of steps) → (i : ℕ) (d : Step) → i < length steps → (get_or steps i d).lane.0 < length logs
steps_low guard logs steps replays i d lt =
    let s : Step = get_or steps i d in
    done_there guard logs (log_of steps) replays s.lane.0 (contains_some (lane s.lane.0 (log_of steps)) s.entry (step_in steps i d lt))

object_low : (l : Layout) (r : UndoRecord) → IsLoggable l r → IsObjectBelow 4096 r
object_low l (Acq o n) h = h.range.0
object_low l (Rel o n) h = h.range.0
object_low l (WaitRel o n) h = h.range.0
object_low l (Put f v) h = tt

-- each step names an object that an image may have
pub steps_named : (layout : Layout) (guard : ℕ → Option ObjectId) (rows : List LaneRow) (logs : List (Vec UndoRecord Global)) (steps : List Step) → AreLoggable layout rows logs → Replays guard (lanes_of logs) (log_of steps) →
    (i : ℕ) (d : Step) → i < length steps → IsObjectBelow 4096 (get_or steps i d).entry
steps_named layout guard rows logs steps are replays i d lt =
    let s : Step = get_or steps i d in
    object_low layout s.entry (All-contains (IsLoggable layout) (lanes_of logs s.lane.0) s.entry (All-reverse (IsLoggable layout) (records_of logs s.lane.0) (are.each s.lane.0))
    (subst (λ (xs : List UndoRecord). Contains xs s.entry) (sym (replays.all s.lane.0)) (step_in steps i d lt)))

-- the numbers of a report fit
numbers_fit : (layout : Layout) (rows : List LaneRow) (logs : List (Vec UndoRecord Global)) (l : ℕ) (s : LiveSections) → IsLayout layout → AreRows layout rows → AreLoggable layout rows logs → IsLiveIn rows (lanes_of logs) l s → s.trimmed + s.whole + 1 < 2 ^ 64
numbers_fit layout rows logs l s limits are loggable live =
    let few : layout.lanes ≤ 32 = omega (arith, limits.lanes) in
    let short : s.whole ≤ length (records_of logs l) = omega (arith, live.whole_is, ended_short (acts_of (records_of logs l)), acts_long (records_of logs l)) in
    elim (cases_lt l layout.lanes) [
      | inl lt ↦
          let row : IsRow layout.capacity (row_of rows l) = row_is layout rows l empty_row are few lt in
          omega (arith, short, live.trimmed_is, row.kept, row.logged, row.limit, row.fits, row.settled, limits.capacity, loggable.size l lt)
      | inr le ↦
          let kept : (row_of rows l).kept ≡ 0 = ap (λ (r : LaneRow). r.kept) (row_past layout rows l are few le) in
          let none : length (records_of logs l) ≡ 0 = ap (λ (xs : List UndoRecord). length xs) (records_past logs l (omega (arith, loggable.count))) in
          omega (arith, short, live.trimmed_is, kept, none)
    ]

-- the graph of the steps and the lanes' counts answer for each section
pub ready : (layout : Layout) (guard : ℕ → Option ObjectId) (rows : List LaneRow) (logs : List (Vec UndoRecord Global)) (done : List (ℕ × UndoRecord)) (counts : List LiveSections) (g : Trace) →
    IsLayout layout → AreRows layout rows → AreLoggable layout rows logs → Replays guard (lanes_of logs) done → IsGraphOf done g → ((l : ℕ) → IsLiveIn rows (lanes_of logs) l (live_at counts l)) → IsReady counts g
ready layout guard rows logs done counts g limits are loggable replays graph live = record {
  base = graph.base_is;
  lanes = λ a act did. omega (arith, limits.lanes, loggable.count, done_there guard logs done replays a.lane (did_some done a act (subst (λ (log : List (ℕ × Action)). Did log a act) graph.log_is did)));
  whole = λ l. (live l).whole_is ∙ ap (λ (xs : List UndoRecord). ended (map undo_action xs)) (replays.all l) ∙ ap ended (sym (lane_acts l done)) ∙ ap (λ (log : List (ℕ × Action)). ended (lane l log)) (sym graph.log_is);
  fits = λ l. numbers_fit layout rows logs l (live_at counts l) limits are loggable (live l);
}
