-- An image that has a study isn't refused.
use Rattle.std.proofs.Common.{ℕ, zero, suc, ◌≡◌, ◌+◌, ◌<◌, ◌⊎◌, List, [], ◌∷◌, length, get_or, reverse, refl, sym, ap, ◌∙◌, subst, inl, inr, arith, Result, Ok, Err, Vec, Global, length-append, Option, true, false}
use Rattle.heap_model.specs.Log.{lane}
use Rattle.heap_model.specs.declared.ids.ObjectId.{ObjectId}
use Rattle.heap_model.specs.declared.record.UndoRecord.{UndoRecord}
use Rattle.heap_model.specs.declared.record.UndoRecord.TheVariants as undo
use Rattle.image_parts.specs.Guards.{HasGuards}
use Rattle.image_parts.specs.Header.{HasHeader, ReadsHeader}
use Rattle.image_parts.specs.Layout.{size_of}
use Rattle.image_parts.specs.Slots.{Shows}
use Rattle.image_parts.specs.declared.control.Control.{Control}
use Rattle.image_parts.specs.declared.error.HeaderError.{HeaderError}
use Rattle.image_parts.specs.declared.error.HeaderError.TheVariants as header_error
use Rattle.image_parts.specs.declared.guard_row.GuardRow.{GuardRow}
use Rattle.image_parts.specs.declared.lane_row.LaneRow.{LaneRow}
use Rattle.image_parts.specs.declared.layout.Layout.{Layout}
use Rattle.image_parts.specs.declared.slot.Slot.{Slot}
use Rattle.image_parts.proofs.Reading.{header_is_read, guards_are_read}
use Rattle.undo_log.specs.Area.{HasRecord, HasRecords}
use Rattle.undo_log.specs.StandsFor.{is_transient_in, row_of, HasLive}
use Rattle.recover_heap.specs.Logs.{AreLogs, IsBadAt, lanes_of, logged_guard_in}
use Rattle.recover.specs.Reading.{HasFront, HasLayout, HasControl, HasStrayMark, RefusesRows, RefusesImage}
use Rattle.recover.specs.Recovery.{StudiedLaw}
use Rattle.recover_logs.specs.Replay.{IsStuckAt, Replays}
use Rattle.recover.specs.Settled.{AreLegal, IsIllegalAt, Stuck, Restless, Crossing}
use Rattle.recover.specs.Study.{IsStudyOf}
use Rattle.recover_heap.specs.declared.error.RecoverError.{RecoverError}
use Rattle.recover_heap.specs.declared.error.RecoverError.TheVariants.{Fault, NotFormatted, BadHeader, TooSmall, NoControl, BadControl, OldVersion, Worn, BadRecord, IllegalLog, NoMemory}
use Rattle.recover.specs.declared.studied.Study.{Study}
use Rattle.recover.proofs.OneReplay.{one_replay}
use Rattle.recover.proofs.RecoveryLemmas.{same_layout}
use Rattle.recover.proofs.SurvivalLemmas.{one_shown, one_logs}

-- a replay of all records isn't stuck
not_stuck : (guard : ℕ → Option ObjectId) (lanes : ℕ → List UndoRecord) (done : List (ℕ × UndoRecord)) (l count : ℕ) → Replays guard lanes done → IsStuckAt guard lanes l count → ⊥
not_stuck guard lanes done l count replays stuck =
    let same : stuck.done ≡ done = one_replay guard lanes stuck.done done stuck.replay replays.replay in
    let all : lanes l ≡ lane l stuck.done = replays.all l ∙ ap (λ (d : List (ℕ × UndoRecord)). lane l d) (sym same) in
    let later : List UndoRecord = stuck.left.1.0 in
    let long : length (lanes l) ≡ length later + (1 + length (lane l stuck.done)) = ap (λ (xs : List UndoRecord). length xs) stuck.left.1.1 ∙ length-append later (stuck.left.0 ∷ lane l stuck.done) ∙ omega arith in
    omega (arith, long, ap (λ (xs : List UndoRecord). length xs) all)

-- what no test of the logs refuses none refuses
not_illegal : (guard : ℕ → Option ObjectId) (rows : List LaneRow) (lanes : ℕ → List UndoRecord) (l place : ℕ) → AreLegal guard rows lanes → IsIllegalAt guard rows lanes l place → ⊥
not_illegal guard rows lanes l place legal (Stuck count stuck at) = not_stuck guard lanes legal.logs.done l count legal.logs.replays stuck
not_illegal guard rows lanes l place legal (Restless done replays least at) = least.restless (legal.logs.rest l)
not_illegal guard rows lanes l place legal (Crossing i at_rest least at) = legal.inside l i least.takes

-- a record among these is one that the image has at its place
has_at : (l : Layout) (lane place : ℕ) (image : List ℕ) (xs : List UndoRecord) (i : ℕ) (d : UndoRecord) → HasRecords l lane place image xs → i < length xs → HasRecord l lane (place + i) image (get_or xs i d)
has_at l lane place image [] i d has lt = absurd (omega (arith, lt))
has_at l lane place image (x ∷ xs) zero d has lt = let here : place ≡ place + 0 = omega arith in subst (λ (k : ℕ). HasRecord l lane k image x) here has.0
has_at l lane place image (x ∷ xs) (suc i) d has lt =
    let next : place + 1 + i ≡ place + suc i = omega arith in
    subst (λ (k : ℕ). HasRecord l lane k image (get_or xs i d)) next (has_at l lane (place + 1) image xs i d has.1 (omega (arith, lt)))

module _ (image : List ℕ) (s : Study) (of : IsStudyOf image s) where
  header : HasHeader image s.layout
  header = of.holds.control.front.layout.header

  one_header : (other : Layout) → HasHeader image other → other ≡ s.layout
  one_header other has = same_layout image other s.layout has header

  one_version : (m : Layout) (t : Slot) (c : Control) → m ≡ s.layout → Shows m image t c → c.version ≡ s.control.version
  one_version m t c is shows = ap (λ (x : Slot × Control). x.1.version) (one_shown s.layout image t s.slot c s.control (subst (λ (k : Layout). Shows k image t c) is shows) of.holds.control.shows)

  module _ (m : Layout) (guards : List GuardRow) (t : Slot) (c : Control) (has : HasControl image m guards t c) where
    layout_is : m ≡ s.layout
    layout_is = one_header m has.front.layout.header

    guards_is : guards ≡ s.guards.items
    guards_is = guards_are_read s.layout image guards s.guards.items (subst (λ (k : Layout). HasGuards k image guards) layout_is has.front.guards_are) of.holds.control.front.guards_are

    rows_is : c.rows ≡ s.control.rows
    rows_is = ap (λ (x : Slot × Control). x.1.rows) (one_shown s.layout image t s.slot c s.control (subst (λ (k : Layout). Shows k image t c) layout_is has.shows) of.holds.control.shows)

    -- no live place is without a record
    not_bad : (lane place : ℕ) → lane < m.lanes → IsBadAt m image c.rows lane place → ⊥
    not_bad lane place below bad_there =
        let l : Layout = s.layout in
        let rows : List LaneRow = s.control.rows in
        let bad : IsBadAt l image rows lane place =
        subst (λ (rs : List LaneRow). IsBadAt l image rs lane place) rows_is (subst (λ (k : Layout). IsBadAt k image c.rows lane place) layout_is bad_there) in
        let under : lane < l.lanes = subst (λ (k : Layout). lane < k.lanes) layout_is below in
        let span = of.holds.logs.live.live lane under in
        let records : List UndoRecord = reverse (lanes_of s.records.items lane) in
        let i : ℕ = length bad.before.0 in
        let at : (row_of rows lane).start + i ≡ place = bad.before.1.size in
        let none : UndoRecord = undo.Put (record { 0 = 0 }) 0 in
        bad.bad (get_or records i none)
        (subst (λ (k : ℕ). HasRecord l lane k image (get_or records i none)) at
        (has_at l lane (row_of rows lane).start image records i none span.each (omega (arith, at, bad.live, span.size))))

    -- nor do the logs show anything that no threads leave
    legal_logs : (logged : List (Vec UndoRecord Global)) → AreLogs m image c.rows logged → (lane place : ℕ) → IsIllegalAt (logged_guard_in guards) c.rows (lanes_of logged) lane place → ⊥
    legal_logs logged are lane place h =
        let mine : HasLive s.layout image s.control.rows (lanes_of logged) =
        subst (λ (rs : List LaneRow). HasLive s.layout image rs (lanes_of logged)) rows_is (subst (λ (k : Layout). HasLive k image c.rows (lanes_of logged)) layout_is are.live) in
        let lanes : lanes_of logged ≡ lanes_of s.records.items = one_logs s.layout image s.control.rows (lanes_of logged) (lanes_of s.records.items) mine of.holds.logs.live in
        not_illegal (logged_guard_in s.guards.items) s.control.rows (lanes_of s.records.items) lane place of.holds.legal
        (subst (λ (rs : List LaneRow). IsIllegalAt (logged_guard_in s.guards.items) rs (lanes_of s.records.items) lane place) rows_is
        (subst (λ (ls : ℕ → List UndoRecord). IsIllegalAt (logged_guard_in s.guards.items) c.rows ls lane place) lanes
        (subst (λ (gs : List GuardRow). IsIllegalAt (logged_guard_in gs) c.rows (lanes_of logged) lane place) guards_is h)))

  layout_read : (answer : Result Layout HeaderError) → ReadsHeader image answer → (answer ≡ Ok s.layout) ⊎ (answer ≡ Err header_error.Fault)
  layout_read answer reads = header_is_read s.layout image answer header of.holds.control.front.layout.room reads

  no_guards : (m : Layout) → HasLayout image m → RefusesRows m image BadHeader → ⊥
  no_guards m has bad = bad s.guards.items (subst (λ (k : Layout). HasGuards k image s.guards.items) (sym (one_header m has.header)) of.holds.control.front.guards_are)

  -- nor is a row marked beside an old control
  no_stray : (m : Layout) (guards : List GuardRow) → HasFront image m guards → HasStrayMark image m guards → ⊥
  no_stray m guards front stray =
      let is : m ≡ s.layout = one_header m front.layout.header in
      let same : guards ≡ s.guards.items = guards_are_read s.layout image guards s.guards.items (subst (λ (k : Layout). HasGuards k image guards) is front.guards_are) of.holds.control.front.guards_are in
      let old : s.control.version ≡ 1 = sym (one_version m stray.slot stray.control is stray.shows) ∙ stray.version in
      let unmarked : is_transient_in guards stray.field ≡ false = subst (λ (gs : List GuardRow). is_transient_in gs stray.field ≡ false) (sym same) (of.holds.control.marks old stray.field) in
      absurd (let both : true ≡ false = sym stray.marked ∙ unmarked in cc)

  not_refused : (e : RecoverError) → RefusesImage image e → (e ≡ Fault) ⊎ (e ≡ NoMemory)
  not_refused Fault h = inl refl
  not_refused NotFormatted h = elim (layout_read (Err header_error.NotFormatted) h) [ inl is ↦ absurd cc | inr is ↦ absurd cc ]
  not_refused BadHeader (inl h) = absurd (h.1 s.layout header)
  not_refused BadHeader (inr h) = absurd (no_guards h.0 h.1 h.2)
  not_refused TooSmall h = absurd (omega (arith, h.2, of.holds.control.front.layout.room, ap size_of (one_header h.0 h.1)))
  not_refused NoControl h = absurd (h.3 s.slot of.holds.control.shows.is_open)
  not_refused BadControl h = elim h.3 [
    | inl none ↦ absurd (none.1 s.slot s.control (subst (λ (k : Layout). Shows k image s.slot s.control) (sym (one_header h.0 h.2.layout.header)) of.holds.control.shows))
    | inr stray ↦ absurd (no_stray h.0 h.1 h.2 stray)
  ]
  not_refused OldVersion h = absurd h
  not_refused Worn h = absurd h
  not_refused (BadRecord lane place) h = absurd (not_bad h.0 h.1 h.2 h.3 h.4 lane.0 place h.5.0 h.5.1)
  not_refused (IllegalLog lane place) h = absurd (legal_logs h.0 h.1 h.2 h.3 h.4 h.5.0 h.5.1 lane.0 place h.5.2)
  not_refused NoMemory h = inr refl

pub studied : StudiedLaw
studied image s e of h = not_refused image s of e h
