-- What a change of home cells leaves of an image, and what one image determines.
use Rattle.std.proofs.Common.{ℕ, zero, suc, Bool, true, false, length, ◌≡◌, ◌+◌, ◌-◌, ◌*◌, ◌<◌, ◌≤◌, ◌∙◌, All, List, [], ◌∷◌, reverse, get_or, refl, sym, ap, subst, inl, inr, arith, Vec, Global, Result, Ok, Err}
use Rattle.std.specs.Prelude.{Contains, slice_index, slice_index_or}
use Rattle.std.proofs.lemmas.Bool.{cases_lt}
use Rattle.std.proofs.lemmas.List.{reverse-reverse}
use Rattle.std.proofs.lemmas.List.Elements.{All-contains, Contains-get_or}
use Rattle.heap_model.specs.declared.ids.FieldId.{FieldId}
use Rattle.heap_model.specs.declared.record.UndoRecord.{UndoRecord}
use Rattle.block_disk.specs.Device.{Range, SameOutside}
use Rattle.block_disk.specs.Images.{IsApart, Survives}
use Rattle.image_parts.specs.Cells.{HasCell, HasHome, HasHomes}
use Rattle.image_parts.specs.Laws.{AreApart}
use Rattle.image_parts.specs.Layout.{IsLayout, area_at, cell_at, record_at}
use Rattle.image_parts.specs.Slots.{Shows}
use Rattle.image_parts.specs.declared.control.Control.{Control}
use Rattle.image_parts.specs.declared.error.ControlError.{ControlError}
use Rattle.image_parts.specs.declared.error.ControlError.TheVariants.{Fault}
use Rattle.image_parts.specs.declared.guard_row.GuardRow.{GuardRow}
use Rattle.image_parts.specs.declared.lane_row.LaneRow.{LaneRow}
use Rattle.image_parts.specs.declared.layout.Layout.{Layout}
use Rattle.image_parts.specs.declared.slot.Slot.{Slot}
use Rattle.image_parts.proofs.SlotLemmas.{shows_survives}
use Rattle.image_parts.proofs.Places.{places, header_survives, guards_survive, home_survives}
use Rattle.image_parts.proofs.Reading.{control_is_chosen, guards_are_read}
use Rattle.undo_log.specs.OldValues.{OldValue, HasOld, TakesBack, NothingBack, FirstBack, IsUnsettled}
use Rattle.undo_log.specs.StandsFor.{HasLive, StandsFor, row_of, settled_of, guard_in, is_transient_in, row_in}
use Rattle.undo_log.proofs.Frames.{records_survive}
use Rattle.undo_log.proofs.OneHeap.{one_span}
use Rattle.recover.specs.declared.logged_image.LoggedImage.{LoggedImage}
use Rattle.recover.specs.declared.studied.Study.{Study}
use Rattle.recover_heap.specs.Heap.{IsUndone}
use Rattle.recover_heap.specs.Logs.{AreLogs, lanes_of, logged_guard_in}
use Rattle.recover_heap.specs.Putting.{cell_ranges}
use Rattle.recover.specs.Reading.{HasFront, Holds}
use Rattle.recover.specs.Study.{AreUndone, IsStudyOf, TransientFirstLaw, held_by}
use Rattle.recover_heap.proofs.HeapLemmas.{stored_needs}
use Rattle.recover_heap.proofs.HomeLemmas.{logged_agrees, logged_persistent}
use Rattle.recover_heap.proofs.PuttingLemmas.{cells_apart}
use Rattle.recover.proofs.StudyLemmas.{stands_for}

-- the ranges lie apart from the header, the guard rows and the lanes' areas
pub record Spared (l : Layout) (rs : List Range) : Type 0 where
  pub header : IsApart 0 64 rs
  pub guards : IsApart 2160 (16 * l.fields) rs
  pub records : (lane place : ℕ) → IsApart (record_at l lane place) 16 rs

pub front_survives : (l : Layout) (guards : List GuardRow) (rs : List Range) → Spared l rs → Survives rs (λ image. HasFront image l guards)
front_survives l guards rs spared old new has same = record {
  layout = record {
    header = header_survives l rs spared.header old new has.layout.header same;
    room = omega (arith, has.layout.room, same.size);
  };
  guards_are = guards_survive l guards rs spared.guards old new has.guards_are same;
}

pub logs_survive : (l : Layout) (rows : List LaneRow) (logs : List (Vec UndoRecord Global)) (rs : List Range) → Spared l rs → Survives rs (λ image. AreLogs l image rows logs)
logs_survive l rows logs rs spared old new has same = record {
  count = has.count;
  live = record {
    live = λ lane lt.
        let span = has.live.live lane lt in
        record {
          size = span.size;
          each = records_survive l lane (row_of rows lane).start (reverse (lanes_of logs lane)) rs (λ i below. spared.records lane ((row_of rows lane).start + i)) old new span.each same;
        };
    others = has.live.others;
  };
}

-- what is written before the cells, and what behind them
apart_before : (l : Layout) (fields : List FieldId) (at n : ℕ) → at + n ≤ 2160 + 16 * l.fields → IsApart at n (cell_ranges l fields)
apart_before l [] at n low = tt
apart_before l (f ∷ fs) at n low = (inl (omega arith), apart_before l fs at n low)

apart_behind : (l : Layout) (fields : List FieldId) (at n : ℕ) → All (λ f. f.0 < l.fields) fields → 2160 + 24 * l.fields ≤ at → IsApart at n (cell_ranges l fields)
apart_behind l [] at n below high = tt
apart_behind l (f ∷ fs) at n below high =
    let first : f.0 < l.fields = below 0 f (omega arith) in
    (inr (omega (arith, first)), apart_behind l fs at n (λ k d lt. below (suc k) d (omega arith)) high)

pub cells_spare : (l : Layout) (fields : List FieldId) → IsLayout l → All (λ f. f.0 < l.fields) fields → Spared l (cell_ranges l fields)
cells_spare l fields limits below =
    let apart : AreApart l = places l limits in
    record {
      header = apart_before l fields 0 64 (omega arith);
      guards = apart_before l fields 2160 (16 * l.fields) (omega arith);
      records = λ lane place.
          let last : cell_at l (l.fields - 1) + 8 ≤ area_at l lane = apart.cells (l.fields - 1) lane (omega (arith, limits.fields)) in
          let within : area_at l lane ≤ record_at l lane place = (apart.records lane place).0 in
          apart_behind l fields (record_at l lane place) 16 below (omega (arith, last, within, limits.fields));
    }

-- a cell of none of the fields
pub other_cell : (l : Layout) (fields : List FieldId) (g : ℕ) → ((f : FieldId) → Contains fields f → f.0 ≡ g → ⊥) → IsApart (cell_at l g) 8 (cell_ranges l fields)
other_cell l [] g none = tt
other_cell l (f ∷ fs) g none = (
  (cells_apart l f.0 g (λ is. none f (0, omega arith, refl) is)).0,
  other_cell l fs g (λ h in_rest is. none h (suc in_rest.0, omega (arith, in_rest.1), in_rest.2) is),
)

-- One image.

same_answer : (x y : Slot × Control) → (let a : Result (Slot × Control) ControlError = Ok x in a ≡ Ok y) → x ≡ y
same_answer x y is = cc

no_answer : (x : Slot × Control) → (let a : Result (Slot × Control) ControlError = Ok x in a ≡ Err Fault) → ⊥
no_answer x is = cc

-- an image shows one control, in one slot
pub one_shown : (l : Layout) (image : List ℕ) (s t : Slot) (c d : Control) → Shows l image s c → Shows l image t d → (let x : Slot × Control = (s, c) in x ≡ (t, d))
one_shown l image s t c d p q = elim (control_is_chosen l image s c (Ok (t, d)) p q) as (λ _. let x : Slot × Control = (s, c) in x ≡ (t, d)) [
  | inl is ↦ sym (same_answer (t, d) (s, c) is)
  | inr bad ↦ absurd (no_answer (t, d) bad)
]

one_lane : (l : Layout) (image : List ℕ) (rows : List LaneRow) (xs ys : ℕ → List UndoRecord) → HasLive l image rows xs → HasLive l image rows ys → (lane : ℕ) → xs lane ≡ ys lane
one_lane l image rows xs ys p q lane = elim (cases_lt lane l.lanes) [
  | inl lt ↦
      let back : reverse (xs lane) ≡ reverse (ys lane) =
      one_span l lane (row_of rows lane).start (row_of rows lane).logged image (reverse (xs lane)) (reverse (ys lane)) (p.live lane lt) (q.live lane lt) in
      sym (reverse-reverse (xs lane)) ∙ ap (λ (rs : List UndoRecord). reverse rs) back ∙ reverse-reverse (ys lane)
  | inr le ↦ p.others lane le ∙ sym (q.others lane le)
]

-- an image has one list of live records of each lane
pub one_logs : (l : Layout) (image : List ℕ) (rows : List LaneRow) (xs ys : ℕ → List UndoRecord) → HasLive l image rows xs → HasLive l image rows ys → xs ≡ ys
one_logs l image rows xs ys p q = λ i lane. one_lane l image rows xs ys p q lane i

-- what each field of an image takes back, by its own parts
pub takes_of : (image : List ℕ) (found : LoggedImage) (heap : List ℕ) → Holds image found → StandsFor found.layout image heap → (f : ℕ) → f < found.layout.fields →
    TakesBack (guard_in found.guards.items f) f (lanes_of found.records.items) (IsUnsettled (settled_of found.control.rows)) (HasHome found.layout (row_in found.guards.items f) f image) (slice_index heap f)
takes_of image found heap holds stands f below =
    let l : Layout = found.layout in
    let rows : stands.control.rows ≡ found.control.rows = ap (λ (x : Slot × Control). x.1.rows) (one_shown l image stands.slot found.slot stands.control found.control stands.shows holds.control.shows) in
    let guards : stands.guards ≡ found.guards.items = guards_are_read l image stands.guards found.guards.items stands.guarded holds.control.front.guards_are in
    let live : HasLive l image found.control.rows stands.lanes = subst (λ (rs : List LaneRow). HasLive l image rs stands.lanes) rows stands.live in
    let lanes : stands.lanes ≡ lanes_of found.records.items = one_logs l image found.control.rows stands.lanes (lanes_of found.records.items) live holds.logs.live in
    let first : TakesBack (guard_in found.guards.items f) f stands.lanes (IsUnsettled (settled_of stands.control.rows)) (HasHome l (row_in found.guards.items f) f image) (slice_index heap f) =
    subst (λ (gs : List GuardRow). TakesBack (guard_in gs f) f stands.lanes (IsUnsettled (settled_of stands.control.rows)) (HasHome l (row_in gs f) f image) (slice_index heap f)) guards (stands.takes f below) in
    let second : TakesBack (guard_in found.guards.items f) f (lanes_of found.records.items) (IsUnsettled (settled_of stands.control.rows)) (HasHome l (row_in found.guards.items f) f image) (slice_index heap f) =
    subst (λ (ls : ℕ → List UndoRecord). TakesBack (guard_in found.guards.items f) f ls (IsUnsettled (settled_of stands.control.rows)) (HasHome l (row_in found.guards.items f) f image) (slice_index heap f)) lanes first in
    subst (λ (rs : List LaneRow). TakesBack (guard_in found.guards.items f) f (lanes_of found.records.items) (IsUnsettled (settled_of rs)) (HasHome l (row_in found.guards.items f) f image) (slice_index heap f)) rows second

-- Put back.

not_both : (b : Bool) → b ≡ true → b ≡ false → ⊥
not_both b is isnt = absurd (let both : true ≡ false = sym is ∙ isnt in cc)

row_is : (guards : List GuardRow) (f : ℕ) (d : GuardRow) → f < length guards → row_in guards f ≡ slice_index_or guards f d
row_is [] f d below = absurd (omega (arith, below))
row_is (row ∷ guards) zero d below = refl
row_is (row ∷ guards) (suc f) d below = row_is guards f d (omega (arith, below))

-- a field with a live store is persistent
stored_persistent : (image : List ℕ) (s : Study) → IsStudyOf image s → (f m : ℕ) (k : OldValue) → HasOld (guard_in s.guards.items f) f (lanes_of s.records.items m) k → is_transient_in s.guards.items f ≡ false
stored_persistent image s has f m k had =
    let logged = stored_needs (logged_guard_in s.guards.items) (guard_in s.guards.items) (logged_agrees s.guards.items) (lanes_of s.records.items) has.holds.legal.logs.done f m k has.holds.legal.logs.replays had in
    logged_persistent s.guards.items f logged.0 logged.1

-- a transient field has its first value
pub transient_first : TransientFirstLaw
transient_first image s f has below marked = elim (takes_of image (held_by s) s.heap.items has.holds has.stands f below) [
  | NothingBack none home ↦ home.transient marked
  | FirstBack m k had out is first ↦ absurd (not_both (is_transient_in s.guards.items f) marked (stored_persistent image s has f m k had))
]

module _ (s : Study) (fields : List FieldId) (undone : AreUndone s.layout s.guards.items s.control.rows (lanes_of s.records.items) fields) where
  -- the fields are the image's
  pub undone_below : All (λ f. f.0 < s.layout.fields) fields
  undone_below = λ k d lt. ((undone.each (get_or fields k d)).0 (Contains-get_or fields k d lt)).0

  -- a field with no unsettled store isn't written
  not_undone : (f : ℕ) → ((l : ℕ) (k : OldValue) → HasOld (guard_in s.guards.items f) f (lanes_of s.records.items l) k → IsUnsettled (settled_of s.control.rows) l k → ⊥) →
      (g : FieldId) → Contains fields g → g.0 ≡ f → ⊥
  not_undone f none g among is =
      let such : IsUndone (guard_in s.guards.items f) f (lanes_of s.records.items) (settled_of s.control.rows) =
      subst (λ (n : ℕ). IsUndone (guard_in s.guards.items n) n (lanes_of s.records.items) (settled_of s.control.rows)) is ((undone.each g).0 among).1 in
      none such.lane such.store such.had such.out

  -- the study goes on to be one of the image, whatever stands in the cells of these fields
  pub study_survives : Survives (cell_ranges s.layout fields) (λ image. IsStudyOf image s)
  study_survives old new has same =
      let l : Layout = s.layout in
      let rs : List Range = cell_ranges l fields in
      let limits : IsLayout l = has.holds.control.front.layout.header.limits in
      let spared : Spared l rs = cells_spare l fields limits undone_below in
      let holds : Holds new (held_by s) = record {
        control = record {
          front = front_survives l s.guards.items rs spared old new has.holds.control.front same;
          shows = shows_survives l s.slot s.control rs (apart_before l fields 64 2096 (omega arith)) old new has.holds.control.shows same;
          marks = has.holds.control.marks;
        };
        logs = logs_survive l s.control.rows s.records.items rs spared old new has.holds.logs same;
        legal = has.holds.legal;
      } in
      record {
        holds = holds;
        stands = stands_for new (held_by s) s.heap.items holds has.stands.size (λ f below.
            elim (takes_of old (held_by s) s.heap.items has.holds has.stands f below) [
              | NothingBack none home ↦ NothingBack none (home_survives l (row_in s.guards.items f) f (slice_index s.heap.items f) rs (other_cell l fields f (not_undone f none)) old new home same)
              | FirstBack m k had out is first ↦ FirstBack m k had out is first
            ]);
        reports = has.reports;
      }

  home_there : (old new : List ℕ) → IsStudyOf old s → SameOutside (cell_ranges s.layout fields) old new → All (λ f. HasCell s.layout f.0 new (slice_index s.heap.items f.0)) fields →
      (f : ℕ) → f < s.layout.fields → HasHome s.layout (row_in s.guards.items f) f new (slice_index s.heap.items f)
  home_there old new has same put f below = elim (takes_of old (held_by s) s.heap.items has.holds has.stands f below) [
    | NothingBack none home ↦ home_survives s.layout (row_in s.guards.items f) f (slice_index s.heap.items f) (cell_ranges s.layout fields) (other_cell s.layout fields f (not_undone f none)) old new home same
    | FirstBack m k had out is first ↦
        let field : FieldId = record { 0 = f } in
        record {
          persistent = λ _. All-contains (λ (g : FieldId). HasCell s.layout g.0 new (slice_index s.heap.items g.0)) fields field put
              ((undone.each field).1 (below, record { lane = m; store = k; had = had; out = out }));
          transient = λ marked. absurd (not_both (is_transient_in s.guards.items f) marked (stored_persistent old s has f m k had));
        }
  ]

  -- once they are put back the fields have the heap at home
  pub heap_there : (old new : List ℕ) → IsStudyOf old s → SameOutside (cell_ranges s.layout fields) old new →
      All (λ f. HasCell s.layout f.0 new (slice_index s.heap.items f.0)) fields → HasHomes s.layout s.guards.items new s.heap.items
  heap_there old new has same put = record {
    size = has.stands.size;
    each = λ f d below. subst (λ (row : GuardRow). HasHome s.layout row f new (slice_index s.heap.items f)) (row_is s.guards.items f d (omega (arith, below, has.holds.control.front.guards_are.size)))
        (home_there old new has same put f below);
  }
