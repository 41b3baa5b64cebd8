-- What putting back and the end of a recovery leave.
use Rattle.std.proofs.Common.{ℕ, ◌≡◌, ◌+◌, ◌*◌, ◌≤◌, All, List, [], ◌∷◌, refl, ap, inl, inr, arith}
use Rattle.std.specs.Prelude.{slice_index, slice_index_or}
use Rattle.heap_model.specs.declared.ids.FieldId.{FieldId}
use Rattle.block_disk.specs.Device.{Range, Device, SameOutside, synced}
use Rattle.block_disk.specs.Images.{Always, ImageBut, IsApart, LeavesOnly}
use Rattle.block_disk.proofs.Images.{always_only, and_then, besides_none, besides_only, besides_survives, image_now, now_too, survives, survives_none, weaker}
use Rattle.image_parts.specs.Cells.{HasCell, HasHomes}
use Rattle.image.specs.Commit.{OldOrNew}
use Rattle.image_parts.specs.Control.{empty_control}
use Rattle.image_parts.specs.Layout.{IsLayout, cell_at, record_at}
use Rattle.image_parts.specs.Recovered.{IsRecovered}
use Rattle.image_parts.specs.Slots.{Shows, other, slot_range}
use Rattle.image_parts.specs.declared.control.Control.{Control}
use Rattle.image_parts.specs.declared.layout.Layout.{Layout}
use Rattle.image_parts.specs.declared.slot.Slot.{Slot}
use Rattle.image_parts.specs.declared.slot.Slot.TheVariants.{A, B}
use Rattle.image_parts.specs.declared.guard_row.GuardRow.{GuardRow}
use Rattle.image_parts.proofs.Places.{home_survives}
use Rattle.undo_log.specs.OldValues.{NothingBack, FirstBack}
use Rattle.undo_log.specs.StandsFor.{row_in}
use Rattle.recover.specs.declared.studied.Study.{Study}
use Rattle.recover.specs.Ending.{IsEnding}
use Rattle.recover_heap.specs.Logs.{lanes_of}
use Rattle.recover_heap.specs.Putting.{cell_ranges}
use Rattle.recover.specs.Reading.{HasFront, Holds}
use Rattle.recover.specs.Recovery.{IsOnTheWay}
use Rattle.recover.specs.Study.{AreUndone, IsStudyOf, held_by}
use Rattle.recover.proofs.EndedLemmas.{study_ended, ended_of}
use Rattle.recover.proofs.StudyLemmas.{stands_for}
use Rattle.recover.proofs.SurvivalLemmas.{Spared, front_survives, logs_survive, one_shown, takes_of, study_survives, heap_there}

-- a slot lies between the header and the guard rows
slot_before : (t : Slot) (at n : ℕ) → 2160 ≤ at → IsApart at n (slot_range t ∷ [])
slot_before A at n behind = (inr (omega arith), tt)
slot_before B at n behind = (inr (omega arith), tt)

slot_behind : (t : Slot) → IsApart 0 64 (slot_range t ∷ [])
slot_behind A = (inl (omega arith), tt)
slot_behind B = (inl (omega arith), tt)

slot_spared : (l : Layout) (t : Slot) → Spared l (slot_range t ∷ [])
slot_spared l t = record {
  header = slot_behind t;
  guards = slot_before t 2160 (16 * l.fields) (omega arith);
  records = λ lane place. slot_before t (record_at l lane place) 16 (omega arith);
}

-- while the control is the same the study goes on to be one of the image, whatever stands in a slot
study_kept : (s : Study) (t : Slot) (old new : List ℕ) → IsStudyOf old s → SameOutside (slot_range t ∷ []) old new → Shows s.layout new s.slot s.control → IsStudyOf new s
study_kept s t old new has same shows =
    let l : Layout = s.layout in
    let rs : List Range = slot_range t ∷ [] in
    let holds : Holds new (held_by s) = record {
      control = record { front = front_survives l s.guards.items rs (slot_spared l t) old new has.holds.control.front same; shows = shows; marks = has.holds.control.marks };
      logs = logs_survive l s.control.rows s.records.items rs (slot_spared l t) old new has.holds.logs same;
      legal = has.holds.legal;
    } in
    record {
      holds = holds;
      stands = stands_for new (held_by s) s.heap.items holds has.stands.size (λ f below.
          elim (takes_of old (held_by s) s.heap.items has.holds has.stands f below) [
            | NothingBack none home ↦ NothingBack none (home_survives l (row_in s.guards.items f) f (slice_index s.heap.items f) rs (slot_before t (cell_at l f) 8 (omega arith)) old new home same)
            | FirstBack m k had out is first ↦ FirstBack m k had out is first
          ]);
      reports = has.reports;
    }

homes_kept : (l : Layout) (guards : List GuardRow) (heap : List ℕ) (t : Slot) (old new : List ℕ) → HasHomes l guards old heap → SameOutside (slot_range t ∷ []) old new → HasHomes l guards new heap
homes_kept l guards heap t old new has same = record {
  size = has.size;
  each = λ f d below. home_survives l (slice_index_or guards f d) f (slice_index heap f) (slot_range t ∷ []) (slot_before t (cell_at l f) 8 (omega arith)) old new (has.each f d below) same;
}

-- the two slots differ
slots_differ : (t : Slot) → t ≡ other t → ⊥
slots_differ A is = cc
slots_differ B is = cc

module _ (s : Study) (fields : List FieldId) (undone : AreUndone s.layout s.guards.items s.control.rows (lanes_of s.records.items) fields) (old mid : Device)
    (durable : old.now.pending ≡ []) (of : IsStudyOf old.now.bytes s) (puts : LeavesOnly old mid (ImageBut old (cell_ranges s.layout fields))) where
  moved : LeavesOnly old mid (λ image. IsStudyOf image s) × Always mid (λ image. IsStudyOf image s)
  moved = survives old mid (cell_ranges s.layout fields) (λ image. IsStudyOf image s) (always_only old (λ image. IsStudyOf image s) durable of) (study_survives s fields undone) puts

  -- at every moment of putting back
  pub put_on_the_way : LeavesOnly old mid (IsOnTheWay s)
  put_on_the_way = weaker old mid (λ image. IsStudyOf image s) (IsOnTheWay s) (λ image is. inl is) moved.0

  pub put_shows : Always mid (λ image. Shows s.layout image s.slot s.control)
  put_shows image left = (moved.1 image left).holds.control.shows

  put_same : SameOutside (cell_ranges s.layout fields) old.now.bytes mid.now.bytes
  put_same = besides_only old (cell_ranges s.layout fields) mid.now.bytes durable
      (now_too old mid (ImageBut old (cell_ranges s.layout fields)) (besides_none old (cell_ranges s.layout fields)) puts mid.now.bytes (image_now mid))

  module _ (new : Device) (put : All (λ f. HasCell s.layout f.0 mid.now.bytes (slice_index s.heap.items f.0)) fields) (ends : LeavesOnly mid new (IsEnding s.layout mid s.slot s.control)) where
    homes : HasHomes s.layout s.guards.items mid.now.bytes s.heap.items
    homes = heap_there s fields undone old.now.bytes mid.now.bytes of put_same put

    here : IsStudyOf mid.now.bytes s
    here = moved.1 mid.now.bytes (image_now mid)

    -- what a commit changes
    changed : (image : List ℕ) → OldOrNew s.layout (synced mid) s.slot s.control (empty_control (s.control.sequence + 1)) image → SameOutside (slot_range (other s.slot) ∷ []) mid.now.bytes image
    changed image c = besides_only (synced mid) (slot_range (other s.slot) ∷ []) image refl c.from

    front_there : (image : List ℕ) → SameOutside (slot_range (other s.slot) ∷ []) mid.now.bytes image → HasFront image s.layout s.guards.items
    front_there image same = front_survives s.layout s.guards.items (slot_range (other s.slot) ∷ []) (slot_spared s.layout (other s.slot)) mid.now.bytes image here.holds.control.front same

    in_end : (image : List ℕ) → IsEnding s.layout mid s.slot s.control image → IsOnTheWay s image
    in_end image (inl from) = inl (besides_survives mid [] (λ x. IsStudyOf x s) moved.1 (survives_none (λ x. IsStudyOf x s)) image from)
    in_end image (inr c) = elim c.shows [
      | inl shows ↦ inl (study_kept s (other s.slot) mid.now.bytes image here (changed image c) shows)
      | inr shows ↦
          let limits : IsLayout s.layout = of.holds.control.front.layout.header.limits in
          let e = ended_of s (omega (arith, limits.lanes)) in
          let front : HasFront image s.layout s.guards.items = front_there image (changed image c) in
          let there : HasHomes s.layout s.guards.items image s.heap.items = homes_kept s.layout s.guards.items s.heap.items (other s.slot) mid.now.bytes image homes (changed image c) in
          inr (e.0, e.1, study_ended image s e.0 e.1 front shows there e.2)
    ]

    -- at every moment until the end
    pub end_on_the_way : LeavesOnly old new (IsOnTheWay s)
    end_on_the_way = and_then old mid new (IsOnTheWay s) put_on_the_way (weaker mid new (IsEnding s.layout mid s.slot s.control) (IsOnTheWay s) in_end ends)

    -- and once the new control counts
    pub end_recovers : new.now.pending ≡ [] → Shows s.layout new.now.bytes (other s.slot) (empty_control (s.control.sequence + 1)) →
        IsRecovered new s.layout s.guards.items (other s.slot) (s.control.sequence + 1) s.heap.items
    end_recovers rest shows =
        elim (now_too mid new (IsEnding s.layout mid s.slot s.control) (λ image left. inl (besides_none mid [] image left)) ends new.now.bytes (image_now new)) [
          | inl from ↦
              let was : IsStudyOf new.now.bytes s = besides_survives mid [] (λ x. IsStudyOf x s) moved.1 (survives_none (λ x. IsStudyOf x s)) new.now.bytes from in
              let both = one_shown s.layout new.now.bytes s.slot (other s.slot) s.control (empty_control (s.control.sequence + 1)) was.holds.control.shows shows in
              absurd (slots_differ s.slot (ap (λ (x : Slot × Control). x.0) both))
          | inr c ↦
              let same : SameOutside (slot_range (other s.slot) ∷ []) mid.now.bytes new.now.bytes = changed new.now.bytes c in
              let front : HasFront new.now.bytes s.layout s.guards.items = front_there new.now.bytes same in
              record {
                image = record { room = front.layout.room; header = front.layout.header; guards = front.guards_are };
                control = shows;
                homes = homes_kept s.layout s.guards.items s.heap.items (other s.slot) mid.now.bytes new.now.bytes homes same;
                durable = rest;
              }
        ]
