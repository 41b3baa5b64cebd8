-- An image stands for one heap.
use Rattle.std.proofs.Common.{◌≡◌, ℕ, ◌+◌, ◌<◌, ◌^◌, List, [], ◌∷◌, length, get_or, reverse, refl, sym, ◌∙◌, ap, subst, inl, inr, arith, Result, Ok, Err}
use Rattle.std.specs.Prelude.{slice_index}
use Rattle.std.specs.Int.{w32, w64, from_be_bytes}
use Rattle.std.proofs.lemmas.Bool.{cases_lt}
use Rattle.std.proofs.lemmas.List.{ext_get_or, reverse-reverse}
use Rattle.std.proofs.lemmas.Nat.{from_be_bytes-to_be_bytes_4, from_be_bytes-to_be_bytes_8}
use Rattle.heap_model.specs.declared.record.UndoRecord.{UndoRecord}
use Rattle.heap_model.specs.declared.record.UndoRecord.TheVariants.{Acq, Rel, WaitRel, Put}
use Rattle.block_disk.specs.Bytes.{part}
use Rattle.image_parts.specs.Slots.{Shows}
use Rattle.image_parts.specs.Cells.{HasHome}
use Rattle.image_parts.specs.declared.layout.Layout.{Layout}
use Rattle.image_parts.specs.declared.slot.Slot.{Slot}
use Rattle.image_parts.specs.declared.lane_row.LaneRow.{LaneRow}
use Rattle.image_parts.specs.declared.control.Control.{Control}
use Rattle.image_parts.specs.declared.guard_row.GuardRow.{GuardRow}
use Rattle.image_parts.specs.declared.error.ControlError.{ControlError}
use Rattle.image_parts.specs.declared.error.ControlError.TheVariants.{Fault}
use Rattle.image_parts.proofs.Reading.{control_is_chosen, guards_are_read, home_is_read}
use Rattle.undo_log.specs.RecordBytes.{record_bytes, id_of, word_of, kind_of, IsInRange, Spells as SpellsRecord}
use Rattle.undo_log.specs.OldValues.{TakesBack, IsUnsettled}
use Rattle.undo_log.specs.Area.{HasRecords, HasSpan}
use Rattle.undo_log.specs.StandsFor.{row_of, settled_of, row_in, guard_in, HasLive, StandsFor}
use Rattle.undo_log.proofs.Once.{takes_once}

same_answer : (x y : Slot × Control) → (let a : Result (Slot × Control) ControlError = Ok x in a ≡ Ok y) → x ≡ y
same_answer x y is = cc

no_fault : (x : Slot × Control) → (let a : Result (Slot × Control) ControlError = Ok x in a ≡ Err Fault) → ⊥
no_fault x is = cc

-- an image shows one control
one_shown : (l : Layout) (image : List ℕ) (s t : Slot) (c d : Control) → Shows l image s c → Shows l image t d → c ≡ d
one_shown l image s t c d p q = elim (control_is_chosen l image s c (Ok (t, d)) p q) as (λ _. c ≡ d) [
  | inl is ↦ sym (ap (λ (x : Slot × Control). x.1) (same_answer (t, d) (s, c) is))
  | inr bad ↦ absurd (no_fault (t, d) bad)
]

-- bytes spell one record
one_id : (a b : UndoRecord) → id_of a < 2 ^ 32 → id_of b < 2 ^ 32 → record_bytes a ≡ record_bytes b → id_of a ≡ id_of b
one_id a b p q is = sym (from_be_bytes-to_be_bytes_4 (id_of a) p) ∙ ap (λ (bs : List ℕ). from_be_bytes w32 (part 4 4 bs)) is ∙ from_be_bytes-to_be_bytes_4 (id_of b) q

one_word : (a b : UndoRecord) → word_of a < 2 ^ 64 → word_of b < 2 ^ 64 → record_bytes a ≡ record_bytes b → word_of a ≡ word_of b
one_word a b p q is = sym (from_be_bytes-to_be_bytes_8 (word_of a) p) ∙ ap (λ (bs : List ℕ). from_be_bytes w64 (part 8 8 bs)) is ∙ from_be_bytes-to_be_bytes_8 (word_of b) q

id_fits : (a : UndoRecord) → IsInRange a → id_of a < 2 ^ 32
id_fits (Acq o n) h = omega (arith, h.0)
id_fits (Rel o n) h = omega (arith, h.0)
id_fits (WaitRel o n) h = omega (arith, h.0)
id_fits (Put f v) h = omega (arith, h.0)

word_fits : (a : UndoRecord) → IsInRange a → word_of a < 2 ^ 64
word_fits (Acq o n) h = omega (arith, h.1)
word_fits (Rel o n) h = omega (arith, h.1)
word_fits (WaitRel o n) h = omega (arith, h.1)
word_fits (Put f v) h = omega (arith, h.1)

same_parts : (a b : UndoRecord) → kind_of a ≡ kind_of b → id_of a ≡ id_of b → word_of a ≡ word_of b → a ≡ b
same_parts (Acq o n) (Acq p m) k i w = λ j. Acq (record { 0 = i j }) (w j)
same_parts (Rel o n) (Rel p m) k i w = λ j. Rel (record { 0 = i j }) (w j)
same_parts (WaitRel o n) (WaitRel p m) k i w = λ j. WaitRel (record { 0 = i j }) (w j)
same_parts (Put f v) (Put g u) k i w = λ j. Put (record { 0 = i j }) (w j)
same_parts (Acq o n) (Rel p m) k i w = absurd (omega (arith, k))
same_parts (Acq o n) (WaitRel p m) k i w = absurd (omega (arith, k))
same_parts (Acq o n) (Put g u) k i w = absurd (omega (arith, k))
same_parts (Rel o n) (Acq p m) k i w = absurd (omega (arith, k))
same_parts (Rel o n) (WaitRel p m) k i w = absurd (omega (arith, k))
same_parts (Rel o n) (Put g u) k i w = absurd (omega (arith, k))
same_parts (WaitRel o n) (Acq p m) k i w = absurd (omega (arith, k))
same_parts (WaitRel o n) (Rel p m) k i w = absurd (omega (arith, k))
same_parts (WaitRel o n) (Put g u) k i w = absurd (omega (arith, k))
same_parts (Put f v) (Acq p m) k i w = absurd (omega (arith, k))
same_parts (Put f v) (Rel p m) k i w = absurd (omega (arith, k))
same_parts (Put f v) (WaitRel p m) k i w = absurd (omega (arith, k))

pub one_record : (bytes : List ℕ) (a b : UndoRecord) → SpellsRecord bytes a → SpellsRecord bytes b → a ≡ b
one_record bytes a b p q =
    let is : record_bytes a ≡ record_bytes b = sym p.spelled ∙ q.spelled in
    same_parts a b (ap (λ (bs : List ℕ). get_or bs 0 0) is)
    (one_id a b (id_fits a p.range) (id_fits b q.range) is) (one_word a b (word_fits a p.range) (word_fits b q.range) is)

-- a lane has one list of records
pub one_list : (l : Layout) (lane place : ℕ) (image : List ℕ) (xs ys : List UndoRecord) → length xs ≡ length ys → HasRecords l lane place image xs → HasRecords l lane place image ys → xs ≡ ys
one_list l lane place image [] [] n p q = refl
one_list l lane place image [] (y ∷ ys) n p q = absurd (omega arith)
one_list l lane place image (x ∷ xs) [] n p q = absurd (omega arith)
one_list l lane place image (x ∷ xs) (y ∷ ys) n p q =
    let first : x ≡ y = one_record _ x y p.0.spelled q.0.spelled in
    let rest : xs ≡ ys = one_list l lane (place + 1) image xs ys (omega arith) p.1 q.1 in
    λ i. first i ∷ rest i

pub one_span : (l : Layout) (lane from to : ℕ) (image : List ℕ) (xs ys : List UndoRecord) → HasSpan l lane from to image xs → HasSpan l lane from to image ys → xs ≡ ys
one_span l lane from to image xs ys p q = one_list l lane from image xs ys (omega (arith, p.size, q.size)) p.each q.each

one_lane : (l : Layout) (image : List ℕ) (rows : List LaneRow) (xs ys : ℕ → List UndoRecord) → HasLive l image rows xs → HasLive l image rows ys → (lane : ℕ) → xs lane ≡ ys lane
one_lane l image rows xs ys p q lane = elim (cases_lt lane l.lanes) [
  | inl lt ↦
      let back : reverse (xs lane) ≡ reverse (ys lane) =
      one_span l lane (row_of rows lane).start (row_of rows lane).logged image (reverse (xs lane)) (reverse (ys lane)) (p.live lane lt) (q.live lane lt) in
      sym (reverse-reverse (xs lane)) ∙ ap (λ (rs : List UndoRecord). reverse rs) back ∙ reverse-reverse (ys lane)
  | inr le ↦ p.others lane le ∙ sym (q.others lane le)
]

pub one_heap : (l : Layout) (image a b : List ℕ) → StandsFor l image a → StandsFor l image b → a ≡ b
one_heap l image a b p q =
    let rows : p.control.rows ≡ q.control.rows = ap (λ (c : Control). c.rows) (one_shown l image p.slot q.slot p.control q.control p.shows q.shows) in
    let guards : p.guards ≡ q.guards = guards_are_read l image p.guards q.guards p.guarded q.guarded in
    let live : HasLive l image q.control.rows p.lanes = subst (λ (rs : List LaneRow). HasLive l image rs p.lanes) rows p.live in
    let each : (lane : ℕ) → p.lanes lane ≡ q.lanes lane = one_lane l image q.control.rows p.lanes q.lanes live q.live in
    let lanes : p.lanes ≡ q.lanes = λ i lane. each lane i in
    ext_get_or 0 a b (p.size ∙ sym q.size) (λ f lt.
    let below : f < l.fields = omega (arith, p.size) in
    let first : TakesBack (guard_in q.guards f) f p.lanes (IsUnsettled (settled_of p.control.rows)) (HasHome l (row_in q.guards f) f image) (slice_index a f) =
    subst (λ (gs : List GuardRow). TakesBack (guard_in gs f) f p.lanes (IsUnsettled (settled_of p.control.rows)) (HasHome l (row_in gs f) f image) (slice_index a f)) guards (p.takes f below) in
    let second : TakesBack (guard_in q.guards f) f q.lanes (IsUnsettled (settled_of p.control.rows)) (HasHome l (row_in q.guards f) f image) (slice_index a f) =
    subst (λ (ls : ℕ → List UndoRecord). TakesBack (guard_in q.guards f) f ls (IsUnsettled (settled_of p.control.rows)) (HasHome l (row_in q.guards f) f image) (slice_index a f)) lanes first in
    let third : TakesBack (guard_in q.guards f) f q.lanes (IsUnsettled (settled_of q.control.rows)) (HasHome l (row_in q.guards f) f image) (slice_index a f) =
    subst (λ (rs : List LaneRow). TakesBack (guard_in q.guards f) f q.lanes (IsUnsettled (settled_of rs)) (HasHome l (row_in q.guards f) f image) (slice_index a f)) rows second in
    takes_once (guard_in q.guards f) f q.lanes (IsUnsettled (settled_of q.control.rows)) (HasHome l (row_in q.guards f) f image) (slice_index a f) (slice_index b f)
    (λ v w. home_is_read l (row_in q.guards f) f image (slice_index a f) (slice_index b f) v w) third (q.takes f below))
