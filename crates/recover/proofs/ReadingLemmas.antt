-- What each refusal on the way says of the image.
use Rattle.std.proofs.Common.{ℕ, zero, suc, ◌≡◌, ◌+◌, ◌<◌, List, [], ◌∷◌, sym, ◌∙◌, subst, inl, inr, arith, Vec, Global}
use Rattle.std.specs.Prelude.{All, true}
use Rattle.std.proofs.lemmas.Bool.{cases_lt}
use Rattle.std.proofs.lemmas.List.{reverse-reverse}
use Rattle.heap_model.specs.declared.record.UndoRecord.{UndoRecord}
use Rattle.block_disk.specs.Device.{Device, Moment, SameMoments}
use Rattle.image_parts.specs.Guards.{HasGuards}
use Rattle.image_parts.specs.Slots.{Shows}
use Rattle.image_parts.specs.declared.layout.Layout.{Layout}
use Rattle.image_parts.specs.declared.slot.Slot.{Slot}
use Rattle.image_parts.specs.declared.control.Control.{Control}
use Rattle.image_parts.specs.declared.lane_row.LaneRow.{LaneRow}
use Rattle.image_parts.specs.declared.guard_row.GuardRow.{GuardRow}
use Rattle.undo_log.specs.Area.{IsLoggable, HasRecords, HasSpan}
use Rattle.undo_log.specs.StandsFor.{is_transient_in, row_of}
use Rattle.recover_heap.specs.declared.error.RecoverError.{RecoverError}
use Rattle.recover_heap.specs.declared.error.RecoverError.TheVariants.{Fault, NotFormatted, BadHeader, TooSmall, NoControl, BadControl, OldVersion, Worn, BadRecord, IllegalLog, NoMemory}
use Rattle.recover_heap.specs.Logs.{records_of, lanes_of, AreLogs, AreLoggable, RefusesLogs, logged_guard_in}
use Rattle.recover.specs.Settled.{RefusesLegal}
use Rattle.recover.specs.Reading.{HasLayout, HasControl, RefusesFront, RefusesLive, RefusesImage}
use Rattle.recover_logs.proofs.LaneLemmas.{records_past}

pub refused_logs : (image : List ℕ) (l : Layout) (guards : List GuardRow) (c : Control) (e : RecoverError) → RefusesLogs l image c.rows e → RefusesLive image l guards c e
refused_logs image l guards c Fault h = tt
refused_logs image l guards c NotFormatted h = h
refused_logs image l guards c BadHeader h = h
refused_logs image l guards c TooSmall h = h
refused_logs image l guards c NoControl h = h
refused_logs image l guards c BadControl h = h
refused_logs image l guards c OldVersion h = h
refused_logs image l guards c Worn h = h
refused_logs image l guards c (BadRecord lane place) h = h
refused_logs image l guards c (IllegalLog lane place) h = absurd h
refused_logs image l guards c NoMemory h = tt

pub refused_legal : (image : List ℕ) (l : Layout) (guards : List GuardRow) (c : Control) (logs : List (Vec UndoRecord Global)) (e : RecoverError) → AreLogs l image c.rows logs →
    RefusesLegal (logged_guard_in guards) c.rows (lanes_of logs) e → RefusesLive image l guards c e
refused_legal image l guards c logs Fault are h = tt
refused_legal image l guards c logs NotFormatted are h = h
refused_legal image l guards c logs BadHeader are h = h
refused_legal image l guards c logs TooSmall are h = h
refused_legal image l guards c logs NoControl are h = h
refused_legal image l guards c logs BadControl are h = h
refused_legal image l guards c logs OldVersion are h = h
refused_legal image l guards c logs Worn are h = h
refused_legal image l guards c logs (BadRecord lane place) are h = absurd h
refused_legal image l guards c logs (IllegalLog lane place) are h = (logs, are, h)
refused_legal image l guards c logs NoMemory are h = tt

-- what refuses the live records refuses the image
pub refused_live : (image : List ℕ) (l : Layout) (guards : List GuardRow) (s : Slot) (c : Control) (e : RecoverError) → HasControl image l guards s c → RefusesLive image l guards c e → RefusesImage image e
refused_live image l guards s c Fault has h = tt
refused_live image l guards s c NotFormatted has h = absurd h
refused_live image l guards s c BadHeader has h = absurd h
refused_live image l guards s c TooSmall has h = absurd h
refused_live image l guards s c NoControl has h = absurd h
refused_live image l guards s c BadControl has h = absurd h
refused_live image l guards s c OldVersion has h = absurd h
refused_live image l guards s c Worn has h = h
refused_live image l guards s c (BadRecord lane place) has h = (l, guards, s, c, has, h)
refused_live image l guards s c (IllegalLog lane place) has h = (l, guards, s, c, has, h)
refused_live image l guards s c NoMemory has h = tt

-- the records that an image has are such that it may have
has_loggable : (l : Layout) (lane from : ℕ) (image : List ℕ) (records : List UndoRecord) → HasRecords l lane from image records → All (IsLoggable l) records
has_loggable l lane from image [] h k d lt = absurd (omega arith)
has_loggable l lane from image (r ∷ newer) h zero d lt = record { range = h.0.spelled.range; named = h.0.named }
has_loggable l lane from image (r ∷ newer) h (suc k) d lt = has_loggable l lane (from + 1) image newer h.1 k d (omega arith)

-- the live records of an image are such
pub logs_loggable : (l : Layout) (image : List ℕ) (rows : List LaneRow) (logs : List (Vec UndoRecord Global)) → AreLogs l image rows logs → AreLoggable l rows logs
logs_loggable l image rows logs are = record {
  count = are.count;
  size = λ lane lt. (span lane lt).size;
  each = λ lane. elim (cases_lt lane l.lanes) [
    | inl lt ↦ has_loggable l lane (row_of rows lane).start image (records_of logs lane) (span lane lt).each
    | inr le ↦ subst (All (IsLoggable l)) (sym (records_past logs lane (omega (arith, are.count)))) (λ k d lt. absurd (omega arith))
  ];
}
  where
    span : (lane : ℕ) → lane < l.lanes → HasSpan l lane (row_of rows lane).start (row_of rows lane).logged image (records_of logs lane)
    span lane lt = subst (λ (xs : List UndoRecord). HasSpan l lane (row_of rows lane).start (row_of rows lane).logged image xs) (reverse-reverse (records_of logs lane)) (are.live.live lane lt)

-- a marked row beside a control of version 1 refuses the image
pub stray_mark : (d0 d1 d2 : Device) (l : Layout) (guards seen : List GuardRow) (s : Slot) (c : Control) (e : RecoverError) → SameMoments d0 d1 → SameMoments d1 d2 → HasLayout d0.now.bytes l → HasGuards l d1.now.bytes guards →
    Shows l d2.now.bytes s c → seen ≡ guards → (c.version ≡ 1) × ((f : ℕ) × (is_transient_in seen f ≡ true)) → e ≡ BadControl → RefusesFront d0.now.bytes e
stray_mark d0 d1 d2 l guards seen s c e a b layout has shows same old why =
    let there : HasGuards l d0.now.bytes guards = subst (λ (m : Moment). HasGuards l m.bytes guards) a.now has in
    let shown : Shows l d0.now.bytes s c = subst (λ (m : Moment). Shows l m.bytes s c) (b.now ∙ a.now) shows in
    let marked : is_transient_in guards old.1.0 ≡ true = subst (λ (gs : List GuardRow). is_transient_in gs old.1.0 ≡ true) same old.1.1 in
    subst (RefusesFront d0.now.bytes) (sym why)
    (l, guards, record { layout = layout; guards_are = there }, inr (record { slot = s; control = c; shows = shown; version = old.0; field = old.1.0; marked = marked }))
