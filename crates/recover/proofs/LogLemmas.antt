-- An image's live records, read one lane after the other.
use Rattle.std.proofs.Common.{ℕ, ◌≡◌, ◌<◌, ◌≤◌, List, length, get_or, reverse, sym, ap, subst, arith, Vec, Global, length-take}
use Rattle.std.proofs.lemmas.List.{reverse-reverse, get_or-take}
use Rattle.heap_model.specs.declared.ids.Lane.{Lane}
use Rattle.heap_model.specs.declared.record.UndoRecord.{UndoRecord}
use Rattle.image_parts.specs.Rows.{IsRow}
use Rattle.image_parts.specs.Control.{AreRows}
use Rattle.image_parts.specs.declared.layout.Layout.{Layout}
use Rattle.image_parts.specs.declared.lane_row.LaneRow.{LaneRow}
use Rattle.undo_log.specs.Area.{HasSpan}
use Rattle.undo_log.specs.Runs.{IsFull}
use Rattle.undo_log.specs.StandsFor.{row_of}
use Rattle.recover_heap.specs.declared.error.RecoverError.{RecoverError}
use Rattle.recover_heap.specs.declared.error.RecoverError.TheVariants.{Fault, NotFormatted, BadHeader, TooSmall, NoControl, BadControl, OldVersion, Worn, BadRecord, IllegalLog, NoMemory}
use Rattle.recover_logs.proofs.LaneLemmas.{records_past}
use Rattle.recover_heap.specs.Logs.{records_of, AreLogs, IsReadTo, IsBadAt, RefusesLane, RefusesLogs}

-- the row of a lane of the image
pub row_is : (l : Layout) (rows : List LaneRow) (lane : ℕ) (d : LaneRow) → AreRows l rows → l.lanes ≤ 32 → lane < l.lanes → IsRow l.capacity (get_or rows lane d)
row_is l rows lane d are few lt =
    subst (IsRow l.capacity) (get_or-take l.lanes rows lane d lt) (are.lanes lane d (omega (arith, length-take l.lanes rows, are.size)))

-- the lanes that were read are the lanes' logs
pub logs_are : (l : Layout) (image : List ℕ) (rows : List LaneRow) (logs : List (Vec UndoRecord Global)) → length logs ≡ l.lanes →
    ((m : ℕ) → m < l.lanes → HasSpan l m (row_of rows m).start (row_of rows m).logged image (records_of logs m)) → AreLogs l image rows logs
logs_are l image rows logs count read = record {
  count = count;
  live = record {
    live = λ m lt. subst (λ (xs : List UndoRecord). HasSpan l m (row_of rows m).start (row_of rows m).logged image xs) (sym (reverse-reverse (records_of logs m))) (read m lt);
    others = λ m le. ap (λ (xs : List UndoRecord). reverse xs) (records_past logs m (omega arith));
  };
}

-- what a lane's refusal says of all lanes, where those before it were read
pub refused_lane : (l : Layout) (image : List ℕ) (rows : List LaneRow) (lane : Lane) (row : LaneRow) (e : RecoverError) → row ≡ row_of rows lane.0 → lane.0 < l.lanes →
    ((m : ℕ) → m < lane.0 → IsReadTo l image rows m (row_of rows m).logged) → RefusesLane l image lane row e → RefusesLogs l image rows e
refused_lane l image rows lane row Fault is lt before h = tt
refused_lane l image rows lane row NotFormatted is lt before h = absurd h
refused_lane l image rows lane row BadHeader is lt before h = absurd h
refused_lane l image rows lane row TooSmall is lt before h = absurd h
refused_lane l image rows lane row NoControl is lt before h = absurd h
refused_lane l image rows lane row BadControl is lt before h = absurd h
refused_lane l image rows lane row OldVersion is lt before h = absurd h
refused_lane l image rows lane row Worn is lt before h = absurd h
refused_lane l image rows lane row (BadRecord other place) is lt before h =
    let at : (lane.0 < l.lanes) × IsBadAt l image rows lane.0 place × ((m : ℕ) → m < lane.0 → IsReadTo l image rows m (row_of rows m).logged) =
    (lt, record { live = subst (λ (r : LaneRow). place < r.logged) is h.1; bad = h.2; before = subst (λ (r : LaneRow). IsFull l lane.0 r.start place image) is h.3 }, before) in
    subst (λ (o : Lane). (o.0 < l.lanes) × IsBadAt l image rows o.0 place × ((m : ℕ) → m < o.0 → IsReadTo l image rows m (row_of rows m).logged)) (sym h.0) at
refused_lane l image rows lane row (IllegalLog other place) is lt before h = absurd h
refused_lane l image rows lane row NoMemory is lt before h = tt
