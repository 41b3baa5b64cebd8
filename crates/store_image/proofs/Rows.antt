-- Rows that tell of a cut are those that a control may have.
use Rattle.std.proofs.Common.{◌≡◌, ◌≢◌, ℕ, ◌+◌, ◌-◌, ◌^◌, ◌<◌, ◌≤◌, List, length, set, sym, ◌∙◌, ap, subst, inl, inr, arith, length-take, length-drop}
use Rattle.std.proofs.lemmas.Bool.{cases_lt}
use Rattle.std.proofs.lemmas.List.{get_or-take, get_or-drop, get_or_default, get_or-set_same, get_or-set_other, get_or_past}
use Rattle.heap_model.specs.declared.record.Record.{Record}
use Rattle.heap_model.specs.Sections.{actions}
use Rattle.heap_model.specs.Cuts.{IsWhole}
use Rattle.image_parts.specs.Control.{AreRows}
use Rattle.image_parts.specs.Rows.{IsRow, empty_row}
use Rattle.image_parts.specs.declared.lane_row.LaneRow.{LaneRow}
use Rattle.image_parts.specs.declared.layout.Layout.{Layout}
use Rattle.undo_log.specs.Dropped.{undo_logs}
use Rattle.undo_log.specs.StandsFor.{row_of}
use Rattle.store_image.specs.Consistent.{TellsCut}
use Rattle.store_image.proofs.Places.{records_within, ended_undo, cut_place, sections_within}

-- one row replaced
pub row_here : (rows : List LaneRow) (i : ℕ) (r : LaneRow) → i < length rows → row_of (set rows i r) i ≡ r
row_here rows i r lt = get_or-set_same rows i r empty_row lt

pub row_elsewhere : (rows : List LaneRow) (i j : ℕ) (r : LaneRow) → j ≢ i → row_of (set rows i r) j ≡ row_of rows j
row_elsewhere rows i j r ne = get_or-set_other rows i j r empty_row ne

-- rows by lane
pub are_rows : (l : Layout) (rows : List LaneRow) → length rows ≡ 32 → ((k : ℕ) → k < l.lanes → IsRow l.capacity (row_of rows k)) → ((k : ℕ) → l.lanes ≤ k → row_of rows k ≡ empty_row) → AreRows l rows
are_rows l rows size each rest = record {
  size = size;
  lanes = λ i d lt.
      let below : i < l.lanes = omega (arith, lt, length-take l.lanes rows) in
      let within : i < length rows = omega (arith, lt, length-take l.lanes rows) in
      subst (IsRow l.capacity) (get_or_default rows i empty_row d within ∙ sym (get_or-take l.lanes rows i d below)) (each i below);
  rest = λ i d lt.
      let within : l.lanes + i < length rows = omega (arith, lt, length-drop l.lanes rows) in
      get_or-drop l.lanes rows i d ∙ get_or_default rows (l.lanes + i) d empty_row within ∙ rest (l.lanes + i) (omega arith);
}

pub row_is : (l : Layout) (rows : List LaneRow) → AreRows l rows → l.lanes ≤ 32 → (k : ℕ) → k < l.lanes → IsRow l.capacity (row_of rows k)
row_is l rows are few k below =
    subst (IsRow l.capacity) (get_or-take l.lanes rows k empty_row below) (are.lanes k empty_row (omega (arith, length-take l.lanes rows, are.size)))

pub rest_is : (l : Layout) (rows : List LaneRow) → AreRows l rows → (k : ℕ) → l.lanes ≤ k → row_of rows k ≡ empty_row
rest_is l rows are k from = elim (cases_lt k (length rows)) [
  | inl lt ↦
      let i : ℕ = k - l.lanes in
      let is : l.lanes + i ≡ k = omega arith in
      ap (λ (j : ℕ). row_of rows j) (sym is) ∙ sym (get_or-drop l.lanes rows i empty_row) ∙ are.rest i empty_row (omega (arith, length-drop l.lanes rows))
  | inr past ↦ get_or_past rows k empty_row past
]

-- rows that tell of a cut of a log whose live records fit
pub told_rows : (l : Layout) (log : List (ℕ × Record)) (base cut : ℕ → ℕ) (rows : List LaneRow) → length rows ≡ 32 → ((k : ℕ) → base k ≤ cut k) → IsWhole (actions log) cut → TellsCut l log base cut rows
    → ((k : ℕ) → k < l.lanes → length (undo_logs log k) ≤ 2 ^ 63) → ((k : ℕ) → k < l.lanes → (row_of rows k).logged - (row_of rows k).start ≤ l.capacity)
    → ((k : ℕ) → l.lanes ≤ k → row_of rows k ≡ empty_row) → AreRows l rows
told_rows l log base cut rows size within whole tells limit fits rest = are_rows l rows size (λ k below. record {
  settled = omega (arith, tells.start k below, tells.settled k below, cut_place base k cut log (within k));
  logged = omega (arith, tells.settled k below, tells.logged k below, records_within (cut k) (undo_logs log k));
  limit = omega (arith, tells.logged k below, limit k below);
  kept = omega (arith, tells.kept k below, tells.settled k below, sections_within (cut k) (undo_logs log k) (omega (arith, whole k, ended_undo log k)));
  fits = fits k below;
}) rest
