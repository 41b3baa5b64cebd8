-- The lanes' live sections, counted.
use Rattle.std.proofs.Common.{ℕ, zero, suc, ◌≡◌, ◌+◌, ◌-◌, ◌≤◌, ◌==◌, if◌then◌else◌, ◌++◌, true, false, List, [], ◌∷◌, length, map, get_or, take, drop, reverse, refl, sym, ap, ◌∙◌, inl, inr, arith, Vec, Global, length-drop}
use Rattle.std.proofs.lemmas.Bool.{cases_lt}
use Rattle.std.proofs.lemmas.List.{map-append, take-append-drop, reverse-append, reverse-reverse, get_or-drop, get_or_past, length-map, length-reverse}
use Rattle.heap_model.specs.Sections.{Action, Takes, Frees, Stores, undo_action, without, holding, ended}
use Rattle.heap_model.specs.declared.record.UndoRecord.{UndoRecord}
use Rattle.law_cuts.proofs.Stores.{ended_rises}
use Rattle.dependence.proofs.Counted.{without_length}
use Rattle.image_parts.specs.Control.{AreRows}
use Rattle.image_parts.specs.Rows.{empty_row}
use Rattle.image_parts.specs.declared.layout.Layout.{Layout}
use Rattle.image_parts.specs.declared.lane_row.LaneRow.{LaneRow}
use Rattle.undo_log.specs.StandsFor.{row_of, settled_of}
use Rattle.recover.specs.declared.live_sections.LiveSections.{LiveSections}
use Rattle.recover_heap.specs.Logs.{records_of, lanes_of}
use Rattle.recover.specs.Settled.{settled_records}
use Rattle.recover_logs.specs.Tally.{FreesHeld, acts_of}
use Rattle.recover.specs.Dropping.{whole_sections, settled_sections, live_sections}
use Rattle.recover.specs.Live.{nothing_live, IsLiveOf, IsLiveIn}
use Rattle.recover_logs.proofs.LaneLemmas.{records_past}

-- a section that has ended has a record, and so has a monitor that is held
pub counted_short : (acts : List Action) → FreesHeld acts → ended acts + length (holding acts) ≤ length acts
counted_short [] h = omega arith
counted_short (Takes o n ∷ acts) h = omega (arith, counted_short acts h)
counted_short (Frees o n ∷ acts) h =
    let less : length (without o (holding acts)) + 1 ≡ length (holding acts) = without_length o (holding acts) h.1 in
    let rest : ended acts + length (holding acts) ≤ length acts = counted_short acts h.0 in
    elim (length (without o (holding acts)) == 0) as (λ b. (if b then ended acts + 1 else ended acts) + length (without o (holding acts)) ≤ length (Frees o n ∷ acts)) [ true ↦ omega arith | false ↦ omega arith ]
counted_short (Stores ∷ acts) h = omega (arith, counted_short acts h)

-- there are as many actions as records
pub acts_long : (records : List UndoRecord) → length (acts_of records) ≡ length records
acts_long records = length-map {A = UndoRecord} {B = Action} (reverse records) undo_action ∙ length-reverse records

-- the settled records are the first of those that were read
pub settled_acts : (rows : List LaneRow) (logs : List (Vec UndoRecord Global)) (l : ℕ) → acts_of (take (settled_of rows l) (records_of logs l)) ≡ map undo_action (settled_records rows (lanes_of logs) l)
settled_acts rows logs l = ap (λ (xs : List UndoRecord). acts_of (take (settled_of rows l) xs)) (sym (reverse-reverse (records_of logs l)))

ended_behind : (newer older : List Action) → ended older ≤ ended (newer ++ older)
ended_behind [] older = omega arith
ended_behind (x ∷ newer) older = omega (arith, ended_behind newer older, ended_rises x (newer ++ older))

-- no more sections are settled than are whole
pub settled_few : (rows : List LaneRow) (logs : List (Vec UndoRecord Global)) (l : ℕ) → settled_sections rows (lanes_of logs) l ≤ whole_sections (lanes_of logs) l
settled_few rows logs l =
    let records : List UndoRecord = records_of logs l in
    let n : ℕ = settled_of rows l in
    let parts : acts_of records ≡ acts_of (drop n records) ++ acts_of (take n records) =
    ap acts_of (sym (take-append-drop n records)) ∙ ap (map undo_action) (reverse-append (take n records) (drop n records)) ∙ map-append undo_action (reverse (drop n records)) (reverse (take n records)) in
    omega (arith, ended_behind (acts_of (drop n records)) (acts_of (take n records)), ap ended parts, ap ended (settled_acts rows logs l))

-- the live sections are the whole ones, and perhaps one more
pub whole_few : (lanes : ℕ → List UndoRecord) (l : ℕ) → whole_sections lanes l ≤ live_sections lanes l
whole_few lanes l = elim (length (holding (map undo_action (lanes l))) == 0) as (λ b. whole_sections lanes l ≤ (if b then whole_sections lanes l else whole_sections lanes l + 1)) [ true ↦ omega arith | false ↦ omega arith ]

pub live_few : (lanes : ℕ → List UndoRecord) (l : ℕ) → live_sections lanes l ≤ whole_sections lanes l + 1
live_few lanes l = elim (length (holding (map undo_action (lanes l))) == 0) as (λ b. (if b then whole_sections lanes l else whole_sections lanes l + 1) ≤ whole_sections lanes l + 1) [ true ↦ omega arith | false ↦ omega arith ]

-- a lane's counts, by its records
pub live_in : (rows : List LaneRow) (logs : List (Vec UndoRecord Global)) (l : ℕ) (s : LiveSections) → IsLiveOf (records_of logs l) (settled_of rows l) (row_of rows l).kept s → IsLiveIn rows (lanes_of logs) l s
live_in rows logs l s h = record {
  trimmed_is = h.trimmed_is ∙ ap (λ (acts : List Action). (row_of rows l).kept - ended acts) (settled_acts rows logs l);
  settled_is = h.settled_is ∙ ap ended (settled_acts rows logs l);
  whole_is = h.whole_is;
  live_is = h.live_is;
}

take_none : {A : Type 0} (n : ℕ) → take n (let xs : List A = [] in xs) ≡ []
take_none zero = refl
take_none (suc n) = refl

-- a lane that the image doesn't have counts nothing
pub live_past : (rows : List LaneRow) (logs : List (Vec UndoRecord Global)) (l : ℕ) → length logs ≤ l → row_of rows l ≡ empty_row → IsLiveIn rows (lanes_of logs) l nothing_live
live_past rows logs l le row =
    let none : records_of logs l ≡ [] = records_past logs l le in
    let first : acts_of (take (settled_of rows l) (records_of logs l)) ≡ [] = ap (λ (xs : List UndoRecord). acts_of (take (settled_of rows l) xs)) none ∙ ap acts_of (take_none {A = UndoRecord} (settled_of rows l)) in
    let all : acts_of (records_of logs l) ≡ [] = ap acts_of none in
    live_in rows logs l nothing_live (record {
      trimmed_is = let kept : (row_of rows l).kept ≡ 0 = ap (λ (r : LaneRow). r.kept) row in omega (arith, kept);
      settled_is = sym (ap ended first);
      whole_is = sym (ap ended all);
      live_is = sym (ap (λ (acts : List Action). if length (holding acts) == 0 then ended acts else ended acts + 1) all);
    })

-- the row of a lane that the image doesn't have
pub row_past : (l : Layout) (rows : List LaneRow) (lane : ℕ) → AreRows l rows → l.lanes ≤ 32 → l.lanes ≤ lane → row_of rows lane ≡ empty_row
row_past l rows lane are few le = elim (cases_lt lane (length rows)) [
  | inl lt ↦
      let at : l.lanes + (lane - l.lanes) ≡ lane = omega arith in
      sym (get_or-drop l.lanes rows (lane - l.lanes) empty_row ∙ ap (λ (k : ℕ). get_or rows k empty_row) at)
      ∙ are.rest (lane - l.lanes) empty_row (omega (arith, length-drop l.lanes rows))
  | inr past ↦ get_or_past rows lane empty_row past
]
