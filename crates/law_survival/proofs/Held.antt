-- An image that nothing is wrong with has a study.
use Rattle.std.proofs.Common.{ℕ, zero, suc, ◌≡◌, ◌<◌, ◌≤◌, ◌^◌, ◌++◌, if◌then◌else◌, Bool, true, false, List, [], ◌∷◌, Option, None, Some, length, get_or, map, refl, sym, ap, ◌∙◌, subst, inl, inr, arith, length-append, slice_index}
use Rattle.std.specs.Int.{w64, from_be_bytes}
use Rattle.std.proofs.lemmas.Bool.{cases_lt}
use Rattle.std.proofs.lemmas.List.{get_or_append_left, length-reverse}
use Rattle.std.proofs.Math.Seq.{get_or-append_seam}
use Rattle.heap_model.specs.declared.ids.FieldId.{FieldId}
use Rattle.heap_model.specs.declared.record.UndoRecord.{UndoRecord}
use Rattle.block_disk.specs.Bytes.{part}
use Rattle.image_parts.specs.Cells.{HasCell, HasHome}
use Rattle.image_parts.specs.Layout.{IsLayout, cell_at, size_of}
use Rattle.image_parts.specs.Rows.{IsRow, empty_row}
use Rattle.image_parts.specs.declared.lane_row.LaneRow.{LaneRow}
use Rattle.image_parts.proofs.Numbers.{AreBytes, bytes-part, is_64}
use Rattle.undo_log.specs.StandsFor.{StandsFor, first_in, is_transient_in, row_in, row_of, guard_in, settled_of}
use Rattle.store_image.specs.KeptHeap.{values_below}
use Rattle.recover_heap.specs.Heap.{first_old, IsOldOrHome}
use Rattle.recover_heap.specs.Logs.{lanes_of, logged_guard_in}
use Rattle.recover.specs.Reading.{Holds}
use Rattle.recover.specs.Study.{AreUndone, IsReportOf, IsStudyOf}
use Rattle.recover.specs.declared.logged_image.LoggedImage.{LoggedImage}
use Rattle.recover.specs.declared.report.Report.{Report}
use Rattle.recover.specs.declared.studied.Study.{Study}
use Rattle.recover_heap.proofs.HeapLemmas.{takes_back}
use Rattle.recover_heap.proofs.HomeLemmas.{logged_agrees}
use Rattle.recover.proofs.LogLemmas.{row_is}
use Rattle.law_survival.proofs.Reports.{Drops, drops_few, drops_there, fields_there}
use Rattle.law_survival.proofs.Studies.{kept_at}
use Rattle.law_survival.proofs.Vecs.{vec_of}

-- the values of so many fields
values_long : (v : ℕ → ℕ) (n : ℕ) → length (values_below v n) ≡ n
values_long v zero = refl
values_long v (suc n) = omega (arith, length-append (values_below v n) (v n ∷ []), values_long v n)

value_there : (v : ℕ → ℕ) (n f : ℕ) → f < n → slice_index (values_below v n) f ≡ v f
value_there v zero f lt = absurd (omega (arith, lt))
value_there v (suc n) f lt = elim (cases_lt f n) [
  | inl less ↦ get_or_append_left (values_below v n) (v n ∷ []) 0 f (omega (arith, values_long v n, less)) ∙ value_there v n f less
  | inr from ↦
      let last : f ≡ n = omega (arith, lt, from) in
      let long = values_long v n in
      ap (λ (k : ℕ). get_or (values_below v n ++ v n ∷ []) k 0) (last ∙ sym long) ∙ get_or-append_seam (values_below v n) (v n) [] 0 ∙ ap v (sym last)
]

-- eight bytes are a number of 64 bits
word_fits : (bytes : List ℕ) → AreBytes bytes → from_be_bytes w64 bytes < 2 ^ 64
word_fits bytes small =
    let a = small 0 in
    let b = small 1 in
    let c = small 2 in
    let d = small 3 in
    let e = small 4 in
    let f = small 5 in
    let g = small 6 in
    let h = small 7 in
    omega (arith, a, b, c, d, e, f, g, h)

-- the old value, or where there is none the one at home
abbrev value_in : Option ℕ → (home : ℕ) → ℕ
value_in None home = home
value_in (Some old) home = old

module _ (image : List ℕ) (small : AreBytes image) (found : LoggedImage) (holds : Holds image found) where
  abbrev rows : List LaneRow
  rows = found.control.rows

  abbrev lanes : ℕ → List UndoRecord
  lanes = lanes_of found.records.items

  abbrev done : List (ℕ × UndoRecord)
  done = holds.legal.logs.done

  limits : IsLayout found.layout
  limits = holds.control.front.layout.header.limits

  -- the value of a field's home cell
  abbrev cell : ℕ → ℕ
  cell f = from_be_bytes w64 (part (cell_at found.layout f) 8 image)

  home_cell : (f : ℕ) → f < found.layout.fields → HasCell found.layout f image (cell f)
  home_cell f lt =
      let room : size_of found.layout ≤ length image = holds.control.front.layout.room in
      record {
        spelled = sym (is_64 image small (cell_at found.layout f) (cell f) (omega (arith, lt, room)) refl);
        fits = word_fits (part (cell_at found.layout f) 8 image) (bytes-part (cell_at found.layout f) 8 image small);
      }

  -- what the field has at home: that value, or if it is transient its first one
  abbrev home : ℕ → ℕ
  home f = if is_transient_in found.guards.items f then first_in found.guards.items f else cell f

  home_as : (b : Bool) (f : ℕ) → is_transient_in found.guards.items f ≡ b → f < found.layout.fields → HasHome found.layout (row_in found.guards.items f) f image (if b then first_in found.guards.items f else cell f)
  home_as true f is lt = record { persistent = λ no. absurd (let both : true ≡ false = sym is ∙ no in cc); transient = λ _. refl }
  home_as false f is lt = record { persistent = λ _. home_cell f lt; transient = λ yes. absurd (let both : true ≡ false = sym yes ∙ is in cc) }

  home_there : (f : ℕ) → f < found.layout.fields → HasHome found.layout (row_in found.guards.items f) f image (home f)
  home_there f lt = home_as (is_transient_in found.guards.items f) f refl lt

  -- the field's value
  abbrev value_of : ℕ → ℕ
  value_of f = value_in (first_old (settled_of rows) f done) (home f)

  old_or_home : (o : Option ℕ) (f : ℕ) → f < found.layout.fields → IsOldOrHome o (HasHome found.layout (row_in found.guards.items f) f image) (value_in o (home f))
  old_or_home None f lt = home_there f lt
  old_or_home (Some old) f lt = refl

  abbrev values : List ℕ
  values = values_below value_of found.layout.fields

  stands : StandsFor found.layout image values
  stands = record {
    slot = found.slot;
    control = found.control;
    shows = holds.control.shows;
    guards = found.guards.items;
    guarded = holds.control.front.guards_are;
    lanes = lanes;
    live = holds.logs.live;
    size = values_long value_of found.layout.fields;
    takes = λ f lt. takes_back (logged_guard_in found.guards.items) (guard_in found.guards.items) (logged_agrees found.guards.items) (settled_of rows) lanes done f (slice_index values f) (HasHome found.layout (row_in found.guards.items f) f image) holds.legal.logs.replays
        (subst (λ (v : ℕ). IsOldOrHome (first_old (settled_of rows) f done) (HasHome found.layout (row_in found.guards.items f) f image) v) (sym (value_there value_of found.layout.fields f lt))
        (old_or_home (first_old (settled_of rows) f done) f lt));
  }

  -- a lane's live records fit its area
  lane_fits : (lane : ℕ) → length (lanes lane) ≤ 1048576
  lane_fits lane = elim (cases_lt lane found.layout.lanes) [
    | inr from ↦ omega (arith, ap (λ (xs : List UndoRecord). length xs) (holds.logs.live.others lane from))
    | inl below ↦
        let row : IsRow found.layout.capacity (row_of rows lane) = row_is found.layout rows lane empty_row holds.control.shows.spells.valid.rows limits.lanes.1 below in
        omega (arith, row.fits, limits.capacity.1, (holds.logs.live.live lane below).size, length-reverse (lanes lane))
  ]

  drops : Drops rows lanes done found.layout.lanes
  drops = drops_there rows lanes done found.layout.lanes

  drops_small : length drops.dropped < 2 ^ 63
  drops_small = omega (arith, drops.long, drops_few rows lanes lane_fits found.layout.lanes, limits.lanes.1)

  undone_fields : (fields : List FieldId) × AreUndone found.layout found.guards.items rows lanes fields
  undone_fields = fields_there found.guards.items (settled_of rows) lanes done holds.legal.logs.replays found.layout.fields

  abbrev report : Report
  report = record {
    kept = record { counts = map (λ (r : LaneRow). r.kept) rows };
    dropped = vec_of drops.dropped drops_small;
    undone = length undone_fields.0;
  }

  abbrev study : Study
  study = record {
    layout = found.layout;
    slot = found.slot;
    control = found.control;
    guards = found.guards;
    records = found.records;
    heap = vec_of values (omega (arith, values_long value_of found.layout.fields, limits.fields.1));
    report = report;
  }

  reports : IsReportOf found.layout found.guards.items rows lanes report
  reports = record {
    kept_are = kept_at rows;
    done = done;
    replays = holds.legal.logs.replays;
    dropped_are = drops.are;
    fields = undone_fields.0;
    undone_are = undone_fields.1;
    undone_is = refl;
  }

  pub study_held : (study : Study) × IsStudyOf image study
  study_held = (study, record { holds = holds; stands = stands; reports = reports })
