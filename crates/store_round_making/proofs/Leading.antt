-- A round that acknowledges a cut leads from the heap of the old cut to that of the new one.
use Rattle.std.proofs.Common.{ℕ, ◌≡◌, ◌≢◌, ◌+◌, ◌-◌, ◌<◌, ◌≤◌, ◌⊎◌, ◌==◌, if◌then◌else◌, List, [], ◌++◌, length, map, reverse, take, drop, refl, sym, ap, ◌∙◌, subst, inl, inr, arith, length-append}
use Rattle.std.specs.Prelude.{max, slice_index}
use Rattle.std.proofs.lemmas.Bool.{cases_eq, cases_lt}
use Rattle.std.proofs.lemmas.List.{append-nil, drop_all, drop-append-le, drop-drop, length-drop, length-reverse, length-take-le, map-append, reverse-append, take-append-drop}
use Rattle.std.proofs.lemmas.List.Elements.{All-drop}
use Rattle.std.proofs.Math.Seq.{drop-append_seam, drop-append-add}
use Rattle.heap_model.specs.declared.cut.Cut.{Cut}
use Rattle.heap_model.specs.declared.record.Record.{Record}
use Rattle.heap_model.specs.declared.record.UndoRecord.{UndoRecord}
use Rattle.heap_model.specs.Base.{records_since, records_until}
use Rattle.heap_model.specs.Cuts.{counts_of, IsWhole}
use Rattle.heap_model.specs.Log.{lane, IsOfLanes}
use Rattle.heap_model.specs.Record.{undo_of}
use Rattle.heap_model.specs.Sections.{action, actions, ended}
use Rattle.heap_model.specs.Setting.{Setting}
use Rattle.law_cuts.proofs.Lanes.{lane_actions, lane_append}
use Rattle.law_cuts.proofs.Unlogged.{first_kept}
use Rattle.law_histories.proofs.OfLanes.{none_past}
use Rattle.law_histories.proofs.Reorder.{split_lane}
use Rattle.block_disk.specs.Device.{Device}
use Rattle.block_disk.proofs.Images.{image_now}
use Rattle.image_parts.specs.Control.{AreRows}
use Rattle.image_parts.specs.Layout.{IsLayout}
use Rattle.image_parts.specs.Rows.{IsRow}
use Rattle.image_parts.specs.declared.lane_row.LaneRow.{LaneRow}
use Rattle.image_parts.specs.declared.layout.Layout.{Layout}
use Rattle.undo_log.specs.Area.{IsLoggable}
use Rattle.undo_log.specs.Dropped.{records_in, undo_logs}
use Rattle.undo_log.specs.StandsFor.{row_of}
use Rattle.store_image.specs.NewRecords.{FitsLane}
use Rattle.store_image.specs.declared.committed.Committed.{Committed}
use Rattle.store_image.proofs.Growing.{places_grown, undo_append}
use Rattle.store_image.proofs.Places.{base_place, cut_place, ended_undo, records_within, sections_within}
use Rattle.store_image.proofs.Rows.{are_rows, rest_is, row_is}
use Rattle.store_helper_sections.specs.Going.{from_heap}
use Rattle.store_helper_sections.specs.HelperSections.{HelperSection, helper_log}
use Rattle.store_helper_sections.specs.Image.{ShowsRound, kept_by, round_records}
use Rattle.store_helper_sections.proofs.Padding.{if_same, if_apart}
use Rattle.store_helper_sections.proofs.Preceding.{helper_elsewhere, since_elsewhere}
use Rattle.store_round_image.specs.Promises.{ShowsEitherHeap}
use Rattle.store_round_image.specs.Turning.{GoesOnIn, IsHeapOn, MayTurn}
use Rattle.store_round_image.specs.declared.cells.HomeValue.{HomeValue}
use Rattle.store_round_making.specs.Rounds.{IsRoundOn, MayMake, TellsRound}

-- a lane's records beyond a cut, the oldest first, are those behind its place
since_behind : (cut : ℕ → ℕ) (k : ℕ) (log : List (ℕ × Record)) → reverse (undo_logs (records_since cut log) k) ≡ drop (records_in (cut k) (undo_logs log k)) (reverse (undo_logs log k))
since_behind cut k log =
    let since : List UndoRecord = undo_logs (records_since cut log) k in
    let until : List UndoRecord = undo_logs (records_until cut log) k in
    let parts : since ++ until ≡ undo_logs log k = sym (map-append undo_of (lane k (records_since cut log)) (lane k (records_until cut log))) ∙ ap (map undo_of) (split_lane cut k log) in
    let back : reverse (undo_logs log k) ≡ reverse until ++ reverse since = ap (λ (xs : List UndoRecord). reverse xs) (sym parts) ∙ reverse-append since until in
    let place : records_in (cut k) (undo_logs log k) ≡ length (reverse until) = base_place cut k log ∙ sym (length-reverse until) in
    sym ((λ i. drop (place i) (back i)) ∙ drop-append_seam (reverse until) (reverse since))

-- the records at a place and behind it, where some lie before a seam and others behind it
drop_seam : {A : Type 0} (n : ℕ) (xs ys : List A) → drop n (xs ++ ys) ≡ drop n xs ++ drop (n - length xs) ys
drop_seam {A} n xs ys = elim (cases_lt (length xs) n) [
  | inl past ↦
      let at : length xs + (n - length xs) ≡ n = omega (arith, past) in
      ap (λ (k : ℕ). drop k (xs ++ ys)) (sym at) ∙ drop-append-add xs ys (n - length xs) ∙ ap (λ (zs : List A). zs ++ drop (n - length xs) ys) (sym (drop_all n xs (omega (arith, past))))
  | inr within ↦
      let none : n - length xs ≡ 0 = omega (arith, within) in
      drop-append-le n xs ys within ∙ ap (λ (k : ℕ). drop n xs ++ drop k ys) (sym none)
]

-- a whole cut counts nothing of lanes that have no records
uncounted : (t k : ℕ) (log : List (ℕ × Record)) (cut : ℕ → ℕ) → IsOfLanes t log → IsWhole (actions log) cut → t ≤ k → cut k ≡ 0
uncounted t k log cut lanes whole past = omega (arith, whole k, ap ended (lane_actions k log ∙ ap (map action) (none_past t k log lanes past)))

module _ (t : ℕ) (s : Setting) (log : List (ℕ × Record)) (cut : ℕ → ℕ) (sections : List HelperSection) where
  -- of the live records a thread's lane has those beyond the cut
  thread_logs : (k : ℕ) → k < t → undo_logs (round_records t s log cut sections) k ≡ undo_logs (records_since cut log) k
  thread_logs k low = ap (map undo_of) (
      lane_append k (records_since cut log) (helper_log t (kept_by s log cut) sections)
      ∙ ap (λ (xs : List Record). lane k (records_since cut log) ++ xs) (helper_elsewhere t (kept_by s log cut) k (λ e. omega (arith, e, low)) sections)
      ∙ append-nil (lane k (records_since cut log)))

  -- the helper's has its sections
  helper_logs : IsOfLanes t log → undo_logs (round_records t s log cut sections) t ≡ undo_logs (helper_log t (kept_by s log cut) sections) t
  helper_logs lanes = ap (map undo_of) (
      lane_append t (records_since cut log) (helper_log t (kept_by s log cut) sections)
      ∙ ap (λ (xs : List Record). xs ++ lane t (helper_log t (kept_by s log cut) sections)) (since_elsewhere t t log cut lanes (omega arith)))

  -- a lane behind the threads' has none where it isn't the helper's
  none_behind : (k : ℕ) → (sections ≡ []) ⊎ (t ≢ k) → lane k (helper_log t (kept_by s log cut) sections) ≡ []
  none_behind k (inl none) = ap (λ (xs : List HelperSection). lane k (helper_log t (kept_by s log cut) xs)) none
  none_behind k (inr apart) = helper_elsewhere t (kept_by s log cut) k apart sections

  -- no other lane has any
  no_logs : IsOfLanes t log → (k : ℕ) → t ≤ k → (sections ≡ []) ⊎ (t ≢ k) → undo_logs (round_records t s log cut sections) k ≡ []
  no_logs lanes k past none = ap (map undo_of) (
      lane_append k (records_since cut log) (helper_log t (kept_by s log cut) sections)
      ∙ ap (λ (xs : List Record). xs ++ lane k (helper_log t (kept_by s log cut) sections)) (since_elsewhere t k log cut lanes past)
      ∙ none_behind k none)

module _ (l : Layout) (t : ℕ) (s : Setting) (log : List (ℕ × Record)) (cut : ℕ → ℕ) (sections : List HelperSection) (newer : List (ℕ × Record)) (later : List HelperSection)
    (c : Committed) (d : Device) (next : Cut) (places : List ℕ) (cells : List HomeValue) (fresh : ℕ → List UndoRecord) (helper : List UndoRecord)
    (may : MayMake l t s log cut sections newer later c d next places cells fresh helper) where
  abbrev all : List (ℕ × Record)
  all = newer ++ log

  abbrev heap : ℕ → ℕ
  heap = kept_by s all (counts_of next)

  abbrev old : List (ℕ × Record)
  old = round_records t s log cut sections

  abbrev new : List (ℕ × Record)
  new = round_records t s all (counts_of next) later

  pub limits : IsLayout l
  limits = may.on.heap.limits

  old_rows : AreRows l c.rows
  old_rows = (may.on.heap.steady.shows d.now.bytes (image_now d)).spells.valid.rows

  old_row : (k : ℕ) → k < l.lanes → IsRow l.capacity (row_of c.rows k)
  old_row k low = row_is l c.rows old_rows limits.lanes.1 k low

  -- what is written of the lanes' new records, where so many of each lane are skipped
  abbrev pub written : (skipped : List ℕ) → ℕ → List UndoRecord
  written skipped k = if k == t then helper else drop (slice_index skipped k) (fresh k)

  module _ (k : ℕ) (low : k < t) where
    abbrev A : List UndoRecord
    A = reverse (undo_logs log k)

    abbrev n : ℕ
    n = slice_index places k

    all_back : reverse (undo_logs all k) ≡ A ++ fresh k
    all_back = ap (λ (xs : List UndoRecord). reverse xs) (undo_append newer log k) ∙ reverse-append (undo_logs newer k) (undo_logs log k) ∙ ap (λ (xs : List UndoRecord). A ++ xs) (sym (may.records k low))

    all_long : length (undo_logs all k) ≡ (row_of c.rows k).logged + length (fresh k)
    all_long = omega (
      arith,
      ap (λ (xs : List UndoRecord). length xs) all_back,
      length-reverse (undo_logs all k),
      length-append A (fresh k),
      length-reverse (undo_logs log k),
      may.on.tells.logged k low,
    )

    A_long : length A ≡ (row_of c.rows k).logged
    A_long = length-reverse (undo_logs log k) ∙ sym (may.on.tells.logged k low)

    -- the new place is behind the old one, and before the end
    up : (row_of c.rows k).start ≤ n
    up = omega (
      arith,
      may.on.tells.start k low,
      may.behind k low,
      cut_place cut k (counts_of next) all (may.more k),
      places_grown (cut k) newer log k (may.on.round.whole k),
    )

    within : n ≤ (row_of c.rows k).logged + length (fresh k)
    within = omega (arith, may.behind k low, records_within (counts_of next k) (undo_logs all k), all_long)

    were : reverse (undo_logs old k) ≡ take (n - (row_of c.rows k).start) (drop (row_of c.rows k).start A) ++ drop n A
    were =
        let at : (row_of c.rows k).start + (n - (row_of c.rows k).start) ≡ n = omega (arith, up) in
        ap (λ (xs : List UndoRecord). reverse xs) (thread_logs t s log cut sections k low) ∙ since_behind cut k log ∙ ap (λ (i : ℕ). drop i A) (sym (may.on.tells.start k low))
        ∙ sym (take-append-drop (n - (row_of c.rows k).start) (drop (row_of c.rows k).start A))
        ∙ ap (λ (xs : List UndoRecord). take (n - (row_of c.rows k).start) (drop (row_of c.rows k).start A) ++ xs) (drop-drop (n - (row_of c.rows k).start) (row_of c.rows k).start A ∙ ap (λ (i : ℕ). drop i A) at)

    are : reverse (undo_logs new k) ≡ drop n A ++ drop (n - (row_of c.rows k).logged) (fresh k)
    are =
        ap (λ (xs : List UndoRecord). reverse xs) (thread_logs t s all (counts_of next) later k low) ∙ since_behind (counts_of next) k all ∙ (λ i. drop (sym (may.behind k low) i) (all_back i))
        ∙ drop_seam n A (fresh k) ∙ ap (λ (m : ℕ). drop n A ++ drop (n - m) (fresh k)) A_long

    stay_begins : (drop n A ≡ []) ⊎ (n ≡ (row_of c.rows k).start + length (take (n - (row_of c.rows k).start) (drop (row_of c.rows k).start A)))
    stay_begins = elim (cases_lt n (length A)) [
      | inr past ↦ inl (drop_all n A past)
      | inl lt ↦ inr (omega (arith, up, length-take-le (n - (row_of c.rows k).start) (drop (row_of c.rows k).start A) (omega (arith, lt, up, length-drop (row_of c.rows k).start A))))
    ]

  module _ (skipped : List ℕ) (from rows : List LaneRow)
      (skips : (k : ℕ) → k < t → slice_index skipped k ≡ slice_index places k - (row_of c.rows k).logged)
      (from_lanes : (k : ℕ) → k < t → row_of from k ≡ record (row_of c.rows k) { logged = max (row_of c.rows k).logged (slice_index places k) })
      (from_rest : (k : ℕ) → t ≤ k → row_of from k ≡ row_of c.rows k)
      (next_lanes : (k : ℕ) → k < t → row_of rows k ≡ record { start = slice_index places k; settled = slice_index places k; logged = (row_of c.rows k).logged + length (fresh k); kept = counts_of next k })
      (next_helper : t < l.lanes → row_of rows t ≡ record (row_of c.rows t) { start = (row_of c.rows t).logged; settled = (row_of c.rows t).logged; logged = (row_of c.rows t).logged + length helper })
      (next_rest : (k : ℕ) → l.lanes ≤ k → row_of rows k ≡ row_of c.rows k)
      (next_size : length rows ≡ length c.rows) where
    -- a thread's lane
    thread_goes : (k : ℕ) → k < t → GoesOnIn l (row_of c.rows k) (undo_logs old k) (row_of from k) (drop (slice_index places k - (row_of c.rows k).logged) (fresh k)) (row_of rows k) (undo_logs new k)
    thread_goes k low =
        let o : LaneRow = row_of c.rows k in
        let f : LaneRow = row_of from k in
        let r : LaneRow = row_of rows k in
        let p : ℕ = slice_index places k in
        let is : IsRow l.capacity o = old_row k (omega (arith, low, may.on.round.within)) in
        let fits : FitsLane l o (fresh k) = may.fits k low in
        let tail : ℕ = p - o.logged in
        let f_start : f.start ≡ o.start = ap (λ (x : LaneRow). x.start) (from_lanes k low) in
        let f_settled : f.settled ≡ o.settled = ap (λ (x : LaneRow). x.settled) (from_lanes k low) in
        let f_kept : f.kept ≡ o.kept = ap (λ (x : LaneRow). x.kept) (from_lanes k low) in
        let f_logged : f.logged ≡ max o.logged p = ap (λ (x : LaneRow). x.logged) (from_lanes k low) in
        let r_start : r.start ≡ p = ap (λ (x : LaneRow). x.start) (next_lanes k low) in
        let r_logged : r.logged ≡ o.logged + length (fresh k) = ap (λ (x : LaneRow). x.logged) (next_lanes k low) in
        let longs : length (drop tail (fresh k)) ≡ length (fresh k) - tail = length-drop tail (fresh k) in
        let stays : length (drop p (A k low)) ≡ length (A k low) - p = length-drop p (A k low) in
        let far : f.logged + length (drop tail (fresh k)) ≡ o.logged + length (fresh k) = omega (arith, f_logged, longs, within k low) in
        record {
          given = take (p - o.start) (drop o.start (A k low));
          stay = drop p (A k low);
          were = were k low;
          are = are k low;
          begins = elim (stay_begins k low) [ inl none ↦ inl none | inr at ↦ inr (r_start ∙ at) ];
          behind = omega (arith, f_logged, r_start, stays, A_long k low);
          ends = omega (arith, r_logged, far);
          row = record {
            settled = omega (arith, f_start, f_settled, is.settled);
            logged = omega (arith, f_settled, f_logged, is.logged);
            limit = omega (arith, far, fits.limit);
            kept = omega (arith, f_kept, f_settled, is.kept);
            fits = omega (arith, far, f_start, fits.room, is.logged, is.settled);
          };
          fits = record {
            loggable = All-drop (IsLoggable l) tail (fresh k) fits.loggable;
            room = omega (arith, far, f_start, fits.room, is.logged, is.settled);
            limit = omega (arith, far, fits.limit);
          };
          start = omega (arith, f_start);
          past = omega (arith, f_logged);
        }

    -- the helper's
    helper_goes : t < l.lanes → GoesOnIn l (row_of c.rows t) (undo_logs old t) (row_of from t) helper (row_of rows t) (undo_logs new t)
    helper_goes there =
        let o : LaneRow = row_of c.rows t in
        let same : row_of from t ≡ o = from_rest t (omega arith) in
        let r_start : (row_of rows t).start ≡ o.logged = ap (λ (x : LaneRow). x.start) (next_helper there) in
        let r_logged : (row_of rows t).logged ≡ o.logged + length helper = ap (λ (x : LaneRow). x.logged) (next_helper there) in
        let f_logged : (row_of from t).logged ≡ o.logged = ap (λ (x : LaneRow). x.logged) same in
        record {
          given = reverse (undo_logs old t);
          stay = [];
          were = sym (append-nil (reverse (undo_logs old t)));
          are = ap (λ (xs : List UndoRecord). reverse xs) (helper_logs t s all (counts_of next) later may.lanes) ∙ sym may.helper_are;
          begins = inl refl;
          behind = omega (arith, f_logged, r_start);
          ends = omega (arith, f_logged, r_logged);
          row = subst (IsRow l.capacity) (sym same) (old_row t there);
          fits = subst (λ (x : LaneRow). FitsLane l x helper) (sym same) (may.helper_fits there);
          start = omega (arith, ap (λ (x : LaneRow). x.start) same);
          past = omega (arith, f_logged);
        }

    lane_goes : (k : ℕ) → k < l.lanes → GoesOnIn l (row_of c.rows k) (undo_logs old k) (row_of from k) (written skipped k) (row_of rows k) (undo_logs new k)
    lane_goes k low = elim (cases_eq k t) [
      | inl e ↦ subst (λ (xs : List UndoRecord). GoesOnIn l (row_of c.rows k) (undo_logs old k) (row_of from k) xs (row_of rows k) (undo_logs new k)) (sym (if_same k t helper (drop (slice_index skipped k) (fresh k)) e))
          (subst (λ (j : ℕ). GoesOnIn l (row_of c.rows j) (undo_logs old j) (row_of from j) helper (row_of rows j) (undo_logs new j)) (sym e) (helper_goes (omega (arith, low, e))))
      | inr ne ↦ subst (λ (xs : List UndoRecord). GoesOnIn l (row_of c.rows k) (undo_logs old k) (row_of from k) xs (row_of rows k) (undo_logs new k)) (sym (if_apart k t helper (drop (slice_index skipped k) (fresh k)) ne))
          (let below : k < t = omega (arith, low, ne, may.all_lanes) in
          subst (λ (i : ℕ). GoesOnIn l (row_of c.rows k) (undo_logs old k) (row_of from k) (drop i (fresh k)) (row_of rows k) (undo_logs new k)) (sym (skips k below)) (thread_goes k below))
    ]

    next_row : (k : ℕ) → k < l.lanes → IsRow l.capacity (row_of rows k)
    next_row k low = elim (cases_eq k t) [
      | inl e ↦
          let there : t < l.lanes = omega (arith, low, e) in
          let o : IsRow l.capacity (row_of c.rows t) = old_row t there in
          subst (λ (j : ℕ). IsRow l.capacity (row_of rows j)) (sym e) (subst (IsRow l.capacity) (sym (next_helper there)) (record {
            settled = omega arith;
            logged = omega arith;
            limit = (may.helper_fits there).limit;
            kept = omega (arith, o.kept, o.logged);
            fits = omega (arith, (may.helper_fits there).room);
          }))
      | inr ne ↦
          let below : k < t = omega (arith, low, ne, may.all_lanes) in
          subst (IsRow l.capacity) (sym (next_lanes k below)) (record {
            settled = omega arith;
            logged = within k below;
            limit = (may.fits k below).limit;
            kept = omega (arith, may.behind k below, sections_within (counts_of next k) (undo_logs all k) (omega (arith, may.whole k, ended_undo all k)));
            fits = omega (arith, (may.fits k below).room, up k below, (old_row k low).logged, (old_row k low).settled);
          })
    ]

    pub may_turn : MayTurn l (from_heap s (kept_by s log cut)) old heap new c d cells from (written skipped) rows
    may_turn = record {
      holds = may.on.heap;
      transient = λ f low off. first_kept s all f may.legal off (counts_of next) ∙ sym (first_kept s log f may.on.round.legal off cut);
      values = may.values;
      covered = may.covered;
      homes = may.homes;
      lanes = lane_goes;
      others = λ k past. no_logs t s all (counts_of next) later may.lanes k (omega (arith, past, may.on.round.within)) (elim may.helper_lane [ inl none ↦ inl none | inr there ↦ inr (λ e. omega (arith, e, past, there)) ]);
      rows_fit = are_rows l rows (next_size ∙ old_rows.size) next_row (λ k past. next_rest k past ∙ rest_is l c.rows old_rows k past);
      unsettled = λ k low. elim (cases_eq k t) [
        | inl e ↦ let there : t < l.lanes = omega (arith, low, e) in subst (λ (j : ℕ). (row_of rows j).settled ≡ (row_of rows j).start) (sym e) (ap (λ (x : LaneRow). x.settled) (next_helper there) ∙ sym (ap (λ (x : LaneRow). x.start) (next_helper there)))
        | inr ne ↦ let below : k < t = omega (arith, low, ne, may.all_lanes) in ap (λ (x : LaneRow). x.settled) (next_lanes k below) ∙ sym (ap (λ (x : LaneRow). x.start) (next_lanes k below))
      ];
    }

    -- a new row counts the cut's sections, and the helper's none
    kept_next : (k : ℕ) → k < l.lanes → (row_of rows k).kept ≡ counts_of next k
    kept_next k low = elim (cases_eq k t) [
      | inr ne ↦ let below : k < t = omega (arith, low, ne, may.all_lanes) in ap (λ (x : LaneRow). x.kept) (next_lanes k below)
      | inl e ↦
          let there : t < l.lanes = omega (arith, low, e) in
          let none : cut t ≡ 0 = uncounted t t log cut may.on.round.lanes may.on.round.whole (omega arith) in
          let still : counts_of next t ≡ 0 = uncounted t t all (counts_of next) may.lanes may.whole (omega arith) in
          subst (λ (j : ℕ). (row_of rows j).kept ≡ counts_of next j) (sym e) (ap (λ (x : LaneRow). x.kept) (next_helper there) ∙ may.on.tells.kept t there ∙ none ∙ sym still)
    ]

    tells_next : TellsRound l t all (counts_of next) rows
    tells_next = record {
      start = λ k low. ap (λ (x : LaneRow). x.start) (next_lanes k low) ∙ may.behind k low;
      logged = λ k low. ap (λ (x : LaneRow). x.logged) (next_lanes k low) ∙ sym (all_long k low);
      kept = kept_next;
    }

    pub round_on : (now : Committed) (e : Device) → now.rows ≡ rows → IsHeapOn l (from_heap s heap) new now e → IsRoundOn l t s all (counts_of next) later now e
    round_on now e is on = record {
      round = record { legal = may.legal; whole = may.whole; closed = may.closed; lanes = may.lanes; within = may.on.round.within; helper = may.helper_lane; preceding = may.preceding };
      tells = subst (TellsRound l t all (counts_of next)) (sym is) tells_next;
      heap = on;
    }

    -- what an image shows of the heaps it shows of the cuts
    abbrev pub Either : List ℕ → Type 0
    Either image = ShowsRound l t s log cut sections image ⊎ ShowsRound l t s all (counts_of next) later image

    pub either_round : (image : List ℕ) → ShowsEitherHeap l (from_heap s (kept_by s log cut)) old c.rows heap new rows image → Either image
    either_round image (inl shown) = inl (record { heap = shown.heap; kept = λ k low. ap (λ (rs : List LaneRow). (row_of rs k).kept) shown.rows_are ∙ may.on.tells.kept k low })
    either_round image (inr shown) = inr (record { heap = shown.heap; kept = λ k low. ap (λ (rs : List LaneRow). (row_of rs k).kept) shown.rows_are ∙ tells_next.kept k low })
