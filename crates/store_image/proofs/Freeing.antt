-- The control that frees the places of what is acknowledged.
use Rattle.std.proofs.Common.{◌≡◌, inl, inr, ⊎_elim, ℕ, ◌+◌, ◌<◌, ◌≤◌, List, [], ◌∷◌, ◌++◌, length, map, reverse, refl, sym, ◌∙◌, ap, subst, arith, length-append}
use Rattle.std.specs.Prelude.{drop}
use Rattle.std.proofs.lemmas.Bool.{cases_lt}
use Rattle.std.proofs.lemmas.List.{length-reverse, map-append, reverse-append}
use Rattle.heap_model.specs.declared.record.Record.{Record}
use Rattle.heap_model.specs.declared.record.UndoRecord.{UndoRecord}
use Rattle.heap_model.specs.Record.{undo_of}
use Rattle.heap_model.specs.Setting.{Setting}
use Rattle.heap_model.specs.Log.{lane, value}
use Rattle.heap_model.specs.Sections.{ended, undo_action}
use Rattle.heap_model.specs.Base.{records_since, records_until}
use Rattle.law_histories.proofs.Reorder.{split_lane}
use Rattle.block_disk.specs.Device.{Device, SameOutside}
use Rattle.block_disk.specs.Images.{Always, LeavesOnly}
use Rattle.block_disk.proofs.Images.{image_now, now_too, weaker}
use Rattle.image.specs.Commit.{IsSteady, OldOrNew}
use Rattle.image_parts.specs.Control.{AreRows, control_of}
use Rattle.image_parts.specs.Layout.{cell_at}
use Rattle.image_parts.specs.Slots.{other, slot_range}
use Rattle.image_parts.specs.declared.control.Control.{Control}
use Rattle.image_parts.specs.declared.lane_row.LaneRow.{LaneRow}
use Rattle.image_parts.specs.declared.layout.Layout.{Layout}
use Rattle.image_parts.proofs.Places.{cell_survives}
use Rattle.undo_log.specs.Area.{HasRecords}
use Rattle.undo_log.specs.Dropped.{undo_logs, records_in}
use Rattle.undo_log.specs.StandsFor.{row_of}
use Rattle.heap_model.specs.Past.{Past, IsPast, IsTrimmed, after_trim}
use Rattle.store_image.specs.Consistent.{TellsCut, HasParts, ShowsEither, IsConsistent}
use Rattle.store_image.specs.KeptHeap.{StandsForCut}
use Rattle.store_image.specs.declared.committed.Committed.{Committed}
use Rattle.store_image.proofs.Committing.{slot_before, commit_shows, commit_has}
use Rattle.store_image.proofs.Places.{in_sections, past_sections, records_within, one_more, ended_undo, live_size, cut_place}
use Rattle.store_image.proofs.Rows.{row_is, rest_is, told_rows}
use Rattle.store_image.proofs.Stands.{stands, none_logged, stands_always}

-- of two lists that are the beginning of one, the longer goes on from the shorter
longer : (xs us ys vs : List UndoRecord) → xs ++ us ≡ ys ++ vs → length xs ≤ length ys → ys ≡ xs ++ drop (length xs) ys
longer [] us ys vs same le = refl
longer (x ∷ xs) us [] vs same le = absurd (omega (arith, le))
longer (x ∷ xs) us (y ∷ ys) vs same le =
    let both : x ∷ (xs ++ us) ≡ y ∷ (ys ++ vs) = same in
    let head : y ≡ x = cc in
    let tail : xs ++ us ≡ ys ++ vs = cc in
    (λ i. head i ∷ longer xs us ys vs tail (omega (arith, le)) i)

-- the later of the records, behind the earlier ones
has_later : (l : Layout) (k place : ℕ) (image : List ℕ) (xs ys : List UndoRecord) → HasRecords l k place image (xs ++ ys) → HasRecords l k (place + length xs) image ys
has_later l k place image [] ys has =
    let here : place ≡ place + 0 = omega arith in
    subst (λ (at : ℕ). HasRecords l k at image ys) here has
has_later l k place image (x ∷ xs) ys has =
    let here : place + 1 + length xs ≡ place + length (x ∷ xs) = omega arith in
    subst (λ (at : ℕ). HasRecords l k at image ys) here (has_later l k (place + 1) image xs ys has.1)

-- a lane's live records since a greater cut are the later ones of those that were live
module _ (base cut : ℕ → ℕ) (k : ℕ) (log : List (ℕ × Record)) (up : base k ≤ cut k) where
  abbrev old : List UndoRecord
  old = undo_logs (records_since base log) k

  abbrev new : List UndoRecord
  new = undo_logs (records_since cut log) k

  all_of : (c : ℕ → ℕ) → undo_logs (records_since c log) k ++ undo_logs (records_until c log) k ≡ undo_logs log k
  all_of c = sym (map-append undo_of (lane k (records_since c log)) (lane k (records_until c log))) ∙ ap (map undo_of) (split_lane c k log)

  fewer : length new ≤ length old
  fewer = omega (arith, live_size base k log, live_size cut k log, cut_place base k cut log up)

  abbrev gone : List UndoRecord
  gone = drop (length new) old

  old_is : old ≡ new ++ gone
  old_is = longer new (undo_logs (records_until cut log) k) old (undo_logs (records_until base log) k) (all_of cut ∙ sym (all_of base)) fewer

  behind : records_in (base k) (undo_logs log k) + length (reverse gone) ≡ records_in (cut k) (undo_logs log k)
  behind = omega (
    arith,
    live_size base k log,
    live_size cut k log,
    length-reverse gone,
    ap (λ (xs : List UndoRecord). length xs) old_is,
    length-append new gone,
  )

  pub live_later : (l : Layout) (image : List ℕ) → HasRecords l k (records_in (base k) (undo_logs log k)) image (reverse old) → HasRecords l k (records_in (cut k) (undo_logs log k)) image (reverse new)
  live_later l image has =
      subst (λ (at : ℕ). HasRecords l k at image (reverse new)) behind
      (has_later l k (records_in (base k) (undo_logs log k)) image (reverse gone) (reverse new)
      (subst (λ (xs : List UndoRecord). HasRecords l k (records_in (base k) (undo_logs log k)) image xs) (ap (λ (xs : List UndoRecord). reverse xs) old_is ∙ reverse-append new gone) has))

-- more whole sections have more records
more_records : (n m : ℕ) (xs : List UndoRecord) → n < m → m ≤ ended (map undo_action xs) → records_in n xs < records_in m xs
more_records n m [] less whole = absurd (omega (arith, less, whole))
more_records n m (r ∷ older) less whole = elim (cases_lt (ended (map undo_action older)) n) [
  | inl lt ↦ absurd (omega (arith, lt, less, whole, one_more r older))
  | inr ge ↦ elim (cases_lt (ended (map undo_action older)) m) [
    | inl lt ↦ omega (arith, past_sections n r older ge, in_sections m r older lt, records_within n older)
    | inr past ↦ omega (arith, past_sections n r older ge, past_sections m r older past, more_records n m older less past)
  ]
]

module _ (l : Layout) (s : Setting) (p : Past) (c : Committed) (d : Device) (is : IsConsistent l s p c d) where
  abbrev q : Past
  q = after_trim p

  abbrev was : Control
  was = control_of c.sequence c.rows

  old_rows : AreRows l c.rows
  old_rows = (is.steady.shows d.now.bytes (image_now d)).spells.valid.rows

  -- whether there is something to move, by the rows
  pub trimmed_starts : IsTrimmed p → (k : ℕ) → (row_of c.rows k).start ≡ (row_of c.rows k).settled
  trimmed_starts trimmed k = elim (cases_lt k l.lanes) [
    | inl below ↦ is.tells.start k below ∙ ap (λ (n : ℕ). records_in n (undo_logs p.logged k)) (trimmed k) ∙ sym (is.tells.settled k below)
    | inr from ↦ ap (λ (r : LaneRow). r.start) (rest_is l c.rows old_rows k from) ∙ sym (ap (λ (r : LaneRow). r.settled) (rest_is l c.rows old_rows k from))
  ]

  pub starts_trimmed : ((k : ℕ) → k < 32 → (row_of c.rows k).start ≡ (row_of c.rows k).settled) → IsTrimmed p
  starts_trimmed starts k = elim (cases_lt (p.base k) (p.cut k)) [
    | inl less ↦ elim (cases_lt k l.lanes) [
      | inl below ↦ absurd (omega (
        arith,
        is.tells.start k below,
        is.tells.settled k below,
        starts k (omega (arith, below, is.limits.lanes.1)),
        more_records (p.base k) (p.cut k) (undo_logs p.logged k) less (omega (arith, is.past.whole k, ended_undo p.logged k)),
      ))
      | inr from ↦ absurd (omega (
        arith,
        less,
        is.past.whole k,
        ended_undo p.logged k,
        ap (λ (xs : List UndoRecord). ended (map undo_action xs)) (none_logged l s p c d is k from),
      ))
    ]
    | inr upto ↦ omega (arith, upto, is.past.within k)
  ]

  past_after : IsPast s q
  past_after = record {
    legal = is.past.legal;
    within = λ k. omega arith;
    base_whole = is.past.whole;
    base_closed = is.past.closed;
    whole = is.past.whole;
    closed = is.past.closed;
  }

  abbrev P : List ℕ → Type 0
  P = StandsForCut l s p.logged p.cut

  to_heap : (image : List ℕ) → ShowsEither l s p q image → P image
  to_heap image shown = ⊎_elim
      (λ one. stands l s p is.past (none_logged l s p c d is) image one)
      (λ two. stands l s q past_after (none_logged l s p c d is) image two)
      shown

  pub trim_before : Always d P
  trim_before = stands_always l s p c d is

  -- the same records lie there, with fewer of them live
  parts_later : Always d (HasParts l s q.logged q.base q.cut)
  parts_later image left =
      let has = is.parts image left in
      record {
        room = has.room;
        header = has.header;
        guards = has.guards;
        guarded = has.guarded;
        rows = has.rows;
        live = λ k below. live_later p.base p.cut k p.logged (is.past.within k) l image (has.live k below);
        homes = has.homes;
      }

  -- what the rows of the new control are
  pub record AreTrimmed (rows : List LaneRow) : Type 0 where
    pub size : length rows ≡ length c.rows
    pub lanes : (k : ℕ) → k < l.lanes → row_of rows k ≡ record (row_of c.rows k) { start = (row_of c.rows k).settled }
    pub rest : (k : ℕ) → l.lanes ≤ k → row_of rows k ≡ row_of c.rows k

  module _ (rows : List LaneRow) (are : AreTrimmed rows) where
    abbrev will : Control
    will = control_of (c.sequence + 1) rows

    tells_new : TellsCut l q.logged q.base q.cut rows
    tells_new = record {
      start = λ k below. ap (λ (r : LaneRow). r.start) (are.lanes k below) ∙ is.tells.settled k below;
      settled = λ k below. ap (λ (r : LaneRow). r.settled) (are.lanes k below) ∙ is.tells.settled k below;
      logged = λ k below. ap (λ (r : LaneRow). r.logged) (are.lanes k below) ∙ is.tells.logged k below;
      kept = λ k below. ap (λ (r : LaneRow). r.kept) (are.lanes k below) ∙ is.tells.kept k below;
    }

    pub rows_fit : AreRows l rows
    rows_fit = told_rows l p.logged p.cut p.cut rows (are.size ∙ old_rows.size) (λ k. omega arith) is.past.whole tells_new
        (λ k below. omega (arith, (row_is l c.rows old_rows is.limits.lanes.1 k below).limit, is.tells.logged k below))
        (λ k below. omega (
          arith,
          (row_is l c.rows old_rows is.limits.lanes.1 k below).fits,
          (row_is l c.rows old_rows is.limits.lanes.1 k below).settled,
          ap (λ (r : LaneRow). r.logged) (are.lanes k below),
          ap (λ (r : LaneRow). r.start) (are.lanes k below),
        ))
        (λ k from. are.rest k from ∙ rest_is l c.rows old_rows k from)

    module _ (e : Device) (committing : LeavesOnly d e (OldOrNew l d c.slot was will)) where
      -- whatever the commit answers
      pub trim_shows : LeavesOnly d e (ShowsEither l s p q)
      trim_shows = commit_shows l s c.slot was will (refl, refl) d is.steady p is.tells is.parts q tells_new parts_later e committing

      pub trim_leaves : LeavesOnly d e P
      trim_leaves = weaker d e (ShowsEither l s p q) P to_heap trim_shows

      pub trim_always : Always e P
      trim_always = now_too d e P trim_before trim_leaves

      pub trim_done : IsSteady l e (other c.slot) will → SameOutside (slot_range (other c.slot) ∷ []) d.now.bytes e.now.bytes
          → IsConsistent l s q (record { slot = other c.slot; sequence = c.sequence + 1; rows = rows }) e
      trim_done steady same = record {
        limits = is.limits;
        room = omega (arith, is.room, same.size);
        past = past_after;
        lanes = is.lanes;
        tells = tells_new;
        steady = steady;
        parts = commit_has l s c.slot was will (refl, refl) d is.steady p is.tells is.parts q tells_new parts_later e committing;
        dirty = is.dirty;
        clean = λ f below no kept. cell_survives l f (value s.first f p.logged) (slot_range (other c.slot) ∷ []) (slot_before (other c.slot) (cell_at l f) 8 (omega arith)) d.now.bytes e.now.bytes
            (is.clean f below no kept) same;
      }
