-- A round of two syncs: what is written while the old control counts, and what the new one finds.
use Rattle.std.proofs.Common.{ℕ, suc, ◌≡◌, ◌+◌, ◌*◌, ◌<◌, ◌≤◌, ◌⊎◌, true, List, [], ◌∷◌, ◌++◌, length, get_or, Contains, refl, sym, ap, ◌∙◌, subst, inl, inr, arith, length-append}
use Rattle.std.proofs.lemmas.List.Elements.{All-get_or}
use Rattle.heap_model.specs.declared.record.Record.{Record}
use Rattle.heap_model.specs.declared.record.UndoRecord.{UndoRecord}
use Rattle.heap_model.specs.Setting.{Setting}
use Rattle.block_disk.specs.Device.{Device, Range, SameOutside}
use Rattle.block_disk.specs.Images.{Always, ImageBut, IsApart, LeavesOnly}
use Rattle.block_disk.proofs.Images.{always_now, always_only, and_then, besides_none, besides_survives, now_too, weaker}
use Rattle.image_parts.specs.Cells.{HasCell}
use Rattle.image.specs.Commit.{IsSteady, OldOrTurned, slots_range}
use Rattle.image_parts.specs.Control.{control_of}
use Rattle.image_parts.specs.Laws.{AreApart}
use Rattle.image_parts.specs.Layout.{cell_at, record_at}
use Rattle.image_parts.specs.Rows.{IsRow}
use Rattle.image_parts.specs.Slots.{other}
use Rattle.image_parts.specs.declared.control.Control.{Control}
use Rattle.image_parts.specs.declared.lane_row.LaneRow.{LaneRow}
use Rattle.image_parts.specs.declared.layout.Layout.{Layout}
use Rattle.image.proofs.Commits.{steady_stays}
use Rattle.image_parts.proofs.SlotLemmas.{shows_survives}
use Rattle.image_parts.proofs.Places.{cell_survives, places}
use Rattle.undo_log.specs.Area.{HasRecords}
use Rattle.undo_log.specs.Dropped.{undo_logs}
use Rattle.undo_log.specs.StandsFor.{HasLive, row_of}
use Rattle.heap_model.specs.Past.{has_store}
use Rattle.store_image.specs.NewRecords.{FitsLane, fresh_ranges}
use Rattle.store_image.specs.Sequences.{ShowsUpTo}
use Rattle.store_image.specs.Steps.{step_ranges}
use Rattle.store_image.specs.declared.committed.Committed.{Committed}
use Rattle.store_image.proofs.Appending.{front_apart, live_apart}
use Rattle.store_image.proofs.Growing.{has_append}
use Rattle.store_image.proofs.Sequences.{stays_up_to, steady_up_to}
use Rattle.store_image.proofs.Within.{cell_clear, fresh_clear, within}
use Rattle.block_disk.specs.Device.{IsClear}
use Rattle.store_helper_sections.specs.Going.{from_heap}
use Rattle.store_helper_sections.specs.Image.{HasHeap, ShowsHeap}
use Rattle.store_round_image.specs.Promises.{ShowsEitherHeap}
use Rattle.store_round_image.specs.Turning.{IsHeapOn, IsValueIn, MayTurn, cell_ranges, fields_of, written_ranges}
use Rattle.store_round_image.specs.declared.cells.HomeValue.{HomeValue}
use Rattle.store_round_image.proofs.Sparing.{Spared, apart_both, heap_survives, slots_spared}
use Rattle.store_round_image.proofs.Writing.{among, cells_before, cells_behind}

-- the later ones of some records stand behind the first
has_later : (l : Layout) (lane place : ℕ) (image : List ℕ) (xs ys : List UndoRecord) → HasRecords l lane place image (xs ++ ys) → HasRecords l lane (place + length xs) image ys
has_later l lane place image [] ys has = let here : place ≡ place + 0 = omega arith in subst (λ (k : ℕ). HasRecords l lane k image ys) here has
has_later l lane place image (x ∷ xs) ys has =
    let next : place + 1 + length xs ≡ place + length (x ∷ xs) = omega arith in
    subst (λ (k : ℕ). HasRecords l lane k image ys) next (has_later l lane (place + 1) image xs ys has.1)

module _ (l : Layout) (s : Setting) (records : List (ℕ × Record)) (heap : ℕ → ℕ) (later : List (ℕ × Record)) (c : Committed) (d : Device)
    (cells : List HomeValue) (from : List LaneRow) (fresh : ℕ → List UndoRecord) (rows : List LaneRow) (may : MayTurn l s records heap later c d cells from fresh rows) where
  abbrev old : Control
  old = control_of c.sequence c.rows

  abbrev rs : List Range
  rs = written_ranges l cells from fresh

  abbrev t : Setting
  t = from_heap s heap

  pub each_row : (k : ℕ) → k < l.lanes → IsRow l.capacity (row_of from k)
  each_row k below = (may.lanes k below).row

  pub each_fits : (k : ℕ) → k < l.lanes → FitsLane l (row_of from k) (fresh k)
  each_fits k below = (may.lanes k below).fits

  apart : AreApart l
  apart = places l may.holds.limits

  -- where the round writes before its commit: behind all that comes before the cells
  front : (at n : ℕ) → at + n ≤ cell_at l 0 → IsApart at n rs
  front at n before = apart_both at n (cell_ranges l cells) (fresh_ranges l from fresh l.lanes) (cells_behind l cells at n before)
      (front_apart l from fresh may.holds.limits each_row each_fits at n (omega (arith, before)))

  spared : Spared l records c.rows rs
  spared = record {
    header = front 0 64 (omega arith);
    guards = front 2160 (16 * l.fields) (omega arith);
    live = λ k place below lo hi. apart_both (record_at l k place) 16 (cell_ranges l cells) (fresh_ranges l from fresh l.lanes)
        (cells_before l heap cells (record_at l k place) 16 may.values (omega (arith, (apart.records k place).0)))
        (live_apart l from fresh may.holds.limits each_row each_fits k place below (omega (arith, (may.lanes k below).start, lo)) (omega (arith, (may.lanes k below).past, hi)));
    cells = λ f below. elim (among l cells f) [
      | inl h ↦ inl (may.covered f h)
      | inr away ↦ inr (apart_both (cell_at l f) 8 (cell_ranges l cells) (fresh_ranges l from fresh l.lanes) away
          (front_apart l from fresh may.holds.limits each_row each_fits (cell_at l f) 8 (omega (arith, below))))
    ];
  }

  -- while that is written each image shows the old heap
  in_writing : (image : List ℕ) → ImageBut d rs image → HasHeap l s records c.rows image
  in_writing image left = besides_survives d rs (HasHeap l s records c.rows) may.holds.parts (heap_survives l s records c.rows rs spared) image left

  abbrev shows_old : (image : List ℕ) → ImageBut d rs image → ShowsHeap l s records image
  shows_old image from_before = record {
    slot = c.slot;
    control = old;
    shows = shows_survives l c.slot old rs (front 64 2096 (omega arith)) from_before.0 image (may.holds.steady.shows from_before.0 from_before.1) from_before.2;
    current = refl;
    unsettled = may.holds.unsettled;
    parts = in_writing image from_before;
  }

  abbrev Either : List ℕ → Type 0
  Either = ShowsEitherHeap l s records c.rows heap later rows

  pub either_before : Always d Either
  either_before image left = inl (record { heap = shows_old image (besides_none d rs image left); rows_are = refl })

  written_within : (i : ℕ) → IsClear i (step_ranges l) → IsClear i rs
  written_within i clear = both (cell_ranges l cells) (fresh_ranges l from fresh l.lanes) (cells_clear cells (λ k e lt. (All-get_or (IsValueIn l heap) cells k e lt may.values).field)) (fresh_clear l may.holds.limits from fresh l.lanes i (omega arith) clear)
    where
      both : (xs ys : List Range) → IsClear i xs → IsClear i ys → IsClear i (xs ++ ys)
      both [] ys a b = b
      both (x ∷ xs) ys a b = (a.0, both xs ys a.1 b)

      cells_clear : (xs : List HomeValue) → ((k : ℕ) (e : HomeValue) → k < length xs → (get_or xs k e).field.0 < l.fields) → IsClear i (cell_ranges l xs)
      cells_clear [] low = tt
      cells_clear (x ∷ xs) low = ((cell_clear l x.field.0 i (low 0 x (omega arith)) clear).0, cells_clear xs (λ k e lt. low (suc k) e (omega (arith, lt))))

  module _ (d2 : Device) (writing : LeavesOnly d d2 (ImageBut d rs)) where
    but : Always d2 (ImageBut d rs)
    but = now_too d d2 (ImageBut d rs) (besides_none d rs) writing

    pub writing_shows : LeavesOnly d d2 Either
    writing_shows = weaker d d2 (ImageBut d rs) Either (λ image left. inl (record { heap = shows_old image left; rows_are = refl })) writing

    pub writing_up_to : LeavesOnly d d2 (ShowsUpTo l (c.sequence + 1))
    writing_up_to = (stays_up_to l (c.sequence + 1) d d2 rs (front 64 2096 (omega arith)) (steady_up_to l d c.slot old (c.sequence + 1) may.holds.steady (omega arith)) writing).0

    pub writing_within : LeavesOnly d d2 (ImageBut d (step_ranges l))
    writing_within = within l d d2 rs written_within writing

    pub steady_written : IsSteady l d2 c.slot old
    steady_written = steady_stays l d d2 c.slot old rs (front 64 2096 (omega arith)) may.holds.steady but

    parts_still : Always d2 (HasHeap l s records c.rows)
    parts_still image left = in_writing image (but image left)

    module _ (values : (f : ℕ) → Contains (fields_of cells) f → HasCell l f d2.now.bytes (heap f))
        (has : (lane : ℕ) → lane < l.lanes → HasRecords l lane (row_of from lane).logged d2.now.bytes (fresh lane)) (same : SameOutside rs d.now.bytes d2.now.bytes) where
      were : HasHeap l s records c.rows d2.now.bytes
      were = always_now d2 (HasHeap l s records c.rows) parts_still

      -- the lane's records that stay, and behind them the new ones
      stays_here : (lane : ℕ) (lt : lane < l.lanes) → HasRecords l lane (row_of rows lane).start d2.now.bytes (may.lanes lane lt).stay
      stays_here lane lt =
          let g = may.lanes lane lt in
          elim g.begins [
            | inl none ↦ subst (HasRecords l lane (row_of rows lane).start d2.now.bytes) (sym none) tt
            | inr at ↦
                let before : HasRecords l lane (row_of c.rows lane).start d2.now.bytes (g.given ++ g.stay) = subst (HasRecords l lane (row_of c.rows lane).start d2.now.bytes) g.were (were.live.live lane lt).each in
                subst (λ (k : ℕ). HasRecords l lane k d2.now.bytes g.stay) (sym at) (has_later l lane (row_of c.rows lane).start d2.now.bytes g.given g.stay before)
          ]

      live_next : HasLive l d2.now.bytes rows (undo_logs later)
      live_next = record {
        live = λ lane lt.
            let g = may.lanes lane lt in
            let all : HasRecords l lane (row_of rows lane).start d2.now.bytes (g.stay ++ fresh lane) = has_append l lane (row_of rows lane).start d2.now.bytes g.stay (fresh lane) (stays_here lane lt)
            (subst (λ (k : ℕ). HasRecords l lane k d2.now.bytes (fresh lane)) g.behind (has lane lt)) in
            record {
              size = omega (arith, g.behind, g.ends, ap (λ (xs : List UndoRecord). length xs) g.are, length-append g.stay (fresh lane));
              each = subst (HasRecords l lane (row_of rows lane).start d2.now.bytes) (sym g.are) all;
            };
        others = may.others;
      }

      -- a cell that the round leaves alone is as it was
      home_next : (f : ℕ) → f < l.fields → s.is_logged f ≡ true → (has_store f later ≡ true) ⊎ HasCell l f d2.now.bytes (heap f)
      home_next f low is = elim (may.homes f low is) [
        | inl stored ↦ inl stored
        | inr (inl h) ↦ inr (values f h)
        | inr (inr holds) ↦ elim (among l cells f) [
          | inl h ↦ inr (values f h)
          | inr away ↦ inr (cell_survives l f (heap f) rs (apart_both (cell_at l f) 8 (cell_ranges l cells) (fresh_ranges l from fresh l.lanes) away
              (front_apart l from fresh may.holds.limits each_row each_fits (cell_at l f) 8 (omega (arith, low)))) d.now.bytes d2.now.bytes holds same)
        ]
      ]

      parts_next : HasHeap l t later rows d2.now.bytes
      parts_next = record {
        room = were.room;
        header = were.header;
        guards = were.guards;
        guarded = were.guarded;
        rows_of = record { guard = were.rows_of.guard; mark = were.rows_of.mark; first = λ f low off. were.rows_of.first f low off ∙ sym (may.transient f low off) };
        live = live_next;
        homes = home_next;
      }

      module _ (sequence : ℕ) (d3 : Device) (committing : LeavesOnly d2 d3 (OldOrTurned l d2 c.slot old (control_of sequence rows))) where
        in_commit : (image : List ℕ) → OldOrTurned l d2 c.slot old (control_of sequence rows) image → Either image
        in_commit image turned = elim turned.shows [
          | inl shows ↦ inl (record {
            heap = record {
              slot = c.slot;
              control = old;
              shows = shows;
              current = refl;
              unsettled = may.holds.unsettled;
              parts = besides_survives d2 (slots_range ∷ []) (HasHeap l s records c.rows) parts_still (heap_survives l s records c.rows (slots_range ∷ []) (slots_spared l records c.rows)) image turned.from;
            };
            rows_are = refl;
          })
          | inr shows ↦ inr (record {
            heap = record {
              slot = other c.slot;
              control = control_of sequence rows;
              shows = shows.0;
              current = refl;
              unsettled = may.unsettled;
              parts = heap_survives l t later rows (slots_range ∷ []) (slots_spared l later rows) d2.now.bytes image parts_next shows.1;
            };
            rows_are = refl;
          })
        ]

        pub round_shows : LeavesOnly d d3 Either
        round_shows = and_then d d2 d3 Either writing_shows (weaker d2 d3 (OldOrTurned l d2 c.slot old (control_of sequence rows)) Either in_commit committing)

        pub round_done : d3.now.pending ≡ [] → SameOutside (slots_range ∷ []) d2.now.bytes d3.now.bytes → IsSteady l d3 (other c.slot) (control_of sequence rows)
            → IsHeapOn l t later (record { slot = other c.slot; sequence = sequence; rows = rows }) d3
        round_done rest turned steady = record {
          limits = may.holds.limits;
          room = omega (arith, may.holds.room, same.size, turned.size);
          unsettled = may.unsettled;
          steady = steady;
          parts = always_only d3 (HasHeap l t later rows) rest (heap_survives l t later rows (slots_range ∷ []) (slots_spared l later rows) d2.now.bytes d3.now.bytes parts_next turned);
        }
