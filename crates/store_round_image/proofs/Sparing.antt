-- What a change of some ranges leaves of an image's heap and live records.
use Rattle.std.proofs.Common.{ℕ, ◌≡◌, ◌+◌, ◌*◌, ◌<◌, ◌≤◌, ◌⊎◌, true, List, [], ◌∷◌, ◌++◌, reverse, inl, inr, arith}
use Rattle.heap_model.specs.declared.record.Record.{Record}
use Rattle.heap_model.specs.Setting.{Setting}
use Rattle.block_disk.specs.Device.{Range}
use Rattle.block_disk.specs.Images.{IsApart, Survives}
use Rattle.image.specs.Commit.{slots_range}
use Rattle.image_parts.specs.Layout.{cell_at, record_at}
use Rattle.image_parts.specs.declared.lane_row.LaneRow.{LaneRow}
use Rattle.image_parts.specs.declared.layout.Layout.{Layout}
use Rattle.image_parts.proofs.Places.{header_survives, guards_survive, cell_survives}
use Rattle.undo_log.specs.Dropped.{undo_logs}
use Rattle.undo_log.specs.StandsFor.{row_of}
use Rattle.undo_log.proofs.Frames.{records_survive}
use Rattle.heap_model.specs.Past.{has_store}
use Rattle.store_helper_sections.specs.Image.{HasHeap}

-- the ranges lie apart from what never changes, from each live record, and from the cells of fields to which no live record stores
pub record Spared (l : Layout) (records : List (ℕ × Record)) (rows : List LaneRow) (rs : List Range) : Type 0 where
  pub header : IsApart 0 64 rs
  pub guards : IsApart 2160 (16 * l.fields) rs
  pub live : (lane place : ℕ) → lane < l.lanes → (row_of rows lane).start ≤ place → place < (row_of rows lane).logged → IsApart (record_at l lane place) 16 rs
  pub cells : (f : ℕ) → f < l.fields → (has_store f records ≡ true) ⊎ IsApart (cell_at l f) 8 rs

pub heap_survives : (l : Layout) (s : Setting) (records : List (ℕ × Record)) (rows : List LaneRow) (rs : List Range) → Spared l records rows rs → Survives rs (HasHeap l s records rows)
heap_survives l s records rows rs spared old new has same = record {
  room = omega (arith, has.room, same.size);
  header = header_survives l rs spared.header old new has.header same;
  guards = has.guards;
  guarded = guards_survive l has.guards rs spared.guards old new has.guarded same;
  rows_of = has.rows_of;
  live = record {
    live = λ lane below. record {
      size = (has.live.live lane below).size;
      each = records_survive l lane (row_of rows lane).start (reverse (undo_logs records lane)) rs
          (λ i lt. spared.live lane ((row_of rows lane).start + i) below (omega arith) (omega (arith, lt, (has.live.live lane below).size)))
          old new (has.live.live lane below).each same;
    };
    others = has.live.others;
  };
  homes = λ f below is. elim (has.homes f below is) [
    | inl stored ↦ inl stored
    | inr holds ↦ elim (spared.cells f below) [
      | inl stored ↦ inl stored
      | inr apart ↦ inr (cell_survives l f (s.first f) rs apart old new holds same)
    ]
  ];
}

-- what lies apart of each of two lists of ranges lies apart of both
pub apart_both : (at n : ℕ) (rs ss : List Range) → IsApart at n rs → IsApart at n ss → IsApart at n (rs ++ ss)
apart_both at n [] ss a b = b
apart_both at n (r ∷ rs) ss a b = (a.0, apart_both at n rs ss a.1 b)

-- the slots lie between the header and the guard rows
pub slots_before : (at n : ℕ) → 2160 ≤ at → IsApart at n (slots_range ∷ [])
slots_before at n behind = (inr (omega arith), tt)

pub slots_spared : (l : Layout) (records : List (ℕ × Record)) (rows : List LaneRow) → Spared l records rows (slots_range ∷ [])
slots_spared l records rows = record {
  header = (inl (omega arith), tt);
  guards = slots_before 2160 (16 * l.fields) (omega arith);
  live = λ lane place below from to. slots_before (record_at l lane place) 16 (omega arith);
  cells = λ f below. inr (slots_before (cell_at l f) 8 (omega arith));
}
