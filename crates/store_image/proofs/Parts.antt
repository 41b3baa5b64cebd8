-- What a change of some ranges leaves of an image's parts.
use Rattle.std.proofs.Common.{ℕ, ◌⊎◌, ◌+◌, ◌*◌, ◌<◌, ◌≤◌, List, length, reverse, ⊎_elim, inl, inr, arith}
use Rattle.std.proofs.lemmas.List.{length-reverse}
use Rattle.heap_model.specs.declared.record.Record.{Record}
use Rattle.heap_model.specs.Setting.{Setting}
use Rattle.heap_model.specs.KeptHeap.{kept_value}
use Rattle.heap_model.specs.Base.{records_since}
use Rattle.block_disk.specs.Device.{Range}
use Rattle.block_disk.specs.Images.{IsApart, Survives}
use Rattle.image_parts.specs.Layout.{cell_at, record_at}
use Rattle.image_parts.specs.declared.layout.Layout.{Layout}
use Rattle.image_parts.proofs.Places.{header_survives, guards_survive, cell_survives}
use Rattle.undo_log.specs.Dropped.{undo_logs, records_in, IsDropped}
use Rattle.undo_log.proofs.Frames.{records_survive}
use Rattle.store_image.specs.Consistent.{HasParts}
use Rattle.store_image.proofs.Places.{live_size}

-- the ranges lie apart from what never changes, from each live record, and from the cells of fields with no dropped store
pub record Spared (l : Layout) (s : Setting) (log : List (ℕ × Record)) (base cut : ℕ → ℕ) (rs : List Range) : Type 0 where
  pub header : IsApart 0 64 rs
  pub guards : IsApart 2160 (16 * l.fields) rs
  pub live : (lane place : ℕ) → lane < l.lanes → records_in (base lane) (undo_logs log lane) ≤ place → place < length (undo_logs log lane) → IsApart (record_at l lane place) 16 rs
  pub cells : (f : ℕ) → f < l.fields → IsDropped (s.guard f) f log cut ⊎ IsApart (cell_at l f) 8 rs

pub parts_survive : (l : Layout) (s : Setting) (log : List (ℕ × Record)) (base cut : ℕ → ℕ) (rs : List Range) → Spared l s log base cut rs → Survives rs (HasParts l s log base cut)
parts_survive l s log base cut rs spared old new has same = record {
  room = omega (arith, has.room, same.size);
  header = header_survives l rs spared.header old new has.header same;
  guards = has.guards;
  guarded = guards_survive l has.guards rs spared.guards old new has.guarded same;
  rows = has.rows;
  live = λ lane below. records_survive l lane (records_in (base lane) (undo_logs log lane)) (reverse (undo_logs (records_since base log) lane)) rs
      (λ i lt. spared.live lane (records_in (base lane) (undo_logs log lane) + i) below (omega arith)
      (omega (arith, length-reverse (undo_logs (records_since base log) lane), live_size base lane log)))
      old new (has.live lane below) same;
  homes = λ f below is. ⊎_elim (λ dropped. inl dropped)
      (λ holds. ⊎_elim (λ dropped. inl dropped) (λ apart. inr (cell_survives l f (kept_value s.first cut f log) rs apart old new holds same)) (spared.cells f below))
      (has.homes f below is);
}
