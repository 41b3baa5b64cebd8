-- A store and its device agree: every image that a crash may leave shows what became of the store's past (this project's own).
use Rattle.std.specs.Prelude.{ℕ, ◌≡◌, ◌<◌, ◌≤◌, ◌⊎◌, true, false, List, [], length, reverse}
use Rattle.heap_model.specs.declared.record.Record.{Record}
use Rattle.heap_model.specs.Setting.{Setting}
use Rattle.heap_model.specs.Log.{value}
use Rattle.heap_model.specs.KeptHeap.{kept_value}
use Rattle.heap_model.specs.Base.{records_since}
use Rattle.block_disk.specs.Device.{Device}
use Rattle.block_disk.specs.Images.{Always}
use Rattle.image_parts.specs.Cells.{HasCell}
use Rattle.image.specs.Commit.{IsSteady}
use Rattle.image_parts.specs.Control.{control_of}
use Rattle.image_parts.specs.Guards.{HasGuards}
use Rattle.image_parts.specs.Header.{HasHeader}
use Rattle.image_parts.specs.Layout.{IsLayout, size_of}
use Rattle.image_parts.specs.Slots.{Shows}
use Rattle.image_parts.specs.declared.control.Control.{Control}
use Rattle.image_parts.specs.declared.guard_row.GuardRow.{GuardRow}
use Rattle.image_parts.specs.declared.lane_row.LaneRow.{LaneRow}
use Rattle.image_parts.specs.declared.layout.Layout.{Layout}
use Rattle.image_parts.specs.declared.slot.Slot.{Slot}
use Rattle.undo_log.specs.Area.{HasRecords}
use Rattle.undo_log.specs.Dropped.{undo_logs, records_in, IsDropped}
use Rattle.undo_log.specs.StandsFor.{AreRowsOf, row_of}
use Rattle.heap_model.specs.Past.{Past, IsPast, applied}
use Rattle.store_image.specs.declared.committed.Committed.{Committed}

-- The rows of a control tell of this log, of what of it was trimmed, and of what is acknowledged. A place counts a lane's records: `start` is behind the trimmed sections, `settled`
-- behind the acknowledged ones, and `logged` behind the last that was logged.
pub record TellsCut (l : Layout) (log : List (ℕ × Record)) (base cut : ℕ → ℕ) (rows : List LaneRow) : Type 0 where
  pub start : (lane : ℕ) → lane < l.lanes → (row_of rows lane).start ≡ records_in (base lane) (undo_logs log lane)
  pub settled : (lane : ℕ) → lane < l.lanes → (row_of rows lane).settled ≡ records_in (cut lane) (undo_logs log lane)
  pub logged : (lane : ℕ) → lane < l.lanes → (row_of rows lane).logged ≡ length (undo_logs log lane)
  pub kept : (lane : ℕ) → lane < l.lanes → (row_of rows lane).kept ≡ cut lane

-- The image has all that they want of it but for the control: header and guard rows as they were made, the lanes'
-- live records, and in the home cell of each logged field the kept value, or anything where a store to it was dropped.
pub record HasParts (l : Layout) (s : Setting) (log : List (ℕ × Record)) (base cut : ℕ → ℕ) (image : List ℕ) : Type 0 where
  pub room : size_of l ≤ length image
  pub header : HasHeader image l
  pub guards : List GuardRow
  pub guarded : HasGuards l image guards
  pub rows : AreRowsOf l.fields guards s
  pub live : (lane : ℕ) → lane < l.lanes → HasRecords l lane (records_in (base lane) (undo_logs log lane)) image (reverse (undo_logs (records_since base log) lane))
  pub homes : (f : ℕ) → f < l.fields → s.is_logged f ≡ true → IsDropped (s.guard f) f log cut ⊎ HasCell l f image (kept_value s.first cut f log)

-- the image shows this past, by the control that counts and all else
pub record ShowsPast (l : Layout) (s : Setting) (p : Past) (image : List ℕ) : Type 0 where
  pub slot : Slot
  pub control : Control
  pub shows : Shows l image slot control
  -- of version 2, since recovery doesn't take the older one
  pub current : control.version ≡ 2
  pub tells : TellsCut l p.logged p.base p.cut control.rows
  pub parts : HasParts l s p.logged p.base p.cut image

-- the image shows the one past or the other
abbrev pub ShowsEither : Layout → Setting → (p q : Past) → List ℕ → Type 0
ShowsEither l s p q image = ShowsPast l s p image ⊎ ShowsPast l s q image

-- The store has this past and this control, and its device is this one.
pub record IsConsistent (l : Layout) (s : Setting) (p : Past) (c : Committed) (d : Device) : Type 0 where
  pub limits : IsLayout l
  pub room : size_of l ≤ length d.now.bytes
  pub past : IsPast s p
  -- the records are those of the image's lanes
  pub lanes : (lane : ℕ) → l.lanes ≤ lane → undo_logs (applied p) lane ≡ []
  pub tells : TellsCut l p.logged p.base p.cut c.rows
  pub steady : IsSteady l d c.slot (control_of c.sequence c.rows)
  pub parts : Always d (HasParts l s p.logged p.base p.cut)
  -- a dirty field has a logged store beyond the acknowledged cut, and the cell of each other logged one reads as its logged value
  pub dirty : (f : ℕ) → f < l.fields → p.is_dirty f ≡ true → IsDropped (s.guard f) f p.logged p.cut
  pub clean : (f : ℕ) → f < l.fields → p.is_dirty f ≡ false → s.is_logged f ≡ true → HasCell l f d.now.bytes (value s.first f p.logged)
