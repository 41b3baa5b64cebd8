-- What each step of a store needs, and what the images that it leaves stand for.
use Rattle.std.specs.Prelude.{ℕ, ◌≡◌, ◌-◌, ◌<◌, true, false, List, [], ◌∷◌, reverse, slice_index}
use Rattle.heap_model.specs.declared.cut.Cut.{Cut}
use Rattle.heap_model.specs.declared.record.UndoRecord.{UndoRecord}
use Rattle.heap_model.specs.Setting.{Setting}
use Rattle.heap_model.specs.Log.{value}
use Rattle.heap_model.specs.Sections.{actions}
use Rattle.heap_model.specs.Cuts.{IsStable, counts_of}
use Rattle.undo_log.specs.Dropped.{undo_logs, records_in}
use Rattle.block_disk.specs.Device.{Device, Range}
use Rattle.image.specs.Commit.{slots_range}
use Rattle.image_parts.specs.Layout.{cell_at, size_of}
use Rattle.image_parts.specs.declared.layout.Layout.{Layout}
use Rattle.undo_log.specs.StandsFor.{row_of}
use Rattle.store_image.specs.NewRecords.{FitsLane}
use Rattle.heap_model.specs.Past.{Past}
use Rattle.store_image.specs.Consistent.{IsConsistent}
use Rattle.store_image.specs.declared.committed.Committed.{Committed}

-- the field is dirty, and this is its logged value
pub record MayGoHome (l : Layout) (s : Setting) (p : Past) (c : Committed) (d : Device) (f v : ℕ) : Type 0 where
  pub consistent : IsConsistent l s p c d
  pub field : f < l.fields
  pub dirty : p.is_dirty f ≡ true
  pub logged : v ≡ value s.first f p.logged

-- no field is dirty, and this is the stable cut, with the place after its sections in each lane
pub record MaySettle (l : Layout) (s : Setting) (p : Past) (c : Committed) (d : Device) (cut : Cut) (places : List ℕ) : Type 0 where
  pub consistent : IsConsistent l s p c d
  pub clean : (f : ℕ) → f < l.fields → p.is_dirty f ≡ false
  pub stable : IsStable (actions p.logged) (counts_of cut)
  pub behind : (lane : ℕ) → lane < l.lanes → slice_index places lane ≡ records_in (counts_of cut lane) (undo_logs p.logged lane)

-- these are the lanes' new records, the oldest first, and there is room for them
pub record MayLog (l : Layout) (s : Setting) (p : Past) (c : Committed) (d : Device) (fresh : ℕ → List UndoRecord) : Type 0 where
  pub consistent : IsConsistent l s p c d
  pub records : (lane : ℕ) → lane < l.lanes → fresh lane ≡ reverse (undo_logs p.fresh lane)
  pub fits : (lane : ℕ) → lane < l.lanes → FitsLane l (row_of c.rows lane) (fresh lane)

-- So it is for some past: what a call can ask for.
abbrev pub CanLog : Layout → Committed → Device → (fresh : ℕ → List UndoRecord) → Type 0
CanLog l c d fresh = (s : Setting) × (p : Past) × MayLog l s p c d fresh

abbrev pub CanSettle : Layout → Committed → Device → Cut → (places : List ℕ) → Type 0
CanSettle l c d cut places = (s : Setting) × (p : Past) × MaySettle l s p c d cut places

abbrev pub CanTrim : Layout → Committed → Device → Type 0
CanTrim l c d = (s : Setting) × (p : Past) × IsConsistent l s p c d

-- where steps write: the slots of the control, and from the home cells to the image's end
abbrev pub step_ranges : Layout → List Range
step_ranges l = slots_range ∷ record { start = cell_at l 0; len = size_of l - cell_at l 0 } ∷ []
