-- The commit of a control over a device.
use Rattle.std.proofs.Common.{◌≡◌, ◌⊎◌, inl, inr, ⊎_elim, ℕ, ◌*◌, ◌≤◌, List, [], ◌∷◌, length, arith}
use Rattle.heap_model.specs.declared.record.Record.{Record}
use Rattle.heap_model.specs.Setting.{Setting}
use Rattle.block_disk.specs.Device.{Range, Device}
use Rattle.block_disk.specs.Images.{Always, ImageBut, IsApart, LeavesOnly}
use Rattle.block_disk.proofs.Images.{always_only, besides_only, besides_survives, image_now, now_too, weaker}
use Rattle.image_parts.specs.Cells.{HasCell}
use Rattle.image.specs.Commit.{IsSteady, OldOrNew}
use Rattle.image_parts.specs.Layout.{cell_at, record_at}
use Rattle.image_parts.specs.Slots.{other, slot_range}
use Rattle.image_parts.specs.declared.control.Control.{Control}
use Rattle.image_parts.specs.declared.layout.Layout.{Layout}
use Rattle.image_parts.specs.declared.slot.Slot.{Slot}
use Rattle.image_parts.specs.declared.slot.Slot.TheVariants.{A, B}
use Rattle.image.proofs.Commits.{steady_before}
use Rattle.image_parts.proofs.Places.{cell_survives}
use Rattle.heap_model.specs.Past.{Past}
use Rattle.store_image.specs.Consistent.{TellsCut, HasParts, ShowsPast}
use Rattle.store_image.proofs.Parts.{Spared, parts_survive}

-- a slot lies between the header and the guard rows
pub slot_before : (t : Slot) (at n : ℕ) → 2160 ≤ at → IsApart at n (slot_range t ∷ [])
slot_before A at n behind = (inr (omega arith), tt)
slot_before B at n behind = (inr (omega arith), tt)

slot_behind : (t : Slot) → IsApart 0 64 (slot_range t ∷ [])
slot_behind A = (inl (omega arith), tt)
slot_behind B = (inl (omega arith), tt)

pub slot_spared : (l : Layout) (s : Setting) (log : List (ℕ × Record)) (base cut : ℕ → ℕ) (t : Slot) → Spared l s log base cut (slot_range t ∷ [])
slot_spared l s log base cut t = record {
  header = slot_behind t;
  guards = slot_before t 2160 (16 * l.fields) (omega arith);
  live = λ lane place below from to. slot_before t (record_at l lane place) 16 (omega arith);
  cells = λ f below. inr (slot_before t (cell_at l f) 8 (omega arith));
}

module _ (l : Layout) (s : Setting) (slot : Slot) (old new : Control) (currents : (old.version ≡ 2) × (new.version ≡ 2)) (d : Device) (steady : IsSteady l d slot old)
    (p : Past) (tells : TellsCut l p.logged p.base p.cut old.rows) (parts : Always d (HasParts l s p.logged p.base p.cut))
    (q : Past) (tells_new : TellsCut l q.logged q.base q.cut new.rows) (parts_new : Always d (HasParts l s q.logged q.base q.cut))
    (e : Device) (committing : LeavesOnly d e (OldOrNew l d slot old new)) where
  abbrev rs : List Range
  rs = slot_range (other slot) ∷ []

  still : (log : List (ℕ × Record)) (base cut : ℕ → ℕ) → Always d (HasParts l s log base cut) → (image : List ℕ) → ImageBut d rs image → HasParts l s log base cut image
  still log base cut has image from = besides_survives d rs (HasParts l s log base cut) has (parts_survive l s log base cut rs (slot_spared l s log base cut (other slot))) image from

  -- the past by the old control, or by the new one
  abbrev Either : List ℕ → Type 0
  Either image = ShowsPast l s p image ⊎ ShowsPast l s q image

  in_commit : (image : List ℕ) → OldOrNew l d slot old new image → Either image
  in_commit image c = ⊎_elim
      (λ shows. inl (record { slot = slot; control = old; shows = shows; current = currents.0; tells = tells; parts = still p.logged p.base p.cut parts image c.from }))
      (λ shows. inr (record { slot = other slot; control = new; shows = shows; current = currents.1; tells = tells_new; parts = still q.logged q.base q.cut parts_new image c.from }))
      c.shows

  -- at every moment, whatever it answers
  pub commit_shows : LeavesOnly d e Either
  commit_shows = weaker d e (OldOrNew l d slot old new) Either in_commit committing

  each : Always e (OldOrNew l d slot old new)
  each = now_too d e (OldOrNew l d slot old new) (steady_before l d slot old new steady) committing

  -- each image that may be left then has the new parts
  pub commit_has : Always e (HasParts l s q.logged q.base q.cut)
  commit_has image left = still q.logged q.base q.cut parts_new image (each image left).from

-- over a device on which nothing is pending
module _ (l : Layout) (s : Setting) (slot : Slot) (old new : Control) (currents : (old.version ≡ 2) × (new.version ≡ 2)) (d : Device) (steady : IsSteady l d slot old) (rest : d.now.pending ≡ [])
    (p : Past) (tells : TellsCut l p.logged p.base p.cut old.rows) (parts : HasParts l s p.logged p.base p.cut d.now.bytes)
    (q : Past) (tells_new : TellsCut l q.logged q.base q.cut new.rows) (parts_new : HasParts l s q.logged q.base q.cut d.now.bytes)
    (e : Device) (committing : LeavesOnly d e (OldOrNew l d slot old new)) where
  abbrev the_slot : List Range
  the_slot = slot_range (other slot) ∷ []

  every : (log : List (ℕ × Record)) (base cut : ℕ → ℕ) → HasParts l s log base cut d.now.bytes → Always d (HasParts l s log base cut)
  every log base cut has = always_only d (HasParts l s log base cut) rest has

  pub commit_leaves : LeavesOnly d e (λ image. ShowsPast l s p image ⊎ ShowsPast l s q image)
  commit_leaves = commit_shows l s slot old new currents d steady p tells (every p.logged p.base p.cut parts) q tells_new (every q.logged q.base q.cut parts_new) e committing

  -- each image that may be left then has the new parts, and the cells read as before
  pub commit_parts : Always e (HasParts l s q.logged q.base q.cut)
  commit_parts = commit_has l s slot old new currents d steady p tells (every p.logged p.base p.cut parts) q tells_new (every q.logged q.base q.cut parts_new) e committing

  left_now : ImageBut d the_slot e.now.bytes
  left_now = (now_too d e (OldOrNew l d slot old new) (steady_before l d slot old new steady) committing e.now.bytes (image_now e)).from

  pub commit_cells : (f v : ℕ) → HasCell l f d.now.bytes v → HasCell l f e.now.bytes v
  commit_cells f v holds =
      cell_survives l f v the_slot (slot_before (other slot) (cell_at l f) 8 (omega arith)) d.now.bytes e.now.bytes holds (besides_only d the_slot e.now.bytes rest left_now)

  pub commit_size : length e.now.bytes ≡ length d.now.bytes
  commit_size = (besides_only d the_slot e.now.bytes rest left_now).size
