-- What a crash may leave between two contents of a journaled device (this project's own).
use Rattle.std.specs.Prelude.{◌≡◌, ◌⊎◌, ℕ, ◌+◌, ◌*◌, ◌≤◌, List, length, slice_index}
use Rattle.journal_batches.specs.declared.areas.Areas.{Areas}
use Rattle.journal_batches.specs.Areas.{image_at}
use Rattle.atomic_sectors.specs.Sectors.{sector}

-- as many bytes; each sector before the image is that of the old content or of the new one, and so is each byte
pub record IsBetween (a : Areas) (old new image : List ℕ) : Type 0 where
  pub size : length image ≡ length old
  pub sectors : (i : ℕ) → i * 512 + 512 ≤ image_at a → (sector i image ≡ sector i old) ⊎ (sector i image ≡ sector i new)
  pub bytes : (i : ℕ) → (slice_index image i ≡ slice_index old i) ⊎ (slice_index image i ≡ slice_index new i)
