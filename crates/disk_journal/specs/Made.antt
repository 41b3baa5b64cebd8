-- What the making of a journaled device does, step by step (this project's own).
use Rattle.std.specs.Prelude.{◌≡◌, ◌⊎◌, ℕ, ◌+◌, ◌≤◌, false, true, List, [], ◌∷◌, length, replicate}
use Rattle.block_disk.specs.Bytes.{spliced}
use Rattle.block_disk.specs.Device.{Device, SameOutside}
use Rattle.atomic_sectors.specs.Left.{Reads}
use Rattle.journal_batches.specs.declared.areas.Areas.{Areas}
use Rattle.journal_batches.specs.Areas.{half_bytes, half_of, home_of, image_bytes, room_of}
use Rattle.journal_batches.specs.Spelled.{spelled}

-- calls at each of whose moments what reads is as before, or that with this first sector
abbrev pub ChangesHead : (sector : List ℕ) → (old new : Device) → Type 0
ChangesHead sector old new = Reads (λ bytes. (bytes ≡ old.now.bytes) ⊎ (bytes ≡ spliced old.now.bytes 0 sector)) old new

-- calls at each of whose moments what reads is as before, but for the halves and the image's place
abbrev pub ChangesArea : Areas → (old new : Device) → Type 0
ChangesArea a old new =
    Reads (λ bytes. SameOutside (record { start = 4096; len = half_bytes a + half_bytes a + image_bytes a } ∷ []) old.now.bytes bytes) old new

-- an empty batch lies in the first half, and zeros behind it and in the other parts
pub record IsLaid (a : Areas) (bytes : List ℕ) : Type 0 where
  pub room : room_of a ≤ length bytes
  pub first : half_of a false bytes ≡ spliced (replicate (half_bytes a) 0) 0 (spelled 2 [])
  pub second : half_of a true bytes ≡ replicate (half_bytes a) 0
  pub home : home_of a bytes ≡ replicate (image_bytes a) 0
