-- A copy of a disk's bytes, piece by piece (this project's own).
use Rattle.std.specs.Prelude.{ℕ, ◌≡◌, List, ◌++◌, drop, length}
use Rattle.block_disk.specs.Bytes.{part}

-- The buffer gets the bytes of the image from this place on, as many as there are and it has room for; after them it stays as it was.
pub record CopiesFrom (image : List ℕ) (at : ℕ) (buffer filled : List ℕ) (count : ℕ) : Type 0 where
  pub bytes : filled ≡ part at (length buffer) image ++ drop count buffer
  pub counted : count ≡ length (part at (length buffer) image)
