-- Sets of numbers as bits, 64 a word (this project's own).
use Rattle.std.specs.Prelude.{ℕ, ◌≡◌, ◌/◌, ◌%◌, ◌<◌, ◌==◌, Bool, true, false, List, slice_index}
use Rattle.std.specs.Int.{bit_at}

-- the number is in the set
abbrev pub has_bit : List ℕ → ℕ → Bool
has_bit words i = bit_at (slice_index words (i / 64)) (i % 64) == 1

-- the least number of the set that is in this word
pub record IsLowestIn (words : List ℕ) (word least : ℕ) : Type 0 where
  pub there : least / 64 ≡ word
  pub among : has_bit words least ≡ true
  pub lowest : (i : ℕ) → i / 64 ≡ word → i < least → has_bit words i ≡ false

-- the first word that isn't 0
pub record IsFirstWord (words : List ℕ) (word : ℕ) : Type 0 where
  pub some : 0 < slice_index words word
  pub before : (v : ℕ) → v < word → slice_index words v ≡ 0
