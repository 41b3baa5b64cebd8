-- Which fields have a logged store newer than their last home write (this project's own).
use Rattle.std.specs.Prelude.{ℕ, ◌≡◌, ◌+◌, ◌/◌, ◌^◌, ◌<◌, Bool, true, false, nat_lt, List, length, slice_index}
use Rattle.store_memory.specs.Bits.{has_bit}

-- a set of so many fields, as bits, 64 a word
pub record DirtySet : Type 0 where
  pub fields : ℕ
  pub words : List ℕ

-- the field is dirty
abbrev pub is_dirty_in : DirtySet → (field : ℕ) → Bool
is_dirty_in d f = has_bit d.words f

-- the least dirty field
pub record IsLeastDirty (d : DirtySet) (least : ℕ) : Type 0 where
  pub field : least < d.fields
  pub among : is_dirty_in d least ≡ true
  pub lowest : (f : ℕ) → f < least → is_dirty_in d f ≡ false

-- each field has a bit, each word has a bit in the summary, and there those of the words that aren't 0 are set
pub record IsSummed (fields : ℕ) (words summary : List ℕ) : Type 0 where
  pub small : fields < 2 ^ 32
  pub long : length words ≡ fields / 64 + 1
  pub short : length summary ≡ (fields / 64 + 1) / 64 + 1
  pub sums : (w : ℕ) → has_bit summary w ≡ nat_lt 0 (slice_index words w)
  pub low : (f : ℕ) → has_bit words f ≡ true → f < fields
