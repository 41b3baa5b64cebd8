-- The batch that a half holds, if all its sectors are there (docs/FORMAT.md, "A journal in two halves"). Each sector has the batch's stamp, the number of its
-- entries, and 31 entries; a stamp means one batch for ever.
use Rattle.std.specs.Prelude.{ℕ, zero, suc, ◌+◌, ◌*◌, ◌/◌, ◌==◌, ◌&&◌, ◌<◌, ◌≤◌, max, nat_le, if◌then◌else◌, Bool, true, List, [], ◌∷◌, ◌++◌, length, take, drop, Option, Some, None}
use Rattle.std.specs.Int.{from_be_bytes, w64}
use Rattle.block_disk.specs.Bytes.{part}
use Rattle.journal_batches.specs.declared.areas.Areas.{Areas}
use Rattle.journal_batches.specs.declared.entry.Entry.{Entry}
use Rattle.journal_batches.specs.Areas.{half_bytes, half_of}

-- a batch
pub record Batch : Type 0 where
  pub stamp : ℕ
  pub entries : List Entry

-- how many sectors so many entries take
abbrev pub sectors_for : (count : ℕ) → ℕ
sectors_for count = max 1 ((count + 30) / 31)

-- the number in the first eight bytes
abbrev pub number : List ℕ → ℕ
number bytes = from_be_bytes w64 (take 8 bytes)

-- the stamp of sector i of a half
abbrev pub stamp_at : (i : ℕ) → List ℕ → ℕ
stamp_at i half = number (drop (i * 512) half)

-- how many entries the first sector tells of
abbrev pub count_in : List ℕ → ℕ
count_in half = number (drop 8 half)

-- the first n sectors have this stamp
abbrev pub all_stamped : (n stamp : ℕ) → List ℕ → Bool
all_stamped zero stamp half = true
all_stamped (suc n) stamp half = (number half == stamp) && all_stamped n stamp (drop 512 half)

-- the batch that the first sector tells of fits, and all its sectors have one stamp
abbrev pub is_complete : List ℕ → Bool
is_complete half = nat_le (sectors_for (count_in half) * 512) (length half) && all_stamped (sectors_for (count_in half)) (number half) half

-- the first n entries in these bytes
abbrev pub entries_from : (n : ℕ) → List ℕ → List Entry
entries_from zero bytes = []
entries_from (suc n) bytes = record { at = number bytes; word = number (drop 8 bytes) } ∷ entries_from n (drop 16 bytes)

-- all entries of the first n sectors
abbrev pub entries_in : (n : ℕ) → List ℕ → List Entry
entries_in zero half = []
entries_in (suc n) half = entries_from 31 (drop 16 half) ++ entries_in n (drop 512 half)

-- the batch that a half holds
abbrev pub batch_in : List ℕ → Option Batch
batch_in half = if is_complete half then Some (record { stamp = number half; entries = take (count_in half) (entries_in (sectors_for (count_in half)) half) }) else None

-- no sector of a half has a later stamp
abbrev pub StampsUpTo : (top : ℕ) → List ℕ → Type 0
StampsUpTo top half = (i : ℕ) → i * 512 + 512 ≤ length half → stamp_at i half ≤ top

-- nor one of either half
abbrev pub AllUpTo : Areas → (top : ℕ) → List ℕ → Type 0
AllUpTo a top bytes = (second : Bool) → StampsUpTo top (half_of a second bytes)
