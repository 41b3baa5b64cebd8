-- The sectors of a batch, as they are written: whole pages, each of whose sectors has the stamp (docs/FORMAT.md, "A journal in two halves").
use Rattle.std.specs.Prelude.{ℕ, zero, suc, ◌+◌, ◌*◌, ◌/◌, ◌^◌, ◌<◌, ◌≤◌, List, [], ◌∷◌, ◌++◌, length, take, drop, replicate, All}
use Rattle.std.specs.Int.{to_be_bytes, w64}
use Rattle.journal_batches.specs.declared.areas.Areas.{Areas}
use Rattle.journal_batches.specs.declared.entry.Entry.{Entry}
use Rattle.journal_batches.specs.Areas.{half_bytes}
use Rattle.journal_batches.specs.Batches.{sectors_for}
use Rattle.journal_batches.specs.Entries.{entries_bytes}

-- n bytes: these, and zeros behind them
abbrev pub padded : (n : ℕ) → List ℕ → List ℕ
padded n bytes = take n (bytes ++ replicate n 0)

-- one sector: the stamp, the count, and at most 31 entries
abbrev pub sector_bytes : (stamp count : ℕ) → List Entry → List ℕ
sector_bytes stamp count entries = to_be_bytes w64 stamp ++ to_be_bytes w64 count ++ padded 496 (entries_bytes (take 31 entries))

-- n sectors
abbrev pub sectors_bytes : (n stamp count : ℕ) → List Entry → List ℕ
sectors_bytes zero stamp count entries = []
sectors_bytes (suc n) stamp count entries = sector_bytes stamp count entries ++ sectors_bytes n stamp count (drop 31 entries)

-- how many pages so many entries take
abbrev pub pages_for : (count : ℕ) → ℕ
pages_for count = (sectors_for count + 7) / 8

-- all pages of a batch
abbrev pub spelled : (stamp : ℕ) → List Entry → List ℕ
spelled stamp entries = sectors_bytes (pages_for (length entries) * 8) stamp (length entries) entries

-- the numbers of each entry are ones of eight bytes
abbrev pub AreWords : List Entry → Type 0
AreWords entries = All (λ e. (e.at < 2 ^ 64) × (e.word < 2 ^ 64)) entries

-- the batch can be written: it fits into a half, and its numbers into eight bytes
pub record CanSpell (a : Areas) (stamp : ℕ) (entries : List Entry) : Type 0 where
  pub fits : pages_for (length entries) * 4096 ≤ half_bytes a
  pub stamp_fits : stamp < 2 ^ 64
  pub words : AreWords entries
  pub count_fits : length entries < 2 ^ 64
