-- What the codec reads and makes (this project's own).
use Rattle.std.specs.Prelude.{◌≡◌, ℕ, ◌+◌, ◌*◌, ◌≤◌, List, length, Option, IfSome, option_map}
use Rattle.journal_batches.specs.declared.codec.Found.{Found}
use Rattle.journal_batches.specs.Batches.{Batch, batch_in, stamp_at}
use Rattle.journal_batches.specs.Spelled.{AreWords}

-- the batch that was found
abbrev pub batch_of : Found → Batch
batch_of found = record { stamp = found.stamp; entries = found.entries.items }

-- it is the one that the half holds; or none was found, and it holds none
abbrev pub IsBatchOf : (half : List ℕ) → Option Found → Type 0
IsBatchOf half found = option_map batch_of found ≡ batch_in half

-- its entries have numbers of eight bytes
abbrev pub HasWords : Option Found → Type 0
HasWords found = IfSome found (λ f. AreWords f.entries.items)

-- one of the half's sectors has this stamp
abbrev pub HasStamp : (stamp : ℕ) → List ℕ → Type 0
HasStamp stamp half = (i : ℕ) × (i * 512 + 512 ≤ length half) × (stamp_at i half ≡ stamp)
