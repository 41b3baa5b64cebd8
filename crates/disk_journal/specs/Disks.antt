-- A disk over a journaled device, as clauses see it (this project's own).
use Rattle.std.specs.Prelude.{◌≡◌, ◌⊎◌, ℕ, ◌-◌, ◌*◌, ◌^◌, ◌≤◌, Bool, List, []}
use Rattle.block_disk.specs.Device.{Device, Image}
use Rattle.journal_batches.specs.declared.areas.Areas.{Areas}
use Rattle.journal_batches.specs.Areas.{half_bytes}
use Rattle.journal_batches.specs.Shown.{shown}
use Rattle.journal_batches.specs.Spelled.{pages_for}
use Rattle.disk_journal.specs.Stands.{Stands}

-- the disk: the device that it is, the device that it lies on, its parts, how many words were written since the last sync, each counted once, the stamp of its
-- newest batch, and whether a call has failed after which it writes no more
pub record Layered : Type 0 where
  pub device : Device
  pub disk : Device
  pub areas : Areas
  pub waiting : ℕ
  pub stamp : ℕ
  pub is_over : Bool

-- the words that wait fit into one batch
abbrev pub FitsBatch : Layered → Type 0
FitsBatch d = pages_for d.waiting * 4096 ≤ half_bytes d.areas

-- the numbers of batches have come to their end
abbrev pub IsSpent : Layered → Type 0
IsSpent d = 2 ^ 64 - 4 ≤ d.stamp

-- an image that stands for one which a crash of the disk may leave now
abbrev pub ShowsDisk : Layered → List ℕ → Type 0
ShowsDisk d = Stands d.areas d.disk.now.bytes (λ image. Image d.device.now image)

-- an image that stands for what the disk had at its last sync, or for what it has now
abbrev pub ShowsOldOrNew : Layered → List ℕ → Type 0
ShowsOldOrNew d = Stands d.areas d.disk.now.bytes (λ image. (image ≡ shown d.areas d.disk.now.bytes) ⊎ (image ≡ d.device.now.bytes))

-- all that the disk has is durable
pub record IsSettled (d : Layered) : Type 0 where
  pub durable : d.disk.now.pending ≡ []
  pub image : shown d.areas d.disk.now.bytes ≡ d.device.now.bytes
  pub waiting : d.waiting ≡ 0

-- the device below wasn't called, and the disk lies on it as before
pub record SameBelow (old new : Layered) : Type 0 where
  pub disk : new.disk ≡ old.disk
  pub areas : new.areas ≡ old.areas
  pub is_over : new.is_over ≡ old.is_over
