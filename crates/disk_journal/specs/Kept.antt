-- What a journaled disk keeps in memory, beside its device (this project's own).
use Rattle.std.specs.Prelude.{◌≡◌, ◌⊎◌, ℕ, zero, suc, ◌+◌, ◌*◌, ◌/◌, ◌<◌, ◌≤◌, ◌==◌, if◌then◌else◌, Bool, false, List, [], length, slice_index, All, Any}
use Rattle.std.specs.List.{list_any}
use Rattle.block_disk.specs.Device.{Device, Image, Moment}
use Rattle.atomic_sectors.specs.Left.{AlwaysWhole}
use Rattle.journal_batches.specs.declared.areas.Areas.{Areas}
use Rattle.journal_batches.specs.declared.entry.Entry.{Entry}
use Rattle.journal_batches.specs.Areas.{image_bytes, room_of}
use Rattle.journal_batches.specs.Shown.{shown}
use Rattle.disk_journal.specs.Stands.{IsAtRest, Stands}
use Rattle.disk_journal.specs.Steps.{AreWordPlaces}

-- byte i lies in the word at one of these places
abbrev pub Touches : List ℕ → (i : ℕ) → Type 0
Touches places i = Any (λ place. (place ≤ i) × (i < place + 8)) places

-- how many of an image's first n words are at these places, each counted once
abbrev pub words_among : (n : ℕ) → List ℕ → ℕ
words_among zero places = 0
words_among (suc n) places = (if list_any (λ place. place == n * 8) places then 1 else 0) + words_among n places

-- no entry is there yet, of so many for which there is memory, and those are enough
pub record HasRoom (enough : ℕ) (entries : List Entry) (count capacity : ℕ) : Type 0 where
  pub none : entries ≡ []
  pub zero : count ≡ 0
  pub room : enough ≤ capacity

-- each of them is a word's place within the image
abbrev pub AreWithin : (size : ℕ) → List ℕ → Type 0
AreWithin size places = All (λ place. (place ≡ place / 8 * 8) × (place + 8 ≤ size)) places

-- the images have the same bytes, but for the words at these places
abbrev pub SameButTouched : List ℕ → (old new : List ℕ) → Type 0
SameButTouched places old new = (i : ℕ) → (slice_index new i ≡ slice_index old i) ⊎ Touches places i

-- while no call has failed: the device is at rest, and the image differs from what it stands for in words that are noted; a crash of the disk may leave that
pub record IsOpen (a : Areas) (second : Bool) (stamp : ℕ) (last : List Entry) (touched image : List ℕ) (m : Moment) (d : Device) : Type 0 where
  pub rest : IsAtRest a second stamp last d
  pub places : AreWordPlaces last
  pub within : AreWithin (image_bytes a) touched
  pub differs : SameButTouched touched (shown a d.now.bytes) image
  pub possible : Image m (shown a d.now.bytes)

-- the disk's bytes, and the device under it
pub record IsKept (a : Areas) (second : Bool) (stamp : ℕ) (last : List Entry) (touched : List ℕ) (is_over : Bool) (image : List ℕ) (m : Moment) (d : Device) : Type 0 where
  pub bytes : m.bytes ≡ image
  pub size : length image ≡ image_bytes a
  pub room : room_of a ≤ length d.now.bytes
  pub crash : AlwaysWhole d (Stands a d.now.bytes (λ left. Image m left))
  pub works : is_over ≡ false → IsOpen a second stamp last touched image m d
