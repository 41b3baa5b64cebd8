-- What an opening finds, and why it refuses (this project's own).
use Rattle.std.specs.Prelude.{◌≡◌, ◌⊎◌, false, true, ◌+◌, ◌*◌, ◌^◌, ◌<◌, ◌≤◌, if◌then◌else◌, Any, Bool, List, [], ℕ, None, Option, Some, length, option_map}
use Rattle.block_disk.specs.Device.{Device}
use Rattle.block_disk.specs.Images.{Continues}
use Rattle.atomic_sectors.specs.Left.{MakesSyncs}
use Rattle.journal_batches.specs.declared.areas.Areas.{Areas}
use Rattle.journal_batches.specs.declared.codec.Found.{Found}
use Rattle.journal_batches.specs.declared.entry.Entry.{Entry}
use Rattle.journal_batches.specs.Areas.{half_at, half_bytes, half_of, home_of, image_at, image_bytes, room_of}
use Rattle.journal_batches.specs.Batches.{AllUpTo, Batch, StampsUpTo, batch_in}
use Rattle.journal_batches.specs.Coded.{HasStamp, batch_of}
use Rattle.journal_batches.specs.Entries.{AreOf, DifferWithin}
use Rattle.journal_batches.specs.Shown.{is_second_newest, newest_half, shown, under_both}
use Rattle.journal_batches.specs.Spelled.{pages_for}
use Rattle.disk_journal.specs.declared.error.JournalError.{JournalError}
use Rattle.disk_journal.specs.declared.error.JournalError.TheVariants.{Fault, NoJournal, NoMemory, TooSmall, Worn}
use Rattle.disk_journal.specs.declared.opening.Choice.{Choice}
use Rattle.disk_journal.specs.declared.opening.Halves.{Halves}
use Rattle.disk_journal.specs.declared.opening.Opened.{Opened}
use Rattle.disk_journal.specs.Labels.{HasLabel, HasNoLabel, IsLabelled}
use Rattle.disk_journal.specs.Refusals.{IsWorn, LacksRoom}
use Rattle.disk_journal.specs.Stands.{IsAllHome}
use Rattle.disk_journal.specs.Steps.{ArePending, AreWordPlaces}

-- the image that was found is at its place, and the device at rest
pub record IsOpened (opened : Opened) (d : Device) : Type 0 where
  pub room : room_of opened.areas ≤ length d.now.bytes
  pub home : IsAllHome opened.areas opened.second opened.stamp d
  pub image : shown opened.areas d.now.bytes ≡ opened.image.items

-- the stamp is two later than the latest one of all sectors in either half
pub record IsAfterAll (a : Areas) (bytes : List ℕ) (stamp : ℕ) : Type 0 where
  pub top : ℕ
  pub latest : AllUpTo a top bytes
  pub second : Bool
  pub has : HasStamp top (half_of a second bytes)
  pub later : stamp ≡ top + 2

-- the newest batch of a device of these bytes
abbrev pub newest_batch : Areas → List ℕ → Option Batch
newest_batch a bytes = batch_in (half_of a (newest_half a bytes) bytes)

-- how many bytes a batch takes; none, if there is none
abbrev pub batch_bytes : Option Batch → ℕ
batch_bytes None = 0
batch_bytes (Some b) = pages_for (length b.entries) * 4096

-- there is none, or it has no words
abbrev pub HasNoWords : Option Batch → Type 0
HasNoWords None = Unit {0}
HasNoWords (Some b) = b.entries ≡ []

-- Before the first sync of an opening all that it trusts was written again, as it reads: the label, the newest batch, and the image where that batch has no words.
pub record WritesAgain (a : Areas) (old new : Device) : Type 0 where
  -- the device before that sync
  pub mid : Device
  pub no_sync : MakesSyncs 0 old mid
  pub same : mid.now.bytes ≡ old.now.bytes
  pub label : ArePending 0 4096 mid
  pub batch : ArePending (half_at a (newest_half a old.now.bytes)) (batch_bytes (newest_batch a old.now.bytes)) mid
  pub image : HasNoWords (newest_batch a old.now.bytes) → ArePending (image_at a) (image_bytes a) mid
  pub later : Continues mid new

-- so it was, whatever label the device has, unless there was no sync yet
abbrev pub WritesAgainFirst : (old new : Device) → Type 0
WritesAgainFirst old new = MakesSyncs 0 old new
    ⊎ ((a : Areas) → HasLabel a old.now.bytes → room_of a ≤ length old.now.bytes → WritesAgain a old new)

-- what is wrong with a device of these bytes that is refused for this reason
abbrev pub TellsWhy : JournalError → List ℕ → Type 0
TellsWhy NoJournal bytes = HasNoLabel bytes
TellsWhy TooSmall bytes = (a : Areas) × IsLabelled a bytes × LacksRoom a bytes
TellsWhy Worn bytes = (a : Areas) × IsLabelled a bytes × (room_of a ≤ length bytes) × IsWorn a bytes
TellsWhy Fault bytes = Unit {0}
TellsWhy NoMemory bytes = Unit {0}

-- the batch that was found, if any
abbrev pub batch_of_found : Option Found → Option Batch
batch_of_found found = option_map batch_of found

-- the halves and the image's place were read
pub record AreRead (a : Areas) (halves : Halves) (image bytes : List ℕ) : Type 0 where
  pub first : halves.first.items ≡ half_of a false bytes
  pub second : halves.second.items ≡ half_of a true bytes
  pub home : image ≡ home_of a bytes

-- why nothing is chosen: want of memory, or a stamp of theirs with little room for later ones
abbrev pub IsUnchosen : JournalError → Halves → Type 0
IsUnchosen why halves = (why ≡ NoMemory)
    ⊎ ((why ≡ Worn) × (stamp : ℕ) × (2 ^ 63 ≤ stamp) × (HasStamp stamp halves.first.items ⊎ HasStamp stamp halves.second.items))

-- byte i lies in the word of one of these entries, and that within an image of this size
abbrev pub LiesWithin : (size : ℕ) → List Entry → (i : ℕ) → Type 0
LiesWithin size entries i = Any (λ e. (e.at + 8 ≤ size) × (e.at ≤ i) × (i < e.at + 8)) entries

-- byte i lies in such a word of this batch, if there is one
abbrev pub LiesInBatch : (size : ℕ) → Option Found → (i : ℕ) → Type 0
LiesInBatch size None i = ⊥
LiesInBatch size (Some found) i = LiesWithin size found.entries.items i

-- the batch that one of the halves holds
abbrev pub newest_held : Halves → (second : Bool) → Option Batch
newest_held halves second = batch_in (if second then halves.second.items else halves.first.items)

-- what the halves say is to be done, and the image that they make of what is at its place
pub record IsChosen (halves : Halves) (old new : List ℕ) (choice : Choice) : Type 0 where
  pub newest : choice.second ≡ is_second_newest (batch_in halves.first.items) (batch_in halves.second.items)
  pub pages : choice.pages * 4096 ≡ batch_bytes (newest_held halves choice.second)
  pub fits : choice.pages * 4096 ≤ length halves.first.items
  pub empty : HasNoWords (newest_held halves choice.second) → choice.is_empty ≡ true
  pub first : StampsUpTo choice.top halves.first.items
  pub second : StampsUpTo choice.top halves.second.items
  pub top : choice.top < 2 ^ 63
  pub image : new ≡ under_both (batch_in halves.first.items) (batch_in halves.second.items) old
  pub own : AreOf new choice.entries.items
  pub places : AreWordPlaces choice.entries.items
  pub rest : DifferWithin choice.entries.items old new

-- it is what is to be done to a device of these bytes
pub record IsPlanned (a : Areas) (bytes : List ℕ) (choice : Choice) : Type 0 where
  pub newest : newest_half a bytes ≡ choice.second
  pub pages : choice.pages * 4096 ≡ batch_bytes (newest_batch a bytes)
  pub fits : choice.pages * 4096 ≤ half_bytes a
  pub empty : HasNoWords (newest_batch a bytes) → choice.is_empty ≡ true
  pub stamps : AllUpTo a choice.top bytes
  pub top : choice.top < 2 ^ 63
  pub size : length (shown a bytes) ≡ image_bytes a
  pub own : AreOf (shown a bytes) choice.entries.items
  pub places : AreWordPlaces choice.entries.items
  pub rest : DifferWithin choice.entries.items (home_of a bytes) (shown a bytes)
