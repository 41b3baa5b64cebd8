-- What C's calls of a journal do to what its handle has, and what they answer, by the kind of what is there (this project's own).
use Rattle.std.specs.Prelude.{ℕ, ◌≡◌, ◌≢◌, List, length, Result}
use Rattle.block_disk.specs.declared.error.DiskError.{DiskError}
use Rattle.block_disk.specs.declared.error.Fault.{Fault}
use Rattle.disk_journal.specs.Labels.{HasNoLabel}
use Rattle.disk_journal.specs.declared.error.JournalError.{JournalError}
use Rattle.host_journal.specs.Calls.{HasOrdered, HasRead, HasSynced, HasWritten, IsMade, IsOpened, RefusesMaking, RefusesOpening}
use Rattle.host_journal.specs.Hosted.{Hosted}
use Rattle.journal_batches.specs.declared.areas.Areas.{Areas}
use Rattle.zelamiku.specs.Ended.{still_held}
use Rattle.zelamiku.specs.HandleDoors.{ByHandle}
use Rattle.zelamiku.specs.Handles.{OfJournal, journal_held, nothing_held}
use Rattle.zelamiku.specs.JournalStatuses.{call_status, journal_status, turn_status}
use Rattle.zelamiku.specs.OpeningDoors.{PutsNew}
use Rattle.zelamiku.specs.Own.{Held}
use Rattle.zelamiku.specs.declared.slot.Slot.{Slot}
use Rattle.zelamiku.specs.declared.state.Open.{Open}
use Rattle.zelamiku.specs.declared.status.TheConstants.{OK}

-- halves and an image of so many pages
abbrev pub areas_of : (half image : ℕ) → Areas
areas_of half image = record { half = half; image = image }

-- `zelamiku_journal_open`, where the handle had nothing: the journal that these bytes stand for, and the bytes of its image; or none, of size 0, and why
pub data OpensJournalAt (bytes : List ℕ) (size : ℕ) (after : Held) (status : ℕ) : Type 0 where
  IsOpen : (x : Hosted) → IsOpened bytes x → (¬ HasNoLabel bytes) → size ≡ length x.heap.now.bytes → after ≡ journal_held x → status ≡ OK → OpensJournalAt bytes size after status
  NotOpen : (why : JournalError) → RefusesOpening bytes why → size ≡ 0 → after ≡ nothing_held → status ≡ journal_status why → OpensJournalAt bytes size after status

-- the same, by the handle's place
abbrev pub OpensJournal : (bytes : List ℕ) (size : ℕ) → (old new : Slot) (status : ℕ) → Type 0
OpensJournal bytes size = ByHandle (λ before. PutsNew (OpensJournalAt bytes size) (size ≡ 0) (still_held before))

-- `zelamiku_journal_create`, where the handle had nothing: a journal of zeros, of these parts; or none, and why
pub data MakesJournalAt (half image : ℕ) (after : Held) (status : ℕ) : Type 0 where
  IsNewJournal : (x : Hosted) → IsMade (areas_of half image) x → half ≢ 0 → after ≡ journal_held x → status ≡ OK → MakesJournalAt half image after status
  NoJournalMade : (why : JournalError) → RefusesMaking (areas_of half image) why → after ≡ nothing_held → status ≡ journal_status why → MakesJournalAt half image after status

-- the same, by the handle's place
abbrev pub MakesJournal : (half image : ℕ) → (old new : Slot) (status : ℕ) → Type 0
MakesJournal half image = ByHandle (λ before. PutsNew (MakesJournalAt half image) (Unit {0}) (still_held before))

-- `zelamiku_journal_read`: what was to take the bytes, before and after
abbrev pub ReadsAt : (at : ℕ) (buffer filled : List ℕ) → Open → (after : Held) → (status : ℕ) → Type 0
ReadsAt at buffer filled = OfJournal (λ x after status.
    (answer : Result (Unit {0}) DiskError) × HasRead at buffer filled x answer × (status ≡ call_status answer) × (after ≡ journal_held x))

-- `zelamiku_journal_write`
abbrev pub WritesAt : (at : ℕ) (bytes : List ℕ) → Open → (after : Held) → (status : ℕ) → Type 0
WritesAt at bytes = OfJournal (λ x after status.
    (y : Hosted) × (answer : Result (Unit {0}) DiskError) × HasWritten at bytes x y answer × (status ≡ call_status answer) × (after ≡ journal_held y))

-- `zelamiku_journal_order`
abbrev pub OrdersAt : Open → (after : Held) → (status : ℕ) → Type 0
OrdersAt = OfJournal (λ x after status. (y : Hosted) × (answer : Result (Unit {0}) Fault) × HasOrdered x y answer × (status ≡ turn_status answer) × (after ≡ journal_held y))

-- `zelamiku_journal_sync`
abbrev pub SyncsAt : Open → (after : Held) → (status : ℕ) → Type 0
SyncsAt = OfJournal (λ x after status. (y : Hosted) × (answer : Result (Unit {0}) Fault) × HasSynced x y answer × (status ≡ turn_status answer) × (after ≡ journal_held y))
