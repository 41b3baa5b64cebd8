-- What openings, makings and calls leave that are refused or fail (this project's own).
use Rattle.std.specs.Prelude.{◌≡◌, ◌≢◌, ◌⊎◌, ℕ, ◌+◌, ◌^◌, ◌<◌, ◌≤◌, Bool, List, length, IsErrAnd, IsErrOf, Result}
use Rattle.block_disk.specs.Device.{Device}
use Rattle.block_disk.specs.declared.error.DiskError.{DiskError}
use Rattle.block_disk.specs.declared.error.DiskError.TheVariants.{OutOfRange}
use Rattle.journal_batches.specs.declared.areas.Areas.{Areas}
use Rattle.journal_batches.specs.Areas.{half_of, room_of}
use Rattle.journal_batches.specs.Coded.{HasStamp}
use Rattle.disk_journal.specs.declared.error.JournalError.{JournalError}
use Rattle.disk_journal.specs.declared.error.JournalError.TheVariants.{Fault, NoJournal, NoMemory, TooSmall, Worn}
use Rattle.disk_journal.specs.Labels.{HasLabel, HasNoLabel, IsLabelled}
use Rattle.disk_journal.specs.Stands.{StandsStill}
use Rattle.atomic_sectors.specs.Left.{LeavesWhole}

-- so many bytes at this place reach past the device's end
abbrev pub IsBeyond : (at : ℕ) → List ℕ → Device → Type 0
IsBeyond at bytes d = length d.now.bytes < at + length bytes

-- a read is out of range only where it reaches past the end, and it changes neither what was to take the bytes nor the device
abbrev pub RefusesRead : {T : Type 0} → (at : ℕ) → (out out' : List ℕ) → (old new : Device) → Result T DiskError → Type 0
RefusesRead at out out' old new result = IsErrOf result OutOfRange → IsBeyond at out old × (out' ≡ out) × (new ≡ old)

-- a write is out of range only where it reaches past the end, and it leaves the device as it was
abbrev pub RefusesWrite : {T : Type 0} → (at : ℕ) → List ℕ → (old new : Device) → Result T DiskError → Type 0
RefusesWrite at bytes old new result = IsErrOf result OutOfRange → IsBeyond at bytes old × (new ≡ old)

-- the device has fewer bytes than its parts take, or a half has no page
abbrev pub LacksRoom : Areas → List ℕ → Type 0
LacksRoom a bytes = (length bytes < room_of a) ⊎ (a.half ≡ 0)

-- a sector of a half has a stamp from which there is little room for later ones
abbrev pub IsWorn : Areas → List ℕ → Type 0
IsWorn a bytes = (second : Bool) × (stamp : ℕ) × (2 ^ 63 ≤ stamp) × HasStamp stamp (half_of a second bytes)

-- refused for this reason
abbrev pub IsRefused : {T A : Type 0} → Result T (A × JournalError) → JournalError → Type 0
IsRefused result why = IsErrAnd result (λ back. back.1 ≡ why)

-- a refusal other than a fault leaves the device as it was
abbrev pub IsUntouched : JournalError → (old new : Device) → Type 0
IsUntouched why old new = why ≢ Fault → new ≡ old

-- bytes on which no journal is opened: they have no label, or no room for its parts
abbrev pub AreNoJournal : List ℕ → Type 0
AreNoJournal bytes = HasNoLabel bytes ⊎ ((a : Areas) × IsLabelled a bytes × LacksRoom a bytes)

-- why a making refuses a device of these bytes
abbrev pub RefusesToMake : Areas → List ℕ → JournalError → Type 0
RefusesToMake a bytes NoJournal = ⊥
RefusesToMake a bytes TooSmall = LacksRoom a bytes
RefusesToMake a bytes Worn = ⊥
RefusesToMake a bytes Fault = Unit {0}
RefusesToMake a bytes NoMemory = Unit {0}

-- an opening that ends stands for the same image at each moment, whatever label the device has
abbrev pub StandsThrough : (old new : Device) → Type 0
StandsThrough old new = (a : Areas) → HasLabel a old.now.bytes → room_of a ≤ length old.now.bytes → LeavesWhole old new (StandsStill a old.now.bytes)
