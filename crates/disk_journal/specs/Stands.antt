-- What a journaled device stands for, before, after and while it changes (this project's own).
use Rattle.std.specs.Prelude.{◌≡◌, ◌⊎◌, ℕ, Bool, List, [], length, take, drop, replicate}
use Rattle.block_disk.specs.Device.{Device}
use Rattle.journal_batches.specs.declared.areas.Areas.{Areas}
use Rattle.journal_batches.specs.declared.entry.Entry.{Entry}
use Rattle.journal_batches.specs.Areas.{image_bytes, room_of}
use Rattle.journal_batches.specs.Entries.{IsEither, replayed}
use Rattle.journal_batches.specs.Rests.{IsCleared, Rests}
use Rattle.journal_batches.specs.Shown.{shown}
use Rattle.disk_journal.specs.Labels.{HasLabel, HasNoLabel}

-- of an image of the device: as before, but for the journal and the image's place, and what it stands for has P
pub record Stands (a : Areas) (before : List ℕ) (P : List ℕ → Type 0) (left : List ℕ) : Type 0 where
  pub size : length left ≡ length before
  pub label : take 4096 left ≡ take 4096 before
  pub beyond : drop (room_of a) left ≡ drop (room_of a) before
  pub image : P (shown a left)

-- it stands for the same image as before
abbrev pub StandsStill : Areas → (before left : List ℕ) → Type 0
StandsStill a before = Stands a before (λ image. image ≡ shown a before)

-- for that, or for the one that these entries make of it
abbrev pub StandsTurned : Areas → List Entry → (before left : List ℕ) → Type 0
StandsTurned a entries before = Stands a before (λ image. (image ≡ shown a before) ⊎ (image ≡ replayed entries (shown a before)))

-- for bytes of that and of another one
abbrev pub StandsMixed : Areas → (later before left : List ℕ) → Type 0
StandsMixed a later before = Stands a before (λ image. IsEither (shown a before) later image)

-- nothing of the device is pending, and it is between two turns
pub record IsAtRest (a : Areas) (second : Bool) (stamp : ℕ) (entries : List Entry) (d : Device) : Type 0 where
  pub durable : d.now.pending ≡ []
  pub rests : Rests a second stamp entries (shown a d.now.bytes) d.now.bytes

-- and nothing is to be replayed
pub record IsAllHome (a : Areas) (second : Bool) (stamp : ℕ) (d : Device) : Type 0 where
  pub durable : d.now.pending ≡ []
  pub cleared : IsCleared a second stamp (shown a d.now.bytes) d.now.bytes

-- an image of a device on which a disk is made: it has no label, or the disk's, and stands for zeros
abbrev pub IsMadeOrNone : Areas → List ℕ → Type 0
IsMadeOrNone a left = HasNoLabel left ⊎ (HasLabel a left × (shown a left ≡ replicate (image_bytes a) 0))

-- so it has after a making that was cut off, and behind the disk the bytes of before
abbrev pub IsMadeWithin : Areas → (before left : List ℕ) → Type 0
IsMadeWithin a before left = (drop (room_of a) left ≡ drop (room_of a) before) × IsMadeOrNone a left
