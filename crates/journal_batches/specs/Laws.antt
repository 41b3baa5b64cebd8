-- What batches promise (this project's own). Each law is the contract of a function that does nothing, so that the gate proves it and a crate above may call it.
use Rattle.std.specs.Prelude.{◌≡◌, ◌≢◌, ◌⊎◌, ℕ, suc, ◌+◌, ◌*◌, ◌≤◌, Bool, not, List, [], length, slice_index, None, Some}
use Rattle.block_disk.specs.Bytes.{part, spliced}
use Rattle.atomic_sectors.specs.Sectors.{IsMix, IsMixable, sector}
use Rattle.journal_batches.specs.declared.areas.Areas.{Areas}
use Rattle.journal_batches.specs.declared.entry.Entry.{Entry}
use Rattle.journal_batches.specs.Areas.{half_at, half_bytes, home_of, image_at, image_bytes, room_of, with_half, with_home}
use Rattle.journal_batches.specs.Batches.{AllUpTo, batch_in, number, sectors_for, stamp_at}
use Rattle.journal_batches.specs.Entries.{AreOf, DifferWithin, IsEither, replayed}
use Rattle.journal_batches.specs.Mixed.{IsBetween}
use Rattle.journal_batches.specs.Rests.{IsCleared, Rests, turned}
use Rattle.journal_batches.specs.Shown.{newest_half, shown}
use Rattle.journal_batches.specs.Spelled.{AreWords, CanSpell, pages_for, spelled}

-- ---- of entries ----

-- entries of an image make it of each that differs within their words
abbrev pub ReplayLaw : Type 0
ReplayLaw = (entries : List Entry) (old new : List ℕ) → AreOf new entries → DifferWithin entries old new → replayed entries old ≡ new

-- what two batches make of an image, they make of each that mixes its bytes with those
abbrev pub AgainLaw : Type 0
AgainLaw = (first second : List Entry) (old image : List ℕ) → IsEither old (replayed second (replayed first old)) image
    → replayed second (replayed first image) ≡ replayed second (replayed first old)

-- the second one makes it of itself, alone
abbrev pub AloneLaw : Type 0
AloneLaw = (first second : List Entry) (old : List ℕ) → replayed second (replayed second (replayed first old)) ≡ replayed second (replayed first old)

-- ---- of a half ----

-- what was spelled into a half is the batch that it holds
abbrev pub SpelledLaw : Type 0
SpelledLaw = (a : Areas) (stamp : ℕ) (entries : List Entry) (half : List ℕ) → length half ≡ half_bytes a → CanSpell a stamp entries
    → batch_in (spliced half 0 (spelled stamp entries)) ≡ Some (record { stamp = stamp; entries = entries })

-- sectors of a half that are as they were or as they are spelled hold the old batch, the new one or none, where no sector had the new stamp
abbrev pub HalfLaw : Type 0
HalfLaw = (a : Areas) (stamp : ℕ) (entries : List Entry) (half image : List ℕ) → length half ≡ half_bytes a → CanSpell a stamp entries
    → ((i : ℕ) → i * 512 + 512 ≤ length half → stamp_at i half ≢ stamp) → length image ≡ length half
    → ((i : ℕ) → (sector i image ≡ sector i half) ⊎ (sector i image ≡ sector i (spliced half 0 (spelled stamp entries))))
    → (batch_in image ≡ None) ⊎ ((batch_in image ≡ batch_in half) ⊎ (batch_in image ≡ Some (record { stamp = stamp; entries = entries })))

-- its stamps are the old ones and the new one
abbrev pub StampsLaw : Type 0
StampsLaw = (a : Areas) (stamp : ℕ) (entries : List Entry) (half : List ℕ) (i : ℕ) → length half ≡ half_bytes a → CanSpell a stamp entries → i * 512 + 512 ≤ length half
    → (stamp_at i (spliced half 0 (spelled stamp entries)) ≡ stamp_at i half) ⊎ (stamp_at i (spliced half 0 (spelled stamp entries)) ≡ stamp)

-- ---- of the device ----

-- a device between turns stands for the image
abbrev pub RestsLaw : Type 0
RestsLaw = (a : Areas) (second : Bool) (stamp : ℕ) (entries : List Entry) (image bytes : List ℕ) → Rests a second stamp entries image bytes
    → (shown a bytes ≡ image) × (newest_half a bytes ≡ second)

-- a crash in a turn leaves the image of before or the one of after
abbrev pub TurnLaw : Type 0
TurnLaw = (a : Areas) (second : Bool) (stamp : ℕ) (entries later : List Entry) (image bytes left : List ℕ) → Rests a second stamp entries image bytes
    → CanSpell a (suc stamp) later → IsBetween a bytes (turned a second (suc stamp) later image bytes) left
    → (shown a left ≡ image) ⊎ (shown a left ≡ replayed later image)

-- and after it the device is between turns again
abbrev pub TurnedLaw : Type 0
TurnedLaw = (a : Areas) (second : Bool) (stamp : ℕ) (entries later : List Entry) (image bytes : List ℕ) → Rests a second stamp entries image bytes
    → CanSpell a (suc stamp) later → AreOf (replayed later image) later
    → Rests a (not second) (suc stamp) later (replayed later image) (turned a second (suc stamp) later image bytes)

-- a crash while the image is brought to its place leaves the image
abbrev pub HomeLaw : Type 0
HomeLaw = (a : Areas) (bytes left : List ℕ) → room_of a ≤ length bytes → IsBetween a bytes (with_home a (shown a bytes) bytes) left → shown a left ≡ shown a bytes

-- and after it, too
abbrev pub BroughtLaw : Type 0
BroughtLaw = (a : Areas) (bytes : List ℕ) → room_of a ≤ length bytes
    → (shown a (with_home a (shown a bytes) bytes) ≡ shown a bytes) × (newest_half a (with_home a (shown a bytes) bytes) ≡ newest_half a bytes)

-- once it is there: a crash while an empty batch is written, past all stamps by two, leaves it
abbrev pub ClearLaw : Type 0
ClearLaw = (a : Areas) (top : ℕ) (bytes left : List ℕ) → room_of a ≤ length bytes → home_of a bytes ≡ shown a bytes → AllUpTo a top bytes → CanSpell a (top + 2) []
    → IsBetween a bytes (with_half a (not (newest_half a bytes)) (spelled (top + 2) []) bytes) left → shown a left ≡ shown a bytes

-- and after it nothing is to be replayed
abbrev pub ClearedLaw : Type 0
ClearedLaw = (a : Areas) (top : ℕ) (bytes : List ℕ) → room_of a ≤ length bytes → home_of a bytes ≡ shown a bytes → AllUpTo a top bytes → CanSpell a (top + 2) []
    → IsCleared a (not (newest_half a bytes)) (top + 2) (shown a bytes) (with_half a (not (newest_half a bytes)) (spelled (top + 2) []) bytes)

-- then a crash while another image is written to its place leaves bytes of both, and nothing else
abbrev pub PastLaw : Type 0
PastLaw = (a : Areas) (second : Bool) (stamp : ℕ) (image later bytes left : List ℕ) → IsCleared a second stamp image bytes → length later ≡ image_bytes a
    → IsBetween a bytes (with_home a later bytes) left → IsEither image later (shown a left)

-- and after it nothing is to be replayed
abbrev pub PassedLaw : Type 0
PassedLaw = (a : Areas) (second : Bool) (stamp : ℕ) (image later bytes : List ℕ) → IsCleared a second stamp image bytes → length later ≡ image_bytes a
    → IsCleared a second stamp later (with_home a later bytes)

-- ---- of what a crash mixes ----

-- the sectors of contents between two mix to one between them
abbrev pub MixLaw : Type 0
MixLaw = (a : Areas) (old new : List ℕ) → IsMixable (λ image. IsBetween a old new image)

-- the old content is between them, and a write to a half of what the new one has there stays between them
abbrev pub OldLaw : Type 0
OldLaw = (a : Areas) (old new : List ℕ) → IsBetween a old new old

abbrev pub HalfWriteLaw : Type 0
HalfWriteLaw = (a : Areas) (old new image : List ℕ) (page : ℕ) → length new ≡ length old → page * 4096 + 4096 ≤ image_at a → image_at a ≤ length old → IsBetween a old new image
    → IsBetween a old new (spliced image (page * 4096) (part (page * 4096) 4096 new))

-- so does one in the image's place of bytes of which each is what reads there or what the new content has there
abbrev pub HomeWriteLaw : Type 0
HomeWriteLaw = (a : Areas) (old new image content : List ℕ) (at : ℕ) → length new ≡ length old → image_at a ≤ at → at + length content ≤ length old → IsBetween a old new image
    → IsEither (part at (length content) image) (part at (length content) new) content → IsBetween a old new (spliced image at content)
