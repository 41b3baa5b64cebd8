-- What writes to a journaled device keep, whatever they are a part of (this project's own).
use Rattle.std.specs.Prelude.{◌≡◌, ℕ, ◌+◌, ◌*◌, ◌/◌, ◌<◌, ◌≤◌, Bool, List, length, All, Any}
use Rattle.block_disk.specs.Bytes.{part}
use Rattle.block_disk.specs.Device.{Device}
use Rattle.atomic_sectors.specs.Left.{Reads}
use Rattle.journal_batches.specs.declared.areas.Areas.{Areas}
use Rattle.journal_batches.specs.declared.entry.Entry.{Entry}
use Rattle.journal_batches.specs.Areas.{half_at, home_of, image_bytes, room_of}
use Rattle.journal_batches.specs.Entries.{AreOf, DifferWithin}
use Rattle.journal_batches.specs.Mixed.{IsBetween}

-- what is between two contents of which the new one has Q stays between them at each moment
abbrev pub StaysBetween : Areas → (List ℕ → Type 0) → (old new : Device) → Type 0
StaysBetween a Q old new = (before after : List ℕ) → length after ≡ length before → room_of a ≤ length before → Q after
    → IsBetween a before after old.now.bytes → Reads (IsBetween a before after) old new

-- the content has these bytes at the begin of a half
abbrev pub HasInHalf : Areas → (second : Bool) → (content bytes : List ℕ) → Type 0
HasInHalf a second content bytes = part (half_at a second) (length content) bytes ≡ content

-- it has this image in the image's place
abbrev pub HasHome : Areas → (image bytes : List ℕ) → Type 0
HasHome a image bytes = home_of a bytes ≡ image

-- byte i was written since the last sync that succeeded
abbrev pub IsPending : (i : ℕ) → Device → Type 0
IsPending i d = Any (λ r. (r.start ≤ i) × (i < r.start + r.len)) d.now.pending

-- each of these n bytes was
abbrev pub ArePending : (at n : ℕ) → Device → Type 0
ArePending at n d = (i : ℕ) → at ≤ i → i < at + n → IsPending i d

-- each of these places is a word's: a multiple of eight
abbrev pub AreWordPlaces : List Entry → Type 0
AreWordPlaces entries = All (λ e. e.at ≡ e.at / 8 * 8) entries

-- the entries bring the image to its place: all are its own, and it differs from what is there within them alone
pub record BringsHome (a : Areas) (image : List ℕ) (entries : List Entry) (d : Device) : Type 0 where
  pub size : length image ≡ image_bytes a
  pub own : AreOf image entries
  pub rest : DifferWithin entries (home_of a d.now.bytes) image
