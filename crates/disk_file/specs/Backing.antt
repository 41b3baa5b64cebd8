-- The file behind a disk, as far as it is known what it holds (this project's own).
use Rattle.std.specs.Prelude.{◌≡◌, ◌⊎◌, ◌<◌, ℕ, List, [], ◌∷◌, ◌++◌, length, slice_index, Option, IfSome, IsSomeAnd}
use Rattle.block_disk.specs.Bytes.{part, spliced}
use Rattle.block_disk.specs.Device.{Range, Moment, Image, IsClear, IsOutside, SameOutside, range_of}

-- What a file holds: the bytes that it reads, and what its device keeps of it: the bytes that it has there once a sync succeeds, and the ranges
-- that were written since the last one. A file that was found may read bytes that its device hasn't: where a sync of another process has failed,
-- the system may take what it holds in memory for written. No sync brings these bytes to the device, but a write of them does, and a sync after it.
pub record Held : Type 0 where
  pub reads : List ℕ
  pub kept : Moment

-- with no bytes; what was there before is written over
abbrev pub emptied : Held → Held
emptied h = record { reads = []; kept = record { bytes = []; pending = record { start = 0; len = length h.kept.bytes } ∷ h.kept.pending } }

-- with these bytes at this place
abbrev pub put_at : ℕ → List ℕ → Held → Held
put_at at bytes h = record { reads = spliced h.reads at bytes; kept = record { bytes = spliced h.kept.bytes at bytes; pending = range_of at bytes ∷ h.kept.pending } }

-- synced: its device has what was written
abbrev pub settled : Held → Held
settled h = record { reads = h.reads; kept = record { bytes = h.kept.bytes; pending = [] } }

-- the file is as it was, but for any bytes in these ranges
pub record IsBut (ranges : List Range) (was h : Held) : Type 0 where
  pub reads : SameOutside ranges was.reads h.reads
  pub kept : SameOutside ranges was.kept.bytes h.kept.bytes
  pub pending : (i : ℕ) → IsClear i ranges → IsClear i was.kept.pending → IsClear i h.kept.pending

-- what is known after a write of n bytes that fails was known before it, but for the bytes in its range
abbrev pub TornFile : ℕ → ℕ → Option Held → Option Held → Type 0
TornFile at n old new = IfSome new (λ h. IsSomeAnd old (λ was. IsBut (record { start = at; len = n } ∷ []) was h))

-- What a sync that fails leaves reads as before. Its device may have any bytes where some were written since the last sync that succeeded: the
-- system may take them for written, so that they have to be written again.
abbrev pub Unsettled : Option Held → Option Held → Type 0
Unsettled old new = IfSome new (λ h. IsSomeAnd old (λ was. (h.reads ≡ was.reads) × IsBut was.kept.pending was h))

-- the file, if it is known, reads these bytes
abbrev pub Reads : List ℕ → Option Held → Type 0
Reads bytes file = IfSome file (λ h. h.reads ≡ bytes)

-- it reads them, and its device has them once a sync succeeds
abbrev pub Has : List ℕ → Option Held → Type 0
Has bytes file = IfSome file (λ h. (h.reads ≡ bytes) × (h.kept.bytes ≡ bytes))

-- it reads them but for those in these ranges
abbrev pub ReadsBut : List Range → List ℕ → Option Held → Type 0
ReadsBut ranges bytes file = IfSome file (λ h. SameOutside ranges bytes h.reads)

-- its device has them but for those in these ranges
abbrev pub KeepsBut : List Range → List ℕ → Option Held → Type 0
KeepsBut ranges bytes file = IfSome file (λ h. SameOutside ranges bytes h.kept.bytes)

-- nothing is pending outside of these ranges
abbrev pub IsPendingIn : List Range → Option Held → Type 0
IsPendingIn ranges file = IfSome file (λ h. (i : ℕ) → IsClear i ranges → IsClear i h.kept.pending)

-- it reads them, and a crash leaves them: its device has them, and nothing is pending
abbrev pub ReadsForGood : List ℕ → Option Held → Type 0
ReadsForGood bytes file = IfSome file (λ h. (h.reads ≡ bytes) × (h.kept ≡ record { bytes = bytes; pending = [] }))

-- it reads them, and nothing is pending
abbrev pub ReadsSettled : List ℕ → Option Held → Type 0
ReadsSettled bytes file = IfSome file (λ h. (h.reads ≡ bytes) × (h.kept.pending ≡ []))

-- one byte
abbrev pub byte_at : ℕ → Range
byte_at at = record { start = at; len = 1 }

-- the bytes at these places
abbrev pub bytes_at : List ℕ → List Range
bytes_at [] = []
bytes_at (at ∷ places) = byte_at at ∷ bytes_at places

-- the device has there what the file reads
abbrev pub HasAt : ℕ → Held → Type 0
HasAt i h = slice_index h.kept.bytes i ≡ slice_index h.reads i

-- A crash leaves now what it left before, but for the bytes in these ranges that the device didn't have.
pub record LosesOnly (ranges : List Range) (was h : Held) : Type 0 where
  pub size : length h.kept.bytes ≡ length was.kept.bytes
  pub bytes : (i : ℕ) → IsClear i ranges ⊎ HasAt i was → IsClear i was.kept.pending → slice_index h.kept.bytes i ≡ slice_index was.kept.bytes i
  pub pending : (i : ℕ) → IsClear i ranges ⊎ HasAt i was → IsClear i was.kept.pending → IsClear i h.kept.pending

-- The byte at this place was written again, with its own value.
pub record WritesBack (at : ℕ) (was h : Held) : Type 0 where
  pub reads : h.reads ≡ was.reads
  pub there : at < length was.kept.bytes → HasAt at h
  pub others : SameOutside (byte_at at ∷ []) was.kept.bytes h.kept.bytes
  -- A byte that the device has stays, though it is written again.
  pub loses : LosesOnly (byte_at at ∷ []) was h

-- so it is with the file, if it is known
abbrev pub HasWrittenBack : (at : ℕ) → (old new : Option Held) → Type 0
HasWrittenBack at old new = IfSome new (λ h. IsSomeAnd old (λ was. WritesBack at was h))

-- after such a write that fails too
abbrev pub MayLose : List Range → (old new : Option Held) → Type 0
MayLose ranges old new = IfSome new (λ h. IsSomeAnd old (λ was. LosesOnly ranges was h))

-- the bytes at those of these places that lie below this one were written again: where the device lacked only these and bytes in other ranges,
-- it lacks only those in the others; and elsewhere it has what it had
pub record WritesBackAll (below : ℕ) (places : List Range) (was h : Held) : Type 0 where
  pub reads : h.reads ≡ was.reads
  pub others : SameOutside places was.kept.bytes h.kept.bytes
  pub kept : below ≡ length was.reads → (stale : List Range) → SameOutside (places ++ stale) was.reads was.kept.bytes → SameOutside stale was.reads h.kept.bytes

abbrev pub HasWrittenBackAll : (below : ℕ) → (places : List ℕ) → (old new : Option Held) → Type 0
HasWrittenBackAll below places old new = IfSome new (λ h. IsSomeAnd old (λ was. WritesBackAll below (bytes_at places) was h))

-- A file that was found is synced, and these places were written again; no other byte was.
pub record IsFound (places : List Range) (was h : Held) : Type 0 where
  pub reads : h.reads ≡ was.reads
  pub settled : h.kept.pending ≡ []
  pub others : SameOutside places was.kept.bytes h.kept.bytes
  -- Where the device lacked only bytes at these places and in other ranges, it lacks only those in the others.
  pub kept : (stale : List Range) → SameOutside (places ++ stale) was.reads was.kept.bytes → SameOutside stale h.reads h.kept.bytes

abbrev pub HasFound : List Range → (old new : Option Held) → Type 0
HasFound places old new = IfSome new (λ h. IsSomeAnd old (λ was. IsFound places was h))

-- whatever a crash leaves of it now, a crash may leave of a device at this moment, but for the bytes in these ranges
abbrev pub CrashesAs : (stale : List Range) → Moment → Option Held → Type 0
CrashesAs stale m file = IfSome file (λ h. (image : List ℕ) → Image h.kept image → SameOutside (m.pending ++ stale) m.bytes image)

-- the file, if it is known, reads these bytes at this place, so many from there on
abbrev pub GivesPart : (at len : ℕ) → (bytes : List ℕ) → Option Held → Type 0
GivesPart at len bytes file = IfSome file (λ h. bytes ≡ part at len h.reads)

-- a file that read the bytes but for some ranges, this one among them, reads them but for the others; so it is with what its device has
pub record Mends (span : Range) (bytes : List ℕ) (old new : Option Held) : Type 0 where
  pub reads : (ranges : List Range) → ReadsBut (span ∷ ranges) bytes old → ReadsBut ranges bytes new
  pub kept : (ranges : List Range) → KeepsBut (span ∷ ranges) bytes old → KeepsBut ranges bytes new

-- a file that read the bytes but for some ranges, this one among them, still reads them but for these; so it is with what its device has
pub record StaysBut (span : Range) (bytes : List ℕ) (old new : Option Held) : Type 0 where
  pub reads : (ranges : List Range) → ReadsBut (span ∷ ranges) bytes old → ReadsBut (span ∷ ranges) bytes new
  pub kept : (ranges : List Range) → KeepsBut (span ∷ ranges) bytes old → KeepsBut (span ∷ ranges) bytes new

-- where the device had the bytes but for these ranges and others, it has them but for the others
abbrev pub KeepsAllBut : List Range → List ℕ → (old new : Option Held) → Type 0
KeepsAllBut spans bytes old new = (stale : List Range) → KeepsBut (spans ++ stale) bytes old → KeepsBut stale bytes new

-- it still has them but for all of these
abbrev pub KeepsStill : List Range → List ℕ → (old new : Option Held) → Type 0
KeepsStill spans bytes old new = (stale : List Range) → KeepsBut (spans ++ stale) bytes old → KeepsBut (spans ++ stale) bytes new

-- where nothing was pending outside of some ranges that take this one in, nothing is
abbrev pub WaitsWithin : Range → (old new : Option Held) → Type 0
WaitsWithin span old new =
    (ranges : List Range) → ((i : ℕ) → IsClear i ranges → IsOutside i span) → IsPendingIn ranges old → IsPendingIn ranges new

-- a file that had so many bytes has these too, after its own
abbrev pub Appends : (at : ℕ) → (more : List ℕ) → (old new : Option Held) → Type 0
Appends at more old new = (done : List ℕ) → length done ≡ at → Has done old → Has (done ++ more) new
