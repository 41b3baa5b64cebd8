-- Disks whose bytes reach a file at each sync, or at each write (this project's own).
use Rattle.std.specs.Prelude.{◌≡◌, ℕ, Bool, ◌+◌, ◌≤◌, List, [], ◌∷◌, ◌++◌, All, IsTrue, length, Option, if◌then◌else◌}
use Rattle.block_disk.specs.Device.{Range, Device, IsClear, IsOutside}
use Rattle.disk_file.specs.Backing.{Held, IsPendingIn, ReadsBut}

-- the range lies within a disk of this size
abbrev pub IsWithin : ℕ → Range → Type 0
IsWithin size r = r.start + r.len ≤ size

-- each of the ranges does
abbrev pub AllWithin : ℕ → List Range → Type 0
AllWithin size rs = All (IsWithin size) rs

-- a write there goes on with the newest of the pending ranges: it begins within that or right behind it
abbrev pub GoesOn : (at : ℕ) → (pending : List Range) → Type 0
GoesOn at [] = ⊥
GoesOn at (r ∷ older) = (r.start ≤ at) × (at ≤ r.start + r.len)

-- the last of the ranges covers this one
abbrev pub LastCovers : Range → List Range → Type 0
LastCovers r [] = ⊥
LastCovers r (s ∷ []) = (s.start ≤ r.start) × (r.start + r.len ≤ s.start + s.len)
LastCovers r (s ∷ t ∷ rs) = LastCovers r (t ∷ rs)

-- the last of the ranges covers the newest of the pending ones
abbrev pub HasNewest : (pending unwritten : List Range) → Type 0
HasNewest [] unwritten = Unit {0}
HasNewest (r ∷ older) unwritten = LastCovers r unwritten

-- what is outside of each of the first ranges is outside of each of the others
abbrev pub Covers : (ranges others : List Range) → Type 0
Covers ranges others = (i : ℕ) → IsClear i ranges → IsClear i others

-- these ranges, and one more
abbrev pub and_range : (start len : ℕ) → List Range → List Range
and_range start len ranges = record { start = start; len = len } ∷ ranges

-- these ranges, and this one after them if it is kept
abbrev pub kept_after : (is_kept : Bool) → Range → List Range → List Range
kept_after k r ranges = if k then ranges ++ r ∷ [] else ranges

-- a range is joined that begins within one that the last range covers, or right behind it
abbrev pub JoinsWhere : (start : ℕ) → List Range → (is_joined : Bool) → Type 0
JoinsWhere start ranges k = (r : Range) → LastCovers r ranges → r.start ≤ start → start ≤ r.start + r.len → IsTrue k

-- what is outside of this range is outside of both
abbrev pub TakesBoth : (last : Range) → (start len : ℕ) → Range → Type 0
TakesBoth last start len both = (i : ℕ) → IsOutside i both → IsOutside i last × IsOutside i (record { start = start; len = len })

-- what is outside of both is outside of it
abbrev pub TakesNoMore : (last : Range) → (start len : ℕ) → Range → Type 0
TakesNoMore last start len both = (i : ℕ) → IsOutside i last → IsOutside i (record { start = start; len = len }) → IsOutside i both

-- The bytes are those that the device reads. Those that may not be in the file are pending, and the file reads the others.
pub record IsBuffered (d : Device) (bytes : List ℕ) (unwritten : List Range) (file : Option Held) : Type 0 where
  pub reads : d.now.bytes ≡ bytes
  pub within : AllWithin (length bytes) unwritten
  pub near : ReadsBut unwritten bytes file
  pub waits : IsPendingIn unwritten file
  pub pending : Covers d.now.pending unwritten
  pub exact : Covers unwritten d.now.pending

-- The file is brought up to the bytes at the next sync; the range written last can be lengthened.
pub record IsDeferred (d : Device) (bytes : List ℕ) (unwritten : List Range) (file : Option Held) : Type 0 where
  pub buffered : IsBuffered d bytes unwritten file
  pub newest : HasNewest d.now.pending unwritten
