-- A block device that a crash may stop at any moment (after the asynchronous disk of FSCQ, SOSP 2015; ours tears writes anywhere).
-- Between two syncs each written range may hold any bytes after a crash, and every other byte stays.
use Rattle.std.specs.Prelude.{◌<◌, ◌≡◌, ◌⊎◌, ℕ, zero, suc, ◌+◌, ◌-◌, ◌^◌, ◌≤◌, List, [], ◌∷◌, length, take, drop, min, slice_index, Result, IsErrOf}
use Rattle.block_disk.specs.Bytes.{spliced}

-- the bytes from start on, len of them
pub record Range : Type 0 where
  pub start : ℕ
  pub len : ℕ

-- the range that these bytes take at a place
abbrev pub range_of : ℕ → List ℕ → Range
range_of at bytes = record { start = at; len = length bytes }

-- the device at one moment: what a read gives, and the ranges written since the last sync that succeeded
pub record Moment : Type 0 where
  pub bytes : List ℕ
  pub pending : List Range

-- the device: which one it is, this moment, those before it (the latest first), and how often it has failed
pub record Device : Type 0 where
  pub name : List ℕ
  pub now : Moment
  pub past : List Moment
  pub failures : ℕ

-- place i isn't in the range
abbrev pub IsOutside : ℕ → Range → Type 0
IsOutside i r = (i < r.start) ⊎ (r.start + r.len ≤ i)

-- place i is in none of the ranges
abbrev pub IsClear : ℕ → List Range → Type 0
IsClear i [] = Unit {0}
IsClear i (r ∷ rs) = IsOutside i r × IsClear i rs

-- as many bytes, and the same ones outside of these ranges
pub record SameOutside (ranges : List Range) (old new : List ℕ) : Type 0 where
  pub size : length new ≡ length old
  pub same : (i : ℕ) → IsClear i ranges → slice_index new i ≡ slice_index old i

-- an image that a crash at this moment may leave: any bytes in the pending ranges, and the rest as it reads
abbrev pub Image : Moment → List ℕ → Type 0
Image m image = SameOutside m.pending m.bytes image

-- an image of one of these moments whose number is t or more; a moment's number is how many were before it
abbrev pub LeftIn : ℕ → List Moment → List ℕ → Type 0
LeftIn t [] image = ⊥
LeftIn t (m ∷ before) image = ((t ≤ length before) × Image m image) ⊎ LeftIn t before image

-- an image that a crash at some moment from number t on might have left
abbrev pub LeftSince : ℕ → Device → List ℕ → Type 0
LeftSince t d image = LeftIn t (d.now ∷ d.past) image

-- a device of these bytes that nothing was asked of yet, with no name of its own
abbrev pub new_device : List ℕ → Device
new_device bytes = record { name = []; now = record { bytes = bytes; pending = [] }; past = []; failures = 0 }

-- what a write that succeeds makes of the device
abbrev pub written : ℕ → List ℕ → Device → Device
written at bytes d = record {
  name = d.name;
  now = record { bytes = spliced d.now.bytes at bytes; pending = range_of at bytes ∷ d.now.pending };
  past = d.now ∷ d.past;
  failures = d.failures;
}

-- what n writes that succeed make of it, of 16 bytes each, one right behind the other
abbrev pub written_units : (n at : ℕ) → List ℕ → Device → Device
written_units zero at bytes d = d
written_units (suc n) at bytes d = written_units n (at + 16) (drop 16 bytes) (written at (take 16 bytes) d)

-- their ranges
abbrev pub unit_ranges : (n at : ℕ) → List Range
unit_ranges zero at = []
unit_ranges (suc n) at = record { start = at; len = 16 } ∷ unit_ranges n (at + 16)

-- what a sync that succeeds makes of it
abbrev pub synced : Device → Device
synced d = record {
  name = d.name;
  now = record { bytes = d.now.bytes; pending = [] };
  past = d.now ∷ d.past;
  failures = d.failures;
}

-- the count of failures once there was one more, which stays at its last value
abbrev pub one_more : ℕ → ℕ
one_more failures = min (failures + 1) (2 ^ 64 - 1)

-- the count of failures rose, or stands at its last value
pub record HasFailed (before after : ℕ) : Type 0 where
  pub later : before ≤ after
  pub rose : (before < after) ⊎ (after ≡ 2 ^ 64 - 1)

-- this fault is answered only where the device has failed since
pub record HasCause {T E : Type 0} (before after : ℕ) (fault : E) (result : Result T E) : Type 0 where
  pub later : before ≤ after
  pub failed : IsErrOf result fault → HasFailed before after

-- the same moments of the same device; only the count of failures may differ
pub record SameMoments (old new : Device) : Type 0 where
  pub name : new.name ≡ old.name
  pub now : new.now ≡ old.now
  pub past : new.past ≡ old.past

-- what a write of n bytes that fails makes of it, if it was begun: any bytes in its range
pub record TornWrite (at n : ℕ) (old new : Device) : Type 0 where
  pub name : new.name ≡ old.name
  pub fits : at + n ≤ length old.now.bytes
  pub pending : new.now.pending ≡ record { start = at; len = n } ∷ old.now.pending
  pub bytes : SameOutside (record { start = at; len = n } ∷ []) old.now.bytes new.now.bytes
  pub past : new.past ≡ old.now ∷ old.past
