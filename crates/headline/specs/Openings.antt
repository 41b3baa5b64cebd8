-- Openings of a file that were cut off, at any of their calls from the first one on (this project's own).
use Rattle.std.specs.Prelude.{ℕ, ◌≡◌, List, [], Some}
use Rattle.block_disk.specs.Device.{Device, Image}
use Rattle.disk_file.specs.Backing.{Held, MayLose, ReadsForGood, Unsettled, WritesBack, bytes_at, settled}
use Rattle.law_survival.specs.WholeRun.{MayBeLeft}
use Rattle.recover.specs.Recovery.{IsCutOff}

-- What an opening has made of a file before recovery begins, if each call succeeded. Its reads change nothing.
pub data HasBegun (was : Held) : Held → Type 0 where
  -- No call was made.
  NoCall : HasBegun was was
  -- The file was synced.
  HasSynced : (h : Held) → HasBegun was h → HasBegun was (settled h)
  -- The byte at one place was written again, with its own value.
  HasWritten : (at : ℕ) (h after : Held) → HasBegun was h → WritesBack at h after → HasBegun was after

-- Where an opening stops before recovery begins: between two calls, or in one that has failed or is under way.
pub data StopsAt (was h : Held) : Type 0 where
  Between : HasBegun was h → StopsAt was h
  -- In a sync: the device may have any bytes where some were written since the last sync that succeeded.
  InSync : (before : Held) → HasBegun was before → Unsettled (Some before) (Some h) → StopsAt was h
  -- While the bytes at these places are written again, each with its own value. The premise: one that the device has stays (`LosesOnly`).
  InWriting : (places : List ℕ) (before : Held) → HasBegun was before → MayLose (bytes_at places) (Some before) (Some h) → StopsAt was h

-- An opening of this image was cut off, and a crash left the next image.
pub data IsOpening (image next : List ℕ) : Type 0 where
  -- Before recovery's first call. The device of the file had what the file reads, with nothing pending.
  BeforeRecovery : (was h : Held) → ReadsForGood image (Some was) → StopsAt was h → Image h.kept next → IsOpening image next
  -- In recovery, by a crash or by a fault.
  InRecovery : (old new : Device) → old.now ≡ record { bytes = image; pending = [] } → IsCutOff old new → MayBeLeft old new next → IsOpening image next

-- Openings in a row, the first of this image, and each of what a crash had left of the one before. A crash of the last one left that image.
pub data AreOpenings : (image last : List ℕ) → Type 0 where
  NoOpening : (image : List ℕ) → AreOpenings image image
  OneMore : (image next last : List ℕ) → IsOpening image next → AreOpenings next last → AreOpenings image last
