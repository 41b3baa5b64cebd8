-- A journaled device between two turns, when nothing of it is pending (this project's own).
use Rattle.std.specs.Prelude.{◌≡◌, ◌≢◌, ℕ, suc, ◌<◌, ◌≤◌, Bool, not, List, [], length, Some}
use Rattle.journal_batches.specs.declared.areas.Areas.{Areas}
use Rattle.journal_batches.specs.declared.entry.Entry.{Entry}
use Rattle.journal_batches.specs.Areas.{half_of, home_of, room_of, with_half, with_home}
use Rattle.journal_batches.specs.Batches.{AllUpTo, Batch, batch_in}
use Rattle.journal_batches.specs.Entries.{AreOf, replayed}
use Rattle.journal_batches.specs.Spelled.{spelled}

-- The newest batch has these entries and the latest stamp. With it, and also with the one before it where that is still complete, what the image's place
-- holds is the image. All its words are the image's.
pub record Rests (a : Areas) (second : Bool) (stamp : ℕ) (entries : List Entry) (image bytes : List ℕ) : Type 0 where
  pub room : room_of a ≤ length bytes
  pub newest : batch_in (half_of a second bytes) ≡ Some (record { stamp = stamp; entries = entries })
  pub own : AreOf image entries
  pub alone : image ≡ replayed entries (home_of a bytes)
  pub earlier : (b : Batch) → batch_in (half_of a (not second) bytes) ≡ Some b → b.stamp < stamp
  pub after : (b : Batch) → batch_in (half_of a (not second) bytes) ≡ Some b → suc b.stamp ≡ stamp → image ≡ replayed entries (replayed b.entries (home_of a bytes))
  pub stamps : AllUpTo a stamp bytes

-- nothing is to be replayed: the newest batch is empty, and no batch comes just before it
pub record IsCleared (a : Areas) (second : Bool) (stamp : ℕ) (image bytes : List ℕ) : Type 0 where
  pub rests : Rests a second stamp [] image bytes
  pub sole : (b : Batch) → batch_in (half_of a (not second) bytes) ≡ Some b → suc b.stamp ≢ stamp

-- the device after a turn: the next batch is in the other half, and the image, which the last one has made, in its place
abbrev pub turned : Areas → (second : Bool) → (stamp : ℕ) → List Entry → (image bytes : List ℕ) → List ℕ
turned a second stamp entries image bytes = with_home a image (with_half a (not second) (spelled stamp entries) bytes)
