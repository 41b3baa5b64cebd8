-- A journal, and the writes that it is yet to take, as the heap's device has them (this project's own).
use Rattle.std.specs.Prelude.{◌≡◌, ◌⊎◌, ℕ, ◌+◌, ◌/◌, ◌≤◌, List, [], ◌∷◌, length, drop, All, Contains}
use Rattle.block_disk.specs.Bytes.{spliced}
use Rattle.block_disk.specs.Device.{Device, Image, LeftSince, Moment, range_of}
use Rattle.block_disk.specs.Memory.{Stop}
use Rattle.block_disk.specs.Traced.{Traced}
use Rattle.atomic_sectors.specs.Left.{AlwaysWhole, LeavesWhole}
use Rattle.journal_batches.specs.Spelled.{pages_for}
use Rattle.disk_deferred.specs.Joined.{at_sync}
use Rattle.disk_journal.specs.Disks.{FitsBatch, IsSettled, Layered}
use Rattle.disk_deferred.specs.Host.{Host}
use Rattle.host_journal.specs.Hosted.{Hosted, StandsFor}
use Rattle.host_journal.specs.declared.gathering.Gathering.{Gathering}
use Rattle.host_journal.specs.declared.piece.Piece.{Piece}

-- how many words bytes of this length may touch
abbrev pub words_in : ℕ → ℕ
words_in n = n / 8 + 2

-- how many words the pieces may touch
abbrev pub words_of : List Piece → ℕ
words_of [] = 0
words_of (p ∷ later) = words_in (length p.bytes.items) + words_of later

-- bytes after these pieces, the first one first
abbrev pub laid : List Piece → List ℕ → List ℕ
laid [] bytes = bytes
laid (p ∷ later) bytes = laid later (spliced bytes p.at p.bytes.items)

-- the piece is a write within the device that is pending at this moment
abbrev pub IsPending : Moment → Piece → Type 0
IsPending m p = (p.at + length p.bytes.items ≤ length m.bytes) × Contains m.pending (range_of p.at p.bytes.items)

-- At this moment of the heap's device the journal has these bytes: they are an image that a crash of it may leave, and with the pieces, all of which are pending, they
-- are what it reads.
pub record IsBehind (heap : Moment) (bytes : List ℕ) (rest : List Piece) : Type 0 where
  pub reads : heap.bytes ≡ laid rest bytes
  pub pending : All (IsPending heap) rest
  pub image : Image heap bytes

-- the pieces that the journal is yet to take
abbrev pub rest_of : Gathering → List Piece
rest_of g = drop g.moved g.group.items

-- the counts of words are right
pub record IsCounted (g : Gathering) : Type 0 where
  pub moved : g.moved ≤ length g.group.items
  pub words : g.words ≡ g.taken + words_of (rest_of g)

-- all that was written fits into one batch
abbrev pub FitsAll : Gathering → Type 0
FitsAll g = pages_for g.words ≤ g.disk.areas.half

-- nothing was written to the journal since the last turn
pub record IsTurned (d : Layered) : Type 0 where
  pub settled : IsSettled d
  pub durable : d.device.now.pending ≡ []

-- the heap's device, how many of its moments came before the end of the last sync, the journal under it, and what that is yet to take
pub record IsGathering (heap : Device) (base : ℕ) (g : Gathering) : Type 0 where
  pub behind : IsBehind heap.now g.disk.device.now.bytes (rest_of g)
  pub counted : IsCounted g
  pub few : g.disk.waiting ≤ g.taken
  pub turned : g.taken ≡ 0 → IsTurned g.disk
  pub recent : base ≤ length heap.past
  -- A turn leaves the image of before it or the one of after it, or what a crash of the heap's device might have left.
  pub possible : FitsBatch g.disk ⊎ ((image : List ℕ) → Image g.disk.device.now image → LeftSince base heap image)
  pub crash : AlwaysWhole g.disk.disk (StandsFor g.disk.areas (LeftSince base heap))

-- what the pieces would be added to: a batch into which all fits, or a journal of which a crash may leave only what one of the heap's device may leave now
abbrev pub TakesOn : Device → Gathering → Type 0
TakesOn heap g = FitsAll g ⊎ ((image : List ℕ) → Image g.disk.device.now image → Image heap.now image)

-- the device is that of the heap's calls, and the marks count its moments
pub record IsHosted (g : Gathering) (trace : Traced) (marks : List Stop) : Type 0 where
  pub gathers : IsGathering trace.device (length (at_sync marks)) g
  pub count : length marks ≡ length trace.device.past

-- what clauses see of them
abbrev pub view_of : Gathering → Traced → (marks : List Stop) → (calls : Host) → Hosted
view_of g trace marks calls = record {
  heap = trace.device;
  disk = g.disk.disk;
  areas = g.disk.areas;
  image = g.disk.device.now.bytes;
  words = g.words;
  base = length (at_sync marks);
  turns = g.turns;
  calls = calls;
}

-- as above, whatever the device
abbrev pub KeepsOn : (old new : Gathering) → Type 0
KeepsOn old new = (heap : Device) (base : ℕ) → IsGathering heap base old → IsGathering heap base new

-- a crash at any moment of it leaves what stands for an image that one of the heap's device might have left since the last sync
abbrev pub LeavesSince : (old new : Gathering) → Type 0
LeavesSince old new = (heap : Device) (base : ℕ) → IsGathering heap base old
    → LeavesWhole old.disk.disk new.disk.disk (StandsFor old.disk.areas (LeftSince base heap))
