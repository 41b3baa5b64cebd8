-- What the steps leave by which a journal takes writes (this project's own).
use Rattle.std.specs.Prelude.{◌≡◌, ℕ, ◌+◌, ◌≤◌, List, [], ◌∷◌, ◌++◌, length}
use Rattle.block_disk.specs.Device.{SameMoments, written}
use Rattle.atomic_sectors.specs.Left.{LeavesWhole}
use Rattle.disk_journal.specs.Disks.{FitsBatch, Layered, SameBelow, ShowsOldOrNew}
use Rattle.host_journal.specs.Gathered.{FitsAll, KeepsOn, LeavesSince, rest_of, words_in}
use Rattle.host_journal.specs.declared.gathering.Gathering.{Gathering}
use Rattle.host_journal.specs.declared.piece.Piece.{Piece}

-- the write of these bytes is kept, behind the others
pub record Adds (at : ℕ) (bytes : List ℕ) (old new : Gathering) : Type 0 where
  pub piece : Piece
  pub place : piece.at ≡ at
  pub bytes_are : piece.bytes.items ≡ bytes
  pub group : new.group.items ≡ old.group.items ++ piece ∷ []
  pub disk : new.disk ≡ old.disk
  pub moved : new.moved ≡ old.moved
  pub taken : new.taken ≡ old.taken
  pub words : new.words ≡ old.words + words_in (length bytes)
  pub turns : new.turns ≡ old.turns

-- the same writes are kept, with the same counts
pub record SameParts (old new : Gathering) : Type 0 where
  pub group : new.group.items ≡ old.group.items
  pub moved : new.moved ≡ old.moved
  pub taken : new.taken ≡ old.taken
  pub words : new.words ≡ old.words
  pub turns : new.turns ≡ old.turns

-- the journal has taken a write
pub record TakesWrite (at : ℕ) (bytes : List ℕ) (old new : Layered) : Type 0 where
  pub device : new.device ≡ written at bytes old.device
  pub below : SameBelow old new
  pub waiting : new.waiting ≤ old.waiting + words_in (length bytes)

-- it has taken none
pub record TakesNone (old new : Layered) : Type 0 where
  pub device : SameMoments old.device new.device
  pub below : SameBelow old new
  pub waiting : new.waiting ≡ old.waiting

-- it has taken the next one
pub record TakesNext (old new : Gathering) : Type 0 where
  pub piece : Piece
  pub more : List Piece
  pub before : rest_of old ≡ piece ∷ more
  pub after : rest_of new ≡ more
  pub moved : new.moved ≤ length new.group.items
  pub write : TakesWrite piece.at piece.bytes.items old.disk new.disk
  pub taken : new.taken ≡ old.taken + words_in (length piece.bytes.items)
  pub words : new.words ≡ old.words
  pub turns : new.turns ≡ old.turns

-- it has taken what was written, or a part of it, after a turn where not all fits into one batch
pub record Gathers (old new : Gathering) : Type 0 where
  pub keeps : KeepsOn old new
  pub left : LeavesSince old new
  pub areas : new.disk.areas ≡ old.disk.areas
  pub words : new.words ≤ old.words
  -- Where all that was written fits into one batch, the device isn't called, and no turn made.
  pub below : FitsAll old → SameBelow old.disk new.disk
  pub same_words : FitsAll old → new.words ≡ old.words
  pub same_turns : FitsAll old → new.turns ≡ old.turns
  pub idle : old.taken ≡ 0 → SameBelow old.disk new.disk
  pub idle_turns : old.taken ≡ 0 → new.turns ≡ old.turns

-- it has made a turn of what it has taken, or has failed to
pub record Turns (old new : Gathering) : Type 0 where
  pub keeps : KeepsOn old new
  pub left : LeavesSince old new
  -- Where what it has taken fits into a batch, a crash leaves all of it, or nothing.
  pub whole : FitsBatch old.disk → LeavesWhole old.disk.disk new.disk.disk (ShowsOldOrNew old.disk)
  pub areas : new.disk.areas ≡ old.disk.areas
  pub group : new.group ≡ old.group
  pub moved : new.moved ≡ old.moved
  pub words : new.words ≤ old.words
  -- Where the journal has taken nothing, the device isn't called.
  pub idle : old.taken ≡ 0 → new ≡ old
