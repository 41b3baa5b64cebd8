-- What a heap's calls make of its device over a journal, and what they answer (this project's own).
use Rattle.std.specs.Prelude.{◌≡◌, ◌+◌, ◌-◌, ◌/◌, ◌^◌, ◌<◌, ◌≤◌, ℕ, List, length, min, replicate, IsErrOf, OnErr, OnOk, Result}
use Rattle.block_disk.specs.Bytes.{part}
use Rattle.block_disk.specs.Device.{Device, LeftSince, new_device, synced, written}
use Rattle.block_disk.specs.declared.error.DiskError.{DiskError}
use Rattle.block_disk.specs.declared.error.DiskError.TheVariants.{Fault, OutOfRange}
use Rattle.block_disk.specs.declared.error.Fault.{Fault as Failed}
use Rattle.atomic_sectors.specs.Left.{AlwaysWhole, LeavesWhole, MakesSyncs}
use Rattle.journal_batches.specs.declared.areas.Areas.{Areas}
use Rattle.journal_batches.specs.Areas.{image_bytes}
use Rattle.journal_batches.specs.Shown.{shown}
use Rattle.disk_journal.specs.declared.error.JournalError.{JournalError}
use Rattle.disk_journal.specs.declared.error.JournalError.TheVariants.{Fault as JournalFault, NoJournal, NoMemory, TooSmall, Worn}
use Rattle.disk_journal.specs.Labels.{HasLabel}
use Rattle.disk_journal.specs.Opened.{TellsWhy, WritesAgain}
use Rattle.disk_journal.specs.Stands.{IsMadeOrNone, StandsStill}
use Rattle.host_journal.specs.Hosted.{EverWhole, FitsTurn, Hosted, IsFresh, IsNew, IsOldOrNew, StandsFor}

-- the journal of a device of these bytes
pub record IsOpened (bytes : List ℕ) (h : Hosted) : Type 0 where
  -- The heap's device is what the device stands for.
  pub heap : h.heap ≡ new_device (shown h.areas bytes)
  pub new : IsNew h
  pub label : HasLabel h.areas bytes
  -- A crash at any moment of an opening leaves what stands for the same image.
  pub left : EverWhole h.disk (StandsStill h.areas bytes)
  -- The device below had these bytes, before all calls.
  pub begun : Device
  pub fresh : IsFresh bytes begun
  -- Before its first flush an opening has written again what it trusts.
  pub again : WritesAgain h.areas begun h.disk
  -- An opening makes three flushes.
  pub three_syncs : MakesSyncs 3 begun h.disk

-- a refusal says why
abbrev pub RefusesOpening : (bytes : List ℕ) → JournalError → Type 0
RefusesOpening bytes why = TellsWhy why bytes

-- a journal of zeros, with these parts
pub record IsMade (a : Areas) (h : Hosted) : Type 0 where
  -- A new heap's device has zeros.
  pub heap : h.heap ≡ new_device (replicate (image_bytes a) 0)
  pub areas : h.areas ≡ a
  pub new : IsNew h
  -- A making that is cut off leaves no label, or a journal of zeros.
  pub left : EverWhole h.disk (IsMadeOrNone a)

-- why none is made: its halves have no page, or a want of memory, or a fault
abbrev pub RefusesMaking : Areas → JournalError → Type 0
RefusesMaking a NoJournal = ⊥
RefusesMaking a TooSmall = a.half ≡ 0
RefusesMaking a Worn = ⊥
RefusesMaking a JournalFault = Unit {0}
RefusesMaking a NoMemory = Unit {0}

-- a read of the image: what was to take the bytes, before and after
pub record HasRead (at : ℕ) (out filled : List ℕ) (h : Hosted) (answer : Result (Unit {0}) DiskError) : Type 0 where
  -- A read gives the bytes as they were at the last order or sync.
  pub ok : OnOk answer (filled ≡ part at (length out) h.image)
  pub in_range : OnOk answer (at + length out ≤ length h.image)
  pub out_of_range : IsErrOf answer OutOfRange → length h.image < at + length out
  pub refused : OnErr answer (filled ≡ out)
  pub no_fault : ¬ IsErrOf answer Fault

-- a write
pub record HasWritten (at : ℕ) (bytes : List ℕ) (old new : Hosted) (answer : Result (Unit {0}) DiskError) : Type 0 where
  -- A write that is kept is the latest moment of the heap's device, and leaves all else.
  pub ok : OnOk answer (new ≡ record old { heap = written at bytes old.heap; words = old.words + (length bytes / 8 + 2) })
  pub in_range : OnOk answer (at + length bytes ≤ length old.heap.now.bytes)
  pub out_of_range : IsErrOf answer OutOfRange → length old.heap.now.bytes < at + length bytes
  -- A write that is refused leaves all as it was.
  pub refused : OnErr answer (new ≡ old)

-- an order
pub record HasOrdered (old new : Hosted) (answer : Result (Unit {0}) Failed) : Type 0 where
  -- An order is a sync of the heap's device.
  pub ok : OnOk answer (new.heap ≡ synced old.heap)
  pub err : OnErr answer (new.heap ≡ old.heap)
  -- A crash at any moment of it leaves what stands for an image that one of the heap's device might have left since the last sync, whatever the answer.
  pub left : LeavesWhole old.disk new.disk (StandsFor old.areas (LeftSince old.base new.heap))
  pub image : OnOk answer (new.image ≡ new.heap.now.bytes)
  -- An order of words that fit into a batch doesn't call the device.
  pub no_call : FitsTurn old → new.disk ≡ old.disk
  pub waits : FitsTurn old → new.words ≡ old.words
  pub words : new.words ≤ old.words
  pub turns : FitsTurn old → new.turns ≡ old.turns
  pub base : new.base ≡ old.base
  pub areas : new.areas ≡ old.areas
  pub calls : new.calls ≡ old.calls

-- a sync
pub record HasSynced (old new : Hosted) (answer : Result (Unit {0}) Failed) : Type 0 where
  pub ok : OnOk answer (new.heap ≡ synced old.heap)
  pub err : OnErr answer (new.heap ≡ old.heap)
  -- A crash at any moment of it leaves what stands for an image that one of the heap's device might have left since the last sync, whatever the answer.
  pub left : LeavesWhole old.disk new.disk (StandsFor old.areas (LeftSince old.base new.heap))
  -- Where the words fit into a batch, it leaves what stands for all that was written since the last turn, or for nothing of it.
  pub whole : FitsTurn old → LeavesWhole old.disk new.disk (StandsFor old.areas (IsOldOrNew old))
  pub image : OnOk answer (new.image ≡ new.heap.now.bytes)
  -- From a sync on a crash leaves only what the heap's device may leave since then, and just after it what that reads.
  pub base : OnOk answer (new.base ≡ length new.heap.past)
  pub durable : OnOk answer (AlwaysWhole new.disk (StandsFor new.areas (λ image. image ≡ new.heap.now.bytes)))
  pub base_err : OnErr answer (new.base ≡ old.base)
  -- Words that fit into a batch take one flush, and no words take none.
  pub one_flush : FitsTurn old → 0 < old.words → OnOk answer (MakesSyncs 1 old.disk new.disk)
  pub no_flush : old.words ≡ 0 → new.disk ≡ old.disk
  pub words : OnOk answer (new.words ≡ 0)
  pub words_err : OnErr answer (new.words ≤ old.words)
  pub turns : FitsTurn old → 0 < old.words → OnOk answer (new.turns ≡ min (old.turns + 1) (2 ^ 64 - 1))
  -- A sync of no words, and one that fails of words that fit into a batch, counts no turn.
  pub turns_none : old.words ≡ 0 → new.turns ≡ old.turns
  pub turns_err : FitsTurn old → OnErr answer (new.turns ≡ old.turns)
  pub areas : new.areas ≡ old.areas
  pub calls : new.calls ≡ old.calls
