-- How a journal goes on to be given what its heap's host makes (this project's own).
use Rattle.std.specs.Prelude.{ℕ, ◌≡◌, ◌⊎◌, ◌+◌, ◌≤◌, List, [], ◌∷◌, length, take, Vec, Ok, Err}
use Rattle.std.specs.Global.{Global}
use Rattle.block_disk.specs.Images.{Continues}
use Rattle.block_disk.specs.Memory.{Stop, Wrote, Synced, bytes_after}
use Rattle.block_disk.specs.declared.error.Fault.{Fault}
use Rattle.disk_deferred.specs.Deferred.{Deferred}
use Rattle.disk_deferred.specs.Joined.{AllFit}
use Rattle.journal_batches.specs.Shown.{shown}
use Rattle.recover.specs.declared.report.Report.{Report}
use Rattle.recover.specs.declared.versions.Versions.{Versions}
use Rattle.host_heap.specs.Hosting.{Hosting, hosted_device}
use Rattle.host_heap.specs.Opening.{IsFound}
use Rattle.host_journal.specs.Calls.{HasOrdered, HasSynced, HasWritten, IsOpened}
use Rattle.host_journal.specs.Hosted.{Hosted}
use Rattle.law_journaled.specs.Given.{WasGiven}

-- the journal was given these calls of the host's; by its last sync, those
abbrev pub HasCalls : (first : List ℕ) → (synced made : List Stop) → Hosted → Type 0
HasCalls first synced made j = WasGiven first synced made j.heap j.base

-- Just after a sync, as in a new journal, only what the journal's heap reads counts.
abbrev pub GivenFirstLaw : Type 0
GivenFirstLaw = (first : List ℕ) (made : List Stop) (j : Hosted) → j.heap.now.pending ≡ [] → j.base ≡ length j.heap.past
    → take (length first) j.heap.now.bytes ≡ bytes_after first made → AllFit (length first) made → HasCalls first made made j

-- A journal was opened, and then a heap from the first of the bytes that it holds. It has the calls that the heap's host has made: none. The heap's
-- disk may have gone on since.
abbrev pub GivenOpenedLaw : Type 0
GivenOpenedLaw = (whole bytes : List ℕ) (j : Hosted) (versions : Versions) (threads ring : ℕ) (x : Hosting) (report : Report) (d : Deferred)
    → IsOpened whole j → take (length bytes) (shown j.areas whole) ≡ bytes → IsFound versions threads ring bytes x report
    → Continues (hosted_device x.helper.store.disk) (hosted_device d) → HasCalls d.memory.first [] [] j

-- A write that the journal takes, the host has made.
abbrev pub GivenWriteLaw : Type 0
GivenWriteLaw = (first : List ℕ) (synced made : List Stop) (at : ℕ) (bytes : Vec ℕ Global) (x y : Hosted)
    → HasCalls first synced made x → HasWritten at bytes.items x y (Ok tt) → at + length bytes.items ≤ length first
    → HasCalls first synced (Wrote at bytes.items ∷ made) y

-- So it has a sync that the journal takes as an order. It may also count it as made later.
abbrev pub GivenOrderLaw : Type 0
GivenOrderLaw = (first : List ℕ) (synced made : List Stop) (x y : Hosted) → HasCalls first synced made x → HasOrdered x y (Ok tt)
    → HasCalls first synced (Synced ∷ made) y × HasCalls first synced made y

-- After a sync all that the host has made is synced.
abbrev pub GivenSyncLaw : Type 0
GivenSyncLaw = (first : List ℕ) (synced made : List Stop) (x y : Hosted) → HasCalls first synced made x → HasSynced x y (Ok tt)
    → HasCalls first (Synced ∷ made) (Synced ∷ made) y × HasCalls first made made y

-- An order or a sync that fails leaves what the journal was given.
abbrev pub GivenFaultLaw : Type 0
GivenFaultLaw = (first : List ℕ) (synced made : List Stop) (x y : Hosted) (why : Fault) → HasCalls first synced made x
    → HasOrdered x y (Err why) ⊎ HasSynced x y (Err why) → HasCalls first synced made y
