-- A heap's device over a journal, as clauses see it (this project's own).
use Rattle.std.specs.Prelude.{◌≡◌, ◌⊎◌, ℕ, ◌≤◌, List, []}
use Rattle.block_disk.specs.Device.{Device}
use Rattle.atomic_sectors.specs.Left.{MixedSince}
use Rattle.journal_batches.specs.declared.areas.Areas.{Areas}
use Rattle.journal_batches.specs.Shown.{shown}
use Rattle.journal_batches.specs.Spelled.{pages_for}
use Rattle.disk_deferred.specs.Host.{Host}
use Rattle.disk_journal.specs.Labels.{HasLabel}

-- the device that the heap's calls have made; the device below, its parts, and the image that the journal on it holds; and the calls for the host
pub record Hosted : Type 0 where
  pub heap : Device
  pub disk : Device
  pub areas : Areas
  pub image : List ℕ
  -- how many words were written since the last turn, at most; a sync makes a turn, and so may an order
  pub words : ℕ
  -- how many moments of the heap's device came before the end of the last sync that isn't an order
  pub base : ℕ
  -- how many turns took one flush
  pub turns : ℕ
  pub calls : Host

-- an image of the device below: it has the journal's label, and what it stands for has P
pub record StandsFor (a : Areas) (P : List ℕ → Type 0) (left : List ℕ) : Type 0 where
  pub label : HasLabel a left
  pub image : P (shown a left)

-- a device of these bytes, durably, which nothing was asked of yet
abbrev pub IsFresh : List ℕ → Device → Type 0
IsFresh bytes d = (d.now ≡ record { bytes = bytes; pending = [] }) × (d.past ≡ [])

-- each image that a crash at any moment of the device might have left has P
abbrev pub EverWhole : Device → (List ℕ → Type 0) → Type 0
EverWhole d P = (image : List ℕ) → MixedSince 0 d image → P image

-- the words that were written fit into one batch
abbrev pub FitsTurn : Hosted → Type 0
FitsTurn h = pages_for h.words ≤ h.areas.half

-- what the device below stands for, or what the heap's device reads
abbrev pub IsOldOrNew : Hosted → List ℕ → Type 0
IsOldOrNew h image = (image ≡ shown h.areas h.disk.now.bytes) ⊎ (image ≡ h.heap.now.bytes)

-- only the calls for the host may differ
abbrev pub SameButCalls : (old new : Hosted) → Type 0
SameButCalls old new = new ≡ record old { calls = new.calls }

-- nothing was written yet: the journal has the heap's bytes, and the host has made no call
pub record IsNew (h : Hosted) : Type 0 where
  pub image : h.image ≡ h.heap.now.bytes
  pub words : h.words ≡ 0
  pub base : h.base ≡ 0
  pub turns : h.turns ≡ 0
  pub made : h.calls.made ≡ []
  pub left : h.calls.left ≡ []
