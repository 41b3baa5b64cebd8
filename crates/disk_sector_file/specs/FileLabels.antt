-- What an image file begins with, where it is one behind a journal (docs/FORMAT.md, "A journal in two halves").
use Rattle.std.specs.Prelude.{◌≡◌, ℕ, ◌^◌, ◌<◌, ◌≤◌, List, length, Option, None, Some}
use Rattle.disk_journal.specs.Labels.{HasLabel, HasNoLabel}
use Rattle.disk_sector_file.specs.declared.labels.FileLabel.{FileLabel}
use Rattle.disk_sector_file.specs.declared.labels.FileLabel.TheVariants.{Journal, Places}
use Rattle.journal_batches.specs.declared.areas.Areas.{Areas}
use Rattle.journal_batches.specs.Areas.{room_of}
use Rattle.journal_batches.specs.Shown.{shown}

-- the bytes begin with the label of a journal with these parts, and are all that it counts
pub record HasJournal (areas : Areas) (bytes : List ℕ) : Type 0 where
  pub label : HasLabel areas bytes
  pub room : room_of areas ≤ length bytes
  pub half : 1 ≤ areas.half

-- they begin with no such label, or have less than it counts
abbrev pub HasNoJournal : List ℕ → Type 0
HasNoJournal bytes = (areas : Areas) → areas.half < 2 ^ 64 → areas.image < 2 ^ 64 → HasJournal areas bytes → ⊥

-- they begin with such a label, have all that it counts, and stand for this image
pub record IsBehind (bytes image : List ℕ) : Type 0 where
  pub areas : Areas
  pub label : HasLabel areas bytes
  pub room : room_of areas ≤ length bytes
  pub stands : image ≡ shown areas bytes

-- of a file that has these bytes this label is told, or none; what is said is of journals alone
abbrev pub IsToldOf : List ℕ → Option FileLabel → Type 0
IsToldOf bytes (Some (Journal areas)) = HasJournal areas bytes
IsToldOf bytes (Some (Places label)) = HasNoJournal bytes
IsToldOf bytes None = HasNoJournal bytes

-- these first bytes spell this label, or none; the same
abbrev pub IsSpelledBy : Option FileLabel → List ℕ → Type 0
IsSpelledBy (Some (Journal areas)) head = HasLabel areas head
IsSpelledBy (Some (Places label)) head = HasNoLabel head
IsSpelledBy None head = HasNoLabel head
