-- The label with which a file begins.
use Rattle.std.proofs.Common.{◌≡◌, ◌∙◌, List, ℕ, None, Option, Some, IfSome, ap, arith, length, take, take-take}
use Rattle.block_disk.specs.Bytes.{part}
use Rattle.disk_file.specs.Backing.{Held}
use Rattle.disk_sector_file.specs.FileLabels.{IsToldOf}
use Rattle.disk_sector_file.specs.declared.labels.FileLabel.{FileLabel}

-- what is told of the first bytes that a file reads is told of the file
pub told : (file : Option Held) (count : ℕ) (head : List ℕ) (label : Option FileLabel) → IfSome file (λ h. count ≡ length h.reads)
    → IfSome file (λ h. head ≡ part 0 24 h.reads)
    → ((bytes : List ℕ) → take 24 head ≡ take 24 bytes → count ≡ length bytes → IsToldOf bytes label) → IfSome file (λ h. IsToldOf h.reads label)
told None count head label long read is = tt
told (Some h) count head label long read is =
    is h.reads (ap (λ (xs : List ℕ). take 24 xs) read ∙ take-take 24 24 h.reads (omega arith)) long
