-- What the first bytes of a device say, whatever they are (this project's own format).
use Rattle.std.specs.Prelude.{ℕ, ◌≡◌, List}
use Rattle.std.specs.Int.{from_be_bytes, w32}
use Rattle.block_disk.specs.Bytes.{part}
use Rattle.image_parts.specs.Header.{name}
use Rattle.image_parts.specs.Slots.{body, gate, sequence_of}
use Rattle.image_parts.specs.declared.slot.Slot.{Slot}

-- the image's name stands there
abbrev pub IsNamed : List ℕ → Type 0
IsNamed begun = part 0 8 begun ≡ name

-- how many fields the header says, whatever its gate
abbrev pub fields_in : List ℕ → ℕ
fields_in begun = from_be_bytes w32 (part 16 4 begun)

-- no slot of the control counts that has a sequence, as one has from the making of a heap on
abbrev pub HasNoControl : List ℕ → Type 0
HasNoControl begun = (s : Slot) → gate s begun ≡ 165 → sequence_of (body s begun) ≡ 0
