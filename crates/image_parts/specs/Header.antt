-- The header of an image (this project's own format).
use Rattle.std.specs.Prelude.{ℕ, ◌≤◌, ◌<◌, ◌≡◌, List, [], ◌∷◌, ◌++◌, length, replicate, Result, Ok, Err}
use Rattle.std.specs.Int.{to_be_bytes, w32, w64}
use Rattle.block_disk.specs.Bytes.{part}
use Rattle.image_parts.specs.Layout.{IsLayout, size_of}
use Rattle.image_parts.specs.declared.layout.Layout.{Layout}
use Rattle.image_parts.specs.declared.error.HeaderError.{HeaderError}
use Rattle.image_parts.specs.declared.error.HeaderError.TheVariants.{Fault, NotFormatted, BadHeader, TooSmall}

-- `MONIHEAP` in ASCII
abbrev pub name : List ℕ
name = 77 ∷ 79 ∷ 78 ∷ 73 ∷ 72 ∷ 69 ∷ 65 ∷ 80 ∷ []

-- the name, the open gate, the lanes, two zeros, the objects, the fields, the capacity, the size and 32 zeros
abbrev pub header_bytes : Layout → List ℕ
header_bytes l = name ++ 165 ∷ l.lanes ∷ 0 ∷ 0 ∷ to_be_bytes w32 l.objects ++ to_be_bytes w32 l.fields ++ to_be_bytes w32 l.capacity
    ++ to_be_bytes w64 (size_of l) ++ replicate 32 0

-- there is room for a header, and the name and an open gate stand there
pub record IsFormatted (image : List ℕ) : Type 0 where
  pub room : 64 ≤ length image
  pub name : part 0 9 image ≡ name ++ 165 ∷ []

-- the image has the header of this layout
pub record HasHeader (image : List ℕ) (l : Layout) : Type 0 where
  pub room : 64 ≤ length image
  pub spelled : part 0 64 image ≡ header_bytes l
  pub limits : IsLayout l

-- what each answer of reading a header says of the image
abbrev pub ReadsHeader : List ℕ → Result Layout HeaderError → Type 0
ReadsHeader image (Ok l) = HasHeader image l × (size_of l ≤ length image)
ReadsHeader image (Err Fault) = Unit {0}
ReadsHeader image (Err NotFormatted) = IsFormatted image → ⊥
ReadsHeader image (Err BadHeader) = IsFormatted image × ((l : Layout) → HasHeader image l → ⊥)
ReadsHeader image (Err TooSmall) = (l : Layout) × HasHeader image l × (length image < size_of l)
