-- The entries of a batch: words of eight bytes at places of an image (this project's own).
use Rattle.std.specs.Prelude.{◌≡◌, ◌⊎◌, ℕ, ◌+◌, ◌<◌, ◌≤◌, nat_le, if◌then◌else◌, List, [], ◌∷◌, ◌++◌, length, slice_index, All, Any}
use Rattle.std.specs.Int.{to_be_bytes, w64}
use Rattle.block_disk.specs.Bytes.{part, spliced}
use Rattle.journal_batches.specs.declared.entry.Entry.{Entry}

-- the entry's word at its place of the image, if it lies within
abbrev pub entered : Entry → List ℕ → List ℕ
entered e image = if nat_le (e.at + 8) (length image) then spliced image e.at (to_be_bytes w64 e.word) else image

-- the words of these entries, one after the other
abbrev pub replayed : List Entry → List ℕ → List ℕ
replayed [] image = image
replayed (e ∷ later) image = replayed later (entered e image)

-- an entry as it stands in a sector: its place and its word
abbrev pub entry_bytes : Entry → List ℕ
entry_bytes e = to_be_bytes w64 e.at ++ to_be_bytes w64 e.word

-- entries, one behind the other
abbrev pub entries_bytes : List Entry → List ℕ
entries_bytes [] = []
entries_bytes (e ∷ later) = entry_bytes e ++ entries_bytes later

-- the entry lies within the image, and has its word of there
abbrev pub IsOf : (image : List ℕ) → Entry → Type 0
IsOf image e = (e.at + 8 ≤ length image) × (to_be_bytes w64 e.word ≡ part e.at 8 image)

-- so does each
abbrev pub AreOf : (image : List ℕ) → List Entry → Type 0
AreOf image entries = All (λ e. IsOf image e) entries

-- byte i lies in the word of one of these entries
abbrev pub Covers : List Entry → (i : ℕ) → Type 0
Covers entries i = Any (λ e. (e.at ≤ i) × (i < e.at + 8)) entries

-- the images differ in bytes of these entries' words alone
pub record DifferWithin (entries : List Entry) (old new : List ℕ) : Type 0 where
  pub size : length new ≡ length old
  pub same : (i : ℕ) → (slice_index new i ≡ slice_index old i) ⊎ Covers entries i

-- each byte is that of the one image or of the other
pub record IsEither (old new image : List ℕ) : Type 0 where
  pub size : length image ≡ length old
  pub each : (i : ℕ) → (slice_index image i ≡ slice_index old i) ⊎ (slice_index image i ≡ slice_index new i)
