-- What C is told of the first bytes of a device: whose image they begin, or whether there may have been one (this project's own).
use Rattle.std.specs.Prelude.{ℕ, ◌≡◌, ◌⊎◌, ◌<◌, ◌≤◌, ◌+◌, ◌*◌, List, [], ◌∷◌, length, All}
use Rattle.block_disk.specs.Bytes.{part}
use Rattle.image_parts.specs.Head.{HasNoControl, IsNamed, fields_in}
use Rattle.image_parts.specs.Header.{HasHeader, IsFormatted}
use Rattle.image_parts.specs.Layout.{size_of}
use Rattle.image_parts.specs.declared.layout.Layout.{Layout}
use Rattle.zelamiku.specs.declared.status.TheConstants.{BAD_HEADER, NOT_FORMATTED, OK, TOO_SMALL}
use Rattle.zelamiku.specs.declared.words.Head.{Head}

-- there is no image, and no sign that there was one
abbrev pub no_head : Head
no_head = record { size = 0; zeros_from = 0; objects = 0; fields = 0; lanes = 0; capacity = 0; is_damaged = 0 }

-- there may have been one
abbrev pub damaged_head : Head
damaged_head = record { size = 0; zeros_from = 0; objects = 0; fields = 0; lanes = 0; capacity = 0; is_damaged = 1 }

-- one was being made, whose areas begin there
abbrev pub begun_head : (zeros_from : ℕ) → Head
begun_head zeros_from = record { size = 0; zeros_from = zeros_from; objects = 0; fields = 0; lanes = 0; capacity = 0; is_damaged = 0 }

-- there is one of this layout
abbrev pub head_of : Layout → Head
head_of l = record { size = size_of l; zeros_from = 0; objects = l.objects; fields = l.fields; lanes = l.lanes; capacity = l.capacity; is_damaged = 0 }

-- slot A of a new image up to its rows: an open gate, seven zeros, sequence 1, version 2, four zeros
abbrev pub first_control : List ℕ
first_control =
    165 ∷ 0 ∷ 0 ∷ 0 ∷ 0 ∷ 0 ∷ 0 ∷ 0
    ∷ 0 ∷ 0 ∷ 0 ∷ 0 ∷ 0 ∷ 0 ∷ 0 ∷ 1
    ∷ 0 ∷ 0 ∷ 0 ∷ 2 ∷ 0 ∷ 0 ∷ 0 ∷ 0 ∷ []

-- the control with which an image is made, with empty logs, and no other: a heap's first round, and its first recovery, write slot B
pub record HasFirstControl (begun : List ℕ) : Type 0 where
  pub first : part 64 24 begun ≡ first_control
  pub zeros : All (λ byte. byte ≡ 0) (part 88 2072 begun)

-- no control counts but the one with which an image is made
abbrev pub IsUnused : List ℕ → Type 0
IsUnused begun = HasNoControl begun ⊎ HasFirstControl begun

-- A making in place that was cut off before its last gate may leave these bytes, and zeros after the rows and cells of so many fields.
pub record IsBegun (begun : List ℕ) : Type 0 where
  pub named : IsNamed begun
  pub shut : IsFormatted begun → ⊥
  pub unused : IsUnused begun
  pub fields : fields_in begun ≤ 16384

-- `zelamiku_head`
pub data TellsHead (begun : List ℕ) (head : Head) (status : ℕ) : Type 0 where
  IsShort : length begun < 2160 → head ≡ no_head → status ≡ TOO_SMALL → TellsHead begun head status
  IsImage : (l : Layout) → 2160 ≤ length begun → HasHeader begun l → head ≡ head_of l → status ≡ OK → TellsHead begun head status
  IsNoHeader : 2160 ≤ length begun → IsFormatted begun → ((l : Layout) → HasHeader begun l → ⊥) → head ≡ damaged_head → status ≡ BAD_HEADER → TellsHead begun head status
  IsOther : 2160 ≤ length begun → (IsNamed begun → ⊥) → head ≡ no_head → status ≡ NOT_FORMATTED → TellsHead begun head status
  IsMaking : 2160 ≤ length begun → IsBegun begun → head ≡ begun_head (2160 + 24 * fields_in begun) → status ≡ NOT_FORMATTED → TellsHead begun head status
  IsDamaged : 2160 ≤ length begun → IsNamed begun → (IsFormatted begun → ⊥) → (IsBegun begun → ⊥) → head ≡ damaged_head → status ≡ NOT_FORMATTED → TellsHead begun head status
