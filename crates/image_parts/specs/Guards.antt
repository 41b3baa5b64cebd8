-- The guard rows of an image (this project's own format).
use Rattle.std.specs.Prelude.{ℕ, ◌<◌, ◌^◌, ◌≡◌, Bool, true, false, List, ◌++◌, ◌∷◌, length}
use Rattle.std.specs.List.{slice_index_or}
use Rattle.std.specs.Int.{to_be_bytes, w16, w32, w64}
use Rattle.block_disk.specs.Bytes.{part}
use Rattle.guards.specs.Schema.{Declarations, guard_of, owner_of, first_of, is_transient_of}
use Rattle.image_parts.specs.Layout.{guard_at}
use Rattle.image_parts.specs.declared.layout.Layout.{Layout}
use Rattle.image_parts.specs.declared.guard_row.GuardRow.{GuardRow}
use Rattle.image_parts.specs.declared.error.GuardsError.{GuardsError}
use Rattle.image_parts.specs.declared.error.GuardsError.TheVariants.{Fault, BadHeader, NoMemory}

-- the mark of a row
abbrev pub mark_of : (transient : Bool) → ℕ
mark_of true = 1
mark_of false = 0

-- the guard, the mark, a zero, the owner and the first value
abbrev pub guard_bytes : GuardRow → List ℕ
guard_bytes r = to_be_bytes w32 r.guard.0 ++ mark_of r.transient ∷ 0 ∷ to_be_bytes w16 r.owner.0 ++ to_be_bytes w64 r.first

-- numbers of 32, 16 and 64 bits
pub record FitsGuard (r : GuardRow) : Type 0 where
  pub guard : r.guard.0 < 2 ^ 32
  pub owner : r.owner.0 < 2 ^ 16
  pub first : r.first < 2 ^ 64

-- the bytes are those of this row
pub record SpellsGuard (bytes : List ℕ) (r : GuardRow) : Type 0 where
  pub spelled : bytes ≡ guard_bytes r
  pub fits : FitsGuard r

-- the guard and the owner are objects of the image
pub record NamesObjects (objects : ℕ) (r : GuardRow) : Type 0 where
  pub guard : r.guard.0 < objects
  pub owner : r.owner.0 < objects

-- the image has this row for the field
pub record HasGuard (l : Layout) (f : ℕ) (image : List ℕ) (r : GuardRow) : Type 0 where
  pub spelled : part (guard_at f) 16 image ≡ guard_bytes r
  pub objects : NamesObjects l.objects r
  pub fits : FitsGuard r

-- the image has these rows, by field
pub record HasGuards (l : Layout) (image : List ℕ) (rows : List GuardRow) : Type 0 where
  pub size : length rows ≡ l.fields
  pub each : (f : ℕ) (d : GuardRow) → f < l.fields → HasGuard l f image (slice_index_or rows f d)

-- the row of a schema's field
abbrev pub guard_row_of : Declarations → ℕ → GuardRow
guard_row_of schema f = record { guard = record { 0 = guard_of schema f }; owner = record { 0 = owner_of schema f }; first = first_of schema f; transient = is_transient_of schema f }

-- what stands for a row where there is none
abbrev pub no_row : GuardRow
no_row = record { guard = record { 0 = 0 }; owner = record { 0 = 0 }; first = 0; transient = false }

-- what each refusal to read the guard rows says of the image; want of memory comes last
abbrev pub RefusesGuards : Layout → List ℕ → GuardsError → Type 0
RefusesGuards l image Fault = Unit {0}
RefusesGuards l image BadHeader = (rows : List GuardRow) → HasGuards l image rows → ⊥
RefusesGuards l image NoMemory = (f : ℕ) → f < l.fields → (r : GuardRow) × HasGuard l f image r
