-- How the guard rows are read: a block of them at a time.
use Rattle.std.specs.Prelude.{ℕ, ◌+◌, ◌*◌, ◌<◌, List}
use Rattle.std.specs.List.{slice_index_or}
use Rattle.block_disk.specs.Bytes.{part}
use Rattle.image_parts.specs.Guards.{SpellsGuard, HasGuard, HasGuards}
use Rattle.image_parts.specs.declared.layout.Layout.{Layout}
use Rattle.image_parts.specs.declared.guard_row.GuardRow.{GuardRow}
use Rattle.image_parts.specs.declared.error.GuardsError.{GuardsError}
use Rattle.image_parts.specs.declared.error.GuardsError.TheVariants.{Fault, BadHeader, NoMemory}

-- row i of these bytes
abbrev pub HoldsRow : List ℕ → ℕ → GuardRow → Type 0
HoldsRow bytes i r = SpellsGuard (part (16 * i) 16 bytes) r

-- the first n rows of these bytes
abbrev pub HoldsRows : List ℕ → ℕ → List GuardRow → Type 0
HoldsRows bytes n rows = (i : ℕ) (d : GuardRow) → i < n → HoldsRow bytes i (slice_index_or rows i d)

-- one of the first n rows of these bytes is none
abbrev pub HoldsNoRow : List ℕ → ℕ → Type 0
HoldsNoRow bytes n = (i : ℕ) × (i < n) × ((r : GuardRow) → HoldsRow bytes i r → ⊥)

-- the image has these rows for `count` fields from the first on
abbrev pub HasBlock : Layout → ℕ → ℕ → List ℕ → List GuardRow → Type 0
HasBlock l first count image rows = (i : ℕ) (d : GuardRow) → i < count → HasGuard l (first + i) image (slice_index_or rows i d)

-- the image has a row for each field below n
abbrev pub HasEach : Layout → ℕ → List ℕ → Type 0
HasEach l n image = (f : ℕ) → f < n → (r : GuardRow) × HasGuard l f image r

-- what a refusal to read a block says of the image
abbrev pub RefusesBlock : Layout → List ℕ → GuardsError → Type 0
RefusesBlock l image Fault = Unit {0}
RefusesBlock l image BadHeader = (rows : List GuardRow) → HasGuards l image rows → ⊥
RefusesBlock l image NoMemory = ⊥
