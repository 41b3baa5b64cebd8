-- What the crates above may count on: laws of the format, each the contract of a public function.
use Rattle.std.specs.Prelude.{ℕ, ◌≡◌, ◌⊎◌, ◌+◌, ◌*◌, ◌<◌, ◌≤◌, List, [], length, replicate, Result, Ok, Err}
use Rattle.std.specs.List.{slice_index_or}
use Rattle.block_disk.specs.Device.{Device, Range}
use Rattle.block_disk.specs.Images.{Always, ImageBut, IsApart, Survives}
use Rattle.guards.specs.Schema.{Declarations}
use Rattle.image_parts.specs.Cells.{HasCell, HasHome}
use Rattle.image_parts.specs.Control.{AreRows, IsControl, control_bytes}
use Rattle.image_parts.specs.Format.{IsFresh}
use Rattle.image_parts.specs.Guards.{FitsGuard, HasGuards, guard_bytes, guard_row_of}
use Rattle.image_parts.specs.Header.{HasHeader, ReadsHeader, header_bytes}
use Rattle.image_parts.specs.Image.{IsImageOf}
use Rattle.image_parts.specs.Layout.{IsLayout, guard_at, cell_at, area_at, record_at, size_of}
use Rattle.image_parts.specs.Rows.{empty_row}
use Rattle.image_parts.specs.Slots.{Shows, Chooses}
use Rattle.image_parts.specs.declared.control.Control.{Control}
use Rattle.image_parts.specs.declared.error.ControlError.{ControlError}
use Rattle.image_parts.specs.declared.error.ControlError.TheVariants as control
use Rattle.image_parts.specs.declared.error.HeaderError.{HeaderError}
use Rattle.image_parts.specs.declared.error.HeaderError.TheVariants as header
use Rattle.image_parts.specs.declared.guard_row.GuardRow.{GuardRow}
use Rattle.image_parts.specs.declared.layout.Layout.{Layout}
use Rattle.image_parts.specs.declared.slot.Slot.{Slot}

-- Spelling: values in range that have the same bytes are equal.

abbrev pub HeadersDiffer : Type 0
HeadersDiffer = (l other : Layout) → IsLayout l → IsLayout other → header_bytes l ≡ header_bytes other → l ≡ other

abbrev pub GuardRowsDiffer : Type 0
GuardRowsDiffer = (r other : GuardRow) → FitsGuard r → FitsGuard other → guard_bytes r ≡ guard_bytes other → r ≡ other

abbrev pub ControlsDiffer : Type 0
ControlsDiffer = (l : Layout) (c other : Control) → IsControl l c → IsControl l other → control_bytes c ≡ control_bytes other → c ≡ other

-- Reading: what an image has is what its reader answers, or a fault.

abbrev pub HeaderIsRead : Type 0
HeaderIsRead = (l : Layout) (image : List ℕ) (answer : Result Layout HeaderError) → HasHeader image l → size_of l ≤ length image → ReadsHeader image answer
    → (answer ≡ Ok l) ⊎ (answer ≡ Err header.Fault)

abbrev pub ControlIsChosen : Type 0
ControlIsChosen = (l : Layout) (image : List ℕ) (s : Slot) (c : Control) (answer : Result (Slot × Control) ControlError) → Shows l image s c → Chooses l image answer
    → (answer ≡ Ok (s, c)) ⊎ (answer ≡ Err control.Fault)

-- an image has one list of guard rows, and one of home cells
abbrev pub GuardsAreRead : Type 0
GuardsAreRead = (l : Layout) (image : List ℕ) (rows others : List GuardRow) → HasGuards l image rows → HasGuards l image others → rows ≡ others

abbrev pub CellIsRead : Type 0
CellIsRead = (l : Layout) (f : ℕ) (image : List ℕ) (value other : ℕ) → HasCell l f image value → HasCell l f image other → value ≡ other

-- a field has one value at home
abbrev pub HomeIsRead : Type 0
HomeIsRead = (l : Layout) (row : GuardRow) (f : ℕ) (image : List ℕ) (value other : ℕ) → HasHome l row f image value → HasHome l row f image other → value ≡ other

-- Making: an image just made has the schema's guard rows.
abbrev pub FreshIsImage : Type 0
FreshIsImage = (schema : Declarations) (l : Layout) (image : List ℕ) (rows : List GuardRow) → IsFresh schema l image → size_of l ≤ length image → length rows ≡ l.fields
    → ((f : ℕ) (d : GuardRow) → f < l.fields → slice_index_or rows f d ≡ guard_row_of schema f) → IsImageOf l rows image

-- Places: the parts of an image lie one behind the other.
pub record AreApart (l : Layout) : Type 0 where
  -- guard rows before cells, cells before areas
  pub rows : (f g : ℕ) → f < l.fields → guard_at f + 16 ≤ cell_at l g
  pub cells : (f lane : ℕ) → f < l.fields → cell_at l f + 8 ≤ area_at l lane
  -- an area before the next lane's, and the last one before the image's end
  pub areas : (lane other : ℕ) → lane < other → area_at l lane + 16 * l.capacity ≤ area_at l other
  pub within : (lane : ℕ) → lane < l.lanes → area_at l lane + 16 * l.capacity ≤ size_of l
  -- a record within its lane's area, and apart from those of the places before and after it that are in use with it
  pub records : (lane place : ℕ) → (area_at l lane ≤ record_at l lane place) × (record_at l lane place + 16 ≤ area_at l lane + 16 * l.capacity)
  pub places : (lane place later : ℕ) → place < later → later < place + l.capacity
      → (record_at l lane place + 16 ≤ record_at l lane later) ⊎ (record_at l lane later + 16 ≤ record_at l lane place)

-- Survival: a part of an image stays whatever is written apart from it.

abbrev pub HeaderSurvives : Type 0
HeaderSurvives = (l : Layout) (ranges : List Range) → IsApart 0 64 ranges → Survives ranges (λ image. HasHeader image l)

abbrev pub GuardsSurvive : Type 0
GuardsSurvive = (l : Layout) (rows : List GuardRow) (ranges : List Range) → IsApart 2160 (16 * l.fields) ranges → Survives ranges (λ image. HasGuards l image rows)

abbrev pub ControlSurvives : Type 0
ControlSurvives = (l : Layout) (s : Slot) (c : Control) (ranges : List Range) → IsApart 64 2096 ranges → Survives ranges (λ image. Shows l image s c)

abbrev pub CellSurvives : Type 0
CellSurvives = (l : Layout) (f value : ℕ) (ranges : List Range) → IsApart (cell_at l f) 8 ranges → Survives ranges (λ image. HasCell l f image value)

-- so does what a field has at home, whose cell stays
abbrev pub HomeSurvives : Type 0
HomeSurvives = (l : Layout) (row : GuardRow) (f value : ℕ) (ranges : List Range) → IsApart (cell_at l f) 8 ranges → Survives ranges (λ image. HasHome l row f image value)

-- Rows: those of empty logs may be committed to any image.
abbrev pub EmptyRowsFit : Type 0
EmptyRowsFit = (l : Layout) → AreRows l (replicate 32 empty_row)
