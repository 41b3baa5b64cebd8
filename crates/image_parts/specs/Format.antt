-- Making an image (this project's own).
use Rattle.std.specs.Prelude.{ℕ, zero, suc, ◌<◌, List, [], ◌∷◌, ◌++◌, take, drop, replicate}
use Rattle.std.specs.Int.{to_be_bytes, w64}
use Rattle.guards.specs.Schema.{Declarations, first_of}
use Rattle.image_parts.specs.Calls.{Call, Write, Sync}
use Rattle.image_parts.specs.Cells.{HasCell}
use Rattle.image_parts.specs.Control.{control_bytes, empty_control}
use Rattle.image_parts.specs.Guards.{HasGuard, guard_bytes, guard_row_of}
use Rattle.image_parts.specs.Header.{HasHeader, header_bytes}
use Rattle.image_parts.specs.Layout.{guard_at, cell_at}
use Rattle.image_parts.specs.Slots.{Shows}
use Rattle.image_parts.specs.declared.layout.Layout.{Layout}
use Rattle.image_parts.specs.declared.slot.Slot.TheVariants.{A}

-- the whole slot A of a fresh image: an open gate, seven zeros, and the control with sequence 1
unfoldable pub fresh_slot : List ℕ
fresh_slot = 165 ∷ replicate 7 0 ++ control_bytes (empty_control 1)

-- the whole slot B of a fresh image
unfoldable pub closed_slot : List ℕ
closed_slot = replicate 1048 0

-- the header with its gate closed: first the gate, alone, so that nothing counts while the rest is written
abbrev pub name_calls : Layout → List Call
name_calls l = Write 8 (0 ∷ []) ∷ Sync ∷ Write 0 (take 8 (header_bytes l)) ∷ Write 9 (drop 9 (header_bytes l)) ∷ []

-- both slots
abbrev pub slot_calls : List Call
slot_calls = Write 64 fresh_slot ∷ Write 1112 closed_slot ∷ []

-- the guard row and the home cell of a field
abbrev pub field_calls : Layout → Declarations → ℕ → List Call
field_calls l schema f = Write (guard_at f) (guard_bytes (guard_row_of schema f)) ∷ Write (cell_at l f) (to_be_bytes w64 (first_of schema f)) ∷ []

-- those of the fields below n
abbrev pub all_field_calls : Layout → Declarations → ℕ → List Call
all_field_calls l schema zero = []
all_field_calls l schema (suc f) = all_field_calls l schema f ++ field_calls l schema f

-- all that makes an image; the header's gate is opened last, over what is durable by then
abbrev pub format_calls : Layout → Declarations → List Call
format_calls l schema = name_calls l ++ slot_calls ++ all_field_calls l schema l.fields ++ Sync ∷ Write 8 (165 ∷ []) ∷ Sync ∷ []

-- the field's guard row and home cell are the schema's
pub record HasField (schema : Declarations) (l : Layout) (f : ℕ) (image : List ℕ) : Type 0 where
  pub row : HasGuard l f image (guard_row_of schema f)
  pub cell : HasCell l f image (first_of schema f)

-- an image just made: the header, slot A with sequence 1 and empty lanes, the guard rows and the first values
pub record IsFresh (schema : Declarations) (l : Layout) (image : List ℕ) : Type 0 where
  pub header : HasHeader image l
  -- A new image has a control of version 2, with sequence 1 and empty logs.
  pub control : Shows l image A (empty_control 1)
  pub fields : (f : ℕ) → f < l.fields → HasField schema l f image
