-- How large an image is, and where its parts lie (this project's own). Places count bytes from the image's start.
use Rattle.std.specs.Prelude.{ℕ, ◌+◌, ◌*◌, ◌%◌, ◌≡◌, ◌≤◌}
use Rattle.guards.specs.Schema.{Declarations, IsSchema, object_count, field_count}
use Rattle.image_parts.specs.declared.layout.Layout.{Layout}

-- each number is within its limits
pub record IsLayout (l : Layout) : Type 0 where
  pub objects : (1 ≤ l.objects) × (l.objects ≤ 4096)
  pub fields : (1 ≤ l.fields) × (l.fields ≤ 16384)
  pub lanes : (1 ≤ l.lanes) × (l.lanes ≤ 32)
  pub capacity : (2000 ≤ l.capacity) × (l.capacity ≤ 1048576)

-- the layout has as many objects and fields as the schema, which was built
pub record IsLayoutOf (schema : Declarations) (l : Layout) : Type 0 where
  pub built : IsSchema schema
  pub objects : l.objects ≡ object_count schema
  pub fields : l.fields ≡ field_count schema
  pub limits : IsLayout l

-- where field f's guard row begins, behind the header's 64 bytes and two slots of 1,048
abbrev pub guard_at : ℕ → ℕ
guard_at f = 2160 + 16 * f

-- where field f's home cell begins, behind the guard rows
abbrev pub cell_at : Layout → ℕ → ℕ
cell_at l f = 2160 + 16 * l.fields + 8 * f

-- where a lane's area begins, behind the home cells: one of `capacity` records of 16 bytes
abbrev pub area_at : Layout → ℕ → ℕ
area_at l lane = 2160 + 24 * l.fields + 16 * lane * l.capacity

-- where a lane's record lies that has this place; places are used again, `capacity` places later
abbrev pub record_at : Layout → ℕ → ℕ → ℕ
record_at l lane place = area_at l lane + 16 * (place % l.capacity)

-- the size of the image: header and slots, a guard row and a cell for each field, and the areas
abbrev pub size_of : Layout → ℕ
size_of l = 2160 + 24 * l.fields + 16 * l.lanes * l.capacity
