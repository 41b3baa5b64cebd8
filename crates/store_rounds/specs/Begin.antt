-- With what a store for rounds begins (this project's own).
use Rattle.std.specs.Prelude.{ℕ, ◌≡◌, ◌<◌, List, length, slice_index_or}
use Rattle.heap_model.specs.declared.ids.ObjectId.{ObjectId}
use Rattle.image_parts.specs.declared.guard_row.GuardRow.{GuardRow}
use Rattle.image_parts.specs.declared.layout.Layout.{Layout}
use Rattle.store_memory.specs.Memory.{Memory, lane_in}
use Rattle.store_memory.specs.Sections.{Logged}
use Rattle.store_round_memory.specs.Rounds.{Rounds}

-- the memories are for the lanes of so many threads, each with an area of the layout's size, and no lane has begun
pub record AreFor (l : Layout) (threads : ℕ) (m : Memory) (g : Logged) (n : Rounds) : Type 0 where
  pub lanes : length m.lanes ≡ threads
  pub capacity : m.capacity ≡ l.capacity
  pub starts : (k : ℕ) → (lane_in m.lanes k).start ≡ 0
  pub logged_lanes : g.lanes ≡ threads
  pub logged_capacity : g.capacity ≡ l.capacity
  pub rounds_lanes : n.lanes ≡ threads
  pub rounds_capacity : n.capacity ≡ l.capacity

-- there is one object for each row: its guard
pub record AreGuardsOf (rows : List GuardRow) (guards : List ObjectId) : Type 0 where
  pub many : length guards ≡ length rows
  pub each : (f : ℕ) (o : ObjectId) (row : GuardRow) → f < length rows → slice_index_or guards f o ≡ (slice_index_or rows f row).guard
