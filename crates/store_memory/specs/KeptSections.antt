-- What is true of the fields in which a store keeps what it knows of its logged sections.
use Rattle.std.specs.Prelude.{◌≡◌, ◌+◌, ◌*◌, ◌≤◌, length, vec_capacity}
use Rattle.dependence.specs.Trace.{told_of}
use Rattle.store_memory.specs.declared.sections.LoggedSections.TheInside.{Inside}
use Rattle.store_memory.specs.Sections.{Logged}

-- the plain data of the fields, without what the graph answered
abbrev pub logged_of : Inside → Logged
logged_of g = record { lanes = g.lanes; capacity = g.capacity; graph = told_of g.graph; places = g.places; ends = g.ends.items }

-- the graph has room for twice the records of all lanes, since it forgets late, and the table for the places of their sections
pub record HasSlots (g : Inside) : Type 0 where
  pub lanes : g.lanes ≤ 32
  pub rows : length g.places ≡ 32
  pub graph_lanes : g.graph.lanes ≡ g.lanes
  pub graph_room : g.graph.room + length g.graph.log ≡ 2 * (g.lanes * g.capacity)
  pub slots : (g.capacity + 1) * g.lanes ≤ vec_capacity g.ends
