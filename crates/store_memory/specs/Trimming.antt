-- What may be forgotten: what is no longer needed of the lanes' records and of their sections (this project's own).
use Rattle.std.specs.Prelude.{ℕ, ◌≡◌, ◌+◌, ◌<◌, ◌≤◌, List, length, slice_index}
use Rattle.heap_model.specs.declared.record.Record.{Record}
use Rattle.heap_model.specs.Setting.{Setting}
use Rattle.heap_model.specs.Log.{lane}
use Rattle.heap_model.specs.Sections.{actions}
use Rattle.heap_model.specs.Cuts.{IsWhole, IsClosed}
use Rattle.heap_model.specs.Past.{Past}
use Rattle.store_memory.specs.Memory.{Memory, lane_in}
use Rattle.store_memory.specs.Remembers.{Remembers}
use Rattle.store_memory.specs.Sections.{Logged, most_beyond, TellsSections}

-- The lanes may start at these places: no start falls, and what lies before was logged.
pub record MayStart (s : Setting) (m : Memory) (p : Past) (places : List ℕ) : Type 0 where
  pub remembers : Remembers s m p
  pub rises : (l : ℕ) → l < length m.lanes → (lane_in m.lanes l).start ≤ slice_index places l
  pub logged : (l : ℕ) → l < length m.lanes → slice_index places l ≤ length (lane l p.logged)

-- The sections of this cut may be forgotten: they are whole, need no others, and have those that were forgotten before.
pub record MayForget (m : Logged) (base : ℕ → ℕ) (log : List (ℕ × Record)) (cut : ℕ → ℕ) : Type 0 where
  pub tells : TellsSections m base log
  pub within : (l : ℕ) → base l ≤ cut l
  pub whole : IsWhole (actions log) cut
  pub closed : IsClosed (actions log) cut

-- What is left out of the graph pays for the walk over what stays in it, and over its objects: nothing changed, or as many records
-- were left out as stay and 4,096, or as many as the lanes have room for.
pub data IsPaid (old new : Logged) : Type 0 where
  Later : new ≡ old → IsPaid old new
  Now : length new.graph.log + most_beyond old (length new.graph.log) ≤ length old.graph.log → IsPaid old new
