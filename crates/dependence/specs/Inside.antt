-- What is true of a graph's fields.
use Rattle.std.specs.Prelude.{◌≡◌, ◌-◌, ◌<◌, ◌≤◌, All, length, reverse, slice_index, vec_len, vec_capacity, Option, MatchOption}
use Rattle.heap_model.specs.Cuts.{counts_of}
use Rattle.dependence.specs.declared.graph.Graph.TheInside.{Inside}
use Rattle.dependence.specs.declared.found.Found.{Found}
use Rattle.dependence.specs.Trace.{Trace}
use Rattle.dependence.specs.Next.{IsObjectBelow}
use Rattle.dependence.specs.Steps.{log_of, HasSections}
use Rattle.dependence.specs.Kept.{IsCounted, Rises, IsLinked, HasRoom}
use Rattle.dependence.specs.Search.{IsAnswered, IsFound, AreCauses}

-- the plain data of the fields
abbrev pub trace_of : Inside → Trace
trace_of g = record { lanes = g.lanes; base = g.base; log = log_of (reverse g.steps.items); room = vec_capacity g.steps - vec_len g.steps; answered = g.answered.counts; looks = g.looks }

-- a cut that is at hand is the one that a search beyond the answered cut finds
abbrev pub IsAtHand : Inside → Option Found → Type 0
IsAtHand g stable = MatchOption stable (Unit {0}) (λ found. IsFound g.lanes g.steps.items (slice_index g.ended) (counts_of g.answered) (counts_of found.cut) found.looks)

-- the steps know their sections, and what is kept beside them tells the truth of them
pub record IsKept (g : Inside) : Type 0 where
  pub lanes : g.lanes ≤ 32
  pub low : All (λ s. s.lane.0 < g.lanes) g.steps.items
  pub named : All (λ s. IsObjectBelow 4096 s.entry) g.steps.items
  pub numbered : HasSections (slice_index g.base) (reverse g.steps.items)
  pub counted : IsCounted (slice_index g.base) (log_of (reverse g.steps.items)) g.ended g.held
  pub rises : Rises (log_of (reverse g.steps.items))
  pub linked : IsLinked g.steps.items g.links
  pub links_room : HasRoom g.links (vec_capacity g.steps - vec_len g.steps)
  pub answered : IsAnswered g.steps.items (slice_index g.base) (slice_index g.ended) (counts_of g.answered)
  pub causes : AreCauses g.steps.items (counts_of g.answered) g.causes
  pub found_among : g.found_among ≤ length g.steps.items
  pub stable : g.found_among ≡ length g.steps.items → IsAtHand g g.stable
