-- What a store knows of its logged sections, as plain data, and when that is true of a log (this project's own).
use Rattle.std.specs.Prelude.{ℕ, ◌≡◌, ◌+◌, ◌*◌, ◌<◌, ◌≤◌, ◌^◌, min, nat_lt, if◌then◌else◌, List, [], ◌∷◌, ◌++◌, All, map, length, slice_index}
use Rattle.heap_model.specs.declared.record.Record.{Record}
use Rattle.heap_model.specs.Setting.{Setting}
use Rattle.heap_model.specs.Log.{lane, IsLegal}
use Rattle.heap_model.specs.Sections.{Action, Takes, Frees, Stores, action, actions, ended}
use Rattle.heap_model.specs.Cuts.{IsWhole, IsClosed}
use Rattle.heap_model.specs.Base.{since}
use Rattle.dependence.specs.Trace.{Trace, base_of}
use Rattle.store_memory.specs.Ends.{slot_of}

-- the actions with one more before them, where that takes a monitor or frees one
abbrev pub with_action : ℕ × Action → List (ℕ × Action) → List (ℕ × Action)
with_action (l, Takes o n) older = (l, Takes o n) ∷ older
with_action (l, Frees o n) older = (l, Frees o n) ∷ older
with_action (l, Stores) older = older

-- what these did to monitors: all but the stores, on which no section depends
abbrev pub on_monitors : List (ℕ × Action) → List (ℕ × Action)
on_monitors [] = []
on_monitors (x ∷ older) = with_action x (on_monitors older)

-- The lanes, how many records each may have since what was trimmed, the graph of the records that take or free a monitor, which forgets what was trimmed
-- later, by lane how many were logged since the heap was opened, and the places after the sections, by slot.
pub record Logged : Type 0 where
  pub lanes : ℕ
  pub capacity : ℕ
  pub graph : Trace
  pub places : List ℕ
  pub ends : List ℕ

-- the place after a lane's first n sections: how many records they have
abbrev pub place_behind : (n : ℕ) → List Record → ℕ
place_behind n [] = 0
place_behind n (r ∷ older) = if nat_lt (ended (map action older)) n then length older + 1 else place_behind n older

-- the place after what was trimmed of the lane
abbrev pub start_in : (base : ℕ → ℕ) → List (ℕ × Record) → (lane : ℕ) → ℕ
start_in base log l = place_behind (base l) (lane l log)

-- what is known of the lane is true of the log, of which the base was trimmed
pub record TellsLane (m : Logged) (base : ℕ → ℕ) (log : List (ℕ × Record)) (l : ℕ) : Type 0 where
  pub place : slice_index m.places l ≡ length (lane l log)
  pub room : length (lane l log) ≤ start_in base log l + m.capacity
  -- the place after each section since, and after what was trimmed
  pub ends : (n : ℕ) → base l ≤ n → n ≤ ended (lane l (actions log)) → slice_index m.ends (slot_of m.capacity m.lanes l n) ≡ place_behind n (lane l log)

-- how many records the graph may have beyond so many that were not trimmed: as many as these and 4,096, and no more than the
-- lanes have room for
abbrev pub most_beyond : Logged → (left : ℕ) → ℕ
most_beyond m left = min (m.lanes * m.capacity) (left + 4096)

-- The graph tells what the records did to monitors since a closed cut that is at the base or before it. Few of them were trimmed.
pub record TellsGraph (m : Logged) (base : ℕ → ℕ) (log : List (ℕ × Record)) : Type 0 where
  pub within : (l : ℕ) → base_of m.graph l ≤ base l
  pub closed : IsClosed (actions log) (base_of m.graph)
  pub since_is : m.graph.log ≡ on_monitors (since (base_of m.graph) (actions log))
  -- The graph of sections has at most as many records as stay in the lanes, as many again, and 4,096 more; beyond those
  -- that stay it has no more than the lanes have room for.
  pub few : length m.graph.log ≤ length (since base (actions log)) + most_beyond m (length (since base (actions log)))

-- what is known of the logged sections is true of this log, of which the base was trimmed
pub record TellsSections (m : Logged) (base : ℕ → ℕ) (log : List (ℕ × Record)) : Type 0 where
  pub whole : IsWhole (actions log) base
  pub closed : IsClosed (actions log) base
  pub of_lanes : All (λ x. x.0 < m.lanes) log
  pub graph_is : TellsGraph m base log
  pub lane_is : (l : ℕ) → l < m.lanes → TellsLane m base log l

-- these records, the newest first, may be logged next
pub record MayBeLogged (s : Setting) (m : Logged) (base : ℕ → ℕ) (log newer : List (ℕ × Record)) : Type 0 where
  pub tells : TellsSections m base log
  pub legal : IsLegal s (newer ++ log)
  pub objects : s.objects ≤ 4096
  pub of_lanes : All (λ x. x.0 < m.lanes) newer
  -- each lane has room for them, and places don't come to their end
  pub room : (l : ℕ) → l < m.lanes → length (lane l (newer ++ log)) ≤ start_in base log l + m.capacity
  pub places : (l : ℕ) → l < m.lanes → length (lane l (newer ++ log)) < 2 ^ 64

-- these records, the newest first, may be logged next, after some log
abbrev pub MayAdd : Logged → List (ℕ × Record) → Type 0
MayAdd m newer = (s : Setting) × (base : ℕ → ℕ) × (log : List (ℕ × Record)) × MayBeLogged s m base log newer

-- A call that adds these records, the newest first: `old` is what was known before it and `new` what is known after it.
pub record Adds (newer : List (ℕ × Record)) (old new : Logged) : Type 0 where
  -- What is known then is true of the log with these records.
  pub tells : (s : Setting) (base : ℕ → ℕ) (log : List (ℕ × Record)) → MayBeLogged s old base log newer → TellsSections new base (newer ++ log)
  -- The lanes and their room stay.
  pub lanes : new.lanes ≡ old.lanes
  pub capacity : new.capacity ≡ old.capacity
