-- What the rings hold of one legal history, by its threads' views.
use Rattle.std.specs.Prelude.{ℕ, ◌≡◌, ◌<◌, ◌≤◌, ◌⊎◌, List, [], ◌∷◌, ◌++◌, length}
use Rattle.thread_rings.specs.Rings.{Receiving}
use Rattle.heap_model.specs.declared.event.Event.{Event}
use Rattle.heap_model.specs.Setting.{Setting}
use Rattle.heap_model.specs.History.{IsLegalHistory}
use Rattle.heap_model.specs.Log.{lane}
use Rattle.heap_model.specs.Own.{own_log, sent_of}
use Rattle.heap_model.specs.Past.{Past}
use Rattle.image_parts.specs.declared.layout.Layout.{Layout}
use Rattle.trim_helper.specs.Rings.{received_of, known_of}
use Rattle.trim_helper.specs.Limits.{KeepsLimits}
use Rattle.trim_helper.specs.Taken.{trimmed_of}

-- a session's view: its lane, its events, the newest first, and the acknowledged count and trimmed place that it last read
pub record Part : Type 0 where
  pub lane : ℕ
  pub events : List Event
  pub count : ℕ
  pub place : ℕ

-- it is one of these
abbrev pub Among : List Part → Part → Type 0
Among [] x = ⊥
Among (y ∷ parts) x = (y ≡ x) ⊎ Among parts x

-- one legal history has these threads' parts, and no other thread has any
pub record IsOneHistory (s : Setting) (lanes : ℕ) (parts : List Part) (history : List (ℕ × Event)) : Type 0 where
  pub legal : IsLegalHistory s history
  pub part : (x : Part) → Among parts x → lane x.lane history ≡ x.events
  pub no_other : (l : ℕ) → lanes ≤ l → lane l history ≡ []

-- The rings hold the logs of one legal history, each lane's log being what was received and what is known to be left, and within the limits.
pub record HoldHistory (rings : List Receiving) (l : Layout) (s : Setting) (p : Past) (history : List (ℕ × Event)) : Type 0 where
  pub legal : IsLegalHistory s history
  pub whole : (k : ℕ) → sent_of s (lane k history) ≡ received_of rings k ++ known_of rings k
  pub limits : (k : ℕ) → k < length rings → KeepsLimits (trimmed_of p k) l.capacity (own_log s (lane k history))
