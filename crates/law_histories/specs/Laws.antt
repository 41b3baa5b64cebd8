-- The laws of histories, of logs and of the heaps that cuts of them keep.
use Rattle.std.specs.Prelude.{ℕ, ◌≡◌, ◌+◌, ◌-◌, ◌≤◌, List, ◌∷◌, ◌++◌}
use Rattle.heap_model.specs.declared.record.Record.{Record}
use Rattle.heap_model.specs.declared.event.Event.{Event}
use Rattle.heap_model.specs.Setting.{Setting}
use Rattle.heap_model.specs.History.{state_after, IsLegalHistory, log_of}
use Rattle.heap_model.specs.Own.{Agrees, own, own_log, sent_of}
use Rattle.heap_model.specs.Log.{lane, value, IsLegal, IsLaneWisePrefix}
use Rattle.heap_model.specs.StateOf.{IsStateOf}
use Rattle.heap_model.specs.Sections.{Action, actions}
use Rattle.heap_model.specs.Cuts.{IsWhole, IsClosed, IsStable}
use Rattle.heap_model.specs.KeptHeap.{kept_value, put_back}
use Rattle.heap_model.specs.Base.{since, records_since, records_until}

-- The logged events of a legal history are a legal list of records.
abbrev pub LogLaw : Type 0
LogLaw = (s : Setting) (history : List (ℕ × Event)) → IsLegalHistory s history → IsLegal s (log_of s history)

-- The state after a legal history is that of its log.
abbrev pub StateLaw : Type 0
StateLaw = (g : Setting) (history : List (ℕ × Event)) → IsLegalHistory g history → IsStateOf g (log_of g history) (state_after g history)

-- A lane of the log is the log of that thread's own events.
abbrev pub OwnLogLaw : Type 0
OwnLogLaw = (g : Setting) (history : List (ℕ × Event)) (t : ℕ) → lane t (log_of g history) ≡ own_log g (lane t history)

-- A thread's own view agrees with the state of every legal history that has its events.
abbrev pub OwnLaw : Type 0
OwnLaw = (g : Setting) (history : List (ℕ × Event)) (t : ℕ) → IsLegalHistory g history → Agrees t (own (lane t history)) (state_after g history)

-- What was sent grows at its end, by the records of the new events.
abbrev pub SentLaw : Type 0
SentLaw = (g : Setting) (newer older : List Event) → sent_of g (newer ++ older) ≡ sent_of g older ++ sent_of g newer

-- The order of the lanes' records among one another doesn't matter: a whole cut keeps the same heap, in a longer list too.
abbrev pub OrderLaw : Type 0
OrderLaw = (s : Setting) (log longer : List (ℕ × Record)) → IsLegal s log → IsLegal s longer → IsLaneWisePrefix log longer →
    (cut : ℕ → ℕ) → IsWhole (actions log) cut → (f : ℕ) → kept_value s.first cut f log ≡ kept_value s.first cut f longer

-- Putting back the old values of what a closed cut drops gives the heap that it keeps.
abbrev pub UndoLaw : Type 0
UndoLaw = (s : Setting) (log : List (ℕ × Record)) → IsLegal s log → (cut : ℕ → ℕ) → IsClosed (actions log) cut → (f : ℕ) →
    put_back cut f (value s.first f log) log ≡ kept_value s.first cut f log

-- The stable cut of all is the base and the stable cut of what was done since.
abbrev pub TrimLaw : Type 0
TrimLaw = (log : List (ℕ × Action)) (base cut : ℕ → ℕ) → IsWhole log base → IsClosed log base → IsStable (since base log) cut → IsStable log (λ l. base l + cut l)

-- The heap of a cut is that of the base with the stores since.
abbrev pub TrimHeapLaw : Type 0
TrimHeapLaw = (s : Setting) (log : List (ℕ × Record)) (base cut : ℕ → ℕ) → IsLegal s log → IsWhole (actions log) base → IsClosed (actions log) base → ((l : ℕ) → base l ≤ cut l) →
    (f : ℕ) → kept_value s.first cut f log ≡ kept_value (λ g. kept_value s.first base g log) (λ l. cut l - base l) f (records_since base log)

-- The records since may follow those of the base.
abbrev pub SplitLaw : Type 0
SplitLaw = (s : Setting) (log : List (ℕ × Record)) (base : ℕ → ℕ) → IsLegal s log → IsClosed (actions log) base → IsLegal s (records_since base log ++ records_until base log)

-- The earliest record that isn't applied may be applied next, whatever later ones were.
abbrev pub NextLaw : Type 0
NextLaw = (s : Setting) (newer older applied : List (ℕ × Record)) (l : ℕ) (r : Record) →
    IsLegal s (newer ++ (l, r) ∷ older) → IsLegal s applied →
    IsLaneWisePrefix applied (newer ++ (l, r) ∷ older) → IsLaneWisePrefix older applied → lane l applied ≡ lane l older →
    IsLegal s ((l, r) ∷ applied)
