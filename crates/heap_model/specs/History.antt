-- Histories: lists of (thread, event), the newest first.
use Rattle.std.specs.Prelude.{ℕ, if◌then◌else◌, List, [], ◌∷◌, Option, Some, None}
use Rattle.heap_model.specs.declared.record.Record.{Record}
use Rattle.heap_model.specs.declared.record.Record.TheVariants.{Acq, Rel, WaitRel, Put}
use Rattle.heap_model.specs.declared.event.Event.{Event}
use Rattle.heap_model.specs.declared.event.Event.TheVariants.{Enter, NestedEnter, NestedExit, Exit, Load, Store, Wait, Resume, Notify, NotifyAll, Look}
use Rattle.heap_model.specs.Setting.{Setting}
use Rattle.heap_model.specs.State.{State, initial_state}
use Rattle.heap_model.specs.Events.{after_event, MayDo, IsEventOf}

-- the state after a history
abbrev pub state_after : Setting → List (ℕ × Event) → State
state_after g [] = initial_state g.first
state_after g (x ∷ older) = after_event (state_after g older) x.0 x.1

-- each event is allowed after those before it
abbrev pub IsLegalHistory : Setting → List (ℕ × Event) → Type 0
IsLegalHistory g [] = Unit {0}
IsLegalHistory g (x ∷ older) = IsLegalHistory g older × MayDo g (state_after g older) x.0 x.1 × IsEventOf g x.1

-- what a thread's log keeps of an event: first enters and resumes, last exits, waits, and the stores of fields that are logged (Atlas; waits are this project's own)
abbrev pub logged : Setting → Event → Option Record
logged g (Enter o n) = Some (Acq o n)
logged g (NestedEnter o) = None
logged g (NestedExit o) = None
logged g (Exit o n) = Some (Rel o n)
logged g (Load f v) = None
logged g (Store f before after) = if g.is_logged f.0 then Some (Put f before after) else None
logged g (Wait o n) = Some (WaitRel o n)
logged g (Resume o n) = Some (Acq o n)
logged g (Notify o woken) = None
logged g (NotifyAll o woken) = None
logged g (Look o sight) = None

-- the log with the thread's record in front, if there is one
abbrev pub with_record : (thread : ℕ) → Option Record → List (ℕ × Record) → List (ℕ × Record)
with_record t None log = log
with_record t (Some r) log = (t, r) ∷ log

-- the logged events of a history
abbrev pub log_of : Setting → List (ℕ × Event) → List (ℕ × Record)
log_of g [] = []
log_of g (x ∷ older) = with_record x.0 (logged g x.1) (log_of g older)
