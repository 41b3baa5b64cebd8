-- What a crash leaves of the lines that were played since `format` or `recover`, by the history of the threads' events in them (this project's own).
use Rattle.std.specs.Prelude.{ℕ, ◌≡◌, ◌<◌, ◌≤◌, ◌⊎◌, List, [], ◌∷◌, ◌++◌, Option, Some, None, slice_index}
use Rattle.guards.specs.Schema.{Declarations, field_count, first_of}
use Rattle.heap_model.specs.declared.event.Event.{Event}
use Rattle.heap_model.specs.declared.ids.Lane.{Lane}
use Rattle.heap_model.specs.declared.record.Record.{Record}
use Rattle.heap_model.specs.Setting.{Setting}
use Rattle.heap_model.specs.Sections.{actions}
use Rattle.heap_model.specs.Cuts.{IsStable}
use Rattle.heap_model.specs.History.{state_after, IsLegalHistory, logged, log_of}
use Rattle.block_disk.specs.declared.crash.Fill.{Fill}
use Rattle.durable.specs.Calls.{IsClean}
use Rattle.script_monitors.specs.Table.{state_of}
use Rattle.heap_model.specs.Past.{Past, applied, no_past, after_apply, after_log, after_settle, after_trim}
use Rattle.script_lines.specs.Grammar.{Asks}
use Rattle.script_lines.specs.Orders.{Action}
use Rattle.script_lines.specs.Orders as order
use Rattle.script_machine.specs.Agreement.{Agrees, setting_from}
use Rattle.script_machine.specs.Homes.{WriteHomes}
use Rattle.script_machine.specs.Machine.{MachineState, Declaring, Running, Down, Steps}
use Rattle.script_machine.specs.States.{Live, Tells}
use Rattle.script_machine.specs.States as states
use Rattle.script_machine.specs.declared.answer.Answer.{Answer}
use Rattle.script_machine.specs.declared.answer.Answer.TheVariants.{Crashed, Recovered}
use Rattle.script_machine.specs.declared.answer.Report.{Report}
use Rattle.script_play.specs.Crashing.{IsAtItsEnd, IsSince, Survives}
use Rattle.script_play.specs.Runs.{PlaysLine}

-- the threads' events, the newest first
abbrev pub Events : Type 0
Events = List (ℕ × Event)

-- the past once the store was told an event's record, if logs keep one
abbrev pub told_record : Past → (thread : ℕ) → Option Record → Past
told_record p t None = p
told_record p t (Some r) = after_apply p t r

-- What a line makes of the events and of the store's past: a thread's step adds its event and the event's record; `log`,
-- `home`, `settle` and `trim` add no event; and any other line, or one that is refused, leaves both as they were.
pub data LineMakes (s : Setting) (line : List ℕ) (events : Events) (p : Past) (after : Events) (then : Past) : Type 0 where
  AddsEvent : (lane : Lane) (asked : Action) (event : Event) → Asks (order.Act lane asked) line → after ≡ (lane.0, event) ∷ events
      → then ≡ told_record p lane.0 (logged s event) → LineMakes s line events p after then
  LogsAll : Asks order.Log line → after ≡ events → then ≡ after_log p → LineMakes s line events p after then
  WritesHome : (cells : ℕ) → Asks order.Home line → after ≡ events → WriteHomes s p cells then → LineMakes s line events p after then
  Settles : (cut : ℕ → ℕ) → Asks order.Settle line → after ≡ events → IsClean s p → IsStable (actions p.logged) cut → then ≡ after_settle p cut
      → LineMakes s line events p after then
  Trims : Asks order.Trim line → after ≡ events → then ≡ after_trim p → LineMakes s line events p after then
  Leaves : after ≡ events → then ≡ p → LineMakes s line events p after then

-- The events lead to this machine: they are a legal history, the monitors are in the state after it, and the store, which has
-- this past, was told its logged events.
pub record LeadsTo (s : Setting) (events : Events) (p : Past) (m : Live) : Type 0 where
  pub legal : IsLegalHistory s events
  pub state : state_of m.monitors ≡ state_after s events
  pub told : applied p ≡ log_of s events
  pub tells : Tells m.store s p

-- the lines take the machine from one state in which it runs to another, with no crash between them
abbrev pub PlaysOn : Live → (lines outputs : List (List ℕ)) → Live → Type 0
PlaysOn m [] outputs now = (outputs ≡ []) × (now ≡ m)
PlaysOn m (line ∷ lines) [] now = ⊥
PlaysOn m (line ∷ lines) (output ∷ outputs) now = (middle : Live) × PlaysLine (Running m) line output (Running middle) × PlaysOn middle lines outputs now

-- line by line, what they make of the machine, of the threads' events and of the store's past
abbrev pub Story : (s : Setting) → Live → Events → Past → (lines : List (List ℕ)) → (now : Live) → (after : Events) → (then : Past) → Type 0
Story s m events p [] now after then = (now ≡ m) × (after ≡ events) × (then ≡ p)
Story s m events p (line ∷ lines) now after then = (middle : Live) × (added : Events) × (told : Past) × (output : List ℕ)
    × PlaysLine (Running m) line output (Running middle) × LineMakes s line events p added told × LeadsTo s added told middle
    × Story s middle added told lines now after then

-- the first of the lines asks to settle
abbrev pub IsSettlingFirst : List (List ℕ) → Type 0
IsSettlingFirst [] = ⊥
IsSettlingFirst (line ∷ lines) = Asks order.Settle line

-- The play goes on from here, and the crash, with all but the last so many writes and syncs ended, came before the first of these
-- lines had ended. With no line left, the play is over.
abbrev pub CutsOff : Live → (lines outputs : List (List ℕ)) → (last : Live) → (back : ℕ) → Type 0
CutsOff now [] outputs last back = (outputs ≡ []) × (last ≡ now)
CutsOff now (line ∷ lines) [] last back = ⊥
CutsOff now (line ∷ lines) (output ∷ outputs) last back = (next : Live) × PlaysLine (Running now) line output (Running next)
    × (IsSince next.store.disk last.store.disk back → ⊥) × PlaysOn next lines outputs last

-- The lines before were the ones that had ended when the crash came: all their writes and syncs had, and of the line behind them, if there
-- is one, the last hadn't. So they are the longest such part: a line that calls no device has ended with those before it.
-- What is recovered is the heap of a cut of what they had logged: of the cut that was acknowledged then, or of the stable one, where the
-- line that was cut off is the one that settles. What was acknowledged before the lines is part of it.
pub record SurvivesLines (m : Live) (s : Setting) (events : Events) (p : Past) (lines outputs : List (List ℕ)) (last : Live) (back : ℕ) (told : Answer)
    (new : MachineState) : Type 0 where
  pub before : List (List ℕ)
  pub rest : List (List ℕ)
  pub split : lines ≡ before ++ rest
  pub printed : List (List ℕ)
  pub later : List (List ℕ)
  pub prints : outputs ≡ printed ++ later
  pub now : Live
  pub plays : PlaysOn m before printed now
  pub ended : IsSince now.store.disk last.store.disk back
  pub cut_off : CutsOff now rest later last back
  pub after : Events
  pub then : Past
  pub story : Story s m events p before now after then
  pub leads : LeadsTo s after then now
  pub cut : ℕ → ℕ
  pub acknowledged : (cut ≡ then.cut) ⊎ (IsSettlingFirst rest × IsStable (actions then.logged) cut)
  pub stays : (lane : ℕ) → p.cut lane ≤ cut lane
  pub survives : Survives m s then.logged cut told new

-- Lines that had been played when the crash came have their events and their past, and what is recovered survives the lines behind them.
pub record SurvivesPlay (m : Live) (s : Setting) (events : Events) (p : Past) (done : List (List ℕ)) (middle : Live) (lines outputs : List (List ℕ)) (last : Live)
    (back : ℕ) (told : Answer) (new : MachineState) : Type 0 where
  pub after : Events
  pub then : Past
  pub story : Story s m events p done middle after then
  pub leads : LeadsTo s after then middle
  pub survives : SurvivesLines middle s after then lines outputs last back told new

-- Lines are played, and then others, at any write or sync of which, or after the last, a crash comes. What is recovered is the heap
-- of the sections that were acknowledged by the lines which had ended by then, or that the settling which the crash cut off was about to
-- acknowledge, and never of fewer than the first lines had acknowledged. However the lines are cut in two, it is so.
abbrev pub PlayLaw : Type 0
PlayLaw = (m middle now : Live) (agrees : Agrees m.monitors m.store) (done lines printed outputs : List (List ℕ)) (fill : Fill) (back : ℕ) (down new : MachineState) (told : Answer)
    → PlaysOn m done printed middle → PlaysOn middle lines outputs now → IsSince middle.store.disk now.store.disk back
    → Steps (Running now) (order.Crash fill back) Crashed down → Steps down order.Recover told new
    → SurvivesPlay m (setting_from m.monitors agrees.first) agrees.history agrees.past done middle lines outputs now back told new ⊎ IsAtItsEnd down told

-- the lines begin here: there was no event, the store was told nothing, and the fields have these values
pub record IsBegun (m : Live) (count : ℕ) (first : ℕ → ℕ) : Type 0 where
  pub agrees : Agrees m.monitors m.store
  pub no_event : agrees.history ≡ []
  pub nothing : agrees.past ≡ no_past
  pub values : (f : ℕ) → f < count → agrees.first f ≡ first f

-- after `format` the fields have the values that were declared
abbrev pub FormattedLaw : Type 0
FormattedLaw = (d : Declarations) (lanes capacity : ℕ) (said : Answer) (m : Live) → Steps (Declaring d) (order.Format lanes capacity) said (Running m)
    → IsBegun m (field_count d) (first_of d)

-- after `recover` they have those that it told
abbrev pub RecoveredLaw : Type 0
RecoveredLaw = (w : states.Wreck) (report : Report) (m : Live) → Steps (Down w) order.Recover (Recovered report) (Running m)
    → IsBegun m (field_count w.schema) (slice_index report.heap.items)
