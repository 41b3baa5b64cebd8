-- What a call of the machine's states answers, if memory suffices. If it doesn't, the call answers that alone, and the machine is spent
-- (this project's own).
use Rattle.std.specs.Prelude.{ℕ, Result, IfOk}
use Rattle.guards.specs.Schema.{Declarations}
use Rattle.heap_model.specs.declared.event.Event.{Event}
use Rattle.block_disk.specs.declared.crash.Fill.{Fill}
use Rattle.recover.specs.declared.versions.Versions.{Versions}
use Rattle.script_lines.specs.Orders.{Action, Order}
use Rattle.script_machine.specs.declared.answer.Answer.{Answer}
use Rattle.script_machine.specs.declared.phase.Phase.{Phase}
use Rattle.script_machine.specs.Machine.{MachineState, Declaring, Running, Down, Crashes, Does, FormatsImage, RecoversDevice, RecoversWhileDown, ShowsImage, Steps, StepsAs}
use Rattle.script_machine.specs.Phases.{shown}
use Rattle.script_machine.specs.States.{Live, Wreck}

-- what a line makes of a machine that runs, before and after it
abbrev pub LineOfRunning : Type 1
LineOfRunning = MachineState → Answer → MachineState → Live → Type 0

-- a thread's step on a machine that runs
abbrev pub StepsTo : (old new : Live) → (thread : ℕ) → Action → Answer → Type 0
StepsTo old new t asked answer = StepsAs (Running old) answer (Running new) old t asked

abbrev pub StepsOn : {E : Type 0} → (old new : Live) → (thread : ℕ) → Action → Result Answer E → Type 0
StepsOn old new t asked result = IfOk result (λ answer. StepsTo old new t asked answer)

-- an event that is done, and answered so
abbrev pub DoesEvent : {E : Type 0} → (old new : Live) → (thread : ℕ) → (said : Answer) → Event → Result Answer E → Type 0
DoesEvent old new t said event result = IfOk result (λ answer. Does (Running old) answer (Running new) old t said event)

-- a line that a machine that runs takes, and goes on
abbrev pub GoesOn : {E : Type 0} → LineOfRunning → (old new : Live) → Result Answer E → Type 0
GoesOn Line old new result = IfOk result (λ answer. Line (Running old) answer (Running new) old)

abbrev pub GoesOnAs : {E : Type 0} → LineOfRunning → (old : Live) → Result (Live × Answer) E → Type 0
GoesOnAs Line old result = IfOk result (λ r. Line (Running old) r.1 (Running r.0) old)

-- a line on an image, while the machine is down
abbrev pub ShowsDown : {E : Type 0} → (old new : Wreck) → Result Answer E → Type 0
ShowsDown old new result = IfOk result (λ answer. ShowsImage (Down old) answer (Down new) old)

-- a line, whatever the state
abbrev pub Advances : {E : Type 0} → (old : Phase) → Order → Result (Phase × Answer) E → Type 0
Advances old asked result = IfOk result (λ r. Steps (shown old) asked r.1 (shown r.0))

-- the lines after which another state begins
abbrev pub FormatsDeclared : {E : Type 0} → Declarations → (lanes capacity : ℕ) → Result (Phase × Answer) E → Type 0
FormatsDeclared d lanes capacity result = IfOk result (λ r. FormatsImage (Declaring d) r.1 (shown r.0) d lanes capacity)

abbrev pub CrashesRunning : {E : Type 0} → Live → Fill → (back : ℕ) → Result (Phase × Answer) E → Type 0
CrashesRunning m fill back result = IfOk result (λ r. Crashes (Running m) r.1 (shown r.0) m fill back)

abbrev pub RecoversDown : {E : Type 0} → Versions → Wreck → Result (Phase × Answer) E → Type 0
RecoversDown versions w result = IfOk result (λ r. RecoversDevice (Down w) r.1 (shown r.0) versions w)

abbrev pub RecoversAny : {E : Type 0} → Versions → Phase → Result (Phase × Answer) E → Type 0
RecoversAny versions old result = IfOk result (λ r. RecoversWhileDown versions (shown old) r.1 (shown r.0))
