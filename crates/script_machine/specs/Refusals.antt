-- How the machine tells of a refusal by the declarations, the monitors, the store or recovery.
use Rattle.std.specs.Prelude.{Result, Ok, Err, alloc_error}
use Rattle.std.specs.declared.alloc.AllocError.{AllocError}
use Rattle.script_monitors.specs.declared.refusal.MonitorRefusal.{MonitorRefusal}
use Rattle.script_monitors.specs.declared.refusal.MonitorRefusal.TheVariants as monitor
use Rattle.heap_model.specs.declared.store_error.StoreError.{StoreError}
use Rattle.heap_model.specs.declared.store_error.StoreError.TheVariants as store
use Rattle.recover_heap.specs.declared.error.RecoverError.{RecoverError}
use Rattle.recover_heap.specs.declared.error.RecoverError.TheVariants as image
use Rattle.script_declarations.specs.declared.declared.Declared.{Declared}
use Rattle.script_declarations.specs.declared.declared.Declared.TheVariants as declared
use Rattle.script_declarations.specs.declared.declared.DeclarationRefusal.TheVariants as declining
use Rattle.script_machine.specs.declared.answer.Answer.{Answer}
use Rattle.script_machine.specs.declared.answer.Answer.TheVariants.{Silent, Refused}
use Rattle.script_machine.specs.declared.answer.Refusal.{Refusal}
use Rattle.script_machine.specs.declared.answer.Refusal.TheVariants as why

-- why a thread's step is refused by the monitors
abbrev pub told_of_monitor : MonitorRefusal → Refusal
told_of_monitor monitor.Held = why.Held
told_of_monitor monitor.NotHeld = why.NotHeld
told_of_monitor monitor.Worn = why.Worn
told_of_monitor monitor.NotWaiting = why.NotWaiting
told_of_monitor monitor.InSet = why.InSet

-- why the store refuses a call. A fault of the device in memory is want of memory, which is no refusal, and the other
-- reasons are none that the monitors leave
abbrev pub told_of_store : StoreError → Result Refusal AllocError
told_of_store store.Worn = Ok why.Worn
told_of_store store.TooLong = Ok why.TooLong
told_of_store store.LogFull = Ok why.LogFull
told_of_store store.Unwritten = Ok why.Unwritten
told_of_store _ = Err alloc_error

-- why an image isn't recovered; want of memory is no refusal
abbrev pub told_of_recovery : RecoverError → Result Refusal AllocError
told_of_recovery image.NotFormatted = Ok why.NotFormatted
told_of_recovery image.BadHeader = Ok why.BadHeader
told_of_recovery image.TooSmall = Ok why.TooSmall
told_of_recovery image.NoControl = Ok why.NoControl
told_of_recovery image.BadControl = Ok why.BadControl
told_of_recovery image.OldVersion = Ok why.OldVersion
told_of_recovery image.Worn = Ok why.Worn
told_of_recovery (image.BadRecord lane place) = Ok (why.BadRecord lane place)
told_of_recovery (image.IllegalLog lane place) = Ok (why.IllegalLog lane place)
told_of_recovery image.Fault = Err alloc_error
told_of_recovery image.NoMemory = Err alloc_error

-- what is answered to a declaration: nothing, or why it is refused
abbrev pub told_of_declared : Declared → Answer
told_of_declared declared.Added = Silent
told_of_declared (declared.Refused declining.Empty) = Refused why.Empty
told_of_declared (declared.Refused declining.DoubleName) = Refused why.DoubleName
told_of_declared (declared.Refused declining.Unknown) = Refused why.Unknown
told_of_declared (declared.Refused declining.TooMany) = Refused why.TooMany
