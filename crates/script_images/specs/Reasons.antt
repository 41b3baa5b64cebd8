-- How a refusal of the line `recover`, and an error of a run in memory, are told again.
use Rattle.script_lines.specs.declared.error.ScriptError.{ScriptError}
use Rattle.script_lines.specs.declared.error.ScriptErrorKind.{ScriptErrorKind}
use Rattle.script_lines.specs.declared.error.ScriptErrorKind.TheVariants as kinds
use Rattle.recover_heap.specs.declared.error.RecoverError.{RecoverError}
use Rattle.recover_heap.specs.declared.error.RecoverError.TheVariants as recover
use Rattle.std.specs.Prelude.{Option, None, Some, Result, Ok, Err}
use Rattle.script_machine.specs.declared.answer.Answer.{Answer}
use Rattle.script_machine.specs.declared.answer.Answer.TheVariants.{Refused}
use Rattle.script_machine.specs.declared.answer.Refusal.{Refusal}
use Rattle.script_machine.specs.declared.answer.Refusal.TheVariants as why
use Rattle.script_images.specs.declared.error.RunFault.{RunFault}
use Rattle.script_images.specs.declared.error.RunFault.TheVariants as runs
use Rattle.script_images.specs.declared.error.StrictFault.{StrictFault}
use Rattle.script_images.specs.declared.error.StrictFault.TheVariants as strict

-- why the line was refused, if it was
abbrev pub refusal_of : Answer → Option Refusal
refusal_of (Refused reason) = Some reason
refusal_of _ = None

-- the reason of recovery that is told so
abbrev pub reason_for : Refusal → RecoverError
reason_for why.NotFormatted = recover.NotFormatted
reason_for why.BadHeader = recover.BadHeader
reason_for why.TooSmall = recover.TooSmall
reason_for why.NoControl = recover.NoControl
reason_for why.BadControl = recover.BadControl
reason_for why.OldVersion = recover.OldVersion
reason_for why.Worn = recover.Worn
reason_for (why.BadRecord lane place) = recover.BadRecord lane place
reason_for (why.IllegalLog lane place) = recover.IllegalLog lane place
reason_for _ = recover.Fault

-- that memory can't be written is want of memory
abbrev pub kind_in_memory : ScriptErrorKind → ScriptErrorKind
kind_in_memory kinds.Write = kinds.Memory
kind_in_memory kinds.Syntax = kinds.Syntax
kind_in_memory kinds.NotText = kinds.NotText
kind_in_memory kinds.TooLong = kinds.TooLong
kind_in_memory kinds.Read = kinds.Read
kind_in_memory kinds.Memory = kinds.Memory

abbrev pub in_memory : ScriptError → ScriptError
in_memory error = record { line = error.line; kind = kind_in_memory error.kind }

-- how a strict run in memory is told
abbrev pub told_of_strict : Result (Unit {0}) StrictFault → Result (Unit {0}) RunFault
told_of_strict (Ok done) = Ok done
told_of_strict (Err (strict.Script error)) = Err (runs.Script (in_memory error))
told_of_strict (Err (strict.Refused line why)) = Err (runs.Refused line why)
