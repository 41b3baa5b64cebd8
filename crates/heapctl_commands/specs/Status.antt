-- The status with which the program ends (docs/SCRIPTS.md, "The program's fault texts").
use Rattle.std.specs.Prelude.{ℕ, Result, Ok, Err}
use Rattle.image_file.specs.declared.error.FormatError.{FormatError}
use Rattle.image_file.specs.declared.error.FormatError.TheVariants.{Schema, InUse}
use Rattle.image_file.specs.declared.error.FileFault.{FileFault}
use Rattle.image_file.specs.declared.error.FileFault.TheVariants as files
use Rattle.image_file.specs.declared.error.ImageFault.{ImageFault}
use Rattle.image_file.specs.declared.error.ImageFault.TheVariants as images
use Rattle.image_file.specs.declared.error.NamedFault.{NamedFault}
use Rattle.image_file.specs.declared.error.NamedFault.TheVariants as named
use Rattle.script_images.specs.declared.error.RunFault.{RunFault}
use Rattle.script_images.specs.declared.error.RunFault.TheVariants as runs
use Rattle.script_images.specs.declared.error.SetFault.{SetFault}
use Rattle.script_images.specs.declared.error.SetFault.TheVariants as sets
use Rattle.script_images.specs.declared.error.StrictFault.{StrictFault}
use Rattle.script_images.specs.declared.error.StrictFault.TheVariants as strict
use Rattle.script_images.specs.declared.error.ValueFault.{ValueFault}
use Rattle.script_images.specs.declared.error.ValueFault.TheVariants as values
use Rattle.heapctl_commands.specs.declared.fault.WorkFault.{WorkFault}
use Rattle.heapctl_commands.specs.declared.fault.WorkFault.TheVariants as fault
use Rattle.script_lines.specs.declared.error.ScriptErrorKind.{ScriptErrorKind}
use Rattle.script_lines.specs.declared.error.ScriptErrorKind.TheVariants.{Syntax, NotText, TooLong, Read, Write, Memory}

-- after a script's error: 2 for what its text has, 1 for what it was played on
abbrev pub status_for : ScriptErrorKind → ℕ
status_for Syntax = 2
status_for NotText = 2
status_for TooLong = 2
status_for Read = 1
status_for Write = 1
status_for Memory = 1

-- where no image was made: 2 for what the schema file has, 3 where another process has the image, 1 for the rest
abbrev pub status_for_format : FormatError → ℕ
status_for_format (Schema fault) = 2
status_for_format InUse = 3
status_for_format _ = 1

-- where an image isn't shown or recovered; that it is refused is no fault of the words
abbrev pub status_for_image : ImageFault → ℕ
status_for_image images.InUse = 3
status_for_image (images.Image error) = 1

-- where it isn't drawn or dumped by the names of a schema file: 2 for what that file has
abbrev pub status_for_named : NamedFault → ℕ
status_for_named (named.Image fault) = status_for_image fault
status_for_named (named.Schema fault) = 2
status_for_named named.OtherSchema = 1

-- where a script wasn't played over an image file, or fields weren't set by lines of their own
abbrev pub status_for_run : RunFault → ℕ
status_for_run (runs.Named fault) = status_for_named fault
status_for_run (runs.Script error) = status_for error.kind
status_for_run (runs.Refused line why) = 1
status_for_run runs.Write = 1

-- where a strict script stopped: 1 at the first refused line
abbrev pub status_for_strict : StrictFault → ℕ
status_for_strict (strict.Script error) = status_for error.kind
status_for_strict (strict.Refused line why) = 1

-- where values weren't told, or fields not set: 2 for what the words have
abbrev pub status_for_values : ValueFault → ℕ
status_for_values (values.Named fault) = status_for_named fault
status_for_values (values.Unknown place) = 2
status_for_values values.Write = 1

abbrev pub status_for_set : SetFault → ℕ
status_for_set (sets.Word place) = 2
status_for_set (sets.Unknown place) = 2
status_for_set (sets.Transient place) = 2
status_for_set sets.OtherHeap = 1
status_for_set (sets.Run fault) = status_for_run fault

-- where an image file isn't had
abbrev pub status_for_file : FileFault → ℕ
status_for_file files.InUse = 3
status_for_file _ = 1

-- where what the words ask for wasn't done
abbrev pub status_for_fault : WorkFault → ℕ
status_for_fault (fault.Script error) = status_for error.kind
status_for_fault (fault.Strict error) = status_for_strict error
status_for_fault (fault.Values error) = status_for_values error
status_for_fault (fault.Set error) = status_for_set error
status_for_fault (fault.Format error) = status_for_format error
status_for_fault (fault.Image error) = status_for_image error
status_for_fault (fault.Named error) = status_for_named error
status_for_fault (fault.File error) = status_for_file error
status_for_fault (fault.Drive error) = 1
status_for_fault fault.Write = 1

-- where it was done too
abbrev pub status_after : Result (Unit {0}) WorkFault → ℕ
status_after (Ok done) = 0
status_after (Err fault) = status_for_fault fault
