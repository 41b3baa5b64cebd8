-- What is told of a run, of an image that was made, and of work on an image file.
use Rattle.std.specs.Prelude.{not}
use Rattle.std.proofs.Common.{◌≢◌, ℕ, Bool, List, [], Option, Result, Ok, Err, IfErr, OnOk, OnErr}
use Rattle.std.specs.Io.KnownBytes.{Appends}
use Rattle.script_lines.specs.Endings.{OfScript}
use Rattle.script_lines.specs.declared.error.ScriptError.{ScriptError}
use Rattle.script_play.specs.Runs.{Ends}
use Rattle.image_file.specs.declared.error.FormatError.{FormatError}
use Rattle.disk_sector_file.specs.declared.image_kind.ImageKind.{ImageKind}
use Rattle.recover_heap.specs.declared.error.RecoverError.TheVariants.{Fault}
use Rattle.image_file.specs.Beside.{MakesBeside}
use Rattle.image_file.specs.Formatting.{IsSilent, MakesAt, MayBeMade, MayBlameNumbers, PrintsLess}
use Rattle.image_file.specs.Images.{Stays}
use Rattle.image_file.specs.Recovering.{IsOnTheWayAt, RecoversAt}
use Rattle.image_file.specs.declared.error.ImageFault.TheVariants as images
use Rattle.image_file.specs.declared.new_image.NewImage.{NewImage}
use Rattle.image_file.specs.declared.error.ImageFault.{ImageFault}
use Rattle.image_file.specs.Telling.{MayBeRefusedBy, TellsLessOfVersions}
use Rattle.recover.specs.declared.versions.Versions.{Versions}
use Rattle.heapctl_commands.specs.Obeying.{Formats, IsSilentImage, PlaysScript, Recovers, told_of_format, told_of_image, told_of_script}

pub played : (r : Result (Unit {0}) ScriptError) (read unread written now : Option (List ℕ)) → OfScript read unread (λ lines ending. Ends lines ending r written now)
    → PlaysScript (told_of_script r) read unread written now
played (Ok done) read unread written now plays = plays
played (Err error) read unread written now plays = plays

-- an image that lies so, as words ask for one
abbrev pub on : (lanes capacity : ℕ) (is_forced : Bool) (kind : ImageKind) → NewImage
on lanes capacity is_forced kind = record { lanes = lanes; capacity = capacity; kind = kind; is_kept = not is_forced }

pub made : (asked : NewImage) (r : Result (Unit {0}) FormatError) (had has : Option (List ℕ)) (lies : Option ImageKind) (written now : Option (List ℕ)) → OnOk r (MakesAt asked has lies written now)
    → OnErr r (MayBeMade asked had has) → IfErr r (MayBlameNumbers asked.lanes asked.capacity) → IfErr r (λ error. IsSilent error → Appends written now [])
    → OnErr r (PrintsLess asked.lanes asked.capacity written now) → Formats asked (told_of_format r) had has lies written now
made asked (Ok done) had has lies written now makes left numbers silent part = makes
made asked (Err error) had has lies written now makes left numbers silent part = record { left = left; numbers = numbers; silent = silent; part = part }

pub recovered : (versions : Versions) (r : Result (Unit {0}) ImageFault) (had has written now : Option (List ℕ)) → OnOk r (RecoversAt versions had has written now)
    → IfErr r (λ error. error ≢ images.Image Fault → Stays had has) → OnErr r (IsOnTheWayAt had has) → OnErr r (TellsLessOfVersions versions written now) → IfErr r (λ error. IsSilentImage error written now)
    → IfErr r (MayBeRefusedBy versions) → Recovers versions (told_of_image r) had has written now
recovered versions (Ok done) had has written now all kept way part silent old = all
recovered versions (Err error) had has written now all kept way part silent old = record { kept = kept; way = way; part = part; silent = silent; too_old = old }

-- what lies beside the image that was made, or wasn't
pub made_beside : (is_kept : Bool) (r : Result (Unit {0}) FormatError) (path : List ℕ) (had has : List ℕ → Option (List ℕ)) → MakesBeside is_kept r path had has → MakesBeside is_kept (told_of_format r) path had has
made_beside is_kept (Ok done) path had has makes = makes
made_beside is_kept (Err error) path had has makes = makes
