-- What a script makes of an image, and what it prints (docs/SCRIPTS.md, "A script over an image file").
use Rattle.std.specs.Prelude.{ℕ, ◌≡◌, ◌≢◌, ◌⊎◌, Bool, true, false, IsTrue, Option, None, Some, List, ◌++◌}
use Rattle.std.specs.List.{concat}
use Rattle.block_disk.specs.Device.{SameMoments}
use Rattle.block_disk.specs.Memory.{Memory, device_of, fresh}
use Rattle.block_disk.specs.declared.crash.Fill.TheVariants.{Kept}
use Rattle.guards.specs.Schema.{Declarations}
use Rattle.image_file.specs.declared.error.ImageFault.TheVariants as images
use Rattle.image_file.specs.declared.error.NamedFault.{NamedFault}
use Rattle.image_file.specs.declared.error.NamedFault.TheVariants as named
use Rattle.image_schema.specs.OfImage.{named_as}
use Rattle.recover.specs.Reading.{RefusesImage}
use Rattle.recover.specs.Recovery.{RefusesOf}
use Rattle.recover_heap.specs.declared.error.RecoverError.TheVariants as recover
use Rattle.recover.specs.declared.studied.Study.{Study}
use Rattle.recover.specs.declared.versions.Versions.TheVariants.{Current}
use Rattle.script_lines.specs.Endings.{IsWhole}
use Rattle.script_lines.specs.Orders as order
use Rattle.script_lines.specs.declared.error.ScriptError.{ScriptError}
use Rattle.script_lines.specs.declared.error.ScriptErrorKind.TheVariants as kinds
use Rattle.script_lines.specs.declared.reader.Ending.{Ending}
use Rattle.script_machine.specs.Images.{image_in}
use Rattle.script_machine.specs.Machine.{MachineState, Declaring, Running, Down, Spent, Steps, WhileDown}
use Rattle.script_machine.specs.States.{Live, Wreck}
use Rattle.script_machine.specs.declared.answer.Answer.{Answer}
use Rattle.script_machine.specs.declared.answer.Answer.TheVariants.{Crashed, Recovered}
use Rattle.script_machine.specs.declared.answer.Report.{Report}
use Rattle.script_machine.specs.declared.answer.Refusal.{Refusal}
use Rattle.script_play.specs.Runs.{Plays, Stops}
use Rattle.script_play.specs.Texts.{text_of}
use Rattle.script_images.specs.Schemas.{IsNamed, IsOtherThan, IsSchemaOf}
use Rattle.script_images.specs.Strict.{IsFirstRefused, TakesAll}
use Rattle.script_images.specs.declared.error.RunFault.{RunFault}
use Rattle.script_images.specs.declared.error.RunFault.TheVariants.{Named, Refused, Script, Write}

-- What the machine's device reads: nothing that was written is lost where a program stops, and of a crash there is what it has left
abbrev pub shown_by : MachineState → Option (List ℕ)
shown_by (Declaring d) = None
shown_by (Running m) = Some (device_of m.store.disk).now.bytes
shown_by (Down w) = Some (device_of w.disk).now.bytes
shown_by Spent = None

-- That is what the line `crash kept` leaves of a machine that runs.
abbrev pub StopLaw : Type 0
StopLaw = (m : Live) (down : MachineState) → Steps (Running m) (order.Crash Kept 0) Crashed down → image_in down ≡ shown_by (Running m)

-- the machine is down, as after a crash
abbrev pub IsDown : MachineState → Type 0
IsDown old = (w : Wreck) × (old ≡ Down w)

-- `crash kept` was asked of the machine
abbrev pub HasStopped : (old new : MachineState) → Type 0
HasStopped old new = (said : Answer) × Steps old (order.Crash Kept 0) said new

-- the machine is down with this image on its device, whose objects and fields have the names of this schema
pub record IsOver (given : Option Declarations) (image : List ℕ) (over : MachineState) : Type 0 where
  pub schema : Declarations
  pub is_named : IsNamed given image schema
  pub disk : Memory
  pub same : SameMoments (device_of (fresh image)) (device_of disk)
  pub down : over ≡ Down (record { schema = schema; disk = disk })

-- it was recovered, and this is what the line `recover` prints
pub record IsRecovered (old : MachineState) (text : List ℕ) (new : MachineState) : Type 0 where
  pub report : Report
  pub steps : Steps old order.Recover (Recovered report) new
  pub told : text ≡ text_of (Recovered report)

-- a run that is strict takes each line, and one that isn't plays them
abbrev pub PlaysAs : (is_strict : Bool) → MachineState → List (List ℕ) → List (List ℕ) → MachineState → Type 0
PlaysAs true = TakesAll
PlaysAs false = Plays

-- the lines are played so, and what they print was written to memory
pub record PlaysOnAs (is_strict : Bool) (start : MachineState) (lines : List (List ℕ)) (ending : Ending) (end : MachineState) (old new : List ℕ) : Type 0 where
  pub whole : IsWhole ending
  pub outputs : List (List ℕ)
  pub plays : PlaysAs is_strict start lines outputs end
  pub printed : new ≡ old ++ concat outputs

-- A machine that was down was recovered, and the lines were played on it. What the line `recover` prints is printed, and then what they
-- print; and this is what its device reads then. A strict script has no line that was refused.
pub record PlaysDown (over : MachineState) (lines : List (List ℕ)) (ending : Ending) (is_strict : Bool) (left text : List ℕ) : Type 0 where
  pub begun : MachineState
  pub report : List ℕ
  pub recovered : IsRecovered over report begun
  pub end : MachineState
  pub plays : PlaysOnAs is_strict begun lines ending end report text
  pub shown : shown_by end ≡ Some left

-- so it was of a machine over this image
pub record PlaysOver (given : Option Declarations) (lines : List (List ℕ)) (ending : Ending) (is_strict : Bool) (image left text : List ℕ) : Type 0 where
  pub over : MachineState
  pub is_over : IsOver given image over
  pub played : PlaysDown over lines ending is_strict left text

-- what each refusal says

-- the schema of an image that was studied isn't had
abbrev pub IsNotNamed : Option Declarations → Study → NamedFault → Type 0
IsNotNamed given s (named.Image (images.Image why)) = why ≡ recover.NoMemory
IsNotNamed given s named.OtherSchema = IsSchemaOf (named_as given s) s → ⊥
IsNotNamed given s _ = ⊥

-- there is no machine over the image
abbrev pub RefusesOver : Option Declarations → List ℕ → NamedFault → Type 0
RefusesOver given image (named.Image (images.Image why)) = RefusesImage image why
RefusesOver given image named.OtherSchema = IsOtherThan given image
RefusesOver given image _ = ⊥

-- the machine, which is down, isn't recovered
abbrev pub IsNotRecovered : (old : MachineState) → NamedFault → Type 0
IsNotRecovered old (named.Image (images.Image why)) = (why ≡ recover.NoMemory) ⊎ WhileDown old (λ w. RefusesOf Current (device_of w.disk).now.bytes why) ⊥
IsNotRecovered old _ = ⊥

-- the run of the lines stops; what they print is kept in memory, so that it isn't by a writer
pub record IsStopped (lines : List (List ℕ)) (ending : Ending) (error : ScriptError) : Type 0 where
  pub stops : Stops lines ending error
  pub own : error.kind ≢ kinds.Write

-- the script is strict, and this line is the first that is refused, for this reason
pub record IsRefusedOn (is_strict : Bool) (start : MachineState) (lines : List (List ℕ)) (line : ℕ) (why : Refusal) : Type 0 where
  pub strict : IsTrue is_strict
  pub outputs : List (List ℕ)
  pub first : IsFirstRefused start lines line why outputs

-- the lines aren't played on a machine that runs
abbrev pub RefusesAs : (is_strict : Bool) (start : MachineState) (lines : List (List ℕ)) (ending : Ending) → RunFault → Type 0
RefusesAs is_strict start lines ending (Script error) = IsStopped lines ending error
RefusesAs is_strict start lines ending (Refused line why) = IsRefusedOn is_strict start lines line why
RefusesAs is_strict start lines ending _ = ⊥

-- so it is after the recovery of a machine that was down
pub record IsRefusedAfter (is_strict : Bool) (over : MachineState) (lines : List (List ℕ)) (line : ℕ) (why : Refusal) : Type 0 where
  pub begun : MachineState
  pub report : List ℕ
  pub recovered : IsRecovered over report begun
  pub refused : IsRefusedOn is_strict begun lines line why

-- the lines aren't played on a machine that is down
abbrev pub RefusesDown : (over : MachineState) (lines : List (List ℕ)) (ending : Ending) (is_strict : Bool) → RunFault → Type 0
RefusesDown over lines ending is_strict (Named fault) = IsNotRecovered over fault
RefusesDown over lines ending is_strict (Script error) = IsStopped lines ending error
RefusesDown over lines ending is_strict (Refused line why) = IsRefusedAfter is_strict over lines line why
RefusesDown over lines ending is_strict Write = ⊥

-- the image is refused, as no image or since it isn't recovered, or the schema is
abbrev pub RefusesNamed : Option Declarations → List ℕ → NamedFault → Type 0
RefusesNamed given image (named.Image (images.Image why)) = RefusesImage image why ⊎ RefusesOf Current image why
RefusesNamed given image named.OtherSchema = IsOtherThan given image
RefusesNamed given image _ = ⊥

-- a line is refused on a machine over the image
pub record IsRefusedOver (given : Option Declarations) (is_strict : Bool) (image : List ℕ) (lines : List (List ℕ)) (line : ℕ) (why : Refusal) : Type 0 where
  pub over : MachineState
  pub is_over : IsOver given image over
  pub refused : IsRefusedAfter is_strict over lines line why

-- the lines aren't played over the image
abbrev pub RefusesToPlay : Option Declarations → (lines : List (List ℕ)) (ending : Ending) (is_strict : Bool) → List ℕ → RunFault → Type 0
RefusesToPlay given lines ending is_strict image (Named fault) = RefusesNamed given image fault
RefusesToPlay given lines ending is_strict image (Script error) = IsStopped lines ending error
RefusesToPlay given lines ending is_strict image (Refused line why) = IsRefusedOver given is_strict image lines line why
RefusesToPlay given lines ending is_strict image Write = ⊥
