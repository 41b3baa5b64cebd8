-- What each of the program's words does (docs/SCRIPTS.md).
use Rattle.std.specs.Prelude.{◌≡◌, ◌≢◌, ℕ, Bool, true, false, not, List, [], Option, None, Some, Result, Ok, Err}
use Rattle.std.specs.Borrow.{Bor}
use Rattle.block_disk.specs.Device.{Device}
use Rattle.disk_sectors.specs.declared.size.SectorSize.TheVariants.{Bytes4096}
use Rattle.disk_sector_file.specs.declared.image_kind.ImageKind.{ImageKind}
use Rattle.disk_sector_file.specs.declared.image_kind.ImageKind.TheVariants as lying
use Rattle.std.specs.Io.KnownBytes.{Appends}
use Rattle.script_lines.specs.Endings.{OfScript}
use Rattle.script_play.specs.Runs.{Ends}
use Rattle.inspect.specs.StudyText.{study_text}
use Rattle.script_lines.specs.declared.error.ScriptError.{ScriptError}
use Rattle.image_parts.specs.declared.slot.Slot.{Slot}
use Rattle.image_parts.specs.declared.slot.Slot.TheVariants.{A, B}
use Rattle.image_file.specs.declared.error.ImageFault.{ImageFault}
use Rattle.image_file.specs.declared.error.ImageFault.TheVariants as images
use Rattle.image_file.specs.declared.error.NamedFault.{NamedFault}
use Rattle.recover_heap.specs.declared.error.RecoverError.TheVariants.{Fault}
use Rattle.recover.specs.declared.studied.Study.{Study}
use Rattle.recover.specs.declared.versions.Versions.{Versions}
use Rattle.recover.specs.declared.versions.Versions.TheVariants.{Current, Both}
use Rattle.image_file.specs.declared.error.FormatError.{FormatError}
use Rattle.image_file.specs.Formatting.{IsSilent, MakesAt, MayBeMade, MayBlameNumbers, PrintsLess}
use Rattle.image_file.specs.Images.{Stays}
use Rattle.image_file.specs.Recovering.{IsOnTheWayAt, RecoversAt}
use Rattle.image_file.specs.declared.new_image.NewImage.{NewImage}
use Rattle.image_file.specs.Drawing.{DrawsBy}
use Rattle.image_file.specs.Dumping.{DumpsBy}
use Rattle.image_file.specs.Showing.{ShowsBy}
use Rattle.image_file.specs.Telling.{MayBeRefusedBy, TellsLessOfVersions}
use Rattle.image_salvage.specs.AtPaths.{EndsBy}
use Rattle.image_salvage.specs.Cells.{DumpsCells, RefusesCells}
use Rattle.image_salvage.specs.Slots.{DumpsSlot, RefusesSlot}
use Rattle.script_images.specs.Assigning.{SetsAt}
use Rattle.script_images.specs.Running.{RunsAt}
use Rattle.script_images.specs.Strict.{EndsStrictly}
use Rattle.script_images.specs.Values.{GetsBy}
use Rattle.script_images.specs.declared.error.RunFault.{RunFault}
use Rattle.script_images.specs.declared.error.RunFault.TheVariants as runs
use Rattle.script_images.specs.declared.error.SetFault.{SetFault}
use Rattle.script_images.specs.declared.error.StrictFault.{StrictFault}
use Rattle.script_images.specs.declared.error.StrictFault.TheVariants as strict
use Rattle.script_images.specs.declared.error.ValueFault.{ValueFault}
use Rattle.heapctl_commands.specs.declared.fault.WorkFault.{WorkFault}
use Rattle.heapctl_commands.specs.declared.fault.WorkFault.TheVariants as fault
use Rattle.heapctl_commands.specs.Driving.{DrivesWith}
use Rattle.heapctl_words.specs.declared.words.Kind.{Kind}
use Rattle.heapctl_words.specs.declared.words.Kind.TheVariants as kinds
use Rattle.heapctl_words.specs.declared.words.Part.{Part}
use Rattle.heapctl_words.specs.declared.words.Part.TheVariants as parts
use Rattle.heapctl_words.specs.declared.words.Words.{Words}
use Rattle.heapctl_words.specs.declared.words.Words.TheVariants as words

-- how the run of a script ended, as the program tells it
abbrev pub told_of_script : Result (Unit {0}) ScriptError → Result (Unit {0}) WorkFault
told_of_script (Ok done) = Ok done
told_of_script (Err error) = Err (fault.Script error)

-- how the run of a script over an image file ended
abbrev pub told_of_run : Result (Unit {0}) RunFault → Result (Unit {0}) WorkFault
told_of_run (Ok done) = Ok done
told_of_run (Err (runs.Named error)) = Err (fault.Named error)
told_of_run (Err (runs.Script error)) = Err (fault.Script error)
told_of_run (Err (runs.Refused line why)) = Err (fault.Strict (strict.Refused line why))
told_of_run (Err runs.Write) = Err fault.Write

-- how a strict run ended
abbrev pub told_of_strict : Result (Unit {0}) StrictFault → Result (Unit {0}) WorkFault
told_of_strict (Ok done) = Ok done
told_of_strict (Err error) = Err (fault.Strict error)

-- how telling of values ended
abbrev pub told_of_values : Result (Unit {0}) ValueFault → Result (Unit {0}) WorkFault
told_of_values (Ok done) = Ok done
told_of_values (Err error) = Err (fault.Values error)

-- how setting fields ended
abbrev pub told_of_set : Result (Unit {0}) SetFault → Result (Unit {0}) WorkFault
told_of_set (Ok done) = Ok done
told_of_set (Err error) = Err (fault.Set error)

-- how the making of an image file ended
abbrev pub told_of_format : Result (Unit {0}) FormatError → Result (Unit {0}) WorkFault
told_of_format (Ok done) = Ok done
told_of_format (Err error) = Err (fault.Format error)

-- how work on an image file ended
abbrev pub told_of_image : Result (Unit {0}) ImageFault → Result (Unit {0}) WorkFault
told_of_image (Ok done) = Ok done
told_of_image (Err error) = Err (fault.Image error)

-- how telling of an image file by the names of a schema file ended
abbrev pub told_of_named : Result (Unit {0}) NamedFault → Result (Unit {0}) WorkFault
told_of_named (Ok done) = Ok done
told_of_named (Err error) = Err (fault.Named error)

-- the script that was read is played, and stops where it says so
abbrev pub PlaysScript : Result (Unit {0}) WorkFault → (read unread written now : Option (List ℕ)) → Type 0
PlaysScript (Ok done) read unread written now = OfScript read unread (λ lines ending. Ends lines ending (Ok done) written now)
PlaysScript (Err (fault.Script error)) read unread written now =
    OfScript read unread (λ lines ending. Ends lines ending (Err error) written now)
PlaysScript (Err _) read unread written now = ⊥

-- it is played strictly, and stops at the first line that is refused too
abbrev pub PlaysStrictly : Result (Unit {0}) WorkFault → (read unread written now : Option (List ℕ)) → Type 0
PlaysStrictly result read unread written now = (r : Result (Unit {0}) StrictFault) × (result ≡ told_of_strict r)
    × OfScript read unread (λ lines ending. EndsStrictly lines ending r written now)

-- it is played in memory, strictly or not
abbrev pub PlaysInMemory : (is_strict : Bool) → Result (Unit {0}) WorkFault → (read unread written now : Option (List ℕ)) → Type 0
PlaysInMemory true = PlaysStrictly
PlaysInMemory false = PlaysScript

-- it is played over the image at a path, by the names of the schema file where one is named
abbrev pub PlaysOn : {P : Type 0} (schema : Option P) (is_strict : Bool) → Result (Unit {0}) WorkFault
    → (had has read unread written now : Option (List ℕ)) → Type 0
PlaysOn schema is_strict result had has read unread written now =
    (r : Result (Unit {0}) RunFault) × (result ≡ told_of_run r) × RunsAt schema is_strict r had has read unread written now

-- it is played over an image where a path is named, and else in memory
abbrev pub PlaysAt : {P : Type 0} (image : Option (Bor (List ℕ))) (schema : Option P) (is_strict : Bool) → Result (Unit {0}) WorkFault
    → (had has : List ℕ → Option (List ℕ)) → (read unread written now : Option (List ℕ)) → Type 0
PlaysAt None schema is_strict result had has read unread written now = PlaysInMemory is_strict result read unread written now
PlaysAt (Some path) schema is_strict result had has read unread written now =
    PlaysOn schema is_strict result (had path.now) (has path.now) read unread written now

-- the values of these fields of an image are told
abbrev pub Gets : {P : Type 0} (schema : Option P) (names : List (Bor (List ℕ))) → Result (Unit {0}) WorkFault
    → (had has written now : Option (List ℕ)) → Type 0
Gets schema names result had has written now =
    (r : Result (Unit {0}) ValueFault) × (result ≡ told_of_values r) × GetsBy schema names r had has written now

-- fields of an image are set, as these words assign
abbrev pub Sets : {P : Type 0} (schema : Option P) (texts : List (Bor (List ℕ))) → Result (Unit {0}) WorkFault
    → (had has written now : Option (List ℕ)) → Type 0
Sets schema texts result had has written now =
    (r : Result (Unit {0}) SetFault) × (result ≡ told_of_set r) × SetsAt schema texts r had has written now

-- how the image lies that words ask for; they take none of no kind
abbrev pub kind_asked : Kind → ImageKind
kind_asked kinds.Plain = lying.Plain
kind_asked kinds.Placed = lying.Placed Bytes4096
kind_asked kinds.OtherSectors = lying.Placed Bytes4096
kind_asked kinds.Journaled = lying.Journaled
kind_asked kinds.Both = lying.Journaled

-- the image that they ask for
abbrev pub asked_of : (lanes capacity : ℕ) (kind : Kind) (is_forced : Bool) → NewImage
asked_of lanes capacity kind is_forced =
    record { lanes = lanes; capacity = capacity; kind = kind_asked kind; is_kept = not is_forced }

-- why no such image is made, or its size isn't told; what is there then, and what was written
pub record IsNotFormatted (asked : NewImage) (had has : Option (List ℕ)) (error : FormatError)
    (written now : Option (List ℕ)) : Type 0 where
  pub left : MayBeMade asked had has
  pub numbers : MayBlameNumbers asked.lanes asked.capacity error
  pub silent : IsSilent error → Appends written now []
  pub part : PrintsLess asked.lanes asked.capacity written now

-- such an image is there now, and its size is told
abbrev pub Formats : (asked : NewImage) → Result (Unit {0}) WorkFault → (had has : Option (List ℕ)) (lies : Option ImageKind)
    (written now : Option (List ℕ)) → Type 0
Formats asked (Ok done) had has lies written now = MakesAt asked has lies written now
Formats asked (Err (fault.Format error)) had has lies written now = IsNotFormatted asked had has error written now
Formats asked (Err _) had has lies written now = ⊥

-- after any refusal but the fault of a writer nothing is written
abbrev pub IsSilentImage : ImageFault → (written now : Option (List ℕ)) → Type 0
IsSilentImage error written now = error ≢ images.Image Fault → Appends written now []

-- this text of a study of the image at a path is written
abbrev pub TellsOf : (text : Study → List ℕ) → Result (Unit {0}) WorkFault → (had has written now : Option (List ℕ)) → Type 0
TellsOf text result had has written now =
    (r : Result (Unit {0}) ImageFault) × (result ≡ told_of_image r) × ShowsBy text r had has written now

-- the image at a path is drawn, or dumped, by the names of the schema file where one is named
abbrev pub DrawsOf : {P : Type 0} (schema : Option P) (last : ℕ) → Result (Unit {0}) WorkFault
    → (had has written now : Option (List ℕ)) → Type 0
DrawsOf schema last result had has written now =
    (r : Result (Unit {0}) NamedFault) × (result ≡ told_of_named r) × DrawsBy schema last r had has written now

abbrev pub DumpsOf : {P : Type 0} (schema : Option P) → Result (Unit {0}) WorkFault → (had has written now : Option (List ℕ)) → Type 0
DumpsOf schema result had has written now =
    (r : Result (Unit {0}) NamedFault) × (result ≡ told_of_named r) × DumpsBy schema r had has written now

-- its home cells are
abbrev pub DumpsCellsOf : {P : Type 0} (schema : Option P) → Result (Unit {0}) WorkFault → (had has written now : Option (List ℕ)) → Type 0
DumpsCellsOf schema result had has written now =
    (r : Result (Unit {0}) NamedFault) × (result ≡ told_of_named r) × EndsBy DumpsCells RefusesCells schema r had has written now

-- its heap by this slot of the control is
abbrev pub DumpsSlotOf : {P : Type 0} (slot : Slot) (schema : Option P) → Result (Unit {0}) WorkFault → (had has written now : Option (List ℕ)) → Type 0
DumpsSlotOf slot schema result had has written now =
    (r : Result (Unit {0}) NamedFault) × (result ≡ told_of_named r) × EndsBy (DumpsSlot slot) (RefusesSlot slot) schema r had has written now

-- these values of it are
abbrev pub DumpsPartOf : {P : Type 0} (part : Part) (schema : Option P) → Result (Unit {0}) WorkFault → (had has written now : Option (List ℕ)) → Type 0
DumpsPartOf parts.Heap schema result had has written now = DumpsOf schema result had has written now
DumpsPartOf parts.Cells schema result had has written now = DumpsCellsOf schema result had has written now
DumpsPartOf parts.SlotA schema result had has written now = DumpsSlotOf A schema result had has written now
DumpsPartOf parts.SlotB schema result had has written now = DumpsSlotOf B schema result had has written now
DumpsPartOf parts.Unclear schema result had has written now = DumpsOf schema result had has written now

-- why the image at a path isn't recovered; what is there then, and what was written
pub record IsNotRecovered (versions : Versions) (had has : Option (List ℕ)) (error : ImageFault)
    (written now : Option (List ℕ)) : Type 0 where
  pub kept : error ≢ images.Image Fault → Stays had has
  -- After any refusal, a fault too, what is there is the image that was, or one on recovery's way from it.
  pub way : IsOnTheWayAt had has
  pub part : TellsLessOfVersions versions written now
  pub silent : IsSilentImage error written now
  pub too_old : MayBeRefusedBy versions error

-- the image at a path is recovered, which was of one of these versions, and the report on it is written
abbrev pub Recovers : (versions : Versions) → Result (Unit {0}) WorkFault → (had has written now : Option (List ℕ)) → Type 0
Recovers versions (Ok done) had has written now = RecoversAt versions had has written now
Recovers versions (Err (fault.Image error)) had has written now = IsNotRecovered versions had has error written now
Recovers versions (Err _) had has written now = ⊥

-- What the words ask for is done, with this result: by the images that were there before and are now and how they lie, by what
-- the reader had before and has now, and by what was written before and is now. Who is asked for no script reads none
abbrev pub Obeys : {D : Type 0} (device : D → Device) → Words → (names : List (Bor (List ℕ))) → Result (Unit {0}) WorkFault
    → (had has : List ℕ → Option (List ℕ)) (lies : List ℕ → Option ImageKind)
    → (read unread written now : Option (List ℕ)) → Type 0
Obeys device (words.Run image schema is_strict) names result had has lies read unread written now =
    PlaysAt image schema is_strict result had has read unread written now
Obeys device (words.Get image schema) names result had has lies read unread written now =
    (unread ≡ read) × Gets schema names result (had image.now) (has image.now) written now
Obeys device (words.Set image schema) names result had has lies read unread written now =
    (unread ≡ read) × Sets schema names result (had image.now) (has image.now) written now
Obeys device (words.Format image schema lanes capacity kind is_forced) names result had has lies read unread written now =
    (unread ≡ read)
    × Formats (asked_of lanes capacity kind is_forced) result (had image.now) (has image.now) (lies image.now) written now
Obeys device (words.Show image last schema) names result had has lies read unread written now =
    (unread ≡ read) × TellsOf study_text result (had image.now) (has image.now) written now
Obeys device (words.Draw image last schema) names result had has lies read unread written now =
    (unread ≡ read) × DrawsOf schema last result (had image.now) (has image.now) written now
Obeys device (words.Dump image schema part) names result had has lies read unread written now =
    (unread ≡ read) × DumpsPartOf part schema result (had image.now) (has image.now) written now
Obeys device (words.Recover image) names result had has lies read unread written now =
    (unread ≡ read) × Recovers Current result (had image.now) (has image.now) written now
Obeys device (words.Upgrade image) names result had has lies read unread written now =
    (unread ≡ read) × Recovers Both result (had image.now) (has image.now) written now
Obeys device (words.Drive workers rounds seconds image) names result had has lies read unread written now =
    (unread ≡ read) × DrivesWith device image workers had has result written now
