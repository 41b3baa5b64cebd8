-- What the run of a script reads, does and prints (docs/SCRIPTS.md).
use Rattle.std.specs.Prelude.{◌≡◌, ◌≢◌, ◌⊎◌, Result, Ok, Err, IfErr, OnOk, ℕ, ◌+◌, ◌-◌, ◌<◌, ◌≤◌, Option, Some, List, [], ◌∷◌, ◌++◌, length, take, slice_get}
use Rattle.std.specs.Io.KnownBytes.{Appends}
use Rattle.std.specs.List.{AllByRecursion, concat}
pub use Rattle.inspect.specs.Written.{AppendsPart}
use Rattle.script_machine.specs.declared.answer.Answer.{Answer}
use Rattle.script_lines.specs.Endings.{IsWhole}
use Rattle.script_lines.specs.declared.error.ScriptError.{ScriptError}
use Rattle.script_lines.specs.declared.error.ScriptErrorKind.{ScriptErrorKind}
use Rattle.script_lines.specs.declared.error.ScriptErrorKind.TheVariants as kinds
use Rattle.script_lines.specs.declared.reader.Ending.{Ending}
use Rattle.script_lines.specs.declared.reader.Ending.TheVariants as endings
use Rattle.script_lines.specs.Grammar.{Asks}
use Rattle.script_lines.specs.Lines.{IsText, IsSkipped, IsFit, HasFault, lines_of}
use Rattle.script_machine.specs.Machine.{MachineState, IsStart, Steps}
use Rattle.script_lines.specs.Orders.{Order}
use Rattle.script_play.specs.Texts.{text_of}

-- what a line does

-- a line that is skipped does nothing
pub record Skips (old : MachineState) (line output : List ℕ) (new : MachineState) : Type 0 where
  pub skipped : IsSkipped line
  pub silent : output ≡ []
  pub same : new ≡ old

-- the machine answers what the line asks for, and the answer is printed
pub record Obeys (old : MachineState) (line output : List ℕ) (new : MachineState) : Type 0 where
  pub order : Order
  pub answer : Answer
  pub asks : Asks order line
  pub steps : Steps old order answer new
  pub printed : output ≡ text_of answer

abbrev pub PlaysLine : MachineState → List ℕ → List ℕ → MachineState → Type 0
PlaysLine old line output new = IsText line × (Skips old line output new ⊎ Obeys old line output new)

-- the lines take the machine from one state to another, and print this, a text each
abbrev pub Plays : MachineState → List (List ℕ) → List (List ℕ) → MachineState → Type 0
Plays old [] outputs new = (outputs ≡ []) × (new ≡ old)
Plays old (line ∷ lines) [] new = ⊥
Plays old (line ∷ lines) (output ∷ outputs) new = (middle : MachineState) × PlaysLine old line output middle × Plays middle lines outputs new

-- what was written

-- from this state the lines are played, which leaves the machine in that one, and what they print was written
pub record PrintsOn (start : MachineState) (lines : List (List ℕ)) (end : MachineState) (old new : Option (List ℕ)) : Type 0 where
  pub outputs : List (List ℕ)
  pub plays : Plays start lines outputs end
  pub written : Appends old new (concat outputs)

-- so it is, whichever state it leaves
abbrev pub PrintsFrom : MachineState → List (List ℕ) → Option (List ℕ) → Option (List ℕ) → Type 0
PrintsFrom start lines old new = (end : MachineState) × PrintsOn start lines end old new

-- from this state the lines up to this one are played, and of what they print a part of the last is not written
pub record PrintsPartFrom (start : MachineState) (line : ℕ) (lines : List (List ℕ)) (old new : Option (List ℕ)) : Type 0 where
  pub outputs : List (List ℕ)
  pub last : List ℕ
  pub end : MachineState
  pub count : ℕ
  pub plays : Plays start (take line lines) (outputs ++ last ∷ []) end
  pub short : count < length last
  pub written : Appends old new (concat outputs ++ take count last)

-- a machine plays these lines from the start, and what they print was written
pub record Prints (lines : List (List ℕ)) (old new : Option (List ℕ)) : Type 0 where
  pub start : MachineState
  pub outputs : List (List ℕ)
  pub end : MachineState
  pub is_start : IsStart start
  pub plays : Plays start lines outputs end
  pub written : Appends old new (concat outputs)

-- a machine plays the lines up to this one from the start, and of what they print a part of the last is not written
pub record PrintsPart (line : ℕ) (lines : List (List ℕ)) (old new : Option (List ℕ)) : Type 0 where
  pub start : MachineState
  pub outputs : List (List ℕ)
  pub last : List ℕ
  pub end : MachineState
  pub count : ℕ
  pub is_start : IsStart start
  pub plays : Plays start (take line lines) (outputs ++ last ∷ []) end
  pub short : count < length last
  pub written : Appends old new (concat outputs ++ take count last)

-- where a run stops

abbrev pub AreFit : List (List ℕ) → Type 0
AreFit lines = AllByRecursion IsFit lines

-- why a line may stop the run: a fault of its own, a write that failed, or want of memory
abbrev pub MayStop : List ℕ → ScriptErrorKind → Type 0
MayStop line kind = HasFault line kind ⊎ ((kind ≡ kinds.Write) ⊎ (kind ≡ kinds.Memory))

-- the run stops at this line, counted from 1, and none before it has a fault
pub record StopsAt (lines : List (List ℕ)) (error : ScriptError) : Type 0 where
  pub line : List ℕ
  pub counted : 1 ≤ error.line
  pub there : slice_get lines (error.line - 1) ≡ Some line
  pub why : MayStop line error.kind
  pub before : AreFit (take (error.line - 1) lines)

-- why the line after the last was not had
abbrev pub IsMissing : Ending → ScriptErrorKind → Type 0
IsMissing endings.Whole kind = ⊥
IsMissing endings.TooLong kind = kind ≡ kinds.TooLong
IsMissing endings.Fault kind = kind ≡ kinds.Read
IsMissing endings.NoMemory kind = kind ≡ kinds.Memory

-- the run stops at one of the lines, or behind them
pub record StopsBehind (lines : List (List ℕ)) (ending : Ending) (error : ScriptError) : Type 0 where
  pub counted : error.line ≡ length lines + 1
  pub why : IsMissing ending error.kind
  pub before : AreFit lines

abbrev pub Stops : List (List ℕ) → Ending → ScriptError → Type 0
Stops lines ending error = StopsAt lines error ⊎ StopsBehind lines ending error

-- The run of these lines, which were read and ended so, ends with this result: all of them are fit and printed, or it stops
-- at a line, and what the lines before that one print was written; where it is the writer that failed, a part of that line's too
abbrev pub Ends : List (List ℕ) → Ending → Result (Unit {0}) ScriptError → (old new : Option (List ℕ)) → Type 0
Ends lines ending (Ok done) old new = IsWhole ending × AreFit lines × Prints lines old new
Ends lines ending (Err e) old new = Stops lines ending e
    × (e.kind ≢ kinds.Write → Prints (take (e.line - 1) lines) old new)
    × (e.kind ≡ kinds.Write → PrintsPart e.line lines old new)

-- the run of these lines on a machine in this state ends so: the same, from that state, and where all are played the machine is in that one then
abbrev pub EndsOn : MachineState → List (List ℕ) → Ending → Result (Unit {0}) ScriptError → (end : MachineState) → (old new : Option (List ℕ)) → Type 0
EndsOn start lines ending (Ok done) end old new = IsWhole ending × AreFit lines × PrintsOn start lines end old new
EndsOn start lines ending (Err e) end old new = Stops lines ending e
    × (e.kind ≢ kinds.Write → PrintsFrom start (take (e.line - 1) lines) old new)
    × (e.kind ≡ kinds.Write → PrintsPartFrom start e.line lines old new)

-- of one line

pub record PlaysAndPrints (old : MachineState) (line : List ℕ) (new : MachineState) (before after : Option (List ℕ)) : Type 0 where
  pub output : List ℕ
  pub plays : PlaysLine old line output new
  pub written : Appends before after output

abbrev pub PrintsNothing : Option (List ℕ) → Option (List ℕ) → Type 0
PrintsNothing before after = Appends before after []

pub record PlaysInPart (old : MachineState) (line : List ℕ) (new : MachineState) (before after : Option (List ℕ)) : Type 0 where
  pub output : List ℕ
  pub plays : PlaysLine old line output new
  pub part : AppendsPart before after output

-- what a call prints to a writer, whose contents are known or not

abbrev pub PutsLine : {W E : Type 0} → (contents : W → Option (List ℕ)) → (w v : W) → (start : MachineState) → (line : List ℕ) → (end : MachineState) → Result (Unit {0}) E → Type 0
PutsLine contents w v start line end result = OnOk result (PlaysAndPrints start line end (contents w) (contents v))

-- if the writer hasn't failed, a line that stops the run has printed nothing
abbrev pub PutsNothing : {W : Type 0} → (contents : W → Option (List ℕ)) → (w v : W) → Result (Unit {0}) ScriptErrorKind → Type 0
PutsNothing contents w v result = IfErr result (λ kind. kind ≢ kinds.Write → PrintsNothing (contents w) (contents v))

-- if it has, it has a part of what the line prints
abbrev pub InPart : {W : Type 0} → (contents : W → Option (List ℕ)) → (w v : W) → (start : MachineState) → (line : List ℕ) → (end : MachineState) → Result (Unit {0}) ScriptErrorKind → Type 0
InPart contents w v start line end result = IfErr result (λ kind. kind ≡ kinds.Write → PlaysInPart start line end (contents w) (contents v))

-- so it is of lines, which follow one another in this text
abbrev pub PutsAll : {W A E : Type 0} → (contents : W → Option (List ℕ)) → (w v : W) → (start : MachineState) → (text : List ℕ) → (end : MachineState) → Result A E → Type 0
PutsAll contents w v start text end result = OnOk result (PrintsOn start (lines_of text) end (contents w) (contents v))

abbrev pub PutsUpTo : {W A : Type 0} → (contents : W → Option (List ℕ)) → (w v : W) → (start : MachineState) → (text : List ℕ) → Result A ScriptError → Type 0
PutsUpTo contents w v start text result =
    IfErr result (λ e. e.kind ≢ kinds.Write → PrintsFrom start (take (e.line - 1) (lines_of text)) (contents w) (contents v))

abbrev pub PutsPartOf : {W A : Type 0} → (contents : W → Option (List ℕ)) → (w v : W) → (start : MachineState) → (text : List ℕ) → Result A ScriptError → Type 0
PutsPartOf contents w v start text result =
    IfErr result (λ e. e.kind ≡ kinds.Write → PrintsPartFrom start e.line (lines_of text) (contents w) (contents v))
