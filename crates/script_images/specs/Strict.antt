-- Which lines a strict run plays: those before the first that is refused (docs/SCRIPTS.md, "The program's words").
use Rattle.std.specs.Prelude.{ℕ, ◌≡◌, ◌≢◌, ◌⊎◌, ◌-◌, ◌≤◌, Option, None, Some, List, [], ◌∷◌, ◌++◌, Result, Ok, Err, take, slice_get}
use Rattle.std.specs.Io.KnownBytes.{Appends}
use Rattle.std.specs.List.{concat}
use Rattle.script_lines.specs.Endings.{IsWhole}
use Rattle.script_lines.specs.Grammar.{Asks}
use Rattle.script_lines.specs.Lines.{IsText}
use Rattle.script_lines.specs.Orders.{Order}
use Rattle.script_lines.specs.declared.error.ScriptError.{ScriptError}
use Rattle.script_lines.specs.declared.error.ScriptErrorKind.TheVariants as kinds
use Rattle.script_lines.specs.declared.reader.Ending.{Ending}
use Rattle.script_machine.specs.Machine.{MachineState, IsStart, Steps}
use Rattle.script_machine.specs.declared.answer.Answer.{Answer}
use Rattle.script_machine.specs.declared.answer.Answer.TheVariants.{Refused}
use Rattle.script_machine.specs.declared.answer.Refusal.{Refusal}
use Rattle.script_play.specs.Runs.{PrintsFrom, PrintsPartFrom, Skips, Stops, StopsAt}
use Rattle.script_play.specs.Texts.{refused_line, text_of}
use Rattle.script_images.specs.Reasons.{refusal_of}
use Rattle.script_images.specs.declared.error.StrictFault.{StrictFault}
use Rattle.script_images.specs.declared.error.StrictFault.TheVariants as strict

-- the machine answers what the line asks for, and doesn't refuse it
pub record Takes (old : MachineState) (line output : List ℕ) (new : MachineState) : Type 0 where
  pub order : Order
  pub answer : Answer
  pub asks : Asks order line
  pub steps : Steps old order answer new
  pub printed : output ≡ text_of answer
  pub taken : refusal_of answer ≡ None

abbrev pub TakesLine : MachineState → List ℕ → List ℕ → MachineState → Type 0
TakesLine old line output new = IsText line × (Skips old line output new ⊎ Takes old line output new)

-- the lines take the machine from one state to another, none of them is refused, and they print this, a text each
abbrev pub TakesAll : MachineState → List (List ℕ) → List (List ℕ) → MachineState → Type 0
TakesAll old [] outputs new = (outputs ≡ []) × (new ≡ old)
TakesAll old (line ∷ lines) [] new = ⊥
TakesAll old (line ∷ lines) (output ∷ outputs) new = (middle : MachineState) × TakesLine old line output middle × TakesAll middle lines outputs new

-- the machine refuses what the line asks for, for this reason
pub record RefusesLine (old : MachineState) (line : List ℕ) (why : Refusal) : Type 0 where
  pub order : Order
  pub new : MachineState
  pub asks : Asks order line
  pub steps : Steps old order (Refused why) new

-- the first line that is refused is this one, counted from 1, for this reason; the others before it print this
pub record IsFirstRefused (start : MachineState) (lines : List (List ℕ)) (line : ℕ) (why : Refusal) (outputs : List (List ℕ)) : Type 0 where
  pub middle : MachineState
  pub before : TakesAll start (take (line - 1) lines) outputs middle
  pub text : List ℕ
  pub counted : 1 ≤ line
  pub there : slice_get lines (line - 1) ≡ Some text
  pub refused : RefusesLine middle text why

-- all lines are taken, and what they print was written
pub record TakesOn (start : MachineState) (lines : List (List ℕ)) (end : MachineState) (old new : Option (List ℕ)) : Type 0 where
  pub outputs : List (List ℕ)
  pub takes : TakesAll start lines outputs end
  pub written : Appends old new (concat outputs)

-- the first line that is refused is this one, and what those before it and it print was written
pub record RefusesAt (start : MachineState) (lines : List (List ℕ)) (line : ℕ) (why : Refusal) (old new : Option (List ℕ)) : Type 0 where
  pub outputs : List (List ℕ)
  pub first : IsFirstRefused start lines line why outputs
  pub written : Appends old new (concat outputs ++ refused_line why)

-- it stops at a line for another reason, and what those before it print was written; of its own a part where the writer failed
pub record StopsThere (start : MachineState) (lines : List (List ℕ)) (error : ScriptError) (old new : Option (List ℕ)) : Type 0 where
  pub why : StopsAt lines error
  pub before : error.kind ≢ kinds.Write → PrintsFrom start (take (error.line - 1) lines) old new
  pub part : error.kind ≡ kinds.Write → PrintsPartFrom start error.line lines old new

abbrev pub StopsStrictly : (start : MachineState) (lines : List (List ℕ)) (old new : Option (List ℕ)) → StrictFault → Type 0
StopsStrictly start lines old new (strict.Script error) = StopsThere start lines error old new
StopsStrictly start lines old new (strict.Refused line why) = RefusesAt start lines line why old new

-- The strict run of these lines on a machine in this state, which were read and ended so, ends with this result
abbrev pub EndsStrictlyOn : MachineState → List (List ℕ) → Ending → Result (Unit {0}) StrictFault → (end : MachineState) → (old new : Option (List ℕ)) → Type 0
EndsStrictlyOn start lines ending (Ok done) end old new = IsWhole ending × TakesOn start lines end old new
EndsStrictlyOn start lines ending (Err (strict.Script error)) end old new = Stops lines ending error
    × (error.kind ≢ kinds.Write → PrintsFrom start (take (error.line - 1) lines) old new)
    × (error.kind ≡ kinds.Write → PrintsPartFrom start error.line lines old new)
EndsStrictlyOn start lines ending (Err (strict.Refused line why)) end old new = RefusesAt start lines line why old new

-- the same on a machine with nothing declared
abbrev pub EndsStrictly : List (List ℕ) → Ending → Result (Unit {0}) StrictFault → (old new : Option (List ℕ)) → Type 0
EndsStrictly lines ending result old new = (start : MachineState) × IsStart start × (end : MachineState) × EndsStrictlyOn start lines ending result end old new

-- of one line

pub record TakesAndPrints (old : MachineState) (line : List ℕ) (new : MachineState) (before after : Option (List ℕ)) : Type 0 where
  pub output : List ℕ
  pub takes : TakesLine old line output new
  pub written : Appends before after output

pub record RefusesAndPrints (old : MachineState) (line : List ℕ) (why : Refusal) (before after : Option (List ℕ)) : Type 0 where
  pub refused : RefusesLine old line why
  pub written : Appends before after (refused_line why)

-- the line is taken, or refused for this reason
abbrev pub IsAnswered : (old : MachineState) (line : List ℕ) (new : MachineState) (before after : Option (List ℕ)) → Option Refusal → Type 0
IsAnswered old line new before after None = TakesAndPrints old line new before after
IsAnswered old line new before after (Some why) = RefusesAndPrints old line why before after
