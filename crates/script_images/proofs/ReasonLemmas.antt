-- A refusal and an error, told again.
use Rattle.std.proofs.Common.{ℕ, ◌≡◌, ◌≢◌, List, None, Some, Ok, inl, inr, refl, sym, ap, ◌∙◌}
use Rattle.script_lines.specs.declared.error.ScriptError.{ScriptError}
use Rattle.script_lines.specs.declared.error.ScriptErrorKind.{ScriptErrorKind}
use Rattle.script_lines.specs.declared.error.ScriptErrorKind.TheVariants as kinds
use Rattle.script_lines.specs.declared.reader.Ending.{Ending}
use Rattle.script_lines.specs.declared.reader.Ending.TheVariants as endings
use Rattle.recover_heap.specs.declared.error.RecoverError.{RecoverError}
use Rattle.recover_heap.specs.declared.error.RecoverError.TheVariants as recover
use Rattle.script_machine.specs.declared.answer.Answer.{Answer}
use Rattle.script_machine.specs.declared.answer.Answer.TheVariants as answers
use Rattle.script_machine.specs.declared.answer.Refusal.{Refusal}
use Rattle.script_machine.specs.declared.answer.Refusal.TheVariants as why
use Rattle.script_machine.specs.Refusals.{told_of_recovery}
use Rattle.script_play.specs.Runs.{IsMissing, MayStop, Stops}
use Rattle.script_images.specs.Playing.{IsStopped}
use Rattle.script_images.specs.Reasons.{in_memory, kind_in_memory, reason_for, refusal_of}

-- the reason that is told so is the one behind it
pub reason_back : (reason : RecoverError) (told : Refusal) → told_of_recovery reason ≡ Ok told → reason_for told ≡ reason
reason_back recover.NotFormatted told is = let same : told ≡ why.NotFormatted = cc in ap reason_for same
reason_back recover.BadHeader told is = let same : told ≡ why.BadHeader = cc in ap reason_for same
reason_back recover.TooSmall told is = let same : told ≡ why.TooSmall = cc in ap reason_for same
reason_back recover.NoControl told is = let same : told ≡ why.NoControl = cc in ap reason_for same
reason_back recover.BadControl told is = let same : told ≡ why.BadControl = cc in ap reason_for same
reason_back recover.OldVersion told is = let same : told ≡ why.OldVersion = cc in ap reason_for same
reason_back recover.Worn told is = let same : told ≡ why.Worn = cc in ap reason_for same
reason_back (recover.BadRecord lane place) told is = let same : told ≡ why.BadRecord lane place = cc in ap reason_for same
reason_back (recover.IllegalLog lane place) told is = let same : told ≡ why.IllegalLog lane place = cc in ap reason_for same
reason_back recover.Fault told is = absurd cc
reason_back recover.NoMemory told is = absurd cc

-- an answer by which the line was refused, or wasn't
pub refusal_is : (answer : Answer) (reason : Refusal) → refusal_of answer ≡ Some reason → answer ≡ answers.Refused reason
refusal_is answers.Silent reason is = absurd cc
refusal_is answers.Done reason is = absurd cc
refusal_is (answers.Formatted size) reason is = absurd cc
refusal_is answers.Waiting reason is = absurd cc
refusal_is (answers.Woke lanes) reason is = absurd cc
refusal_is (answers.Value value) reason is = absurd cc
refusal_is (answers.Logged records) reason is = absurd cc
refusal_is (answers.Wrote cells) reason is = absurd cc
refusal_is (answers.Acknowledged counts) reason is = absurd cc
refusal_is (answers.Heap values) reason is = absurd cc
refusal_is answers.Crashed reason is = absurd cc
refusal_is (answers.Shown study) reason is = absurd cc
refusal_is (answers.Recovered report) reason is = absurd cc
refusal_is (answers.Refused other) reason is = let same : other ≡ reason = cc in ap answers.Refused same

pub no_refusal : (answer : Answer) (reason : Refusal) → refusal_of answer ≡ None → answer ≡ answers.Refused reason → ⊥
no_refusal answer reason none is = let no : Some reason ≡ None = sym (ap refusal_of is) ∙ none in absurd cc

not_written : (kind : ScriptErrorKind) → kind_in_memory kind ≢ kinds.Write
not_written kinds.Write is = absurd cc
not_written kinds.Syntax is = absurd cc
not_written kinds.NotText is = absurd cc
not_written kinds.TooLong is = absurd cc
not_written kinds.Read is = absurd cc
not_written kinds.Memory is = absurd cc

may_stop : (line : List ℕ) (kind : ScriptErrorKind) → MayStop line kind → MayStop line (kind_in_memory kind)
may_stop line kinds.Write may = inr (inr refl)
may_stop line kinds.Syntax may = may
may_stop line kinds.NotText may = may
may_stop line kinds.TooLong may = may
may_stop line kinds.Read may = may
may_stop line kinds.Memory may = may

not_missing : (ending : Ending) → IsMissing ending kinds.Write → ⊥
not_missing endings.Whole is = is
not_missing endings.TooLong is = absurd cc
not_missing endings.Fault is = absurd cc
not_missing endings.NoMemory is = absurd cc

is_missing : (ending : Ending) (kind : ScriptErrorKind) → IsMissing ending kind → IsMissing ending (kind_in_memory kind)
is_missing ending kinds.Write is = absurd (not_missing ending is)
is_missing ending kinds.Syntax is = is
is_missing ending kinds.NotText is = is
is_missing ending kinds.TooLong is = is
is_missing ending kinds.Read is = is
is_missing ending kinds.Memory is = is

-- a run that stops in memory stops at the same line
pub stopped : (lines : List (List ℕ)) (ending : Ending) (error : ScriptError) → Stops lines ending error → IsStopped lines ending (in_memory error)
stopped lines ending error (inl at) = record {
  stops = inl (record { line = at.line; counted = at.counted; there = at.there; why = may_stop at.line error.kind at.why; before = at.before });
  own = not_written error.kind;
}
stopped lines ending error (inr behind) = record {
  stops = inr (record { counted = behind.counted; why = is_missing ending error.kind behind.why; before = behind.before });
  own = not_written error.kind;
}
