-- What answers print (docs/SCRIPTS.md, "Lines" and "Refusals").
use Rattle.std.specs.Prelude.{ℕ, Option, None, Some, List, [], ◌∷◌, ◌++◌, codes}
use Rattle.std.specs.Fmt.{decimal}
use Rattle.std.specs.List.{flat_map}
use Rattle.heap_model.specs.declared.ids.Lane.{Lane}
use Rattle.inspect.specs.Pieces.{thread_of}
use Rattle.inspect.specs.ReportText.{report_text}
use Rattle.inspect.specs.StudyText.{study_text}
use Rattle.script_machine.specs.declared.answer.Answer.{Answer}
use Rattle.script_machine.specs.declared.answer.Report.{Report}
use Rattle.script_machine.specs.declared.answer.Answer.TheVariants as answers
use Rattle.script_machine.specs.declared.answer.Refusal.{Refusal}
use Rattle.script_machine.specs.declared.answer.Refusal.TheVariants as refusals

-- a word and numbers, each behind a space
abbrev pub list_line : List ℕ → List ℕ → List ℕ
list_line word numbers = word ++ flat_map (λ number. codes " " ++ decimal number) numbers ++ codes "\n"

-- why a line is refused, in words
abbrev pub why_refused : Refusal → List ℕ
why_refused refusals.State = codes "state"
why_refused refusals.Lane = codes "lane"
why_refused refusals.Unknown = codes "unknown"
why_refused refusals.Waiting = codes "waiting"
why_refused refusals.NotWaiting = codes "not waiting"
why_refused refusals.InSet = codes "in set"
why_refused refusals.Held = codes "held"
why_refused refusals.NotHeld = codes "not held"
why_refused refusals.Worn = codes "worn"
why_refused refusals.TooLong = codes "too long"
why_refused refusals.LogFull = codes "log full"
why_refused refusals.Unwritten = codes "unwritten"
why_refused refusals.Empty = codes "empty"
why_refused refusals.BadHeader = codes "bad header"
why_refused refusals.Back = codes "back"
why_refused refusals.DoubleName = codes "double name"
why_refused refusals.TooMany = codes "too many"
why_refused refusals.NotFormatted = codes "not formatted"
why_refused refusals.TooSmall = codes "too small"
why_refused refusals.NoControl = codes "no control"
why_refused refusals.BadControl = codes "bad control"
why_refused refusals.OldVersion = codes "old version"
why_refused (refusals.BadRecord lane place) = codes "bad record"
why_refused (refusals.IllegalLog lane place) = codes "illegal log"

-- the record that is to blame, by its lane and its place
abbrev pub place_of : Refusal → Option (Lane × ℕ)
place_of (refusals.BadRecord lane place) = Some (lane, place)
place_of (refusals.IllegalLog lane place) = Some (lane, place)
place_of _ = None

abbrev pub place_text : Option (Lane × ℕ) → List ℕ
place_text None = []
place_text (Some at) = codes " t" ++ decimal (thread_of at.0) ++ codes " " ++ decimal at.1

abbrev pub refused_line : Refusal → List ℕ
refused_line refusal = codes "refused " ++ why_refused refusal ++ place_text (place_of refusal) ++ codes "\n"

-- the threads that were woken, each behind a space
abbrev pub woken_threads : List Lane → List ℕ
woken_threads lanes = flat_map (λ lane. codes " t" ++ decimal (thread_of lane)) lanes

-- who was woken, or that nobody was
abbrev pub woke_line : List Lane → List ℕ
woke_line [] = codes "none\n"
woke_line (lane ∷ lanes) = codes "woke" ++ woken_threads (lane ∷ lanes) ++ codes "\n"

-- what a recovery found
abbrev pub text_of_report : Report → List ℕ
text_of_report report = report_text report.found report.heap.items report.lanes

-- what a line prints
abbrev pub text_of : Answer → List ℕ
text_of answers.Silent = []
text_of answers.Done = codes "ok\n"
text_of (answers.Formatted size) = codes "formatted " ++ decimal size ++ codes "\n"
text_of answers.Waiting = codes "waiting\n"
text_of (answers.Woke lanes) = woke_line lanes.items
text_of (answers.Value value) = codes "value " ++ decimal value ++ codes "\n"
text_of (answers.Logged count) = codes "logged " ++ decimal count ++ codes "\n"
text_of (answers.Wrote count) = codes "wrote " ++ decimal count ++ codes "\n"
text_of (answers.Acknowledged counts) = list_line (codes "acknowledged") counts.items
text_of (answers.Heap values) = list_line (codes "heap") values.items
text_of answers.Crashed = codes "crashed\n"
text_of (answers.Shown study) = study_text study
text_of (answers.Recovered report) = text_of_report report
text_of (answers.Refused refusal) = refused_line refusal
