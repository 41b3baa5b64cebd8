-- What a line of a schema file is refused for.
use Rattle.std.proofs.Common.{◌≡◌, ℕ, true, false, List, Option, None, Some, MatchOption, IfSome, Result, Ok, Err, IfOk, IfErr, OnOk, refl, sym, ap, ◌∙◌, subst}
use Rattle.std.specs.Prelude.{IsTrue}
use Rattle.guards.specs.Schema.{Declarations}
use Rattle.script_lines.specs.declared.error.ScriptErrorKind.{ScriptErrorKind}
use Rattle.script_lines.specs.declared.error.ScriptErrorKind.TheVariants as scripts
use Rattle.script_declarations.specs.declared.schema_fault.SchemaFaultKind.{SchemaFaultKind}
use Rattle.script_declarations.specs.declared.schema_fault.SchemaFaultKind.TheVariants as kinds
use Rattle.script_lines.specs.Grammar.{Asks}
use Rattle.script_lines.specs.Lines.{IsText, IsSkipped, AsksOnly, HasFault}
use Rattle.script_lines.specs.Orders.{Order, order_of}
use Rattle.script_lines.specs.declared.command.Command.{Command}
use Rattle.script_declarations.specs.SchemaFiles.{declares, RefusesDeclaration, RefusesLine}
use Rattle.script_declarations.specs.Telling.{told_of_text, told_of_declared}
use Rattle.script_declarations.specs.Declares.{Declares}
use Rattle.script_declarations.specs.declared.declared.Declared.{Declared}
use Rattle.script_declarations.specs.declared.declared.Declared.TheVariants.{Added, Refused}
use Rattle.script_declarations.specs.declared.declared.DeclarationRefusal.{DeclarationRefusal}
use Rattle.script_declarations.specs.declared.declared.DeclarationRefusal.TheVariants as why
use Rattle.std.specs.declared.alloc.AllocError.{AllocError}

-- a fault of the text
pub text_refused : (d : Declarations) (line : List ℕ) (kind : ScriptErrorKind) → HasFault line kind → RefusesLine d line (told_of_text kind)
text_refused d line scripts.Syntax h = (h.0, h.1, λ o declaration. h.2 o declaration.0)
text_refused d line scripts.NotText h = h
text_refused d line scripts.TooLong h = h
text_refused d line scripts.Read h = absurd h
text_refused d line scripts.Write h = absurd h
text_refused d line scripts.Memory h = absurd h

-- a refusal of what the line declares
declared_refused : (d : Declarations) (line : List ℕ) (o : Order) (kind : SchemaFaultKind) → IsText line → ¬ IsSkipped line → Asks o line → AsksOnly o line
    → RefusesDeclaration d o kind → RefusesLine d line kind
declared_refused d line o kinds.Syntax text read asks own h = (
  text,
  read,
  λ other declaration. let same : other ≡ o = own other declaration.0 in
      let never : true ≡ false = sym declaration.1 ∙ ap declares same ∙ h in absurd cc,
)
declared_refused d line o kinds.NotText text read asks own h = absurd h
declared_refused d line o kinds.TooLong text read asks own h = absurd h
declared_refused d line o kinds.Read text read asks own h = absurd h
declared_refused d line o kinds.Memory text read asks own h = (text, o, (asks, h))
declared_refused d line o kinds.Empty text read asks own h = record { order = o; text = text; asks = asks; declares = h }
declared_refused d line o kinds.DoubleName text read asks own h = record { order = o; text = text; asks = asks; declares = h }
declared_refused d line o kinds.Unknown text read asks own h = record { order = o; text = text; asks = asks; declares = h }
declared_refused d line o kinds.TooMany text read asks own h = record { order = o; text = text; asks = asks; declares = h }

pub if_refused : {T : Type 0} (d : Declarations) (line : List ℕ) (found : Option Command) (command : Command) (r : Result T SchemaFaultKind) → found ≡ Some command → IsText line
    → MatchOption found (IsSkipped line) (λ c. Asks (order_of c) line) → IfSome found (λ _. ¬ IsSkipped line) → IfSome found (λ c. AsksOnly (order_of c) line)
    → IfErr r (λ kind. RefusesDeclaration d (order_of command) kind) → IfErr r (λ kind. RefusesLine d line kind)
if_refused d line None command r is text asks read own h = absurd cc
if_refused d line (Some c) command (Ok x) is text asks read own h = h
if_refused d line (Some c) command (Err kind) is text asks read own h =
    let same : command ≡ c = cc in
    declared_refused d line (order_of c) kind text read asks own (subst (λ (x : Command). RefusesDeclaration d (order_of x) kind) same h)

module _ (d new : Declarations) (o : Order) where
  -- what was added
  pub if_added : (r : Result Declared AllocError) → IfOk r (λ said. Declares d o said new) → OnOk (told_of_declared r) (Declares d o Added new)
  if_added (Ok Added) h = h
  if_added (Ok (Refused why.Empty)) h = tt
  if_added (Ok (Refused why.DoubleName)) h = tt
  if_added (Ok (Refused why.Unknown)) h = tt
  if_added (Ok (Refused why.TooMany)) h = tt
  if_added (Err none) h = tt

  -- what was not
  not_added : (w : DeclarationRefusal) → Declares d o (Refused w) new → ((v : DeclarationRefusal) → ◌≡◌ {A = Declared} (Refused w) (Refused v) → new ≡ d) → Declares d o (Refused w) d
  not_added w h same = subst (λ (x : Declarations). Declares d o (Refused w) x) (same w refl) h

  pub if_not_added : (r : Result Declared AllocError) → IsTrue (declares o) → IfOk r (λ said. Declares d o said new)
      → IfOk r (λ said. (v : DeclarationRefusal) → said ≡ Refused v → new ≡ d) → IfErr (told_of_declared r) (λ kind. RefusesDeclaration d o kind)
  if_not_added (Ok Added) is h same = tt
  if_not_added (Ok (Refused why.Empty)) is h same = not_added why.Empty h same
  if_not_added (Ok (Refused why.DoubleName)) is h same = not_added why.DoubleName h same
  if_not_added (Ok (Refused why.Unknown)) is h same = not_added why.Unknown h same
  if_not_added (Ok (Refused why.TooMany)) is h same = not_added why.TooMany h same
  if_not_added (Err none) is h same = is
