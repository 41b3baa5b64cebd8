-- What the text of an option is read as.
use Rattle.std.proofs.Common.{◌≡◌, ◌↔◌, ℕ, Bool, true, false, ◌&&◌, List, [], Option, None, Some, Result, Ok, Err, option_map, refl, sym, ap, ap₂, ◌∙◌, arith, codes, length, map, subst}
use Rattle.std.specs.Prelude.{IsTrue, not, unwrap_or}
use Rattle.std.specs.Borrow.{Bor}
use Rattle.std.specs.Str.Parse.{ParsesBool, ParsesUnsigned, parse_bool_error}
use Rattle.clap.specs.Matches.{ReadsOne}
use Rattle.clap.specs.Built.{AddsArg, AddsSubcommand}
use Rattle.clap.specs.Simple.{App, app_of, with_rule, with_subcommand}
use Rattle.clap.specs.Walk.{rule_of}
use Rattle.clap.specs.declared.builder.arg.Arg.{Arg}
use Rattle.clap.specs.declared.builder.command.Command.{Command}
use Rattle.heapctl_words.specs.Words.{LastIs, MayRead, Reads}

-- a number
pub reads_number : {E : Type 0} (gives : List ℕ → Result ℕ E → Type 0) (bits : ℕ) (o : Option (List ℕ)) (r : Option ℕ)
    → ((u : List ℕ) (x : Result ℕ E) → gives u x → ParsesUnsigned bits 10 u x) → ((t : List ℕ) → o ≡ Some t → ReadsOne gives t r)
    → Reads bits o (unwrap_or r 0)
reads_number gives bits None r by reads = tt
reads_number gives bits (Some t) (Some n) by reads = λ numeral fits. (by t (Ok n) (reads t refl)).1
reads_number gives bits (Some t) None by reads = λ numeral fits. let failed = reads t refl in absurd (by t (Err failed.0) failed.1 (numeral, fits))

-- a number that may be missing
pub may_read_number : {E : Type 0} (gives : List ℕ → Result ℕ E → Type 0) (bits : ℕ) (o : Option (List ℕ)) (r : Option ℕ)
    → ((u : List ℕ) (x : Result ℕ E) → gives u x → ParsesUnsigned bits 10 u x) → (o ≡ None → r ≡ None) → ((t : List ℕ) → o ≡ Some t → ReadsOne gives t r)
    → MayRead bits o r
may_read_number gives bits None r by none reads = none refl
may_read_number gives bits (Some t) (Some n) by none reads = λ numeral fits. ap Some (by t (Ok n) (reads t refl)).1
may_read_number gives bits (Some t) None by none reads = λ numeral fits. let failed = reads t refl in absurd (by t (Err failed.0) failed.1 (numeral, fits))

-- a number that is 50 where it is missing
pub reads_last : (o : Option (List ℕ)) (r : Option ℕ) → MayRead 32 o r → LastIs o (unwrap_or r 50)
reads_last None r reads = ap (λ x. unwrap_or x 50) reads
reads_last (Some t) r reads = λ numeral fits. ap (λ x. unwrap_or x 50) (reads numeral fits)

-- the type of a value
abbrev pub type_of : {E : Type 0} → E → Type 0
type_of {E} e = E

-- a flag
pub reads_flag : (o : Option (List ℕ)) (r : Option Bool) → (o ≡ None → r ≡ None)
    → ((t : List ℕ) → o ≡ Some t → ReadsOne (ParsesBool {E = type_of parse_bool_error}) t r) → IsTrue (unwrap_or r false) ↔ (o ≡ Some (codes "true"))
reads_flag None r none reads =
    subst (λ x. IsTrue (unwrap_or x false) ↔ (None ≡ Some (codes "true"))) (sym (none refl)) ((λ is. absurd cc), (λ is. absurd cc))
reads_flag (Some t) (Some true) none reads = ((λ is. ap Some (reads t refl)), (λ is. refl))
reads_flag (Some t) (Some false) none reads =
    let other : t ≡ codes "false" = reads t refl in (
      (λ is. absurd cc),
      (λ is.
          let same : t ≡ codes "true" = cc in
          let lengths : 5 ≡ 4 = ap length (sym other ∙ same) in
          absurd (omega arith)),
    )
reads_flag (Some t) None none reads = (
  (λ is. absurd cc),
  (λ is.
      let same : t ≡ codes "true" = cc in
      absurd ((reads t refl).1.0 same)),
)

-- a text, and where there is none the empty one
pub text_there : (r : Option (Bor (List ℕ))) (s : Bor (List ℕ)) (o : Option (List ℕ)) → r ≡ Some s → option_map (λ x. x.now) r ≡ o → s.now ≡ unwrap_or o []
text_there r s o is e = ap (λ x. unwrap_or x []) (ap (option_map (λ x. x.now)) (sym is) ∙ e)

pub text_missing : (r : Option (Bor (List ℕ))) (o : Option (List ℕ)) → r ≡ None → option_map (λ x. x.now) r ≡ o → [] ≡ unwrap_or o []
text_missing r o is e = ap (λ x. unwrap_or x []) (ap (option_map (λ x. x.now)) (sym is) ∙ e)

-- texts, and where there are none the empty list
pub strs_there : (r : Option (Bor (List (Bor (List ℕ))))) (s : Bor (List (Bor (List ℕ)))) (o : Option (List (List ℕ))) → r ≡ Some s
    → option_map (λ x. map (λ v. v.now) x.now) r ≡ o → map (λ v. v.now) s.now ≡ unwrap_or o []
strs_there r s o is e = ap (λ x. unwrap_or x []) (ap (option_map (λ x. map (λ v. v.now) x.now)) (sym is) ∙ e)

pub strs_missing : (r : Option (Bor (List (Bor (List ℕ))))) (o : Option (List (List ℕ))) → r ≡ None
    → option_map (λ x. map (λ v. v.now) x.now) r ≡ o → [] ≡ unwrap_or o []
strs_missing r o is e = ap (λ x. unwrap_or x []) (ap (option_map (λ x. map (λ v. v.now) x.now)) (sym is) ∙ e)

-- of a command that is plain the third part says that no argument is global
pub third_is_off : (groups external globals others : Bool) → (groups && (not external && (not globals && others))) ≡ true → globals ≡ false
third_is_off groups external false others e = refl
third_is_off true false true others e = absurd cc
third_is_off true true true others e = absurd cc
third_is_off false external true others e = absurd cc

-- a plain word more
pub word_added : (old word new : Command) (before added : App) → app_of old ≡ before → app_of word ≡ added → added.top.is_plain ≡ true
    → AddsSubcommand old word new → app_of new ≡ with_subcommand before added.top
word_added old word new before added old_is word_is plain adds =
    let local = third_is_off _ _ _ _ (ap (λ (a : App). a.top.is_plain) word_is ∙ plain) in
    adds.shape local ∙ ap₂ with_subcommand old_is (ap (λ (a : App). a.top) word_is)

-- an option more
pub option_added : (old : Command) (a : Arg) (new : Command) (before : App) → app_of old ≡ before → a.global ≡ false → AddsArg old a new
    → app_of new ≡ with_rule before (rule_of a)
option_added old a new before old_is own adds = adds.shape own ∙ ap (λ (x : App). with_rule x (rule_of a)) old_is
