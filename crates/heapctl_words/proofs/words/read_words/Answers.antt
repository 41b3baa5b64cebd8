use Rattle.std.proofs.Common.{◌≡◌, List, [], ◌∷◌, ℕ, None, Some, codes, map, string_bytes, true, false, ap, ap₂, sym, subst, ◌∙◌, refl, inl, inr}
use Rattle.clap.proofs.OnLiterals.{clap_on_literals}
use Rattle.clap.specs.Faults.{fault_of, is_simple_and_free}
use Rattle.clap.specs.Kinds.{HasKind}
use Rattle.clap.specs.Simple.{App, is_simple, subcommand_of}
use Rattle.clap.specs.Takes.{takes}
use Rattle.heapctl_words.specs.Words.{AsksFor, names_asked, program}
use Rattle.heapctl_words.proofs.PathLemmas.{both_lengths, idle_options, no_kind, none_says_both, none_says_idle, none_says_no_kind, none_says_no_part, not_none, not_run, one_file, run_rows, run_says_both, run_says_idle, run_says_no_kind, run_says_no_part, two_files, unclear_part}
use Rattle.heapctl_words.proofs.words.read_words.Goals as goal

is_plain : is_simple_and_free program ≡ true
unfolding clap_on_literals
is_plain = refl

is_plainly_read : is_simple program ≡ true
unfolding clap_on_literals
is_plainly_read = refl

takes_none : (name : List ℕ) → takes program (name ∷ []) ≡ true
unfolding clap_on_literals
takes_none name = refl

takes_run : (name : List ℕ) → takes program (name ∷ codes "run" ∷ []) ≡ true
unfolding clap_on_literals
takes_run name = refl

meets_none : (name : List ℕ) → subcommand_of program (name ∷ []) ≡ None
unfolding clap_on_literals
meets_none name = refl

meets_run : (name : List ℕ) → subcommand_of program (name ∷ codes "run" ∷ []) ≡ Some (codes "run", run_rows)
unfolding clap_on_literals
meets_run name = refl

pub returns-in-Err-clause-exact : goal.returns-in-Err-clause-exact
returns-in-Err-clause-exact c =
    let is = c.in_ok-command.ensures in
    inl (subst (λ (a : App). HasKind (fault_of a (map (λ s. string_bytes s) c.args.words.now)) c.in-Err.answer) is (c.in-Err.ensures.kinds (ap is_simple_and_free is ∙ is_plain)))

pub returns-in-Err-clause-none : goal.returns-in-Err-clause-none
returns-in-Err-clause-none c = λ name words_are. c.in-Err.ensures.passes (ap₂ takes c.in_ok-command.ensures words_are ∙ takes_none name)

pub returns-in-Err-clause-run : goal.returns-in-Err-clause-run
returns-in-Err-clause-run c = λ name words_are. c.in-Err.ensures.passes (ap₂ takes c.in_ok-command.ensures words_are ∙ takes_run name)

pub returns-then-has_one_path-clause-exact : goal.returns-then-has_one_path-clause-exact
returns-then-has_one_path-clause-exact c =
    let is = c.in_ok-command.ensures in
    let met = (c.in-Ok.ensures.matches (ap is_simple is ∙ is_plainly_read)).1 ∙ ap (λ (a : App). subcommand_of a (map (λ s. string_bytes s) c.args.words.now)) is in
    let asks = subst (λ found. AsksFor found c.asked_by-asked.result) met c.asked_by-asked.ensures in
    let none = ap (λ (a : App). fault_of a (map (λ s. string_bytes s) c.args.words.now)) (sym is) ∙ c.in-Ok.ensures.kinds (ap is_simple_and_free is ∙ is_plain) in
    inr (none, inl (one_file (map (λ s. string_bytes s) c.args.words.now) c.asked_by-asked.result asks (c.has_one_path.ensures.0 c.if-has_one_path.true)), c.in_ok-conflict.ensures)

pub returns-then-has_one_path-clause-none : goal.returns-then-has_one_path-clause-none
returns-then-has_one_path-clause-none c = λ name words_are.
    let is = c.in_ok-command.ensures in
    let met = (c.in-Ok.ensures.matches (ap is_simple is ∙ is_plainly_read)).1 ∙ ap (λ (a : App). subcommand_of a (map (λ s. string_bytes s) c.args.words.now)) is in
    let asks = subst (λ found. AsksFor found c.asked_by-asked.result) met c.asked_by-asked.ensures in
    absurd (not_none (map (λ s. string_bytes s) c.args.words.now) (ap (subcommand_of program) words_are ∙ meets_none name)
    (one_file (map (λ s. string_bytes s) c.args.words.now) c.asked_by-asked.result asks (c.has_one_path.ensures.0 c.if-has_one_path.true)))

pub returns-then-has_one_path-clause-run : goal.returns-then-has_one_path-clause-run
returns-then-has_one_path-clause-run c = λ name words_are.
    let is = c.in_ok-command.ensures in
    let met = (c.in-Ok.ensures.matches (ap is_simple is ∙ is_plainly_read)).1 ∙ ap (λ (a : App). subcommand_of a (map (λ s. string_bytes s) c.args.words.now)) is in
    let asks = subst (λ found. AsksFor found c.asked_by-asked.result) met c.asked_by-asked.ensures in
    absurd (not_run (map (λ s. string_bytes s) c.args.words.now) run_rows (ap (subcommand_of program) words_are ∙ meets_run name)
    (one_file (map (λ s. string_bytes s) c.args.words.now) c.asked_by-asked.result asks (c.has_one_path.ensures.0 c.if-has_one_path.true)))

pub returns-then-has_both_lengths-clause-exact : goal.returns-then-has_both_lengths-clause-exact
returns-then-has_both_lengths-clause-exact c =
    let is = c.in_ok-command.ensures in
    let met = (c.in-Ok.ensures.matches (ap is_simple is ∙ is_plainly_read)).1 ∙ ap (λ (a : App). subcommand_of a (map (λ s. string_bytes s) c.args.words.now)) is in
    let asks = subst (λ found. AsksFor found c.asked_by-asked.result) met c.asked_by-asked.ensures in
    let none = ap (λ (a : App). fault_of a (map (λ s. string_bytes s) c.args.words.now)) (sym is) ∙ c.in-Ok.ensures.kinds (ap is_simple_and_free is ∙ is_plain) in
    inr (none, inr (inl (both_lengths (map (λ s. string_bytes s) c.args.words.now) c.asked_by-asked.result asks (c.has_both_lengths.ensures.0 c.if-has_both_lengths.true))), c.in_ok-conflict-2.ensures)

pub returns-then-has_both_lengths-clause-none : goal.returns-then-has_both_lengths-clause-none
returns-then-has_both_lengths-clause-none c = λ name words_are.
    let is = c.in_ok-command.ensures in
    let met = (c.in-Ok.ensures.matches (ap is_simple is ∙ is_plainly_read)).1 ∙ ap (λ (a : App). subcommand_of a (map (λ s. string_bytes s) c.args.words.now)) is in
    let asks = subst (λ found. AsksFor found c.asked_by-asked.result) met c.asked_by-asked.ensures in
    absurd (none_says_both (map (λ s. string_bytes s) c.args.words.now) (ap (subcommand_of program) words_are ∙ meets_none name)
    (both_lengths (map (λ s. string_bytes s) c.args.words.now) c.asked_by-asked.result asks (c.has_both_lengths.ensures.0 c.if-has_both_lengths.true)))

pub returns-then-has_both_lengths-clause-run : goal.returns-then-has_both_lengths-clause-run
returns-then-has_both_lengths-clause-run c = λ name words_are.
    let is = c.in_ok-command.ensures in
    let met = (c.in-Ok.ensures.matches (ap is_simple is ∙ is_plainly_read)).1 ∙ ap (λ (a : App). subcommand_of a (map (λ s. string_bytes s) c.args.words.now)) is in
    let asks = subst (λ found. AsksFor found c.asked_by-asked.result) met c.asked_by-asked.ensures in
    absurd (run_says_both (map (λ s. string_bytes s) c.args.words.now) run_rows (ap (subcommand_of program) words_are ∙ meets_run name)
    (both_lengths (map (λ s. string_bytes s) c.args.words.now) c.asked_by-asked.result asks (c.has_both_lengths.ensures.0 c.if-has_both_lengths.true)))

pub returns-then-has_no_kind-clause-exact : goal.returns-then-has_no_kind-clause-exact
returns-then-has_no_kind-clause-exact c =
    let is = c.in_ok-command.ensures in
    let met = (c.in-Ok.ensures.matches (ap is_simple is ∙ is_plainly_read)).1 ∙ ap (λ (a : App). subcommand_of a (map (λ s. string_bytes s) c.args.words.now)) is in
    let asks = subst (λ found. AsksFor found c.asked_by-asked.result) met c.asked_by-asked.ensures in
    let none = ap (λ (a : App). fault_of a (map (λ s. string_bytes s) c.args.words.now)) (sym is) ∙ c.in-Ok.ensures.kinds (ap is_simple_and_free is ∙ is_plain) in
    inr (none, inr (inr (inl (no_kind (map (λ s. string_bytes s) c.args.words.now) c.asked_by-asked.result asks (c.has_no_kind.ensures.0 c.if-has_no_kind.true)))), c.in_ok-conflict-3.ensures)

pub returns-then-has_no_kind-clause-none : goal.returns-then-has_no_kind-clause-none
returns-then-has_no_kind-clause-none c = λ name words_are.
    let is = c.in_ok-command.ensures in
    let met = (c.in-Ok.ensures.matches (ap is_simple is ∙ is_plainly_read)).1 ∙ ap (λ (a : App). subcommand_of a (map (λ s. string_bytes s) c.args.words.now)) is in
    let asks = subst (λ found. AsksFor found c.asked_by-asked.result) met c.asked_by-asked.ensures in
    absurd (none_says_no_kind (map (λ s. string_bytes s) c.args.words.now) (ap (subcommand_of program) words_are ∙ meets_none name)
    (no_kind (map (λ s. string_bytes s) c.args.words.now) c.asked_by-asked.result asks (c.has_no_kind.ensures.0 c.if-has_no_kind.true)))

pub returns-then-has_no_kind-clause-run : goal.returns-then-has_no_kind-clause-run
returns-then-has_no_kind-clause-run c = λ name words_are.
    let is = c.in_ok-command.ensures in
    let met = (c.in-Ok.ensures.matches (ap is_simple is ∙ is_plainly_read)).1 ∙ ap (λ (a : App). subcommand_of a (map (λ s. string_bytes s) c.args.words.now)) is in
    let asks = subst (λ found. AsksFor found c.asked_by-asked.result) met c.asked_by-asked.ensures in
    absurd (run_says_no_kind (map (λ s. string_bytes s) c.args.words.now) run_rows (ap (subcommand_of program) words_are ∙ meets_run name)
    (no_kind (map (λ s. string_bytes s) c.args.words.now) c.asked_by-asked.result asks (c.has_no_kind.ensures.0 c.if-has_no_kind.true)))

pub returns-then-has_idle_options-clause-exact : goal.returns-then-has_idle_options-clause-exact
returns-then-has_idle_options-clause-exact c =
    let is = c.in_ok-command.ensures in
    let met = (c.in-Ok.ensures.matches (ap is_simple is ∙ is_plainly_read)).1 ∙ ap (λ (a : App). subcommand_of a (map (λ s. string_bytes s) c.args.words.now)) is in
    let asks = subst (λ found. AsksFor found c.asked_by-asked.result) met c.asked_by-asked.ensures in
    let none = ap (λ (a : App). fault_of a (map (λ s. string_bytes s) c.args.words.now)) (sym is) ∙ c.in-Ok.ensures.kinds (ap is_simple_and_free is ∙ is_plain) in
    inr (none, inr (inr (inr (inl (idle_options (map (λ s. string_bytes s) c.args.words.now) c.asked_by-asked.result asks (c.has_idle_options.ensures.0 c.if-has_idle_options.true))))), c.in_ok-conflict-4.ensures)

pub returns-then-has_idle_options-clause-none : goal.returns-then-has_idle_options-clause-none
returns-then-has_idle_options-clause-none c = λ name words_are.
    let is = c.in_ok-command.ensures in
    let met = (c.in-Ok.ensures.matches (ap is_simple is ∙ is_plainly_read)).1 ∙ ap (λ (a : App). subcommand_of a (map (λ s. string_bytes s) c.args.words.now)) is in
    let asks = subst (λ found. AsksFor found c.asked_by-asked.result) met c.asked_by-asked.ensures in
    absurd (none_says_idle (map (λ s. string_bytes s) c.args.words.now) (ap (subcommand_of program) words_are ∙ meets_none name)
    (idle_options (map (λ s. string_bytes s) c.args.words.now) c.asked_by-asked.result asks (c.has_idle_options.ensures.0 c.if-has_idle_options.true)))

pub returns-then-has_idle_options-clause-run : goal.returns-then-has_idle_options-clause-run
returns-then-has_idle_options-clause-run c = λ name words_are.
    let is = c.in_ok-command.ensures in
    let met = (c.in-Ok.ensures.matches (ap is_simple is ∙ is_plainly_read)).1 ∙ ap (λ (a : App). subcommand_of a (map (λ s. string_bytes s) c.args.words.now)) is in
    let asks = subst (λ found. AsksFor found c.asked_by-asked.result) met c.asked_by-asked.ensures in
    absurd (run_says_idle (map (λ s. string_bytes s) c.args.words.now) (ap (subcommand_of program) words_are ∙ meets_run name)
    (idle_options (map (λ s. string_bytes s) c.args.words.now) c.asked_by-asked.result asks (c.has_idle_options.ensures.0 c.if-has_idle_options.true)))

pub returns-then-has_unclear_part-clause-exact : goal.returns-then-has_unclear_part-clause-exact
returns-then-has_unclear_part-clause-exact c =
    let is = c.in_ok-command.ensures in
    let met = (c.in-Ok.ensures.matches (ap is_simple is ∙ is_plainly_read)).1 ∙ ap (λ (a : App). subcommand_of a (map (λ s. string_bytes s) c.args.words.now)) is in
    let asks = subst (λ found. AsksFor found c.asked_by-asked.result) met c.asked_by-asked.ensures in
    let none = ap (λ (a : App). fault_of a (map (λ s. string_bytes s) c.args.words.now)) (sym is) ∙ c.in-Ok.ensures.kinds (ap is_simple_and_free is ∙ is_plain) in
    inr (none, inr (inr (inr (inr (unclear_part (map (λ s. string_bytes s) c.args.words.now) c.asked_by-asked.result asks (c.has_unclear_part.ensures.0 c.if-has_unclear_part.true))))), c.in_ok-conflict-5.ensures)

pub returns-then-has_unclear_part-clause-none : goal.returns-then-has_unclear_part-clause-none
returns-then-has_unclear_part-clause-none c = λ name words_are.
    let is = c.in_ok-command.ensures in
    let met = (c.in-Ok.ensures.matches (ap is_simple is ∙ is_plainly_read)).1 ∙ ap (λ (a : App). subcommand_of a (map (λ s. string_bytes s) c.args.words.now)) is in
    let asks = subst (λ found. AsksFor found c.asked_by-asked.result) met c.asked_by-asked.ensures in
    absurd (none_says_no_part (map (λ s. string_bytes s) c.args.words.now) (ap (subcommand_of program) words_are ∙ meets_none name)
    (unclear_part (map (λ s. string_bytes s) c.args.words.now) c.asked_by-asked.result asks (c.has_unclear_part.ensures.0 c.if-has_unclear_part.true)))

pub returns-then-has_unclear_part-clause-run : goal.returns-then-has_unclear_part-clause-run
returns-then-has_unclear_part-clause-run c = λ name words_are.
    let is = c.in_ok-command.ensures in
    let met = (c.in-Ok.ensures.matches (ap is_simple is ∙ is_plainly_read)).1 ∙ ap (λ (a : App). subcommand_of a (map (λ s. string_bytes s) c.args.words.now)) is in
    let asks = subst (λ found. AsksFor found c.asked_by-asked.result) met c.asked_by-asked.ensures in
    absurd (run_says_no_part (map (λ s. string_bytes s) c.args.words.now) run_rows (ap (subcommand_of program) words_are ∙ meets_run name)
    (unclear_part (map (λ s. string_bytes s) c.args.words.now) c.asked_by-asked.result asks (c.has_unclear_part.ensures.0 c.if-has_unclear_part.true)))

pub returns-clause-exact : goal.returns-clause-exact
returns-clause-exact c =
    let is = c.in_ok-command.ensures in
    let met = (c.in-Ok.ensures.matches (ap is_simple is ∙ is_plainly_read)).1 ∙ ap (λ (a : App). subcommand_of a (map (λ s. string_bytes s) c.args.words.now)) is in
    let asks = subst (λ found. AsksFor found c.asked_by-asked.result) met c.asked_by-asked.ensures in
    record {
      well_formed = ap (λ (a : App). fault_of a (map (λ s. string_bytes s) c.args.words.now)) (sym is) ∙ c.in-Ok.ensures.kinds (ap is_simple_and_free is ∙ is_plain);
      two_files = two_files (map (λ s. string_bytes s) c.args.words.now) c.asked_by-asked.result asks
          (λ same. let both : true ≡ false = sym (c.has_one_path.ensures.1 same) ∙ c.if-has_one_path.false in absurd cc);
      one_length = λ lengths. let both : true ≡ false = sym (c.has_both_lengths.ensures.1 lengths) ∙ c.if-has_both_lengths.false in absurd cc;
      one_kind = λ none. let both : true ≡ false = sym (c.has_no_kind.ensures.1 none) ∙ c.if-has_no_kind.false in absurd cc;
      busy = λ idle. let both : true ≡ false = sym (c.has_idle_options.ensures.1 idle) ∙ c.if-has_idle_options.false in absurd cc;
      clear = λ unclear. let both : true ≡ false = sym (c.has_unclear_part.ensures.1 unclear) ∙ c.if-has_unclear_part.false in absurd cc;
    }

pub returns-clause-asked : goal.returns-clause-asked
returns-clause-asked c =
    let is = c.in_ok-command.ensures in
    let met = (c.in-Ok.ensures.matches (ap is_simple is ∙ is_plainly_read)).1 ∙ ap (λ (a : App). subcommand_of a (map (λ s. string_bytes s) c.args.words.now)) is in
    let asks = subst (λ found. AsksFor found c.asked_by-asked.result) met c.asked_by-asked.ensures in
    asks

pub returns-clause-names : goal.returns-clause-names
returns-clause-names c =
    let is = c.in_ok-command.ensures in
    let met = (c.in-Ok.ensures.matches (ap is_simple is ∙ is_plainly_read)).1 ∙ ap (λ (a : App). subcommand_of a (map (λ s. string_bytes s) c.args.words.now)) is in
    c.in_ok-names-in-Ok.ensures ∙ ap names_asked met
