use Rattle.std.proofs.Common.{◌≡◌, Some, None, rules, sym, ap, ◌∙◌}
use Rattle.std.specs.Option.{option_map}
use Rattle.script_lines.proofs.AskLemmas.{says_iff, says_none}
use Rattle.script_lines.specs.Cutting.{words_in, list_of}
use Rattle.script_lines.specs.Orders.{order_of}
use Rattle.script_lines.proofs.grammar.parse.Goals as goal

pub returns : goal.returns
returns c =
    let found : words_in 5 c.args.line.now ≡ Some (list_of c.in_ok-split_words.field-0) = sym c.split_words.ensures ∙ ap (option_map list_of) c.in_ok-split_words.was in
    says_iff c.args.line.now _ _ found c.command.ensures

pub returns-in_err-split_words : goal.returns-in_err-split_words
returns-in_err-split_words c =
    let none : words_in 5 c.args.line.now ≡ None = search rules in
    let refused : option_map order_of c.from_residual.result ≡ None = search rules in
    says_none c.args.line.now _ none refused
