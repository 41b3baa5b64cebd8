use Rattle.std.proofs.Common.{◌≡◌, ◌∙◌, true, rules, ap}
use Rattle.std.specs.Char.{is_ascii_digit}
use Rattle.std.specs.List.{list_all}
use Rattle.script_lines.proofs.TermLemmas.{number-parsed}
use Rattle.script_lines.specs.Reading.{number_in}
use Rattle.script_lines.proofs.terms.number.Goals as goal

pub returns : goal.returns
returns c =
    let digits : list_all is_ascii_digit c.ascii.result.now ≡ true = search rules in
    c.ok.ensures.value ∙ number-parsed c.ascii.result.now _ c.parse.ensures.value.0 digits ∙ ap number_in c.ascii.ensures
