use Rattle.std.proofs.Common.{◌∷◌, sym, ap, ◌∙◌}
use Rattle.script_lines.specs.Cutting.{other_lines}
use Rattle.script_lines.specs.Lines.{lines_of}
use Rattle.script_lines.proofs.CutLemmas.{lines_of-first}
use Rattle.script_lines.proofs.lines.cut_line.Goals as goal

pub returns-clause-lines : goal.returns-clause-lines
returns-clause-lines c = λ some.
    lines_of-first c.args.text.now some ∙ ap (λ l. l ∷ lines_of (other_lines c.args.text.now)) (sym c.cut_at_end.ensures.first)
    ∙ ap (λ o. c.cut_at_end.result.0.now ∷ lines_of o) (sym c.cut_at_end.ensures.others)
