use Rattle.std.proofs.Common.{ℕ, List, subst}
use Rattle.script_lines.specs.Lines.{lines_of}
use Rattle.script_play.specs.Runs.{EndsOn}
use Rattle.script_play.proofs.PlayLemmas.{ends_from_start}
use Rattle.script_play.proofs.play.run_script.Goals as goal

pub returns : goal.returns
returns g c =
    let lines = c.read_lines-lines.result.0.items in
    let ending = c.read_lines-lines.result.1 in
    let old = g.W.Write.contents c.args.writer.now in
    let new = g.W.Write.contents c.run_on-ended.new.writer in
    let start = c.new-machine.result in
    let ends = subst (λ (l : List ℕ). EndsOn start (lines_of l) ending c.run_on-ended.result c.run_on-ended.new.machine old new) c.deref.ensures.value c.run_on-ended.ensures in
    (lines, ending, c.read_lines-lines.ensures, ends_from_start start (lines_of lines) ending c.run_on-ended.result c.run_on-ended.new.machine old new c.new-machine.ensures ends)
