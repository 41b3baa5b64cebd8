use Rattle.std.proofs.Common.{length}
use Rattle.script_images.proofs.StrictLemmas.{IsTaken}
use Rattle.script_images.proofs.strict.take_lines.Given as goal

abbrev pub invariant-loop-rest : goal.invariant-loop-rest
invariant-loop-rest g l =
    IsTaken l.initial.machine l.lines l.machine l.rest l.played (g.W.Write.contents l.initial.writer) (g.W.Write.contents l.writer)

abbrev pub decreases-loop-rest : goal.decreases-loop-rest
decreases-loop-rest g l = length l.rest
