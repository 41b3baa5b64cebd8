use Rattle.std.proofs.Common.{length, ◌-◌, ◌≤◌}
use Rattle.script_lines.proofs.LineLemmas.{GoesAt}
use Rattle.script_lines.proofs.lines.cut_at_end.Given as goal

abbrev pub invariant-loop-at : goal.invariant-loop-at
invariant-loop-at l = (l.at ≤ length l.text) × GoesAt l.text l.at

abbrev pub decreases-loop-at : goal.decreases-loop-at
decreases-loop-at l = length l.text - l.at
