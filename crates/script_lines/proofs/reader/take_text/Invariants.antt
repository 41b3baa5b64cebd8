use Rattle.std.proofs.Common.{length, ◌-◌}
use Rattle.std.specs.Io.KnownBytes.{Consumes}
use Rattle.script_lines.proofs.reader.take_text.Given as goal

abbrev pub invariant-loop-block : goal.invariant-loop-block
invariant-loop-block g l = Consumes (g.R.Read.remaining l.initial.reader) (g.R.Read.remaining l.reader) l.text.items

abbrev pub decreases-loop-block : goal.decreases-loop-block
decreases-loop-block g l = 1048577 - length l.text.items
