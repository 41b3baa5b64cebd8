use Rattle.std.specs.Io.KnownBytes.{Appends}
use Rattle.inspect.specs.TransientText.{marks_text}
use Rattle.inspect.proofs.transient_line.put_marks.Given as goal

abbrev pub invariant-loop-field : goal.invariant-loop-field
invariant-loop-field g l = Appends (g.W.Write.contents l.initial.writer) (g.W.Write.contents l.writer) (marks_text l.rows l.field)
