use Rattle.std.proofs.Common.{rules, ◌++◌, codes, length}
use Rattle.std.proofs.KnownBytes.{Appends-trans}
use Rattle.inspect.specs.TransientText.{marks_text}
use Rattle.inspect.proofs.PartLemmas.{part_first, part_second, always}
use Rattle.inspect.proofs.WritesLemmas.{writes_then}
use Rattle.inspect.proofs.transient_line.put_transient_line.Goals as goal

pub returns-in_err-put : goal.returns-in_err-put
returns-in_err-put g c =
    let word = codes "transient" in
    let marks = marks_text c.args.rows.now (length c.args.rows.now) in
    let old = g.W.Write.contents c.args.writer.now in
    let one = g.W.Write.contents c.put.new.writer in
    record {
      ok = search rules;
      part = always c.from_residual.result (part_first old one (word ++ marks) (codes "\n") (part_first old one word marks c.in_err-put.ensures.part));
    }

pub returns-in_err-put_marks : goal.returns-in_err-put_marks
returns-in_err-put_marks g c =
    let word = codes "transient" in
    let marks = marks_text c.args.rows.now (length c.args.rows.now) in
    let old = g.W.Write.contents c.args.writer.now in
    let one = g.W.Write.contents c.put.new.writer in
    let two = g.W.Write.contents c.put_marks.new.writer in
    record {
      ok = search rules;
      part = always c.from_residual-in_err-put_marks.result (part_first old two (word ++ marks) (codes "\n")
          (part_second old one two word marks c.in_ok-put.ensures.ok c.in_err-put_marks.ensures.part));
    }

pub returns : goal.returns
returns g c =
    let word = codes "transient" in
    let marks = marks_text c.args.rows.now (length c.args.rows.now) in
    let contents = g.W.Write.contents in
    let one = c.put.new.writer in
    let two = c.put_marks.new.writer in
    let both = Appends-trans (contents c.args.writer.now) (contents one) (contents two) word marks c.in_ok-put.ensures.ok c.in_ok-put_marks.ensures.ok in
    writes_then contents c.args.writer.now two c.put-2.new.writer (word ++ marks) (codes "\n") c.put-2.result both c.put-2.ensures
