use Rattle.std.proofs.Common.{rules, ◌++◌, codes, subst}
use Rattle.std.specs.Io.KnownBytes.{Appends}
use Rattle.std.proofs.KnownBytes.{Appends-trans}
use Rattle.inspect.specs.Pieces.{numbers_text}
use Rattle.inspect.proofs.PartLemmas.{part_first, part_second, always}
use Rattle.inspect.proofs.WritesLemmas.{writes_then}
use Rattle.inspect.proofs.pieces.put_list.Goals as goal

pub returns-in_err-put_numbers : goal.returns-in_err-put_numbers
returns-in_err-put_numbers g c =
    let word = c.args.word.now in
    let written : Appends (g.W.Write.contents c.args.writer.now) (g.W.Write.contents c.put.new.writer) word = subst (Appends (g.W.Write.contents c.args.writer.now) (g.W.Write.contents c.put.new.writer)) c.as_bytes.ensures.value c.in_ok-put.ensures.ok in
    let numbers = numbers_text c.args.numbers.now in
    let old = g.W.Write.contents c.args.writer.now in
    let new = g.W.Write.contents c.put_numbers.new.writer in
    record {
      ok = search rules;
      part = always c.from_residual-in_err-put_numbers.result (part_first old new (word ++ numbers) (codes "\n")
          (part_second old (g.W.Write.contents c.put.new.writer) new word numbers written c.in_err-put_numbers.ensures.part));
    }

pub returns : goal.returns
returns g c =
    let word = c.args.word.now in
    let contents = g.W.Write.contents in
    let one = c.put.new.writer in
    let two = c.put_numbers.new.writer in
    let written : Appends (contents c.args.writer.now) (contents one) word = subst (Appends (contents c.args.writer.now) (contents one)) c.as_bytes.ensures.value c.in_ok-put.ensures.ok in
    let numbers = numbers_text c.args.numbers.now in
    let both = Appends-trans (contents c.args.writer.now) (contents one) (contents two) word numbers written c.in_ok-put_numbers.ensures.ok in
    writes_then contents c.args.writer.now two c.put-2.new.writer (word ++ numbers) (codes "\n") c.put-2.result both c.put-2.ensures
