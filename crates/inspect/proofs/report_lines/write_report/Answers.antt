use Rattle.std.proofs.Common.{rules, ℕ, List, [], ◌∷◌, codes, take, subst}
use Rattle.std.specs.Fmt.{decimal}
use Rattle.std.specs.Io.KnownBytes.{Appends}
use Rattle.recover.specs.declared.report.Dropped.{Dropped}
use Rattle.inspect.specs.Written.{AppendsPart}
use Rattle.inspect.specs.Pieces.{line, list_line}
use Rattle.inspect.specs.ReportText.{dropped_lines}
use Rattle.inspect.proofs.PartLemmas.{part_here, part_later, always}
use Rattle.inspect.proofs.WritesLemmas.{writes_later, writes_last}
use Rattle.inspect.proofs.report_lines.write_report.Goals as goal

pub returns-in_err-put_list : goal.returns-in_err-put_list
returns-in_err-put_list g c =
    let kept = list_line (codes "kept") (take c.args.lanes c.args.report.now.kept.counts) in
    let dropped = dropped_lines c.args.report.now.dropped.items in
    let undone = line (codes "undone " ∷ decimal c.args.report.now.undone ∷ []) in
    let heap = list_line (codes "heap") c.args.heap.now in
    let old = g.W.Write.contents c.args.writer.now in
    let one = g.W.Write.contents c.put_list.new.writer in
    let part : AppendsPart old one kept = subst (λ (counts : List ℕ). AppendsPart old one (list_line (codes "kept") counts)) c.first_counts.ensures c.in_err-put_list.ensures.part in
    record {
      ok = search rules;
      part = always c.from_residual.result (part_here old one kept (dropped ∷ undone ∷ heap ∷ []) part);
    }

pub returns-in_err-put_dropped : goal.returns-in_err-put_dropped
returns-in_err-put_dropped g c =
    let kept = list_line (codes "kept") (take c.args.lanes c.args.report.now.kept.counts) in
    let dropped = dropped_lines c.args.report.now.dropped.items in
    let undone = line (codes "undone " ∷ decimal c.args.report.now.undone ∷ []) in
    let heap = list_line (codes "heap") c.args.heap.now in
    let old = g.W.Write.contents c.args.writer.now in
    let one = g.W.Write.contents c.put_list.new.writer in
    let two = g.W.Write.contents c.put_dropped.new.writer in
    let first : Appends old one kept = subst (λ (counts : List ℕ). Appends old one (list_line (codes "kept") counts)) c.first_counts.ensures c.in_ok-put_list.ensures.ok in
    let part : AppendsPart one two dropped = subst (λ (items : List Dropped). AppendsPart one two (dropped_lines items)) c.deref.ensures.value c.in_err-put_dropped.ensures.part in
    record {
      ok = search rules;
      part = always c.from_residual-in_err-put_dropped.result (part_later old one two kept (dropped ∷ undone ∷ heap ∷ []) first (part_here one two dropped (undone ∷ heap ∷ []) part));
    }

pub returns-in_err-put_line : goal.returns-in_err-put_line
returns-in_err-put_line g c =
    let kept = list_line (codes "kept") (take c.args.lanes c.args.report.now.kept.counts) in
    let dropped = dropped_lines c.args.report.now.dropped.items in
    let undone = line (codes "undone " ∷ decimal c.args.report.now.undone ∷ []) in
    let heap = list_line (codes "heap") c.args.heap.now in
    let old = g.W.Write.contents c.args.writer.now in
    let one = g.W.Write.contents c.put_list.new.writer in
    let two = g.W.Write.contents c.put_dropped.new.writer in
    let three = g.W.Write.contents c.put_line.new.writer in
    let first : Appends old one kept = subst (λ (counts : List ℕ). Appends old one (list_line (codes "kept") counts)) c.first_counts.ensures c.in_ok-put_list.ensures.ok in
    let second : Appends one two dropped = subst (λ (items : List Dropped). Appends one two (dropped_lines items)) c.deref.ensures.value c.in_ok-put_dropped.ensures.ok in
    let part : AppendsPart two three undone = subst (λ (n : ℕ). AppendsPart two three (line (codes "undone " ∷ decimal n ∷ []))) c.from.ensures c.in_err-put_line.ensures.part in
    record {
      ok = search rules;
      part = always c.from_residual-in_err-put_line.result (part_later old one three kept (dropped ∷ undone ∷ heap ∷ []) first (part_later one two three dropped (undone ∷ heap ∷ []) second (part_here two three undone (heap ∷ []) part)));
    }

pub returns : goal.returns
returns g c =
    let kept = list_line (codes "kept") (take c.args.lanes c.args.report.now.kept.counts) in
    let dropped = dropped_lines c.args.report.now.dropped.items in
    let undone = line (codes "undone " ∷ decimal c.args.report.now.undone ∷ []) in
    let heap = list_line (codes "heap") c.args.heap.now in
    let contents = g.W.Write.contents in
    let old = c.args.writer.now in
    let one = c.put_list.new.writer in
    let two = c.put_dropped.new.writer in
    let three = c.put_line.new.writer in
    let four = c.put_list-2.new.writer in
    let first : Appends (contents old) (contents one) kept = subst (λ (counts : List ℕ). Appends (contents old) (contents one) (list_line (codes "kept") counts)) c.first_counts.ensures c.in_ok-put_list.ensures.ok in
    let second : Appends (contents one) (contents two) dropped = subst (λ (items : List Dropped). Appends (contents one) (contents two) (dropped_lines items)) c.deref.ensures.value c.in_ok-put_dropped.ensures.ok in
    let third : Appends (contents two) (contents three) undone = subst (λ (n : ℕ). Appends (contents two) (contents three) (line (codes "undone " ∷ decimal n ∷ []))) c.from.ensures c.in_ok-put_line.ensures.ok in
    let r = c.put_list-2.result in
    writes_later contents old one four kept (dropped ∷ undone ∷ heap ∷ []) r first
    (writes_later contents one two four dropped (undone ∷ heap ∷ []) r second
    (writes_later contents two three four undone (heap ∷ []) r third (writes_last contents three four heap r c.put_list-2.ensures)))
