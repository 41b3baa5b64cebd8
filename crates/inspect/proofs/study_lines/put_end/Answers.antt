use Rattle.std.proofs.Common.{rules, ℕ, List, [], ◌∷◌, codes, take, subst}
use Rattle.std.specs.Io.KnownBytes.{Appends}
use Rattle.inspect.specs.Written.{AppendsPart, Writes}
use Rattle.inspect.specs.Pieces.{list_line}
use Rattle.inspect.proofs.PartLemmas.{always, part_here}
use Rattle.inspect.proofs.WritesLemmas.{writes_later, writes_last}
use Rattle.inspect.proofs.study_lines.put_end.Goals as goal

pub returns-in_err-put_list : goal.returns-in_err-put_list
returns-in_err-put_list g c =
    let s = c.args.study.now in
    let cut = list_line (codes "cut") (take s.layout.lanes s.report.kept.counts) in
    let heap = list_line (codes "heap") s.heap.items in
    let old = g.W.Write.contents c.args.writer.now in
    let new = g.W.Write.contents c.put_list.new.writer in
    let part : AppendsPart old new cut = subst (λ (counts : List ℕ). AppendsPart old new (list_line (codes "cut") counts)) c.first_counts.ensures c.in_err-put_list.ensures.part in
    record {
      ok = search rules;
      part = always c.from_residual.result (part_here old new cut (heap ∷ []) part);
    }

pub returns : goal.returns
returns g c =
    let s = c.args.study.now in
    let cut = list_line (codes "cut") (take s.layout.lanes s.report.kept.counts) in
    let heap = list_line (codes "heap") s.heap.items in
    let contents = g.W.Write.contents in
    let old = c.args.writer.now in
    let mid = c.put_list.new.writer in
    let new = c.put_list-2.new.writer in
    let r = c.put_list-2.result in
    let first : Appends (contents old) (contents mid) cut = subst (λ (counts : List ℕ). Appends (contents old) (contents mid) (list_line (codes "cut") counts)) c.first_counts.ensures c.in_ok-put_list.ensures.ok in
    writes_later contents old mid new cut (heap ∷ []) r first
    (writes_last contents mid new heap r (subst (λ (values : List ℕ). Writes contents mid new (list_line (codes "heap") values) r) c.deref.ensures.value c.put_list-2.ensures))
