use Rattle.std.proofs.Common.{ℕ, List, codes, subst}
use Rattle.std.specs.Io.KnownBytes.{Appends}
use Rattle.std.proofs.KnownBytes.{Appends-trans}
use Rattle.std.proofs.lemmas.Result.{on_err_weaker, on_ok_weaker}
use Rattle.inspect.specs.Pieces.{list_line}
use Rattle.inspect.specs.Written.{AppendsPart}
use Rattle.inspect.proofs.PartLemmas.{always, part_first, part_second}
use Rattle.heapctl_commands.proofs.telling.write_driven.Goals as goal

pub returns-in_err-put_list-clause-part : goal.returns-in_err-put_list-clause-part
returns-in_err-put_list-clause-part g c =
    let old = g.W.Write.contents c.args.writer.now in
    let one = g.W.Write.contents c.put_list.new.writer in
    let counts = list_line (codes "acknowledged") c.args.driven.now.acknowledged.items in
    let heap = list_line (codes "heap") c.args.driven.now.heap.items in
    let part : AppendsPart old one counts = subst (λ (items : List ℕ). AppendsPart old one (list_line (codes "acknowledged") items)) c.deref.ensures.value c.in_err-put_list.ensures.part in
    always c.from_residual.result (part_first old one counts heap part)

pub returns-clause-ok : goal.returns-clause-ok
returns-clause-ok g c =
    let old = g.W.Write.contents c.args.writer.now in
    let one = g.W.Write.contents c.put_list.new.writer in
    let two = g.W.Write.contents c.put_list-2.new.writer in
    let counts = list_line (codes "acknowledged") c.args.driven.now.acknowledged.items in
    let heap = list_line (codes "heap") c.args.driven.now.heap.items in
    let first : Appends old one counts = subst (λ (items : List ℕ). Appends old one (list_line (codes "acknowledged") items)) c.deref.ensures.value c.in_ok-put_list.ensures.ok in
    on_ok_weaker c.put_list-2.result
    (λ second. Appends-trans old one two counts heap first (subst (λ (items : List ℕ). Appends one two (list_line (codes "heap") items)) c.deref-2.ensures.value second))
    c.put_list-2.ensures.ok

pub returns-clause-part : goal.returns-clause-part
returns-clause-part g c =
    let old = g.W.Write.contents c.args.writer.now in
    let one = g.W.Write.contents c.put_list.new.writer in
    let two = g.W.Write.contents c.put_list-2.new.writer in
    let counts = list_line (codes "acknowledged") c.args.driven.now.acknowledged.items in
    let heap = list_line (codes "heap") c.args.driven.now.heap.items in
    let first : Appends old one counts = subst (λ (items : List ℕ). Appends old one (list_line (codes "acknowledged") items)) c.deref.ensures.value c.in_ok-put_list.ensures.ok in
    on_err_weaker c.put_list-2.result
    (λ second. part_second old one two counts heap first (subst (λ (items : List ℕ). AppendsPart one two (list_line (codes "heap") items)) c.deref-2.ensures.value second))
    c.put_list-2.ensures.part
