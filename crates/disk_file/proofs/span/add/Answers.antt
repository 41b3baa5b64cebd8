use Rattle.std.proofs.Common.{◌≡◌, true, false, List, ◌∷◌, ◌++◌, [], subst, sym, arith, rules}
use Rattle.block_disk.specs.Device.{Range, IsClear}
use Rattle.disk_file.specs.Buffered.{LastCovers}
use Rattle.disk_file.proofs.Spans.{clear_pushed, clear_push, last_push}
use Rattle.disk_file.proofs.span.add.Goals as goal

pub returns-clause-covered : goal.returns-clause-covered
returns-clause-covered c = λ done i clear.
    let r : Range = record { start = c.args.start; len = c.args.len } in
    let is : c.push.new.spans.items ≡ c.args.spans.now.items ++ r ∷ [] = search rules in
    clear_pushed i c.args.spans.now.items r (subst (λ (rs : List Range). IsClear i rs) is clear)

pub returns-clause-exact : goal.returns-clause-exact
returns-clause-exact c = λ done i clear.
    let r : Range = record { start = c.args.start; len = c.args.len } in
    let is : c.push.new.spans.items ≡ c.args.spans.now.items ++ r ∷ [] = search rules in
    subst (λ (rs : List Range). IsClear i rs) (sym is) (clear_push i c.args.spans.now.items r clear.0 clear.1)

pub returns-clause-newest : goal.returns-clause-newest
returns-clause-newest c = λ done.
    let r : Range = record { start = c.args.start; len = c.args.len } in
    let is : c.push.new.spans.items ≡ c.args.spans.now.items ++ r ∷ [] = search rules in
    subst (λ (rs : List Range). LastCovers r rs) (sym is) (last_push c.args.spans.now.items r r (omega arith) (omega arith))

pub returns-clause-goes_on : goal.returns-clause-goes_on
returns-clause-goes_on c = λ r covers low high.
    let clash : false ≡ true = c.if-join.ensures.goes_on r covers low high in
    absurd cc
