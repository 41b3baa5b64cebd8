use Rattle.std.proofs.Common.{◌≡◌, ◌∙◌, sym, arith, length, ◌+◌, ◌-◌}
use Rattle.disk_deferred.proofs.Joins.{taken}
use Rattle.disk_deferred.proofs.disk.keep_write.Goals as goal

pub returns-then-takes : goal.returns-then-takes
returns-then-takes c = λ before sync.
    let cs = c.args.calls.now.items in
    let k = c.len-count.result - 1 in
    let some = c.if-count-gt0.true in
    let count = c.len-count.ensures in
    let last : k + 1 ≡ length cs = omega (arith, some, count, c.args.calls.now.ok) in
    taken before cs k c.index.result.now c.index_mut.result.now c.lengthen.new.self c.lengthen.result c.args.at c.args.bytes.now last c.index.ensures c.index_mut.ensures.value
    (sym c.takes.ensures ∙ c.if-takes.true) c.lengthen.ensures
