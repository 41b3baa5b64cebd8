use Rattle.std.proofs.Common.{◌≡◌, ◌+◌, ◌-◌, ◌<◌, ◌≤◌, length, get_or, subst, sym, arith, rules}
use Rattle.block_disk.specs.Device.{Range, IsOutside}
use Rattle.disk_file.proofs.Spans.{clear_at, clear_put, clear_was, clear_set, last_at, last_set}
use Rattle.disk_file.proofs.span.join.Goals as goal

pub returns-clause-covered : goal.returns-clause-covered
returns-clause-covered c = λ done i clear.
    let rs = c.args.spans.now.items in
    let k = c.len-count.result - 1 in
    let last = c.index-last.result.now in
    let is : last ≡ get_or rs k last = search rules in
    let within : k < length rs = search rules in
    let out = c.joined.ensures.both i (clear_put i k rs c.joined.result within clear) in
    (out.1, clear_was i k rs c.joined.result last within (subst (λ (r : Range). IsOutside i r) is out.0) clear)

pub returns-clause-exact : goal.returns-clause-exact
returns-clause-exact c = λ done i clear.
    let rs = c.args.spans.now.items in
    let k = c.len-count.result - 1 in
    let last = c.index-last.result.now in
    let is : last ≡ get_or rs k last = search rules in
    let within : k < length rs = search rules in
    let out = subst (λ (r : Range). IsOutside i r) (sym is) (clear_at i k rs last within clear.1) in
    clear_set i k rs c.joined.result (c.joined.ensures.exact i out clear.0) clear.1

pub returns-then-not-follows-clause-goes_on : goal.returns-then-not-follows-clause-goes_on
returns-then-not-follows-clause-goes_on c = λ r covers low high.
    let rs = c.args.spans.now.items in
    let k = c.len-count.result - 1 in
    let last = c.index-last.result.now in
    let is : last ≡ get_or rs k last = search rules in
    let within : k < length rs = search rules in
    let count : c.len-count.result ≡ length rs = search rules in
    let at = last_at rs k r last (omega (arith, count, within)) covers in
    let was = subst (λ (s : Range). (s.start ≤ r.start) × (r.start + r.len ≤ s.start + s.len)) (sym is) at in
    c.if-not-follows.ensures.1 (omega (arith, was.0, low), omega (arith, was.1, high))

pub returns-clause-newest : goal.returns-clause-newest
returns-clause-newest c = λ done.
    let rs = c.args.spans.now.items in
    let k = c.len-count.result - 1 in
    let within : k < length rs = search rules in
    let count : c.len-count.result ≡ length rs = search rules in
    let r : Range = record { start = c.args.start; len = c.args.len } in
    last_set rs k r c.joined.result (omega (arith, count, within)) c.joined.ensures.covers.0 c.joined.ensures.covers.1
