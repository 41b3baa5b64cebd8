use Rattle.std.proofs.Common.{◌≡◌, ◌<◌, ap, ◌∙◌, rules, arith}
use Rattle.std.specs.FinSet as set
use Rattle.lock_word.specs.WaitMask.{lanes_of}
use Rattle.lock_word.proofs.MaskLaws.{lanes_of-and}
use Rattle.lock_word.proofs.wait_mask.WaitMask.without.Goals as goal

pub returns : goal.returns
returns c =
    let bit : c.from.result ≡ c.args.lane.0 = search rules in
    let small : c.from.result < 32 = omega arith in
    lanes_of-and c.self.inside.lanes c.from.result small ∙ ap (set.remove (lanes_of c.self.inside.lanes)) bit ∙ ap (λ lanes. set.remove lanes c.args.lane.0) c.self.view_is
