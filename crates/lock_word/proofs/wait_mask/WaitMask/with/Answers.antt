use Rattle.std.proofs.Common.{◌≡◌, ◌<◌, ap, ◌∙◌, rules, arith}
use Rattle.std.specs.FinSet as set
use Rattle.lock_word.specs.WaitMask.{lanes_of}
use Rattle.lock_word.proofs.MaskLaws.{lanes_of-or}
use Rattle.lock_word.proofs.wait_mask.WaitMask.with.Goals as goal

pub returns : goal.returns
returns c =
    let bit : c.from.result ≡ c.args.lane.0 = search rules in
    let small : c.from.result < 32 = omega arith in
    lanes_of-or c.self.inside.lanes c.from.result small ∙ ap (set.insert (lanes_of c.self.inside.lanes)) bit ∙ ap (λ lanes. set.insert lanes c.args.lane.0) c.self.view_is
