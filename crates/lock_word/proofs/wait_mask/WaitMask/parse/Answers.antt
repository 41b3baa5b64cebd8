use Rattle.std.proofs.Common.{◌≡◌, ◌<◌, ◌^◌, Some, sym, ap, subst, ◌∙◌, rules, arith}
use Rattle.lock_word.specs.WaitMask.{lanes_of}
use Rattle.lock_word.specs.OneMask.{mask_of-lanes_of, mask_below-lt}
use Rattle.lock_word.proofs.MaskLaws.{lanes_of-mask_of}
use Rattle.lock_word.proofs.wait_mask.WaitMask.parse.Goals as goal

pub returns-in-Ok-clause-spelled : goal.returns-in-Ok-clause-spelled
returns-in-Ok-clause-spelled c =
    let is : c.in-Ok.lanes ≡ c.args.word = search rules in
    let small : c.in-Ok.lanes < 2 ^ 32 = omega arith in
    mask_of-lanes_of c.in-Ok.lanes small ∙ is

pub returns-in-Ok-clause-back : goal.returns-in-Ok-clause-back
returns-in-Ok-clause-back c = λ lanes small spelled.
    let is : c.in-Ok.lanes ≡ c.args.word = search rules in
    ap Some (ap lanes_of (is ∙ sym spelled) ∙ lanes_of-mask_of lanes small)

pub returns-in-Err-clause-back : goal.returns-in-Err-clause-back
returns-in-Err-clause-back c = λ lanes small spelled.
    let fits : c.args.word < 2 ^ 32 = subst (λ n. n < 2 ^ 32) spelled (mask_below-lt lanes 32) in
    absurd (c.in-Err.ensures fits)
