use Rattle.std.proofs.Common.{rules}
use Rattle.lock_word.specs.OneMask.{mask_of-lanes_of}
use Rattle.lock_word.proofs.wait_mask.WaitMaskPartialEq.eq.Goals as goal

pub returns : goal.returns
returns c = search (rules, mask_of-lanes_of)
