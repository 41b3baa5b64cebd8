use Rattle.lock_word.proofs.MaskLaws.{lanes_of-zero}
use Rattle.lock_word.proofs.wait_mask.WaitMask.empty.Goals as goal

pub returns : goal.returns
returns c = lanes_of-zero
