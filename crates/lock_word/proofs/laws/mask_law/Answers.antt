use Rattle.lock_word.proofs.MaskSteps as steps
use Rattle.lock_word.proofs.laws.mask_law.Goals as goal

pub returns-clause-mask : goal.returns-clause-mask
returns-clause-mask c = steps.mask_law

pub returns-clause-lanes : goal.returns-clause-lanes
returns-clause-lanes c = steps.lanes_law

pub returns-clause-set : goal.returns-clause-set
returns-clause-set c = steps.set_bit

pub returns-clause-clear : goal.returns-clause-clear
returns-clause-clear c = steps.clear_bit

pub returns-clause-empty : goal.returns-clause-empty
returns-clause-empty c = steps.empty_law
