use Rattle.thread_steps.proofs.Growing.{after_inflated}
use Rattle.thread_steps.proofs.locking.inflate.Goals as goal

pub returns-in-Some-clause-told : goal.returns-in-Some-clause-told
returns-in-Some-clause-told c = after_inflated c.args.seat.now.view c.inflate.new.seat.view c.args.grip.object _ _ _ c.in-Some.ensures.told.0 c.thin_word-word.ensures.holds.4 c.in-Some.ensures.told.1
