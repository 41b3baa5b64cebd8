use Rattle.lock_word.specs.Members.{members}
use Rattle.lock_word.proofs.Listing.{members_law}
use Rattle.thread_steps.proofs.Growing.{after_told}
use Rattle.thread_steps.proofs.notifying.notify_all.Goals as goal

pub returns-clause-told : goal.returns-clause-told
returns-clause-told c = (members c.notify_all-woken.result, after_told _ _ _ c.notify_all-woken.ensures.told, members_law c.notify_all-woken.result c.bits.ensures.within)
