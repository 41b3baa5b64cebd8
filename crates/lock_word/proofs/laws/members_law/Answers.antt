use Rattle.lock_word.proofs.Listing as listing
use Rattle.lock_word.proofs.laws.members_law.Goals as goal

pub returns : goal.returns
returns c = listing.members_law
