use Rattle.thread_steps.proofs.Growing.{after_stable, stable_looked}
use Rattle.thread_steps.proofs.counts.read_stable.Goals as goal

pub returns-clause-told : goal.returns-clause-told
returns-clause-told c = after_stable _ _ _ c.read_stable.ensures.told c.read_stable.ensures.least

pub returns-clause-looked : goal.returns-clause-looked
returns-clause-looked c = stable_looked _ _ _ c.read_stable.ensures.told
