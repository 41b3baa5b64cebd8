use Rattle.thread_steps.proofs.Growing.{after_trimmed, trimmed_looked}
use Rattle.thread_steps.proofs.counts.read_trimmed.Goals as goal

pub returns-clause-told : goal.returns-clause-told
returns-clause-told c = after_trimmed _ _ _ c.read_trimmed.ensures.told c.read_trimmed.ensures.least

pub returns-clause-looked : goal.returns-clause-looked
returns-clause-looked c = trimmed_looked _ _ _ c.read_trimmed.ensures.told
