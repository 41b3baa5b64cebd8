use Rattle.law_journaled.proofs.Opened.{opened_on}
use Rattle.law_journaled.proofs.Steps.{failed_on, first_on, ordered_on, synced_on, wrote_on}
use Rattle.law_journaled.proofs.laws.given_law.Goals as goal

pub returns-clause-first : goal.returns-clause-first
returns-clause-first c = first_on

pub returns-clause-opened : goal.returns-clause-opened
returns-clause-opened c = opened_on

pub returns-clause-write : goal.returns-clause-write
returns-clause-write c = wrote_on

pub returns-clause-order : goal.returns-clause-order
returns-clause-order c = ordered_on

pub returns-clause-sync : goal.returns-clause-sync
returns-clause-sync c = synced_on

pub returns-clause-fault : goal.returns-clause-fault
returns-clause-fault c = failed_on
