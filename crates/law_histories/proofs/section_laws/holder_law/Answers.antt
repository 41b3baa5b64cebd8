use Rattle.law_histories.proofs.Holders.{holder_contains, freed_less, freed_ends}
use Rattle.law_histories.proofs.section_laws.holder_law.Goals as goal

pub returns-clause-holder : goal.returns-clause-holder
returns-clause-holder c log l o holds = holder_contains log l o holds

pub returns-clause-freed : goal.returns-clause-freed
returns-clause-freed c older o n here = freed_less older o n here

pub returns-clause-ended : goal.returns-clause-ended
returns-clause-ended c older o n here = freed_ends older o n here
