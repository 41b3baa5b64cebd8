use Rattle.store_round_making.proofs.Shown.{after, between, moment, shown_on}
use Rattle.store_round_making.proofs.showing.showing_law.Goals as goal

pub returns-clause-between : goal.returns-clause-between
returns-clause-between c = between

pub returns-clause-moment : goal.returns-clause-moment
returns-clause-moment c = moment

pub returns-clause-after : goal.returns-clause-after
returns-clause-after c = after

pub returns-clause-on : goal.returns-clause-on
returns-clause-on c = shown_on
