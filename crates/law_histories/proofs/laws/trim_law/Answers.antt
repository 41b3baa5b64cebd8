use Rattle.law_cuts.proofs.Trimmed.{trim_stable}
use Rattle.law_histories.proofs.Rebase.{kept_since}
use Rattle.law_histories.proofs.Reorder.{rest_after_until}
use Rattle.law_histories.proofs.laws.trim_law.Goals as goal

pub returns-clause-cut : goal.returns-clause-cut
returns-clause-cut c log base cut whole closed stable = trim_stable log base cut whole closed stable

pub returns-clause-heap : goal.returns-clause-heap
returns-clause-heap c s log base cut legal whole closed more f = kept_since s base cut log legal whole closed more f

pub returns-clause-split : goal.returns-clause-split
returns-clause-split c s log base legal closed = rest_after_until s base log legal closed
