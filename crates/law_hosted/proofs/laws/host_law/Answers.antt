use Rattle.law_hosted.proofs.Copies.{closed_copy, copy_safe}
use Rattle.law_hosted.proofs.Safe.{by_host, by_host_acknowledged, by_host_begun, by_host_now, closed_on, ends_on, lives_on, opens_on}
use Rattle.law_hosted.proofs.laws.host_law.Goals as goal

pub returns-clause-any_moment : goal.returns-clause-any_moment
returns-clause-any_moment c = by_host c.kept_law.ensures

pub returns-clause-begun : goal.returns-clause-begun
returns-clause-begun c = by_host_begun c.kept_law.ensures

pub returns-clause-acknowledged : goal.returns-clause-acknowledged
returns-clause-acknowledged c = by_host_acknowledged c.kept_law.ensures

pub returns-clause-now : goal.returns-clause-now
returns-clause-now c = by_host_now c.kept_law.ensures

pub returns-clause-lives : goal.returns-clause-lives
returns-clause-lives c = lives_on

pub returns-clause-ends : goal.returns-clause-ends
returns-clause-ends c = ends_on

pub returns-clause-closed : goal.returns-clause-closed
returns-clause-closed c = closed_on

pub returns-clause-opening : goal.returns-clause-opening
returns-clause-opening c = opens_on

pub returns-clause-copy : goal.returns-clause-copy
returns-clause-copy c = copy_safe c.kept_law.ensures

pub returns-clause-closed_copy : goal.returns-clause-closed_copy
returns-clause-closed_copy c = closed_copy
