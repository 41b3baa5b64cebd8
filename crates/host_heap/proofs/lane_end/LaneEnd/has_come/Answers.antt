use Rattle.std.proofs.Common.{ℕ, IfSome, sym, subst}
use Rattle.host_heap.specs.Lanes.{IsBack}
use Rattle.host_heap.proofs.lane_end.LaneEnd.has_come.Goals as goal

pub returns-clause-kept : goal.returns-clause-kept
returns-clause-kept c = λ h k rings was.
    let first = c.take_one.ensures.first h k rings was.first in (
      record { first = first.0; came = subst (λ (n : ℕ). IfSome c.take_one.result (IsBack h k rings n)) (sym first.1) (c.take_one.ensures.back h k rings was.first) },
      first.1,
    )
