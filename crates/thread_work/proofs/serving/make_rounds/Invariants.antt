use Rattle.std.proofs.Common.{◌≡◌, false}
use Rattle.thread_heap.specs.Joined.{IsHelping}
use Rattle.thread_work.specs.Serving.{HasStayed, LivesOn}
use Rattle.thread_work.proofs.serving.make_rounds.Given as goal

-- Each round so far was answered; the store calls of all of them, behind those since the opening, have made what the helper serves, and what it has seen of the
-- history goes on from round to round.
abbrev pub invariant-loop : goal.invariant-loop
invariant-loop g l =
    (goal.iterator-loop g).can_next l.iterator' × (goal.iterator-loop g).is_finite l.iterator' × IsHelping g.D.Disk.device l.shared l.helper × HasStayed g.D.Disk.device l.initial.helper l.helper
    × (l.helper.store.known.has_failed ≡ false) × LivesOn g.D.Disk.device l.shared l.initial.helper l.helper
