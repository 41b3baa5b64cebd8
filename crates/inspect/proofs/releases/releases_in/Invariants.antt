use Rattle.std.proofs.Common.{ℕ, reverse}
use Rattle.recover_heap.specs.Logs.{records_of}
use Rattle.inspect.specs.Sections.{by_lane, told, numbering_of}
use Rattle.inspect.specs.Links.{Tells, released_by}
use Rattle.inspect.proofs.releases.releases_in.Given as goal

abbrev pub invariant-loop-lane : goal.invariant-loop-lane
invariant-loop-lane l = Tells l.releases (by_lane (λ (lane : ℕ). told (released_by (numbering_of l.study lane)) (reverse (records_of l.study.records.items lane))) l.lane)
