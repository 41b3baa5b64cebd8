use Rattle.std.proofs.Common.{ℕ, ◌-◌, ◌<◌, ◌≤◌, slice_index}
use Rattle.dependence.specs.Links.{lanes_in, sections_in}
use Rattle.dependence.proofs.trimmed.has_one_past.Given as goal

-- the newest step of each lane so far is counted
abbrev pub invariant-loop-lane : goal.invariant-loop-lane
invariant-loop-lane l = (k : ℕ) → k < l.lane → 0 < slice_index l.links.newest k → slice_index (sections_in l.steps) (slice_index l.links.newest k - 1) ≤ slice_index l.base (slice_index (lanes_in l.steps) (slice_index l.links.newest k - 1))
