use Rattle.std.proofs.Common.{ℕ, ◌≡◌, [], ◌∷◌, length, take}
use Rattle.inspect.specs.Drawn.{drawn_from}
use Rattle.inspect.specs.Sections.{by_lane}
use Rattle.inspect.proofs.picture.bounds.Given as goal

abbrev pub invariant-loop-lane : goal.invariant-loop-lane
invariant-loop-lane l = record {
  all : length l.firsts ≡ 32;
  so_far : take l.lane l.firsts ≡ by_lane (λ (m : ℕ). drawn_from l.last l.study m ∷ []) l.lane;
}
