use Rattle.std.proofs.Common.{◌≡◌, take, vec_capacity}
use Rattle.dependence.specs.Kept.{IsLinked}
use Rattle.dependence.proofs.links.Links.again.Given as goal

abbrev pub invariant-loop-place : goal.invariant-loop-place
invariant-loop-place l = record {
  linked : IsLinked (take l.place l.steps) l.self;
  capacity : vec_capacity l.self.beside ≡ vec_capacity l.fn.self.beside;
}
