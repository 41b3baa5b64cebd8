use Rattle.std.proofs.Common.{ℕ, refl, subst, arith}
use Rattle.dependence.specs.Kept.{HasRoom}
use Rattle.dependence.proofs.Keeping.{zeros, kept_none}
use Rattle.dependence.proofs.graph.Graph.with_capacity.Goals as goal

pub invariant_of-result : goal.invariant_of-result
invariant_of-result c = kept_none _ c.requires refl refl refl c.in_ok-with_capacity.ensures.items c.in_ok-with_capacity-2.ensures.linked
    (subst (λ (n : ℕ). HasRoom c.in_ok-with_capacity-2.field-0 n) (omega (arith, c.in_ok-with_capacity.ensures.len, c.in_ok-with_capacity.ensures.exact)) c.in_ok-with_capacity-2.ensures.room) refl refl refl refl

pub returns-clause-base : goal.returns-clause-base
returns-clause-base c = zeros

pub returns-clause-answered : goal.returns-clause-answered
returns-clause-answered c = zeros
