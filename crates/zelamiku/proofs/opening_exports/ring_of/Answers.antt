use Rattle.std.proofs.Common.{arith, inl, inr}
use Rattle.zelamiku.proofs.opening_exports.ring_of.Goals as goal

pub returns-in-Some : goal.returns-in-Some
returns-in-Some c =
    let is = c.in-Some.ensures in
    let number = c.get.ensures.number in
    let least = c.get.ensures.within.0 in
    let most = c.get.ensures.within.1 in (
      is,
      record { least = omega (arith, is, number, least); most = omega (arith, is, number, most) },
    )

pub returns-in-None : goal.returns-in-None
returns-in-None c = λ size.
    let least = size.least in
    let most = size.most in
    elim c.in-None.ensures [ inl low ↦ omega (arith, low, least) | inr high ↦ omega (arith, high, most) ]
