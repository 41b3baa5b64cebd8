use Rattle.std.proofs.Common.{◌<◌, ◌==◌, w32, sym, ap, subst, ◌∙◌, arith}
use Rattle.std.specs.Int.{trailing_zeros}
use Rattle.std.proofs.lemmas.Nat.Bits.{bit_at-trailing_zeros}
use Rattle.lock_word.specs.WaitMask.{lanes_of, IsLeast}
use Rattle.lock_word.specs.OneMask.{contains-lanes_below}
use Rattle.lock_word.proofs.MaskLaws.{lanes_of-zero}
use Rattle.lock_word.proofs.wait_mask.WaitMask.least.Goals as goal

pub returns-then-self-eq0 : goal.returns-then-self-eq0
returns-then-self-eq0 c = sym c.self.view_is ∙ ap lanes_of c.if-self-eq0.true ∙ lanes_of-zero

pub returns : goal.returns
returns c =
    let mask = c.self.inside.lanes in
    let some : 0 < mask = omega arith in
    let lowest = bit_at-trailing_zeros w32 mask some c.self.invariant in
    subst (λ lanes. IsLeast lanes (trailing_zeros w32 mask)) c.self.view_is (record {
      among = contains-lanes_below mask 32 (trailing_zeros w32 mask) lowest.0 ∙ ap (λ n. n == 1) lowest.1;
      lowest = λ lane below. let within : lane < 32 = omega arith in contains-lanes_below mask 32 lane within ∙ ap (λ n. n == 1) (lowest.2 lane below);
      small = lowest.0;
    })
