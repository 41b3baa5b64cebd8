use Rattle.std.proofs.Common.{◌≡◌, ◌==◌, sym, ap, ◌∙◌, rules}
use Rattle.std.specs.FinSet as set
use Rattle.std.specs.Int.{bit_at}
use Rattle.std.proofs.lemmas.Nat.Bits.{shr_and_one}
use Rattle.lock_word.specs.OneMask.{contains-lanes_below}
use Rattle.lock_word.proofs.wait_mask.WaitMask.has.Goals as goal

pub returns : goal.returns
returns c =
    let bit : c.from.result ≡ c.args.lane.0 = search rules in
    ap (λ n. n == 1) (shr_and_one c.self.inside.lanes c.from.result) ∙ ap (λ i. bit_at c.self.inside.lanes i == 1) bit
    ∙ sym (contains-lanes_below c.self.inside.lanes 32 c.args.lane.0 c.requires) ∙ ap (λ lanes. set.contains lanes c.args.lane.0) c.self.view_is
