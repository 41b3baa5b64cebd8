use Rattle.std.proofs.Common.{◌≡◌, sym, ap, subst, ◌∙◌}
use Rattle.std.specs.Int.{bit_at}
use Rattle.lock_word.specs.WaitMask.{mask_of, IsLaneSet}
use Rattle.lock_word.specs.OneMask.{mask_of-lanes_of}
use Rattle.lock_word.proofs.MaskLaws.{IsLaneSet-lanes_of, bit_at-mask_of}
use Rattle.lock_word.proofs.wait_mask.WaitMask.bits.Goals as goal

pub returns-clause-mask : goal.returns-clause-mask
returns-clause-mask c = c.from.ensures ∙ sym (mask_of-lanes_of c.self.inside.lanes c.self.invariant) ∙ ap mask_of c.self.view_is

pub returns-clause-bit : goal.returns-clause-bit
returns-clause-bit c = λ lane.
    let mask : c.from.result ≡ mask_of c.args.self = c.from.ensures ∙ sym (mask_of-lanes_of c.self.inside.lanes c.self.invariant) ∙ ap mask_of c.self.view_is in
    ap (λ m. bit_at m lane) mask ∙ bit_at-mask_of c.args.self (subst IsLaneSet c.self.view_is (IsLaneSet-lanes_of c.self.inside.lanes)) lane

pub returns-clause-within : goal.returns-clause-within
returns-clause-within c = subst IsLaneSet c.self.view_is (IsLaneSet-lanes_of c.self.inside.lanes)
