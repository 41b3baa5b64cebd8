use Rattle.std.proofs.Common.{sym, ap, ◌∙◌, arith}
use Rattle.monitor.proofs.Witnesses.{attests}
use Rattle.monitor.proofs.shared.Shared.witness.Goals as goal

pub split_seat-witness-requires : goal.split_seat-witness-requires
split_seat-witness-requires c = let sized = c.self.invariant in let home = c.self.view_is in let at = c.seat.view_is in let words = sized.words in
    (ap (λ s. s.table) at ∙ c.requires.seat.0 ∙ sym (ap (λ h. h.table) home), omega arith, attests _ _ _ _ c.seat.invariant.role)
