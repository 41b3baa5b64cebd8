use Rattle.std.proofs.Common.{sym, ap, ◌∙◌, arith}
use Rattle.monitor.proofs.Witnesses.{hears}
use Rattle.monitor.proofs.shared.Shared.hear.Goals as goal

pub join_seat-requires : goal.join_seat-requires
join_seat-requires c = let sized = c.self.invariant in let home = c.self.view_is in let at = c.helper.view_is in let st = c.witness.view_is in let words = sized.words in
    (ap (λ s. s.table) at ∙ c.requires.helper.0 ∙ sym (ap (λ h. h.table) home), ap (λ s. s.table) st ∙ c.requires.witness.0 ∙ sym (ap (λ h. h.table) home), c.witness.invariant.empty, omega arith, hears _ _ _ _ _ _ _ c.helper.invariant.role c.witness.invariant.role)
