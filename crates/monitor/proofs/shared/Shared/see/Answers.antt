use Rattle.std.proofs.Common.{sym, ap, ◌∙◌, arith}
use Rattle.monitor.specs.Words.{plan_of, place, CountAt}
use Rattle.monitor.proofs.Witnesses.{see_allowed}
use Rattle.monitor.proofs.shared.Shared.see.Goals as goal

pub load-requires : goal.load-requires
load-requires c = let sized = c.self.invariant in let home = c.self.view_is in let at = c.seat.view_is in
    let seat = ap (λ s. s.table) at ∙ c.requires.seat.0 ∙ sym (ap (λ h. h.table) home) in
    let plan = ap (λ s. s.view.plan) at ∙ c.requires.seat.1 ∙ sym (ap (λ h. h.plan) home) in
    let is = c.count_place-place.ensures ∙ ap (λ h. place h.plan (CountAt)) (sym home) in
    let n_objects = sized.objects in let n_fields = sized.fields in let n_words = sized.words in let k = plan_of c.self.inside.table.shared.key in
    (seat, omega arith, see_allowed k _ _ _ _ _ c.seat.invariant.role plan (omega arith))
