use Rattle.std.proofs.Common.{sym, subst, arith}
use Rattle.heap_model.specs.Log.{lane}
use Rattle.law_cuts.proofs.Stores.{HasStore, has_more, has_less}
use Rattle.law_histories.proofs.Order.{kept_is_last, last_elsewhere, last_once}
use Rattle.law_cuts.proofs.Lanes.{ended_in_lane}
use Rattle.law_histories.proofs.laws.order_law.Goals as goal

pub returns : goal.returns
returns c s log longer legal legal_longer prefix cut whole f =
    last_once (s.guard f) f (λ l. lane l longer) cut (s.first f) _ _
    (last_elsewhere (s.guard f) f (λ l. lane l log) (λ l. lane l longer) cut (s.first f) _
    (λ l k h le. subst (λ x. HasStore (s.guard f) f x k) (sym (prefix l).1) (has_more (s.guard f) f (prefix l).0 (lane l log) k h))
    (λ l k h le. has_less (s.guard f) f (prefix l).0 (lane l log) k (subst (λ x. HasStore (s.guard f) f x k) (prefix l).1 h)
    (omega (arith, whole l, ended_in_lane l log)))
    (kept_is_last s log cut f legal))
    (kept_is_last s longer cut f legal_longer)
