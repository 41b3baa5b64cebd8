-- A lane of a history's records is the log of that thread's own events.
use Rattle.std.proofs.Common.{ℕ, ◌≡◌, ◌==◌, if◌then◌else◌, true, false, List, [], ◌∷◌, Option, Some, None, refl, ap, ◌∙◌}
use Rattle.heap_model.specs.declared.record.Record.{Record}
use Rattle.heap_model.specs.Setting.{Setting}
use Rattle.heap_model.specs.History.{logged, with_record, log_of}
use Rattle.heap_model.specs.Own.{with_own, own_log}
use Rattle.heap_model.specs.Log.{lane}
use Rattle.heap_model.specs.declared.event.Event.{Event}

lane_with : (t u : ℕ) (r : Option Record) (log : List (ℕ × Record)) → lane t (with_record u r log) ≡ (if u == t then with_own r (lane t log) else lane t log)
lane_with t u None log = elim (u == t) as (λ b. lane t log ≡ (if b then lane t log else lane t log)) [ true ↦ refl | false ↦ refl ]
lane_with t u (Some r) log = refl

pub own_log_is : (g : Setting) (h : List (ℕ × Event)) (t : ℕ) → lane t (log_of g h) ≡ own_log g (lane t h)
own_log_is g [] t = refl
own_log_is g ((u, e) ∷ h) t = lane_with t u (logged g e) (log_of g h) ∙
    elim (u == t) as (λ b. (if b then with_own (logged g e) (lane t (log_of g h)) else lane t (log_of g h)) ≡ own_log g (if b then e ∷ lane t h else lane t h)) [
      | true ↦ ap (with_own (logged g e)) (own_log_is g h t)
      | false ↦ own_log_is g h t
    ]
