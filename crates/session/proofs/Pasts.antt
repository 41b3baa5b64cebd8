-- Where sections began, and their limit, as the view grows.
use Rattle.std.proofs.Common.{ℕ, ◌≡◌, ◌+◌, ◌<◌, ◌≤◌, List, [], ◌∷◌, length, map, sym, subst, arith}
use Rattle.std.proofs.lemmas.List.{length-map}
use Rattle.heap_model.specs.declared.limits.TheConstants.{SECTION_RECORDS, LAST_PLACE}
use Rattle.heap_model.specs.declared.record.Record.{Record}
use Rattle.heap_model.specs.Sections.{Action, action, holding}
use Rattle.heap_model.specs.Limits.{IsWithinLimits}
use Rattle.thread_steps.specs.Views.{View}
use Rattle.session.specs.Logs.{log_in, actions_in, held_count, section_records, place}
use Rattle.session.specs.Past.{BeganBelow}

pub limits_same : (v w : View) → log_in w ≡ log_in v → IsWithinLimits (actions_in v) → IsWithinLimits (actions_in w)
limits_same v w e past = subst (λ (log : List Record). IsWithinLimits (map action log)) (sym e) past

pub began_same : (b : ℕ) (v w : View) → log_in w ≡ log_in v → BeganBelow b (actions_in v) → BeganBelow b (actions_in w)
began_same b v w e past = subst (λ (log : List Record). BeganBelow b (map action log)) (sym e) past

-- one record more, with room for the releases that are then needed
pub limits_more : (v w : View) (x : Record) (a : Action) → log_in w ≡ x ∷ log_in v → action x ≡ a → section_records v + 1 + length (holding (a ∷ actions_in v)) ≤ SECTION_RECORDS → IsWithinLimits (actions_in v) → IsWithinLimits (actions_in w)
limits_more v w x a e is short past = subst (λ (log : List Record). IsWithinLimits (map action log)) (sym e) (subst (λ z. IsWithinLimits (z ∷ actions_in v)) (sym is) (past, short))

-- and where it begins a section, below the bound and the last place
pub began_more : (b : ℕ) (v w : View) (x : Record) → log_in w ≡ x ∷ log_in v → (held_count v ≡ 0 → (place v + SECTION_RECORDS ≤ b) × (place v < LAST_PLACE)) → BeganBelow b (actions_in v) → BeganBelow b (actions_in w)
began_more b v w x e starts past = subst (λ (log : List Record). BeganBelow b (map action log)) (sym e) (past, first)
  where
    first : held_count v ≡ 0 → (length (actions_in v) + SECTION_RECORDS ≤ b) × (length (actions_in v) < LAST_PLACE)
    first none = let n : length (actions_in v) ≡ place v = length-map (log_in v) action in let s = starts none in let low = s.0 in let high = s.1 in (omega arith, omega arith)

pub began_inside : (b : ℕ) (v w : View) (x : Record) → log_in w ≡ x ∷ log_in v → 0 < held_count v → BeganBelow b (actions_in v) → BeganBelow b (actions_in w)
began_inside b v w x e some past = began_more b v w x e (λ none. absurd (omega arith)) past

pub began_rises : (b c : ℕ) (actions : List Action) → b ≤ c → BeganBelow b actions → BeganBelow c actions
began_rises b c [] le past = past
began_rises b c (a ∷ older) le past = (began_rises b c older le past.0, λ starts. ((let room = (past.1 starts).0 in omega arith), (past.1 starts).1))
