-- The lanes of a list.
use Rattle.std.proofs.Common.{ℕ, ◌≡◌, ◌≤◌, ◌==◌, if◌then◌else◌, true, false, List, [], ◌∷◌, ◌++◌, map, refl, sym, ap, subst}
use Rattle.heap_model.specs.declared.record.Record.{Record}
use Rattle.heap_model.specs.Log.{lane}
use Rattle.heap_model.specs.Sections.{action, actions, ended}
use Rattle.law_cuts.proofs.Stores.{ended_more}

pub lane_actions : (l : ℕ) (log : List (ℕ × Record)) → lane l (actions log) ≡ map action (lane l log)
lane_actions l [] = refl
lane_actions l ((m, r) ∷ older) = elim (m == l) as (λ b. (if b then action r ∷ lane l (actions older) else lane l (actions older)) ≡ map action (if b then r ∷ lane l older else lane l older))
    [ true ↦ ap (λ x. action r ∷ x) (lane_actions l older) | false ↦ lane_actions l older ]

pub ended_in_lane : (l : ℕ) (log : List (ℕ × Record)) → ended (lane l (actions log)) ≡ ended (map action (lane l log))
ended_in_lane l log = ap ended (lane_actions l log)

pub lane_append : {A : Type 0} → (l : ℕ) (newer log : List (ℕ × A)) → lane l (newer ++ log) ≡ lane l newer ++ lane l log
lane_append l [] log = refl
lane_append {A} l (x ∷ newer) log = elim (x.0 == l) as (λ b. (if b then x.1 ∷ lane l (newer ++ log) else lane l (newer ++ log)) ≡ (if b then x.1 ∷ lane l newer else lane l newer) ++ lane l log)
    [ true ↦ ap (λ (xs : List A). x.1 ∷ xs) (lane_append l newer log) | false ↦ lane_append l newer log ]

pub ended_grown : (newer log : List (ℕ × Record)) (l : ℕ) → ended (map action (lane l log)) ≤ ended (map action (lane l (newer ++ log)))
ended_grown newer log l = subst (λ xs. ended (map action (lane l log)) ≤ ended (map action xs)) (sym (lane_append l newer log)) (ended_more (lane l newer) (lane l log))
