-- Histories of so many lanes, and their logs.
use Rattle.std.proofs.Common.{ℕ, ◌≡◌, ◌≢◌, ◌<◌, ◌≤◌, if◌then◌else◌, Bool, List, [], ◌∷◌, Option, Some, None, refl, ap, ◌∙◌, subst, arith}
use Rattle.std.proofs.lemmas.Bool.{ne_eqb}
use Rattle.heap_model.specs.declared.record.Record.{Record}
use Rattle.heap_model.specs.declared.event.Event.{Event}
use Rattle.heap_model.specs.Setting.{Setting}
use Rattle.heap_model.specs.State.{State, Awake}
use Rattle.heap_model.specs.History.{state_after, IsLegalHistory, logged, with_record, log_of}
use Rattle.heap_model.specs.Log.{lane, IsOfLanes}
use Rattle.heap_model.specs.Own.{Hold, Agrees, own, hold_in}
use Rattle.law_histories.proofs.Own.{own_agrees, awake_by_view, hold_mine}

-- a lane past them is empty
pub none_past : {A : Type 0} → (lanes t : ℕ) (xs : List (ℕ × A)) → IsOfLanes lanes xs → lanes ≤ t → lane t xs ≡ []
none_past lanes t [] few le = refl
none_past {A} lanes t (x ∷ xs) few le = ap (λ (b : Bool). if b then x.1 ∷ lane t xs else lane t xs) (ne_eqb x.0 t (λ e. omega (arith, few.0))) ∙ none_past lanes t xs few.1 le

with_one : (lanes t : ℕ) (r : Option Record) (log : List (ℕ × Record)) → t < lanes → IsOfLanes lanes log → IsOfLanes lanes (with_record t r log)
with_one lanes t None log low few = few
with_one lanes t (Some r) log low few = (low, few)

pub log_of_lanes : (g : Setting) (lanes : ℕ) (h : List (ℕ × Event)) → IsOfLanes lanes h → IsOfLanes lanes (log_of g h)
log_of_lanes g lanes [] few = tt
log_of_lanes g lanes ((t, e) ∷ h) few = with_one lanes t (logged g e) (log_of g h) few.0 (log_of_lanes g lanes h few.1)

pub idle : (g : Setting) (lanes : ℕ) (h : List (ℕ × Event)) → IsLegalHistory g h → IsOfLanes lanes h → (t : ℕ) → lanes ≤ t →
    ((state_after g h).waiting t ≡ Awake) × ((o : ℕ) → (state_after g h).owner o ≢ Some t)
idle g lanes h legal few t le =
    let none : lane t h ≡ [] = none_past lanes t h few le in
    let s : State = state_after g h in
    let a : Agrees t (own []) s = subst (λ (es : List Event). Agrees t (own es) s) none (own_agrees g h t legal) in (
      awake_by_view g h t [] legal none refl,
      λ o mine. absurd (let never : ◌≡◌ {A = Option Hold} None (Some (record { count = s.count o; number = s.number o })) =
          a.hold o ∙ ap (λ x. hold_in x (s.count o) (s.number o) t) mine ∙ hold_mine t (s.count o) (s.number o) in cc),
    )
