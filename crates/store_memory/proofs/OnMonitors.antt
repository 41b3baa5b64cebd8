-- No section depends on a store: without the stores a log has the same sections and the same stable cut.
use Rattle.std.proofs.Common.{ℕ, ◌≡◌, ◌+◌, ◌≤◌, ◌==◌, if◌then◌else◌, true, false, List, [], ◌∷◌, length, Contains, refl, sym, ap, ◌∙◌, subst, inl, inr, arith, nat_lt}
use Rattle.heap_model.specs.Log.{lane}
use Rattle.heap_model.specs.Sections.{Action, Takes, Frees, Stores, without, holding, ended, Section, Did, DependsOn, Earlier, Took}
use Rattle.heap_model.specs.Cuts.{IsStable}
use Rattle.heap_model.specs.Base.{since}
use Rattle.dependence.specs.Next.{IsBelow, IsNext}
use Rattle.store_memory.specs.Sections.{with_action, on_monitors}

-- a lane's actions without its stores
abbrev no_stores : List Action → List Action
no_stores [] = []
no_stores (Takes o n ∷ older) = Takes o n ∷ no_stores older
no_stores (Frees o n ∷ older) = Frees o n ∷ no_stores older
no_stores (Stores ∷ older) = no_stores older

lane_of : (l : ℕ) (log : List (ℕ × Action)) → lane l (on_monitors log) ≡ no_stores (lane l log)
lane_of l [] = refl
lane_of l ((m, Takes o n) ∷ older) = elim (m == l) as (λ b. (if b then Takes o n ∷ lane l (on_monitors older) else lane l (on_monitors older)) ≡ no_stores (if b then Takes o n ∷ lane l older else lane l older)) [
  | true ↦ ap (λ (xs : List Action). Takes o n ∷ xs) (lane_of l older)
  | false ↦ lane_of l older
]
lane_of l ((m, Frees o n) ∷ older) = elim (m == l) as (λ b. (if b then Frees o n ∷ lane l (on_monitors older) else lane l (on_monitors older)) ≡ no_stores (if b then Frees o n ∷ lane l older else lane l older)) [
  | true ↦ ap (λ (xs : List Action). Frees o n ∷ xs) (lane_of l older)
  | false ↦ lane_of l older
]
lane_of l ((m, Stores) ∷ older) = elim (m == l) as (λ b. lane l (on_monitors older) ≡ no_stores (if b then Stores ∷ lane l older else lane l older)) [
  | true ↦ lane_of l older
  | false ↦ lane_of l older
]

holding_of : (xs : List Action) → holding (no_stores xs) ≡ holding xs
holding_of [] = refl
holding_of (Takes o n ∷ older) = ap (λ (held : List ℕ). o ∷ held) (holding_of older)
holding_of (Frees o n ∷ older) = ap (λ (held : List ℕ). without o held) (holding_of older)
holding_of (Stores ∷ older) = holding_of older

ended_of : (xs : List Action) → ended (no_stores xs) ≡ ended xs
ended_of [] = refl
ended_of (Takes o n ∷ older) = ended_of older
ended_of (Frees o n ∷ older) =
    ap (λ (held : List ℕ). if length (without o held) == 0 then ended (no_stores older) + 1 else ended (no_stores older)) (holding_of older)
    ∙ ap (λ (e : ℕ). if length (without o (holding older)) == 0 then e + 1 else e) (ended_of older)
ended_of (Stores ∷ older) = ended_of older

-- each lane holds the same and has ended as many sections
pub holding_same : (l : ℕ) (log : List (ℕ × Action)) → holding (lane l (on_monitors log)) ≡ holding (lane l log)
holding_same l log = ap (λ (xs : List Action). holding xs) (lane_of l log) ∙ holding_of (lane l log)

pub ended_same : (l : ℕ) (log : List (ℕ × Action)) → ended (lane l (on_monitors log)) ≡ ended (lane l log)
ended_same l log = ap (λ (xs : List Action). ended xs) (lane_of l log) ∙ ended_of (lane l log)

-- there are no more of them
pub fewer : (log : List (ℕ × Action)) → length (on_monitors log) ≤ length log
fewer [] = omega arith
fewer ((m, Takes o n) ∷ older) = omega (arith, fewer older)
fewer ((m, Frees o n) ∷ older) = omega (arith, fewer older)
fewer ((m, Stores) ∷ older) = omega (arith, fewer older)

-- one more action makes one more at most
pub one_more : (x : ℕ × Action) (log : List (ℕ × Action)) → length (with_action x log) ≤ length log + 1
one_more (m, Takes o n) log = omega arith
one_more (m, Frees o n) log = omega arith
one_more (m, Stores) log = omega arith

-- what is past a base
kept_by : (base : ℕ → ℕ) (x : ℕ × Action) (older : List (ℕ × Action)) → since base (on_monitors older) ≡ on_monitors (since base older) →
    (if nat_lt (ended (lane x.0 (on_monitors older))) (base x.0) then since base (on_monitors older) else with_action x (since base (on_monitors older)))
    ≡ on_monitors (if nat_lt (ended (lane x.0 older)) (base x.0) then since base older else x ∷ since base older)
kept_by base x older same =
    ap (λ (e : ℕ). if nat_lt e (base x.0) then since base (on_monitors older) else with_action x (since base (on_monitors older))) (ended_same x.0 older)
    ∙ elim (nat_lt (ended (lane x.0 older)) (base x.0)) as (λ b. (if b then since base (on_monitors older) else with_action x (since base (on_monitors older))) ≡ on_monitors (if b then since base older else x ∷ since base older)) [
      | true ↦ same
      | false ↦ ap (λ (xs : List (ℕ × Action)). with_action x xs) same
    ]

pub since_same : (base : ℕ → ℕ) (log : List (ℕ × Action)) → since base (on_monitors log) ≡ on_monitors (since base log)
since_same base [] = refl
since_same base ((m, Takes o n) ∷ older) = kept_by base (m, Takes o n) older (since_same base older)
since_same base ((m, Frees o n) ∷ older) = kept_by base (m, Frees o n) older (since_same base older)
since_same base ((m, Stores) ∷ older) = since_same base older
    ∙ elim (nat_lt (ended (lane m older)) (base m)) as (λ b. on_monitors (since base older) ≡ on_monitors (if b then since base older else (m, Stores) ∷ since base older)) [
      | true ↦ refl
      | false ↦ refl
    ]

-- what may come next
below_same : (o t f : ℕ) (log : List (ℕ × Action)) → IsBelow o t f log → IsBelow o t f (on_monitors log)
below_same o t f [] below = tt
below_same o t f ((m, Takes p n) ∷ older) below = (below.0, below_same o t f older below.1)
below_same o t f ((m, Frees p n) ∷ older) below = (below.0, below_same o t f older below.1)
below_same o t f ((m, Stores) ∷ older) below = below_same o t f older below

pub next_same : (log : List (ℕ × Action)) (l : ℕ) (a : Action) → IsNext log l a → IsNext (on_monitors log) l a
next_same log l (Takes o n) next = below_same o n n log next
next_same log l (Frees o n) next = (subst (λ (held : List ℕ). Contains held o) (sym (holding_same l log)) next.0, below_same o (n + 1) n log next.1)
next_same log l Stores next = tt

-- what a section did to monitors
abbrev DidThat : (m : ℕ) → List (ℕ × Action) → Action → Section → Action → Type 0
DidThat m older x a act = (a ≡ record { lane = m; number = ended (lane m older) + 1 }) × (act ≡ x)

same_section : (m : ℕ) (older : List (ℕ × Action)) (x : Action) (a : Section) (act : Action) → DidThat m older x a act → DidThat m (on_monitors older) x a act
same_section m older x a act did = (did.0 ∙ ap (λ (e : ℕ). record { lane = m; number = e + 1 }) (sym (ended_same m older)), did.1)

that_section : (m : ℕ) (older : List (ℕ × Action)) (x : Action) (a : Section) (act : Action) → DidThat m (on_monitors older) x a act → DidThat m older x a act
that_section m older x a act did = (did.0 ∙ ap (λ (e : ℕ). record { lane = m; number = e + 1 }) (ended_same m older), did.1)

abbrev IsOnMonitor : Action → Type 0
IsOnMonitor (Takes o n) = Unit {0}
IsOnMonitor (Frees o n) = Unit {0}
IsOnMonitor Stores = ⊥

did_same : (log : List (ℕ × Action)) (a : Section) (act : Action) → IsOnMonitor act → Did log a act → Did (on_monitors log) a act
did_same [] a act on did = elim did [ ]
did_same ((m, Takes o n) ∷ older) a act on (inl did) = inl (same_section m older (Takes o n) a act did)
did_same ((m, Takes o n) ∷ older) a act on (inr did) = inr (did_same older a act on did)
did_same ((m, Frees o n) ∷ older) a act on (inl did) = inl (same_section m older (Frees o n) a act did)
did_same ((m, Frees o n) ∷ older) a act on (inr did) = inr (did_same older a act on did)
did_same ((m, Stores) ∷ older) a act on (inl did) = absurd (subst IsOnMonitor did.1 on)
did_same ((m, Stores) ∷ older) a act on (inr did) = did_same older a act on did

did_that : (log : List (ℕ × Action)) (a : Section) (act : Action) → Did (on_monitors log) a act → Did log a act
did_that [] a act did = elim did [ ]
did_that ((m, Takes o n) ∷ older) a act (inl did) = inl (that_section m older (Takes o n) a act did)
did_that ((m, Takes o n) ∷ older) a act (inr did) = inr (did_that older a act did)
did_that ((m, Frees o n) ∷ older) a act (inl did) = inl (that_section m older (Frees o n) a act did)
did_that ((m, Frees o n) ∷ older) a act (inr did) = inr (did_that older a act did)
did_that ((m, Stores) ∷ older) a act did = inr (did_that older a act did)

depends_same : (log : List (ℕ × Action)) (a b : Section) → DependsOn log a b → DependsOn (on_monitors log) a b
depends_same log a b (Earlier e lt) = Earlier e lt
depends_same log a b (Took o n took freed differ) = Took o n (did_same log a (Takes o (n + 1)) tt took) (did_same log b (Frees o n) tt freed) differ

depends_that : (log : List (ℕ × Action)) (a b : Section) → DependsOn (on_monitors log) a b → DependsOn log a b
depends_that log a b (Earlier e lt) = Earlier e lt
depends_that log a b (Took o n took freed differ) = Took o n (did_that log a (Takes o (n + 1)) took) (did_that log b (Frees o n) freed) differ

-- The stable cut of what was done to monitors is that of all.
pub stable_same : (log : List (ℕ × Action)) (cut : ℕ → ℕ) → IsStable (on_monitors log) cut → IsStable log cut
stable_same log cut stable = record {
  whole = λ l. omega (arith, stable.whole l, ended_same l log);
  closed = λ a b counts depends. stable.closed a b counts (depends_same log a b depends);
  greatest = λ other whole closed. stable.greatest other (λ l. omega (arith, whole l, ended_same l log)) (λ a b counts depends. closed a b counts (depends_that log a b depends));
}
