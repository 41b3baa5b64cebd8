-- A cut that has each section begun keeps the values after all records.
use Rattle.std.proofs.Common.{ℕ, ◌≡◌, ◌+◌, ◌<◌, ◌≤◌, ◌==◌, if◌then◌else◌, Bool, true, false, List, [], ◌∷◌, length, refl, ap, subst, inl, inr, arith}
use Rattle.std.proofs.lemmas.Bool.{cases_lt, lt-ltb, eq-eqb, ne_eqb}
use Rattle.heap_model.specs.declared.record.Record.{Record}
use Rattle.heap_model.specs.declared.record.Record.TheVariants.{Acq, Rel, WaitRel, Put}
use Rattle.heap_model.specs.Setting.{Setting}
use Rattle.heap_model.specs.Log.{lane, value, IsLegal}
use Rattle.heap_model.specs.Sections.{Action, Takes, Frees, Stores, actions, without, holding, ended}
use Rattle.heap_model.specs.Cuts.{is_counted}
use Rattle.heap_model.specs.KeptHeap.{kept_value}
use Rattle.store_memory.proofs.Held.{In, held_in}

-- the lane's sections that have ended are among the first n, and so is the one that it is in, if it holds anything
abbrev CoversLane : (n : ℕ) → List Action → Type 0
CoversLane n xs = (ended xs ≤ n) × (0 < length (holding xs) → ended xs < n)

abbrev pub Covers : (cut : ℕ → ℕ) → List (ℕ × Action) → Type 0
Covers cut log = (l : ℕ) → CoversLane (cut l) (lane l log)

covers_before : (n : ℕ) (a : Action) (xs : List Action) → CoversLane n (a ∷ xs) → CoversLane n xs
covers_before n (Takes o k) xs c = let low : ended xs < n = c.1 (omega arith) in (omega (arith, low), λ some. low)
covers_before n (Frees o k) xs c = elim (cases_lt 0 (length (without o (holding xs)))) [
  | inl some ↦
      let low : ended xs < n = subst (λ (b : Bool). (if b then ended xs + 1 else ended xs) < n) (ne_eqb (length (without o (holding xs))) 0 (omega (arith, some))) (c.1 some) in
      (omega (arith, low), λ held. low)
  | inr none ↦
      let last : ended xs + 1 ≤ n = subst (λ (b : Bool). (if b then ended xs + 1 else ended xs) ≤ n) (eq-eqb (length (without o (holding xs))) 0 (omega (arith, none))) c.0 in
      (omega (arith, last), λ held. omega (arith, last))
]
covers_before n Stores xs c = c

covers_older : (cut : ℕ → ℕ) (m : ℕ) (a : Action) (older : List (ℕ × Action)) → Covers cut ((m, a) ∷ older) → Covers cut older
covers_older cut m a older c l =
    elim (m == l) as (λ b. CoversLane (cut l) (if b then a ∷ lane l older else lane l older) → CoversLane (cut l) (lane l older)) [
      | true ↦ λ now. covers_before (cut l) a (lane l older) now
      | false ↦ λ now. now
    ] (c l)

some_in : (o : ℕ) (ps : List ℕ) → In o ps → 0 < length ps
some_in o [] h = elim h [ ]
some_in o (p ∷ ps) h = omega arith

-- a store is made in a section, which the cut has
pub all_kept : (s : Setting) (cut : ℕ → ℕ) (f : ℕ) (log : List (ℕ × Record)) → IsLegal s log → Covers cut (actions log) → kept_value s.first cut f log ≡ value s.first f log
all_kept s cut f [] legal c = refl
all_kept s cut f ((m, Acq o n) ∷ older) legal c = all_kept s cut f older legal.0 (covers_older cut m (Takes o.0 n) (actions older) c)
all_kept s cut f ((m, Rel o n) ∷ older) legal c = all_kept s cut f older legal.0 (covers_older cut m (Frees o.0 n) (actions older) c)
all_kept s cut f ((m, WaitRel o n) ∷ older) legal c = all_kept s cut f older legal.0 (covers_older cut m (Frees o.0 n) (actions older) c)
all_kept s cut f ((m, Put g before after) ∷ older) legal c =
    let covers : Covers cut (actions older) = covers_older cut m Stores (actions older) c in
    let held : 0 < length (holding (lane m (actions older))) = some_in (s.guard g.0) (holding (lane m (actions older))) (held_in m (s.guard g.0) older legal.1.0) in
    let counted : is_counted cut m (actions older) ≡ true = lt-ltb (ended (lane m (actions older))) (cut m) ((covers m).1 held) in
    elim (g.0 == f) as (λ b. (if b then (if is_counted cut m (actions older) then after else kept_value s.first cut f older) else kept_value s.first cut f older) ≡ (if b then after else value s.first f older)) [
      | true ↦ ap (λ (b : Bool). if b then after else kept_value s.first cut f older) counted
      | false ↦ all_kept s cut f older legal.0 covers
    ]
