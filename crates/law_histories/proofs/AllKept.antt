-- Where no lane holds anything, the stable cut is that of all sections, and it keeps each store.
use Rattle.std.proofs.Common.{ℕ, ◌≡◌, ◌+◌, ◌<◌, ◌≤◌, ◌⊎◌, ◌==◌, if◌then◌else◌, Bool, true, false, List, [], ◌∷◌, ◌++◌, length, refl, sym, ap, ◌∙◌, subst, inl, inr, ⊎_elim, arith}
use Rattle.std.proofs.lemmas.Bool.{cases_Bool, cases_lt, eqb-false, lt-ltb}
use Rattle.std.proofs.lemmas.Bool.Decides.{eqb_tells}
use Rattle.std.proofs.lemmas.List.{append_assoc}
use Rattle.heap_model.specs.declared.record.Record.{Record}
use Rattle.heap_model.specs.declared.record.Record.TheVariants.{Acq, Rel, WaitRel, Put}
use Rattle.heap_model.specs.declared.ids.FieldId.{FieldId}
use Rattle.heap_model.specs.Setting.{Setting}
use Rattle.heap_model.specs.Log.{lane, value, IsLegal}
use Rattle.heap_model.specs.Sections.{Action, Takes, Frees, Stores, action, actions, without, holding, ended, Section, Did, Earlier, Took}
use Rattle.heap_model.specs.Cuts.{is_counted, IsClosed, IsStable, all_ended}
use Rattle.heap_model.specs.KeptHeap.{kept_value}
use Rattle.law_cuts.proofs.Chain.{In, holder_holds}
use Rattle.law_cuts.proofs.Lanes.{lane_append}
use Rattle.law_cuts.proofs.Stores.{ended_rises}
use Rattle.law_cuts.proofs.Next.{legal_before}
use Rattle.law_histories.proofs.Own.{by_test}

-- what did an action in a lane has ended, or goes on
abbrev Placed : List Action → ℕ → Type 0
Placed xs k = (k ≤ ended xs) ⊎ ((k ≡ ended xs + 1) × (0 < length (holding xs)))

placed_next : (a : Action) (xs : List Action) (k : ℕ) → Placed xs k → Placed (a ∷ xs) k
placed_next (Takes o n) xs k (inl le) = inl le
placed_next (Takes o n) xs k (inr on) = inr (on.0, omega arith)
placed_next (Stores) xs k p = p
placed_next (Frees o n) xs k p = elim (cases_Bool (length (without o (holding xs)) == 0)) [
  | inl t ↦ inl (subst (λ b. k ≤ (if b then ended xs + 1 else ended xs)) (sym t) (⊎_elim (λ le. omega arith) (λ on. omega (arith, on.0)) p))
  | inr t ↦ ⊎_elim (λ le. inl (subst (λ b. k ≤ (if b then ended xs + 1 else ended xs)) (sym t) le))
      (λ on. inr (subst (λ b. k ≡ (if b then ended xs + 1 else ended xs) + 1) (sym t) on.0, let some = eqb-false _ _ t in omega arith)) p
]

placed_frees : (o n : ℕ) (xs : List Action) → Placed (Frees o n ∷ xs) (ended xs + 1)
placed_frees o n xs = elim (cases_Bool (length (without o (holding xs)) == 0)) [
  | inl t ↦ inl (subst (λ b. ended xs + 1 ≤ (if b then ended xs + 1 else ended xs)) (sym t) (omega arith))
  | inr t ↦ inr (subst (λ b. ended xs + 1 ≡ (if b then ended xs + 1 else ended xs) + 1) (sym t) refl, let some = eqb-false _ _ t in omega arith)
]

placed : (log : List (ℕ × Action)) (b : Section) (o n : ℕ) → Did log b (Frees o n) → Placed (lane b.lane log) b.number
placed [] b o n did = elim did [ ]
placed ((m, a) ∷ older) b o n (inl did) =
    let lanes : m ≡ b.lane = sym (ap (λ (x : Section). x.lane) did.0) in
    let numbers : b.number ≡ ended (lane m older) + 1 = ap (λ (x : Section). x.number) did.0 in
    elim (eqb_tells m b.lane) [
      | inl e ↦ subst (λ t. Placed (if t then a ∷ lane b.lane older else lane b.lane older) b.number) (sym e.0)
          (subst (λ k. Placed (a ∷ lane b.lane older) k) (sym (numbers ∙ ap (λ i. ended (lane i older) + 1) lanes)) (subst (λ c. Placed (c ∷ lane b.lane older) (ended (lane b.lane older) + 1)) did.1 (placed_frees o n (lane b.lane older))))
      | inr e ↦ absurd (e.1 lanes)
    ]
placed ((m, a) ∷ older) b o n (inr did) =
    let before : Placed (lane b.lane older) b.number = placed older b o n did in
    elim (m == b.lane) as (λ t. Placed (if t then a ∷ lane b.lane older else lane b.lane older) b.number) [ true ↦ placed_next a (lane b.lane older) b.number before | false ↦ before ]

pub all_stable : (log : List (ℕ × Action)) → ((l : ℕ) → length (holding (lane l log)) ≡ 0) → IsStable log (all_ended log)
all_stable log free = record {
  whole = λ l. omega arith;
  closed = closed;
  greatest = λ other whole is l. whole l;
}
  where
    closed : IsClosed log (all_ended log)
    closed a b counted (Earlier lanes less) = let same : ended (lane a.lane log) ≡ ended (lane b.lane log) = ap (λ l. ended (lane l log)) lanes in omega arith
    closed a b counted (Took o n took freed other) = ⊎_elim (λ le. le) (λ on. absurd (omega (arith, on.1, free b.lane))) (placed log b o n freed)

-- an action that frees the last that a lane holds
ends_now : (b : Action) (zs : List Action) → 0 < length (holding zs) → length (holding (b ∷ zs)) ≡ 0 → ended (b ∷ zs) ≡ ended zs + 1
ends_now (Takes o n) zs held none = absurd (omega arith)
ends_now Stores zs held none = absurd (omega arith)
ends_now (Frees o n) zs held none = ap (λ (b : Bool). if b then ended zs + 1 else ended zs) (ap (λ k. k == 0) none)

-- where a lane that held something holds nothing, a section more has ended
ended_since : (xs ys : List Action) → 0 < length (holding ys) → length (holding (xs ++ ys)) ≡ 0 → ended ys < ended (xs ++ ys)
ended_since [] ys some none = absurd (omega arith)
ended_since (a ∷ xs) ys some none = elim (cases_lt 0 (length (holding (xs ++ ys)))) [
  | inl held ↦ omega (arith, ends_now a (xs ++ ys) held none, grown xs)
  | inr free ↦ omega (arith, ended_since xs ys some (omega arith), ended_rises a (xs ++ ys))
]
  where
    grown : (zs : List Action) → ended ys ≤ ended (zs ++ ys)
    grown [] = omega arith
    grown (b ∷ zs) = omega (arith, grown zs, ended_rises b (zs ++ ys))

actions_append : (newer older : List (ℕ × Record)) → actions (newer ++ older) ≡ actions newer ++ actions older
actions_append [] older = refl
actions_append (x ∷ newer) older = ap (λ (xs : List (ℕ × Action)). (x.0, action x.1) ∷ xs) (actions_append newer older)

some_in : (o : ℕ) (ps : List ℕ) → In o ps → 0 < length ps
some_in o [] h = elim h [ ]
some_in o (p ∷ ps) h = omega arith

own_store : (l : ℕ) (log : List (ℕ × Action)) → lane l ((l, Stores) ∷ log) ≡ Stores ∷ lane l log
own_store l log = by_test l l (λ b. (if b then Stores ∷ lane l log else lane l log) ≡ Stores ∷ lane l log) (λ _. refl) (λ ne. absurd (ne refl))

module _ (s : Setting) (log : List (ℕ × Record)) (legal : IsLegal s log) (free : (l : ℕ) → length (holding (lane l (actions log))) ≡ 0) where
  counted : (newer older : List (ℕ × Record)) (l : ℕ) (g : FieldId) (before after : ℕ) → newer ++ (l, Put g before after) ∷ older ≡ log → ended (lane l (actions older)) < all_ended (actions log) l
  counted newer older l g before after is =
      let may : IsLegal s ((l, Put g before after) ∷ older) = legal_before s newer ((l, Put g before after) ∷ older) (subst (IsLegal s) (sym is) legal) in
      let held : 0 < length (holding (lane l (actions older))) = some_in (s.guard g.0) (holding (lane l (actions older))) (holder_holds older (s.guard g.0) l may.1.0) in
      let whole : lane l (actions log) ≡ lane l (actions newer) ++ Stores ∷ lane l (actions older) =
      ap (λ (xs : List (ℕ × Record)). lane l (actions xs)) (sym is) ∙ ap (lane l) (actions_append newer ((l, Put g before after) ∷ older)) ∙ lane_append l (actions newer) ((l, Stores) ∷ actions older)
      ∙ ap (λ (xs : List Action). lane l (actions newer) ++ xs) (own_store l (actions older)) in
      let past = ended_since (lane l (actions newer)) (Stores ∷ lane l (actions older)) held (ap (λ (xs : List Action). length (holding xs)) (sym whole) ∙ free l) in
      let same : ended (lane l (actions log)) ≡ ended (lane l (actions newer) ++ Stores ∷ lane l (actions older)) = ap (λ (xs : List Action). ended xs) whole in
      omega arith

  kept_now : (newer older : List (ℕ × Record)) → newer ++ older ≡ log → (f : ℕ) → kept_value s.first (all_ended (actions log)) f older ≡ value s.first f older
  kept_now newer [] is f = refl
  kept_now newer ((l, Acq o n) ∷ older) is f = kept_now (newer ++ (l, Acq o n) ∷ []) older (append_assoc newer ((l, Acq o n) ∷ []) older ∙ is) f
  kept_now newer ((l, Rel o n) ∷ older) is f = kept_now (newer ++ (l, Rel o n) ∷ []) older (append_assoc newer ((l, Rel o n) ∷ []) older ∙ is) f
  kept_now newer ((l, WaitRel o n) ∷ older) is f = kept_now (newer ++ (l, WaitRel o n) ∷ []) older (append_assoc newer ((l, WaitRel o n) ∷ []) older ∙ is) f
  kept_now newer ((l, Put g before after) ∷ older) is f =
      let rest : kept_value s.first (all_ended (actions log)) f older ≡ value s.first f older = kept_now (newer ++ (l, Put g before after) ∷ []) older (append_assoc newer ((l, Put g before after) ∷ []) older ∙ is) f in
      let one : is_counted (all_ended (actions log)) l (actions older) ≡ true = lt-ltb _ _ (counted newer older l g before after is) in
      ap (λ (b : Bool). if g.0 == f then (if b then after else kept_value s.first (all_ended (actions log)) f older) else kept_value s.first (all_ended (actions log)) f older) one
      ∙ ap (λ (v : ℕ). if g.0 == f then after else v) rest

  pub all_kept : (f : ℕ) → kept_value s.first (all_ended (actions log)) f log ≡ value s.first f log
  all_kept f = kept_now [] log refl f
