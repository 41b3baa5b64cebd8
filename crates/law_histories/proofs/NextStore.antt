-- What a field holds, and what a lane may do next, is known from what is applied of its lanes.
use Rattle.std.proofs.Common.{ℕ, ◌≡◌, ◌+◌, ◌<◌, ◌≤◌, ◌==◌, if◌then◌else◌, true, false, List, [], ◌∷◌, ◌++◌, map, append_assoc, Option, Some, None, refl, sym, ap, ◌∙◌, subst, inl, inr, arith}
use Rattle.std.proofs.lemmas.Bool.{lt-ltb}
use Rattle.heap_model.specs.declared.record.Record.{Record}
use Rattle.heap_model.specs.declared.record.Record.TheVariants.{Acq, Rel, WaitRel, Put}
use Rattle.heap_model.specs.Setting.{Setting}
use Rattle.heap_model.specs.Log.{lane, holder, number, value, awaited, MayFollow, IsAllowed, IsLegal, IsLaneWisePrefix}
use Rattle.heap_model.specs.Sections.{action, ended}
use Rattle.heap_model.specs.KeptHeap.{kept_value}
use Rattle.law_cuts.proofs.Stores.{under, Mark, IsStore, HasStore, has_more, has_cons, holder_knows, ended_more}
use Rattle.law_histories.proofs.Order.{stores_past, IsLast, kept_is_last, last_elsewhere, last_once}
use Rattle.law_cuts.proofs.Lanes.{ended_in_lane}
use Rattle.law_cuts.proofs.Next.{number_rises, legal_before, free_still, held_still}

abbrev pub awaited_in : List Record → Option ℕ
awaited_in [] = None
awaited_in (Acq o n ∷ older) = None
awaited_in (Rel o n ∷ older) = None
awaited_in (WaitRel o n ∷ older) = Some o.0
awaited_in (Put f v w ∷ older) = None

pub awaited_is : (l : ℕ) (log : List (ℕ × Record)) → awaited l log ≡ awaited_in (lane l log)
awaited_is l [] = refl
awaited_is l ((m, Acq o n) ∷ older) = elim (m == l) as (λ b. (if b then None else awaited l older) ≡ awaited_in (if b then Acq o n ∷ lane l older else lane l older)) [ true ↦ refl | false ↦ awaited_is l older ]
awaited_is l ((m, Rel o n) ∷ older) = elim (m == l) as (λ b. (if b then None else awaited l older) ≡ awaited_in (if b then Rel o n ∷ lane l older else lane l older)) [ true ↦ refl | false ↦ awaited_is l older ]
awaited_is l ((m, WaitRel o n) ∷ older) = elim (m == l) as (λ b. (if b then Some o.0 else awaited l older) ≡ awaited_in (if b then WaitRel o n ∷ lane l older else lane l older)) [ true ↦ refl | false ↦ awaited_is l older ]
awaited_is l ((m, Put f v w) ∷ older) = elim (m == l) as (λ b. (if b then None else awaited l older) ≡ awaited_in (if b then Put f v w ∷ lane l older else lane l older)) [ true ↦ refl | false ↦ awaited_is l older ]

all_older : (cut : ℕ → ℕ) (m : ℕ) (r : Record) (older : List (ℕ × Record)) → ((l : ℕ) → ended (map action (lane l ((m, r) ∷ older))) < cut l) → (l : ℕ) → ended (map action (lane l older)) < cut l
all_older cut m r older all l =
    let grows : ended (map action (lane l older)) ≤ ended (map action (lane l ((m, r) ∷ older))) =
    elim (m == l) as (λ b. ended (map action (lane l older)) ≤ ended (map action (if b then r ∷ lane l older else lane l older))) [ true ↦ ended_more (r ∷ []) (lane l older) | false ↦ omega arith ] in
    omega (arith, all l)

all_kept : (first cut : ℕ → ℕ) (f : ℕ) (log : List (ℕ × Record)) → ((l : ℕ) → ended (map action (lane l log)) < cut l) → kept_value first cut f log ≡ value first f log
all_kept first cut f [] all = refl
all_kept first cut f ((m, Acq o n) ∷ older) all = all_kept first cut f older (all_older cut m (Acq o n) older all)
all_kept first cut f ((m, Rel o n) ∷ older) all = all_kept first cut f older (all_older cut m (Rel o n) older all)
all_kept first cut f ((m, WaitRel o n) ∷ older) all = all_kept first cut f older (all_older cut m (WaitRel o n) older all)
all_kept first cut f ((m, Put g v w) ∷ older) all =
    let rest : kept_value first cut f older ≡ value first f older = all_kept first cut f older (all_older cut m (Put g v w) older all) in
    ap (λ b. if g.0 == f then (if b then w else kept_value first cut f older) else kept_value first cut f older) (lt-ltb _ _ (omega (arith, ended_in_lane m older, all_older cut m (Put g v w) older all m)))
    ∙ ap (λ x. if g.0 == f then w else x) rest

new_number : (s : Setting) (f m : ℕ) (r : Record) (older : List (ℕ × Record)) (k : Mark) → IsLegal s ((m, r) ∷ older) → IsStore (s.guard f) f (lane m older) r k → k.number ≡ number (s.guard f) older
new_number s f m (Acq o n) older k legal h = elim h [ ]
new_number s f m (Rel o n) older k legal h = elim h [ ]
new_number s f m (WaitRel o n) older k legal h = elim h [ ]
new_number s f m (Put g v w) older k legal h =
    let mine : holder (s.guard f) older ≡ Some m = ap (λ x. holder (s.guard x) older) (sym h.0) ∙ legal.1.0 in
    let known : under (s.guard f) (lane m older) ≡ Some (number (s.guard f) older) = holder_knows s older (s.guard f) m legal.0 mine in
    let told : under (s.guard f) (lane m older) ≡ Some k.number = h.1 in cc

numbers_after : (s : Setting) (newer older : List (ℕ × Record)) (o : ℕ) → IsLegal s (newer ++ older) → number o older ≤ number o (newer ++ older)
numbers_after s [] older o legal = omega arith
numbers_after s ((m, r) ∷ newer) older o legal = omega (arith, numbers_after s newer older o legal.0, number_rises s m r (newer ++ older) o legal)

-- a store under a number that was past was there
store_before : (s : Setting) (newer older : List (ℕ × Record)) (f m : ℕ) (k : Mark) → IsLegal s (newer ++ older) → HasStore (s.guard f) f (lane m (newer ++ older)) k → k.number < number (s.guard f) older → HasStore (s.guard f) f (lane m older) k
store_before s [] older f m k legal h lt = h
store_before s ((j, r) ∷ newer) older f m k legal h lt = elim (has_cons (s.guard f) f m j r (newer ++ older) k h) [
  | inl i ↦ absurd (omega (
    arith,
    numbers_after s newer older (s.guard f) legal.0,
    new_number s f j r (newer ++ older) k legal (subst (λ x. IsStore (s.guard f) f (lane x (newer ++ older)) r k) (sym i.0) i.1),
  ))
  | inr i ↦ store_before s newer older f m k legal.0 i lt
]

pub value_still : (s : Setting) (newer older applied : List (ℕ × Record)) (l f : ℕ) →
    IsLegal s (newer ++ older) → IsLegal s applied → IsLaneWisePrefix applied (newer ++ older) → IsLaneWisePrefix older applied → lane l applied ≡ lane l older →
    holder (s.guard f) applied ≡ Some l → number (s.guard f) applied ≡ number (s.guard f) older → value s.first f applied ≡ value s.first f older
value_still s newer older applied l f legal legal_applied below above at held_by numbers =
    let o : ℕ = s.guard f in
    let cut : ℕ → ℕ = λ m. ended (map action (lane m applied)) + 1 in
    let fewer : (m : ℕ) → ended (map action (lane m older)) < cut m = λ m.
    let more : ended (map action (lane m older)) ≤ ended (map action ((above m).0 ++ lane m older)) = ended_more (above m).0 (lane m older) in
    let same : ended (map action (lane m applied)) ≡ ended (map action ((above m).0 ++ lane m older)) = ap (λ x. ended (map action x)) (above m).1 in
    omega arith in
    let last : IsLast o f (λ m. lane m older) cut (s.first f) (kept_value s.first cut f older) = kept_is_last s older cut f (legal_before s newer older legal) in
    let last_too : IsLast o f (λ m. lane m applied) cut (s.first f) (kept_value s.first cut f applied) = kept_is_last s applied cut f legal_applied in
    let moved : IsLast o f (λ m. lane m applied) cut (s.first f) (kept_value s.first cut f older) = last_elsewhere o f (λ m. lane m older) (λ m. lane m applied) cut (s.first f) _
    (λ m k h le. subst (λ x. HasStore o f x k) (sym (above m).1) (has_more o f (above m).0 (lane m older) k h))
    (λ m k h le. elim (stores_past s applied f m k legal_applied h) [
      | inl p ↦ store_before s newer older f m k legal (subst (λ x. HasStore o f x k) (sym (below m).1) (has_more o f (below m).0 (lane m applied) k h)) (omega arith)
      | inr p ↦
          let theirs : holder o applied ≡ Some m = p.1 in
          let lanes : l ≡ m = cc in
          subst (λ x. HasStore o f x k) (ap (λ x. lane x applied) (sym lanes) ∙ at ∙ ap (λ x. lane x older) lanes) h
    ])
    last in
    sym (all_kept s.first cut f applied (λ m. omega arith)) ∙ last_once o f (λ m. lane m applied) cut (s.first f) _ _ last_too moved ∙ all_kept s.first cut f older fewer

-- The earliest record that isn't applied may be applied next.
pub next_legal : (s : Setting) (newer older applied : List (ℕ × Record)) (l : ℕ) (r : Record) →
    IsLegal s (newer ++ (l, r) ∷ older) → IsLegal s applied →
    IsLaneWisePrefix applied (newer ++ (l, r) ∷ older) → IsLaneWisePrefix older applied → lane l applied ≡ lane l older → IsLegal s ((l, r) ∷ applied)
next_legal s newer older applied l r legal legal_applied below above at = (
  legal_applied,
  allowed r legal below,
  subst (λ v. MayFollow v r) (awaited_is l older ∙ ap awaited_in (sym at) ∙ sym (awaited_is l applied)) (legal_before s newer ((l, r) ∷ older) legal).2,
  (legal_before s newer ((l, r) ∷ older) legal).3,
)
  where
    allowed : (r : Record) → IsLegal s (newer ++ (l, r) ∷ older) → IsLaneWisePrefix applied (newer ++ (l, r) ∷ older) → IsAllowed s applied l r
    allowed (Acq o n) legal below =
        let here : IsLegal s ((l, Acq o n) ∷ older) = legal_before s newer ((l, Acq o n) ∷ older) legal in
        let still : (holder o.0 applied ≡ None) × (number o.0 applied ≡ n) = free_still s newer older applied l o.0 n (Acq o n) refl legal legal_applied below above at here.1.0 here.1.1 in
        (still.0, still.1, here.1.2)
    allowed (Rel o n) legal below =
        let here : IsLegal s ((l, Rel o n) ∷ older) = legal_before s newer ((l, Rel o n) ∷ older) legal in
        held_still s _ older applied l o.0 n legal here.0 legal_applied below above at here.1.0 here.1.1
    allowed (WaitRel o n) legal below =
        let here : IsLegal s ((l, WaitRel o n) ∷ older) = legal_before s newer ((l, WaitRel o n) ∷ older) legal in
        held_still s _ older applied l o.0 n legal here.0 legal_applied below above at here.1.0 here.1.1
    allowed (Put g v w) legal below =
        let here : IsLegal s ((l, Put g v w) ∷ older) = legal_before s newer ((l, Put g v w) ∷ older) legal in
        let still : (holder (s.guard g.0) applied ≡ Some l) × (number (s.guard g.0) applied ≡ number (s.guard g.0) older) = held_still s _ older applied l (s.guard g.0) _ legal here.0 legal_applied below above at here.1.0 refl in
        let whole : newer ++ (l, Put g v w) ∷ older ≡ (newer ++ (l, Put g v w) ∷ []) ++ older = sym (append_assoc newer ((l, Put g v w) ∷ []) older) in (
          still.0,
          value_still s (newer ++ (l, Put g v w) ∷ []) older applied l g.0 (subst (λ x. IsLegal s x) whole legal) legal_applied
              (subst (λ x. IsLaneWisePrefix applied x) whole below) above at still.0 still.1 ∙ here.1.1,
        )
