-- The records of a closed cut alone are a legal list.
use Rattle.std.proofs.Common.{ℕ, ◌≡◌, ◌+◌, ◌<◌, ◌==◌, if◌then◌else◌, true, false, List, [], ◌∷◌, map, Option, Some, None, refl, sym, ap, ◌∙◌, subst, inl, inr, arith}
use Rattle.std.proofs.lemmas.Bool.{ltb-true, ltb-false}
use Rattle.std.proofs.lemmas.Bool.Decides.{eqb_tells}
use Rattle.heap_model.specs.declared.record.Record.{Record}
use Rattle.heap_model.specs.declared.record.Record.TheVariants.{Acq, Rel, WaitRel, Put}
use Rattle.heap_model.specs.Setting.{Setting}
use Rattle.heap_model.specs.Log.{lane, holder, number, value, MayFollow, IsAllowed, IsLegal}
use Rattle.heap_model.specs.Sections.{Takes, action, actions, ended, Section, Did}
use Rattle.heap_model.specs.Cuts.{Counts, IsClosed, is_counted}
use Rattle.heap_model.specs.KeptHeap.{kept_value}
use Rattle.heap_model.specs.Base.{records_until}
use Rattle.law_cuts.proofs.Stores.{ended_rises}
use Rattle.law_cuts.proofs.Lanes.{ended_in_lane}
use Rattle.law_cuts.proofs.Chain.{current, holder_took, took_had, closed_down}
use Rattle.law_histories.proofs.Undo.{all_counted, all_kept_value, closed_older}
use Rattle.law_histories.proofs.NextStore.{awaited_in, awaited_is}

counted : (base : ℕ → ℕ) (l : ℕ) (older : List (ℕ × Record)) → is_counted base l (actions older) ≡ true → Counts base (current older l)
counted base l older t = omega (arith, ltb-true _ _ t)

not_counted : (base : ℕ → ℕ) (l : ℕ) (older : List (ℕ × Record)) → is_counted base l (actions older) ≡ false → Counts base (current older l) → ⊥
not_counted base l older t c = omega (arith, ltb-false _ _ t, c)

-- an object whose takers are counted is as it was
module _ (s : Setting) (base : ℕ → ℕ) (o : ℕ) where
  abbrev Same : List (ℕ × Record) → List (ℕ × Record) → Type 0
  Same part log = (holder o part ≡ holder o log) × (number o part ≡ number o log)

  abbrev AllTook : List (ℕ × Record) → Type 0
  AllTook log = (i : ℕ) (b : Section) → Did (actions log) b (Takes o i) → Counts base b

  freed_same : (older part : List (ℕ × Record)) (m p n : ℕ) → IsLegal s older → holder p older ≡ Some m → AllTook older → Same part older → (is_counted base m (actions older) ≡ false) →
      (holder o part ≡ (if p == o then None else holder o older)) × (number o part ≡ (if p == o then n + 1 else number o older))
  freed_same older part m p n legal held took same t = elim (eqb_tells p o) [
    | inl e ↦ absurd (not_counted base m older t (took _ _ (holder_took s older o m legal (ap (λ x. holder x older) (sym e.1) ∙ held))))
    | inr e ↦ (same.0 ∙ ap (λ b. if b then None else holder o older) (sym e.0), same.1 ∙ ap (λ b. if b then n + 1 else number o older) (sym e.0))
  ]

  pub same_object : (log : List (ℕ × Record)) → IsLegal s log → AllTook log → Same (records_until base log) log
  same_object [] legal took = (refl, refl)
  same_object ((m, Acq p n) ∷ older) legal took =
      let rest : Same (records_until base older) older = same_object older legal.0 (λ i b h. took i b (inr h)) in
      elim (is_counted base m (actions older)) as (λ t. is_counted base m (actions older) ≡ t → Same (if t then (m, Acq p n) ∷ records_until base older else records_until base older) ((m, Acq p n) ∷ older)) [
        | true ↦ λ t. (ap (λ (v : Option ℕ). if p.0 == o then Some m else v) rest.0, rest.1)
        | false ↦ λ t. elim (eqb_tells p.0 o) [
          | inl e ↦ absurd (not_counted base m older t (took n (current older m) (inl (refl, ap (λ x. Takes x n) (sym e.1)))))
          | inr e ↦ (rest.0 ∙ ap (λ b. if b then Some m else holder o older) (sym e.0), rest.1)
        ]
      ] refl
  same_object ((m, Rel p n) ∷ older) legal took =
      let rest : Same (records_until base older) older = same_object older legal.0 (λ i b h. took i b (inr h)) in
      elim (is_counted base m (actions older)) as (λ t. is_counted base m (actions older) ≡ t → Same (if t then (m, Rel p n) ∷ records_until base older else records_until base older) ((m, Rel p n) ∷ older)) [
        | true ↦ λ t. (ap (λ (v : Option ℕ). if p.0 == o then None else v) rest.0, ap (λ (v : ℕ). if p.0 == o then n + 1 else v) rest.1)
        | false ↦ λ t. freed_same older (records_until base older) m p.0 n legal.0 legal.1.0 (λ i b h. took i b (inr h)) rest t
      ] refl
  same_object ((m, WaitRel p n) ∷ older) legal took =
      let rest : Same (records_until base older) older = same_object older legal.0 (λ i b h. took i b (inr h)) in
      elim (is_counted base m (actions older)) as (λ t. is_counted base m (actions older) ≡ t → Same (if t then (m, WaitRel p n) ∷ records_until base older else records_until base older) ((m, WaitRel p n) ∷ older)) [
        | true ↦ λ t. (ap (λ (v : Option ℕ). if p.0 == o then None else v) rest.0, ap (λ (v : ℕ). if p.0 == o then n + 1 else v) rest.1)
        | false ↦ λ t. freed_same older (records_until base older) m p.0 n legal.0 legal.1.0 (λ i b h. took i b (inr h)) rest t
      ] refl
  same_object ((m, Put f before after) ∷ older) legal took =
      let rest : Same (records_until base older) older = same_object older legal.0 (λ i b h. took i b (inr h)) in
      elim (is_counted base m (actions older)) as (λ t. Same (if t then (m, Put f before after) ∷ records_until base older else records_until base older) ((m, Put f before after) ∷ older)) [ true ↦ rest | false ↦ rest ]

-- its values are those that the cut keeps
pub value_until : (first base : ℕ → ℕ) (f : ℕ) (log : List (ℕ × Record)) → value first f (records_until base log) ≡ kept_value first base f log
value_until first base f [] = refl
value_until first base f ((m, Acq p n) ∷ older) = elim (is_counted base m (actions older)) as (λ t. value first f (if t then (m, Acq p n) ∷ records_until base older else records_until base older) ≡ kept_value first base f older) [ true ↦ value_until first base f older | false ↦ value_until first base f older ]
value_until first base f ((m, Rel p n) ∷ older) = elim (is_counted base m (actions older)) as (λ t. value first f (if t then (m, Rel p n) ∷ records_until base older else records_until base older) ≡ kept_value first base f older) [ true ↦ value_until first base f older | false ↦ value_until first base f older ]
value_until first base f ((m, WaitRel p n) ∷ older) = elim (is_counted base m (actions older)) as (λ t. value first f (if t then (m, WaitRel p n) ∷ records_until base older else records_until base older) ≡ kept_value first base f older) [ true ↦ value_until first base f older | false ↦ value_until first base f older ]
value_until first base f ((m, Put g before after) ∷ older) =
    let rest : value first f (records_until base older) ≡ kept_value first base f older = value_until first base f older in
    let kept : ℕ = kept_value first base f older in
    let both : value first f (if is_counted base m (actions older) then (m, Put g before after) ∷ records_until base older else records_until base older) ≡ (if g.0 == f then (if is_counted base m (actions older) then after else kept) else kept) =
    elim (is_counted base m (actions older)) as (λ t. value first f (if t then (m, Put g before after) ∷ records_until base older else records_until base older) ≡ (if g.0 == f then (if t then after else kept) else kept)) [
      | true ↦ ap (λ (v : ℕ). if g.0 == f then after else v) rest
      | false ↦ rest ∙ elim (g.0 == f) as (λ b. kept ≡ (if b then kept else kept)) [ true ↦ refl | false ↦ refl ]
    ] in
    both

-- a lane whose next record is counted is there as a whole
pub lane_until : (base : ℕ → ℕ) (l : ℕ) (older : List (ℕ × Record)) → ended (lane l (actions older)) < base l → lane l (records_until base older) ≡ lane l older
lane_until base l [] lt = refl
lane_until base l ((m, r) ∷ older) lt = elim (eqb_tells m l) [
  | inl e ↦
      let here : ended (lane l (actions ((m, r) ∷ older))) ≡ ended (action r ∷ lane l (actions older)) = ap (λ b. ended (if b then action r ∷ lane l (actions older) else lane l (actions older))) e.0 in
      let below : ended (lane l (actions older)) < base l = omega (arith, here, ended_rises (action r) (lane l (actions older))) in
      let lanes : ended (lane m (actions older)) ≡ ended (lane l (actions older)) = ap (λ x. ended (lane x (actions older))) e.1 in
      let bases : base m ≡ base l = ap base e.1 in
      elim (is_counted base m (actions older)) as (λ t. is_counted base m (actions older) ≡ t → lane l (if t then (m, r) ∷ records_until base older else records_until base older) ≡ lane l ((m, r) ∷ older)) [
        | true ↦ λ t. ap (λ xs. if m == l then r ∷ xs else xs) (lane_until base l older below)
        | false ↦ λ t. absurd (omega (arith, ltb-false _ _ t))
      ] refl
  | inr e ↦
      let here : ended (lane l (actions ((m, r) ∷ older))) ≡ ended (lane l (actions older)) = ap (λ b. ended (if b then action r ∷ lane l (actions older) else lane l (actions older))) e.0 in
      let rest : lane l (records_until base older) ≡ lane l older = lane_until base l older (omega (arith, here)) in
      elim (is_counted base m (actions older)) as (λ t. lane l (if t then (m, r) ∷ records_until base older else records_until base older) ≡ lane l ((m, r) ∷ older)) [
        | true ↦ ap (λ xs. if m == l then r ∷ xs else xs) rest
        | false ↦ rest ∙ ap (λ b. if b then r ∷ lane l older else lane l older) (sym e.0)
      ]
]

-- who holds an object in a counted section: all its takers are counted
held_counted : (s : Setting) (base : ℕ → ℕ) (older : List (ℕ × Record)) (l o : ℕ) → IsLegal s older → IsClosed (actions older) base → holder o older ≡ Some l → Counts base (current older l) → AllTook s base o older
held_counted s base older l o legal closed held now i b h = elim (took_had s older o i b legal h) [
  | inl p ↦ closed_down s older base o (number o older) (current older l) legal closed (holder_took s older o l legal held) now (omega arith) i b p.0 p.1
  | inr p ↦
      let theirs : holder o older ≡ Some b.lane = p.1 in
      let mine : holder o older ≡ Some l = held in
      let lanes : b.lane ≡ l = cc in
      omega (arith, p.2, now, ap base lanes, ap (λ x. ended (lane x (actions older))) lanes)
]

free_counted : (s : Setting) (base : ℕ → ℕ) (older : List (ℕ × Record)) (l o n : ℕ) (r : Record) → action r ≡ Takes o n → IsLegal s ((l, r) ∷ older) → number o ((l, r) ∷ older) ≡ n → holder o older ≡ None → number o older ≡ n →
    IsClosed (actions ((l, r) ∷ older)) base → Counts base (current older l) → AllTook s base o older
free_counted s base older l o n r act legal same free e closed now i b h = elim (took_had s older o i b legal.0 h) [
  | inl p ↦ closed_down s ((l, r) ∷ older) base o n (current older l) legal closed (inl (refl, sym act)) now (omega (arith, same)) i b (omega (arith, p.0)) (inr p.1)
  | inr p ↦ absurd (let theirs : holder o older ≡ Some b.lane = p.1 in cc)
]

pub until_legal : (s : Setting) (base : ℕ → ℕ) (log : List (ℕ × Record)) → IsLegal s log → IsClosed (actions log) base → IsLegal s (records_until base log)
until_legal s base [] legal closed = tt
until_legal s base ((l, r) ∷ older) legal closed =
    let closed_rest : IsClosed (actions older) base = closed_older (l, action r) (actions older) base closed in
    let rest : IsLegal s (records_until base older) = until_legal s base older legal.0 closed_rest in
    elim (is_counted base l (actions older)) as (λ t. is_counted base l (actions older) ≡ t → IsLegal s (if t then (l, r) ∷ records_until base older else records_until base older)) [
      | true ↦ λ t.
          let own : lane l (records_until base older) ≡ lane l older = lane_until base l older (ltb-true _ _ t) in (
            rest,
            allowed r legal closed (counted base l older t),
            subst (λ v. MayFollow v r) (awaited_is l older ∙ ap awaited_in (sym own) ∙ sym (awaited_is l (records_until base older))) legal.2,
            legal.3,
          )
      | false ↦ λ t. rest
    ] refl
  where
    allowed : (r : Record) → IsLegal s ((l, r) ∷ older) → IsClosed (actions ((l, r) ∷ older)) base → Counts base (current older l) → IsAllowed s (records_until base older) l r
    allowed (Acq o n) legal closed now =
        let same = same_object s base o.0 older legal.0 (free_counted s base older l o.0 n (Acq o n) refl legal legal.1.1 legal.1.0 legal.1.1 closed now) in
        (same.0 ∙ legal.1.0, same.1 ∙ legal.1.1, legal.1.2)
    allowed (Rel o n) legal closed now =
        let same = same_object s base o.0 older legal.0 (held_counted s base older l o.0 legal.0 (closed_older (l, action (Rel o n)) (actions older) base closed) legal.1.0 now) in
        (same.0 ∙ legal.1.0, same.1 ∙ legal.1.1)
    allowed (WaitRel o n) legal closed now =
        let same = same_object s base o.0 older legal.0 (held_counted s base older l o.0 legal.0 (closed_older (l, action (WaitRel o n)) (actions older) base closed) legal.1.0 now) in
        (same.0 ∙ legal.1.0, same.1 ∙ legal.1.1)
    allowed (Put g before after) legal closed now =
        let closed_rest : IsClosed (actions older) base = closed_older (l, action (Put g before after)) (actions older) base closed in
        let same = same_object s base (s.guard g.0) older legal.0 (held_counted s base older l (s.guard g.0) legal.0 closed_rest legal.1.0 now) in
        let lt : ended (map action (lane l older)) < base l = omega (arith, now, ended_in_lane l older) in
        let kept : value s.first g.0 older ≡ kept_value s.first base g.0 older = all_kept_value s older base g.0 legal.0 (all_counted s older base g.0 l g before after legal closed refl lt) in
        (same.0 ∙ legal.1.0, value_until s.first base g.0 older ∙ sym kept ∙ legal.1.1)
