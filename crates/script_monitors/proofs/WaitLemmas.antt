-- The threads of a wait set, and what waking them makes of a state.
use Rattle.std.proofs.Common.{◌≡◌, ◌↔◌, ℕ, suc, ◌+◌, ◌<◌, ◌≤◌, ◌==◌, ◌++◌, ◌∷◌, [], true, if◌then◌else◌, List, All, Contains, Some, None, refl, sym, ap, ◌∙◌, subst, inl, inr, arith, ltb, length, get_or}
use Prim.Native.Nat.{zero}
use Rattle.std.proofs.Math.Numerals.{add-one}
use Rattle.std.proofs.lemmas.Bool.{cond_both, cond-true, cond-false, cases_eq, cases_lt, lt-ltb, le-ltb}
use Rattle.std.proofs.lemmas.Bool.Decides.{eqb_tells}
use Rattle.std.proofs.lemmas.List.Elements.{All-nil, All-append, All-push, All-contains, Contains-append_left, Contains-push}
use Rattle.std.proofs.lemmas.List.FromFn.{filter_of_map_range_with_len_more}
use Rattle.heap_model.specs.declared.ids.Lane.{Lane}
use Rattle.heap_model.specs.State.{State, Waiting, Awake, InSet, Woken, IsInSet, with_at, woken_from}
use Rattle.heap_model.specs.Events.{MayNotify}
use Rattle.heap_model.specs.State as state
use Rattle.script_monitors.specs.Table.{Table, lanes_of, state_of}
use Rattle.script_monitors.specs.WaitSets.{is_in_set, wait_set, least_of, waiting_in}
use Rattle.script_monitors.specs.declared.pause.Pause.TheVariants as Pauses
use Rattle.std.proofs.lemmas.List.{get_or_past}

-- the test and the fact
pub in_set-true : (o : ℕ) (w : Waiting) → is_in_set o w ≡ true → IsInSet o w
in_set-true o Awake e = absurd cc
in_set-true o (InSet p c) e = elim (eqb_tells p o) [ inl t ↦ t.1 | inr f ↦ absurd (let t = f.0 in cc) ]
in_set-true o (Woken p c) e = absurd cc

pub in_set-from : (o : ℕ) (w : Waiting) → IsInSet o w → is_in_set o w ≡ true
in_set-from o Awake h = absurd h
in_set-from o (InSet p c) h = elim (eqb_tells p o) [ inl t ↦ t.0 | inr f ↦ absurd (f.1 h) ]
in_set-from o (Woken p c) h = absurd h

module _ (s : State) (o : ℕ) where
  -- the set with one lane more
  pub wait_set-more : (n : ℕ) → wait_set (n + 1) s o ≡ wait_set n s o ++ (if is_in_set o (s.waiting n) then record { 0 = n } ∷ [] else [])
  wait_set-more n = filter_of_map_range_with_len_more (λ (l : Lane). is_in_set o (s.waiting l.0)) (λ l. record { 0 = l }) 0 n n (omega arith)

  -- its lanes are below, and in the set
  member-later : (n : ℕ) (us : List Lane) → All (λ (u : Lane). (u.0 < n) × IsInSet o (s.waiting u.0)) us → All (λ (u : Lane). (u.0 < n + 1) × IsInSet o (s.waiting u.0)) us
  member-later n us all = λ k d in'. let h = all k d in' in (omega (arith, h.0), h.1)

  pub members-are : (n : ℕ) → All (λ (u : Lane). (u.0 < n) × IsInSet o (s.waiting u.0)) (wait_set n s o)
  members-are zero = All-nil _
  members-are (suc n) = subst (λ k. All (λ (u : Lane). (u.0 < k) × IsInSet o (s.waiting u.0)) (wait_set k s o)) (add-one n)
      (subst (λ us. All (λ (u : Lane). (u.0 < n + 1) × IsInSet o (s.waiting u.0)) us) (sym (wait_set-more n))
      (All-append (λ (u : Lane). (u.0 < n + 1) × IsInSet o (s.waiting u.0)) (wait_set n s o) _ (member-later n (wait_set n s o) (members-are n))
      (cond_both (is_in_set o (s.waiting n)) (record { 0 = n } ∷ []) [] (λ us. All (λ (u : Lane). (u.0 < n + 1) × IsInSet o (s.waiting u.0)) us)
      (λ e. All-push (λ (u : Lane). (u.0 < n + 1) × IsInSet o (s.waiting u.0)) [] (record { 0 = n }) (All-nil _) (let below : n < n + 1 = omega arith in (below, in_set-true o (s.waiting n) e)))
      (λ e. All-nil _))))

  -- and all that are in the set are there
  pub member-from : (n : ℕ) (u : Lane) → u.0 < n → IsInSet o (s.waiting u.0) → Contains (wait_set n s o) u
  member-from zero u in' h = absurd (let none : ⊥ = omega (arith, in') in none)
  member-from (suc n) u in' h = subst (λ k. Contains (wait_set k s o) u) (add-one n) (subst (λ us. Contains us u) (sym (wait_set-more n)) (elim (cases_eq u.0 n) [
    | inl e ↦
        let here : is_in_set o (s.waiting n) ≡ true = in_set-from o (s.waiting n) (subst (λ k. IsInSet o (s.waiting k)) e h) in
        let same : record { 0 = n } ≡ u = ap (λ k. record { 0 = k }) (sym e) in
        subst (λ us. Contains (wait_set n s o ++ us) u) (sym (cond-true (is_in_set o (s.waiting n)) (record { 0 = n } ∷ []) [] here))
        (subst (λ (v : Lane). Contains (wait_set n s o ++ v ∷ []) u) (sym same) (Contains-push (wait_set n s o) u))
    | inr ne ↦ Contains-append_left (wait_set n s o) _ u (member-from n u (omega arith) h)
  ]))

  module _ (n : ℕ) (above : (t : ℕ) → n ≤ t → s.waiting t ≡ Awake) where
    -- whoever is in the set is a thread that there is
    below-from : (t : ℕ) → IsInSet o (s.waiting t) → t < n
    below-from t h = elim (cases_lt t n) [ inl below ↦ below | inr past ↦ absurd (subst (λ w. IsInSet o w) (above t past) h) ]

    pub all-may : (u : Lane) → Contains (wait_set n s o) u ↔ IsInSet o (s.waiting u.0)
    all-may u = (λ h. (All-contains (λ (v : Lane). (v.0 < n) × IsInSet o (s.waiting v.0)) (wait_set n s o) u (members-are n) h).1, λ h. member-from n u (below-from u.0 h) h)

    -- the least is in the set, and where there is none nobody is
    pub least-may : MayNotify s o (least_of (wait_set n s o))
    least-may = by (wait_set n s o) refl
      where
        by : (us : List Lane) → wait_set n s o ≡ us → MayNotify s o (least_of us)
        by [] e = λ t h. let there = subst (λ us. Contains us (record { 0 = t })) e (member-from n (record { 0 = t }) (below-from t h) h) in
            let none : ⊥ = omega (arith, there.1) in none
        by (u ∷ us) e = ((subst (λ vs. All (λ (v : Lane). (v.0 < n) × IsInSet o (s.waiting v.0)) vs) e (members-are n)) 0 u (omega arith)).1

  -- the least is a thread that there is
  pub least-below : (n : ℕ) (u : Lane) (us : List Lane) → wait_set n s o ≡ u ∷ us → u.0 < n
  least-below n u us e = ((subst (λ vs. All (λ (v : Lane). (v.0 < n) × IsInSet o (s.waiting v.0)) vs) e (members-are n)) 0 u (omega arith)).0

-- the threads below k are removed from the object's wait set
abbrev pub woken_below : (ℕ → Waiting) → (o k : ℕ) → ℕ → Waiting
woken_below w o k u = if ltb u k then woken_from o (w u) else w u

module _ (w : ℕ → Waiting) (o : ℕ) where
  is_woken : (k u : ℕ) → u < k → woken_below w o k u ≡ woken_from o (w u)
  is_woken k u h = cond-true (ltb u k) (woken_from o (w u)) (w u) (lt-ltb u k h)

  is_kept : (k u : ℕ) → k ≤ u → woken_below w o k u ≡ w u
  is_kept k u h = cond-false (ltb u k) (woken_from o (w u)) (w u) (le-ltb u k h)

  pub woken-none : woken_below w o 0 ≡ w
  woken-none = let each : (u : ℕ) → woken_below w o 0 u ≡ w u = λ u. is_kept 0 u (omega arith) in λ j u. each u j

  pub woken-more : (k : ℕ) → with_at (woken_below w o k) k (woken_from o (woken_below w o k k)) ≡ woken_below w o (k + 1)
  woken-more k = let each : (u : ℕ) → with_at (woken_below w o k) k (woken_from o (woken_below w o k k)) u ≡ woken_below w o (k + 1) u = at in λ j u. each u j
    where
      at : (u : ℕ) → with_at (woken_below w o k) k (woken_from o (woken_below w o k k)) u ≡ woken_below w o (k + 1) u
      at u = elim (eqb_tells k u) [
        | inl e ↦ cond-true (k == u) (woken_from o (woken_below w o k k)) (woken_below w o k u) e.0
            ∙ ap (woken_from o) (is_kept k k (omega arith)) ∙ ap (λ v. woken_from o (w v)) e.1 ∙ sym (is_woken (k + 1) u (omega (arith, e.1)))
        | inr e ↦ cond-false (k == u) (woken_from o (woken_below w o k k)) (woken_below w o k u) e.0 ∙ elim (cases_lt u k) [
          | inl below ↦ is_woken k u below ∙ sym (is_woken (k + 1) u (omega arith))
          | inr past ↦ is_kept k u past ∙ sym (is_kept (k + 1) u (omega (arith, e.1, past)))
        ]
      ]

  pub woken-all : (n : ℕ) → ((t : ℕ) → n ≤ t → w t ≡ Awake) → woken_below w o n ≡ λ u. woken_from o (w u)
  woken-all n above = let each : (u : ℕ) → woken_below w o n u ≡ woken_from o (w u) = at in λ j u. each u j
    where
      at : (u : ℕ) → woken_below w o n u ≡ woken_from o (w u)
      at u = elim (cases_lt u n) [
        | inl below ↦ is_woken n u below
        | inr past ↦ is_kept n u past ∙ above u past ∙ sym (ap (woken_from o) (above u past))
      ]

-- a thread that there isn't is awake
pub beyond-awake : (t : Table) (u : ℕ) → lanes_of t ≤ u → (state_of t).waiting u ≡ state.Awake
beyond-awake t u h = ap waiting_in (get_or_past t.pauses u Pauses.Awake h)

-- the first of a list
pub least-none : (us : List Lane) → length us ≡ 0 → least_of us ≡ None
least-none [] e = refl
least-none (u ∷ us) e = absurd (let none : ⊥ = omega (arith, e) in none)

pub least-some : (us : List Lane) (d : Lane) → 0 < length us → least_of us ≡ Some (get_or us 0 d)
least-some [] d h = absurd (let none : ⊥ = omega (arith, h) in none)
least-some (u ∷ us) d h = refl

-- all of a wait set are threads that there are
pub set-below : (s : State) (o n : ℕ) → All (λ (u : Lane). u.0 < n) (wait_set n s o)
set-below s o n = λ k d in'. (members-are s o n k d in').0
