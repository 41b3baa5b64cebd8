-- Who had an object under which number.
use Rattle.std.proofs.Common.{ℕ, zero, suc, ◌≡◌, ◌≢◌, ◌+◌, ◌<◌, ◌≤◌, ◌⊎◌, ◌==◌, if◌then◌else◌, true, false, List, [], ◌∷◌, length, Some, None, refl, sym, ap, ◌∙◌, subst, inl, inr, arith}
use Rattle.std.proofs.lemmas.Bool.{cond_both, eqb-true, ne_eqb, cases_eq}
use Rattle.std.proofs.lemmas.Bool.Decides.{eqb_tells}
use Rattle.heap_model.specs.declared.record.Record.{Record}
use Rattle.heap_model.specs.declared.record.Record.TheVariants.{Acq, Rel, WaitRel, Put}
use Rattle.heap_model.specs.Setting.{Setting}
use Rattle.heap_model.specs.Log.{lane, holder, number, IsLegal}
use Rattle.heap_model.specs.Sections.{Action, Takes, Frees, Stores, action, actions, without, holding, ended, Section, Did, Took}
use Rattle.heap_model.specs.Cuts.{Counts, IsClosed}

abbrev pub In : ℕ → List ℕ → Type 0
In o [] = ⊥
In o (p ∷ ps) = (p ≡ o) ⊎ In o ps

pub in_without : (o p : ℕ) (ps : List ℕ) → p ≢ o → In o ps → In o (without p ps)
in_without o p [] differ h = elim h [ ]
in_without o p (q ∷ qs) differ (inl h) = cond_both (q == p) qs (q ∷ without p qs) (λ xs. In o xs) (λ e. absurd (differ (sym (eqb-true q p e) ∙ h))) (λ e. inl h)
in_without o p (q ∷ qs) differ (inr h) = cond_both (q == p) qs (q ∷ without p qs) (λ xs. In o xs) (λ e. h) (λ e. inr (in_without o p qs differ h))

in_some : (o : ℕ) (ps : List ℕ) → In o ps → (length ps == 0) ≡ false
in_some o [] h = elim h [ ]
in_some o (p ∷ ps) h = ne_eqb _ _ (λ e. omega arith)

-- a lane's section goes on where it still holds an object
ended_frees : (o p n m l : ℕ) (log : List (ℕ × Action)) → p ≢ o → In o (holding (lane l log)) → ended (lane l ((m, Frees p n) ∷ log)) ≡ ended (lane l log)
ended_frees o p n m l log differ h = elim (m == l) as (λ b. ended (if b then Frees p n ∷ lane l log else lane l log) ≡ ended (lane l log)) [
  | true ↦ ap (λ b. if b then ended (lane l log) + 1 else ended (lane l log)) (in_some o _ (in_without o p _ differ h))
  | false ↦ refl
]

ended_takes : (p n m l : ℕ) (log : List (ℕ × Action)) → ended (lane l ((m, Takes p n) ∷ log)) ≡ ended (lane l log)
ended_takes p n m l log = elim (m == l) as (λ b. ended (if b then Takes p n ∷ lane l log else lane l log) ≡ ended (lane l log)) [ true ↦ refl | false ↦ refl ]

ended_stores : (m l : ℕ) (log : List (ℕ × Action)) → ended (lane l ((m, Stores) ∷ log)) ≡ ended (lane l log)
ended_stores m l log = elim (m == l) as (λ b. ended (if b then Stores ∷ lane l log else lane l log) ≡ ended (lane l log)) [ true ↦ refl | false ↦ refl ]

-- The holder's lane holds the object.
pub holder_holds : (log : List (ℕ × Record)) (o l : ℕ) → holder o log ≡ Some l → In o (holding (lane l (actions log)))
holder_holds [] o l h = cc
holder_holds ((m, Acq p n) ∷ older) o l h = elim (eqb_tells p.0 o) [
  | inl e ↦
      let same : Some m ≡ Some l = subst (λ b. (if b then Some m else holder o older) ≡ Some l) e.0 h in
      let ml : m ≡ l = cc in
      elim (eqb_tells m l) [
        | inl d ↦ subst (λ b. In o (holding (if b then Takes p.0 n ∷ lane l (actions older) else lane l (actions older)))) (sym d.0) (inl e.1)
        | inr d ↦ absurd (d.1 ml)
      ]
  | inr e ↦
      let before : In o (holding (lane l (actions older))) = holder_holds older o l (subst (λ b. (if b then Some m else holder o older) ≡ Some l) e.0 h) in
      elim (m == l) as (λ b. In o (holding (if b then Takes p.0 n ∷ lane l (actions older) else lane l (actions older)))) [ true ↦ inr before | false ↦ before ]
]
holder_holds ((m, Rel p n) ∷ older) o l h = elim (eqb_tells p.0 o) [
  | inl e ↦ let never : None ≡ Some l = subst (λ b. (if b then None else holder o older) ≡ Some l) e.0 h in absurd cc
  | inr e ↦
      let before : In o (holding (lane l (actions older))) = holder_holds older o l (subst (λ b. (if b then None else holder o older) ≡ Some l) e.0 h) in
      elim (m == l) as (λ b. In o (holding (if b then Frees p.0 n ∷ lane l (actions older) else lane l (actions older)))) [ true ↦ in_without o p.0 _ e.1 before | false ↦ before ]
]
holder_holds ((m, WaitRel p n) ∷ older) o l h = elim (eqb_tells p.0 o) [
  | inl e ↦ let never : None ≡ Some l = subst (λ b. (if b then None else holder o older) ≡ Some l) e.0 h in absurd cc
  | inr e ↦
      let before : In o (holding (lane l (actions older))) = holder_holds older o l (subst (λ b. (if b then None else holder o older) ≡ Some l) e.0 h) in
      elim (m == l) as (λ b. In o (holding (if b then Frees p.0 n ∷ lane l (actions older) else lane l (actions older)))) [ true ↦ in_without o p.0 _ e.1 before | false ↦ before ]
]
holder_holds ((m, Put f before after) ∷ older) o l h =
    let was : In o (holding (lane l (actions older))) = holder_holds older o l h in
    elim (m == l) as (λ b. In o (holding (if b then Stores ∷ lane l (actions older) else lane l (actions older)))) [ true ↦ was | false ↦ was ]

pub holds_in : (s : Setting) (log : List (ℕ × Record)) (o l : ℕ) → IsLegal s log → holder o log ≡ Some l → In o (holding (lane l (actions log)))
holds_in s log o l legal h = holder_holds log o l h

-- Section a had o under number n: it freed it, or holds it still and goes on.
abbrev pub Had : List (ℕ × Record) → ℕ → Section → ℕ → Type 0
Had log o a n = ((n < number o log) × Did (actions log) a (Frees o n)) ⊎ ((n ≡ number o log) × (holder o log ≡ Some a.lane) × (a.number ≡ ended (lane a.lane (actions log)) + 1))

had_freed : (s : Setting) (older : List (ℕ × Record)) (o : ℕ) (a : Section) (i m p n : ℕ) → IsLegal s older → (holder p older ≡ Some m) → (number p older ≡ n) → Had older o a i →
    ((i < (if p == o then n + 1 else number o older)) × Did ((m, Frees p n) ∷ actions older) a (Frees o i))
    ⊎ ((i ≡ (if p == o then n + 1 else number o older)) × ((if p == o then None else holder o older) ≡ Some a.lane) × (a.number ≡ ended (lane a.lane ((m, Frees p n) ∷ actions older)) + 1))
had_freed s older o a i m p n legal mine e h = elim (eqb_tells p o) [
  | inl t ↦
      let same : number o older ≡ n = ap (λ x. number x older) (sym t.1) ∙ e in
      let held_by : holder o older ≡ Some m = ap (λ x. holder x older) (sym t.1) ∙ mine in
      inl (elim h [
        | inl past ↦ (subst (λ b. i < (if b then n + 1 else number o older)) (sym t.0) (omega (arith, past.0)), inr past.1)
        | inr now ↦
            let owner : holder o older ≡ Some a.lane = now.1 in
            let lanes : a.lane ≡ m = cc in
            let numbers : a.number ≡ ended (lane m (actions older)) + 1 = now.2 ∙ ap (λ l. ended (lane l (actions older)) + 1) lanes in
            let in_now : i ≡ n = now.0 ∙ same in (
              subst (λ b. i < (if b then n + 1 else number o older)) (sym t.0) (omega arith),
              inl ((λ j. record { lane = lanes j; number = numbers j }), ap (λ x. Frees x i) (sym t.1) ∙ ap (Frees p) in_now),
            )
      ])
  | inr t ↦ elim h [
    | inl past ↦ inl (subst (λ b. i < (if b then n + 1 else number o older)) (sym t.0) past.0, inr past.1)
    | inr now ↦ inr (
      now.0 ∙ ap (λ b. if b then n + 1 else number o older) (sym t.0),
      ap (λ b. if b then None else holder o older) t.0 ∙ now.1,
      now.2 ∙ ap (λ k. k + 1) (sym (ended_frees o p n m a.lane (actions older) t.1 (holds_in s older o a.lane legal now.1))),
    )
  ]
]

-- Who had an object under a number has had it ever since.
had_on : (s : Setting) (m : ℕ) (r : Record) (older : List (ℕ × Record)) (o : ℕ) (a : Section) (i : ℕ) → IsLegal s ((m, r) ∷ older) → Had older o a i → Had ((m, r) ∷ older) o a i
had_on s m (Acq p n) older o a i legal (inl past) = inl (past.0, inr past.1)
had_on s m (Acq p n) older o a i legal (inr now) = elim (eqb_tells p.0 o) [
  | inl t ↦
      let free : holder o older ≡ None = ap (λ x. holder x older) (sym t.1) ∙ legal.1.0 in
      let owner : holder o older ≡ Some a.lane = now.1 in
      absurd cc
  | inr t ↦ inr (now.0, ap (λ b. if b then Some m else holder o older) t.0 ∙ now.1, now.2 ∙ ap (λ k. k + 1) (sym (ended_takes p.0 n m a.lane (actions older))))
]
had_on s m (Rel p n) older o a i legal h = had_freed s older o a i m p.0 n legal.0 legal.1.0 legal.1.1 h
had_on s m (WaitRel p n) older o a i legal h = had_freed s older o a i m p.0 n legal.0 legal.1.0 legal.1.1 h
had_on s m (Put f before after) older o a i legal (inl past) = inl (past.0, inr past.1)
had_on s m (Put f before after) older o a i legal (inr now) = inr (now.0, now.1, now.2 ∙ ap (λ k. k + 1) (sym (ended_stores m a.lane (actions older))))

-- The section that took an object had it.
pub took_had : (s : Setting) (log : List (ℕ × Record)) (o n : ℕ) (a : Section) → IsLegal s log → Did (actions log) a (Takes o n) → Had log o a n
took_had s [] o n a legal h = elim h [ ]
took_had s ((m, Acq p k) ∷ older) o n a legal (inl h) =
    let act : Takes o n ≡ Takes p.0 k = h.1 in
    let objects : o ≡ p.0 = cc in
    let numbers : n ≡ k = cc in
    let lanes : a.lane ≡ m = ap (λ x. x.lane) h.0 in
    inr (
      numbers ∙ sym legal.1.1 ∙ ap (λ x. number x older) (sym objects),
      elim (eqb_tells p.0 o) [ inl t ↦ ap (λ b. if b then Some m else holder o older) t.0 ∙ ap Some (sym lanes) | inr t ↦ absurd (t.1 (sym objects)) ],
      ap (λ x. x.number) h.0 ∙ ap (λ l. ended (lane l (actions older)) + 1) (sym lanes) ∙ ap (λ x. x + 1) (sym (ended_takes p.0 k m a.lane (actions older))),
    )
took_had s ((m, Acq p k) ∷ older) o n a legal (inr h) = had_on s m (Acq p k) older o a n legal (took_had s older o n a legal.0 h)
took_had s ((m, Rel p k) ∷ older) o n a legal (inl h) = absurd (let act : Takes o n ≡ Frees p.0 k = h.1 in cc)
took_had s ((m, Rel p k) ∷ older) o n a legal (inr h) = had_on s m (Rel p k) older o a n legal (took_had s older o n a legal.0 h)
took_had s ((m, WaitRel p k) ∷ older) o n a legal (inl h) = absurd (let act : Takes o n ≡ Frees p.0 k = h.1 in cc)
took_had s ((m, WaitRel p k) ∷ older) o n a legal (inr h) = had_on s m (WaitRel p k) older o a n legal (took_had s older o n a legal.0 h)
took_had s ((m, Put f before after) ∷ older) o n a legal (inl h) = absurd (let act : Takes o n ≡ Stores = h.1 in cc)
took_had s ((m, Put f before after) ∷ older) o n a legal (inr h) = had_on s m (Put f before after) older o a n legal (took_had s older o n a legal.0 h)

-- the section of a lane that goes on
abbrev pub current : List (ℕ × Record) → ℕ → Section
current log l = record { lane = l; number = ended (lane l (actions log)) + 1 }

-- The holder's section took the object at its number.
pub holder_took : (s : Setting) (log : List (ℕ × Record)) (o l : ℕ) → IsLegal s log → holder o log ≡ Some l → Did (actions log) (current log l) (Takes o (number o log))
holder_took s [] o l legal h = absurd cc
holder_took s ((m, Acq p n) ∷ older) o l legal h = elim (eqb_tells p.0 o) [
  | inl e ↦
      let same : Some m ≡ Some l = subst (λ b. (if b then Some m else holder o older) ≡ Some l) e.0 h in
      let ml : l ≡ m = cc in
      inl (
        (λ i. record { lane = ml i; number = ended_takes p.0 n m (ml i) (actions older) i + 1 }),
        ap (λ x. Takes x (number o older)) (sym e.1) ∙ ap (Takes p.0) (ap (λ x. number x older) (sym e.1) ∙ legal.1.1),
      )
  | inr e ↦ inr (subst (λ k. Did (actions older) (record { lane = l; number = k + 1 }) (Takes o (number o older))) (sym (ended_takes p.0 n m l (actions older)))
      (holder_took s older o l legal.0 (subst (λ b. (if b then Some m else holder o older) ≡ Some l) e.0 h)))
]
holder_took s ((m, Rel p n) ∷ older) o l legal h = elim (eqb_tells p.0 o) [
  | inl e ↦ absurd (let never : None ≡ Some l = subst (λ b. (if b then None else holder o older) ≡ Some l) e.0 h in cc)
  | inr e ↦
      let was : holder o older ≡ Some l = subst (λ b. (if b then None else holder o older) ≡ Some l) e.0 h in
      inr (subst (λ b. Did (actions older) (current ((m, Rel p n) ∷ older) l) (Takes o (if b then n + 1 else number o older))) (sym e.0)
      (subst (λ k. Did (actions older) (record { lane = l; number = k + 1 }) (Takes o (number o older))) (sym (ended_frees o p.0 n m l (actions older) e.1 (holds_in s older o l legal.0 was)))
      (holder_took s older o l legal.0 was)))
]
holder_took s ((m, WaitRel p n) ∷ older) o l legal h = elim (eqb_tells p.0 o) [
  | inl e ↦ absurd (let never : None ≡ Some l = subst (λ b. (if b then None else holder o older) ≡ Some l) e.0 h in cc)
  | inr e ↦
      let was : holder o older ≡ Some l = subst (λ b. (if b then None else holder o older) ≡ Some l) e.0 h in
      inr (subst (λ b. Did (actions older) (current ((m, WaitRel p n) ∷ older) l) (Takes o (if b then n + 1 else number o older))) (sym e.0)
      (subst (λ k. Did (actions older) (record { lane = l; number = k + 1 }) (Takes o (number o older))) (sym (ended_frees o p.0 n m l (actions older) e.1 (holds_in s older o l legal.0 was)))
      (holder_took s older o l legal.0 was)))
]
holder_took s ((m, Put f before after) ∷ older) o l legal h =
    inr (subst (λ k. Did (actions older) (record { lane = l; number = k + 1 }) (Takes o (number o older))) (sym (ended_stores m l (actions older))) (holder_took s older o l legal.0 h))

-- Each number below an object's own was freed by the section that took it.
pub record Freed (log : List (ℕ × Record)) (o i : ℕ) : Type 0 where
  pub by : Section
  pub freed : Did (actions log) by (Frees o i)
  pub took : Did (actions log) by (Takes o i)

abbrev pub freed_more : (x : ℕ × Record) (older : List (ℕ × Record)) (o i : ℕ) → Freed older o i → Freed (x ∷ older) o i
freed_more x older o i f = record { by = f.by; freed = inr f.freed; took = inr f.took }

freed_now : (s : Setting) (older : List (ℕ × Record)) (o i m p n : ℕ) → IsLegal s older → (holder p older ≡ Some m) → (number p older ≡ n) → (i < number o older → Freed older o i) →
    (r : Record) → (action r ≡ Frees p n) → i < (if p == o then n + 1 else number o older) → Freed ((m, r) ∷ older) o i
freed_now s older o i m p n legal mine e before r act lt = elim (eqb_tells p o) [
  | inl t ↦
      let now : i < n + 1 = subst (λ b. i < (if b then n + 1 else number o older)) t.0 lt in
      let same : number o older ≡ n = ap (λ x. number x older) (sym t.1) ∙ e in
      elim (cases_eq i n) [
        | inl d ↦ record {
          by = current older m;
          freed = inl (refl, ap (λ x. Frees x i) (sym t.1) ∙ ap (Frees p) d ∙ sym act);
          took = inr (subst (λ k. Did (actions older) (current older m) (Takes o k)) (same ∙ sym d) (holder_took s older o m legal (ap (λ x. holder x older) (sym t.1) ∙ mine)));
        }
        | inr d ↦ freed_more (m, r) older o i (before (omega arith))
      ]
  | inr t ↦ freed_more (m, r) older o i (before (subst (λ b. i < (if b then n + 1 else number o older)) t.0 lt))
]

pub freed_below : (s : Setting) (log : List (ℕ × Record)) (o i : ℕ) → IsLegal s log → i < number o log → Freed log o i
freed_below s [] o i legal lt = absurd (omega arith)
freed_below s ((m, Acq p n) ∷ older) o i legal lt = freed_more (m, Acq p n) older o i (freed_below s older o i legal.0 lt)
freed_below s ((m, Rel p n) ∷ older) o i legal lt = freed_now s older o i m p.0 n legal.0 legal.1.0 legal.1.1 (freed_below s older o i legal.0) (Rel p n) refl lt
freed_below s ((m, WaitRel p n) ∷ older) o i legal lt = freed_now s older o i m p.0 n legal.0 legal.1.0 legal.1.1 (freed_below s older o i legal.0) (WaitRel p n) refl lt
freed_below s ((m, Put f before after) ∷ older) o i legal lt = freed_more (m, Put f before after) older o i (freed_below s older o i legal.0 lt)

pub same_section : (a b : Section) → (a ≡ b) ⊎ (a ≢ b)
same_section a b = elim (cases_eq a.lane b.lane) [
  | inl e ↦ elim (cases_eq a.number b.number) [
    | inl d ↦ inl (λ i. record { lane = e i; number = d i })
    | inr d ↦ inr (λ h. d (ap (λ x. x.number) h))
  ]
  | inr e ↦ inr (λ h. e (ap (λ x. x.lane) h))
]

-- A closed cut counts whoever freed an object before a counted section took it.
pub closed_down : (s : Setting) (log : List (ℕ × Record)) (cut : ℕ → ℕ) (o n : ℕ) (a : Section) → IsLegal s log → IsClosed (actions log) cut → Did (actions log) a (Takes o n) → Counts cut a → n ≤ number o log →
    (i : ℕ) (b : Section) → i < n → Did (actions log) b (Frees o i) → Counts cut b
closed_down s log cut o zero a legal closed took counted le i b lt freed = absurd (omega arith)
closed_down s log cut o (suc n) a legal closed took counted le i b lt freed =
    let by_now : (c : Section) → Did (actions log) c (Frees o n) → Counts cut c = λ c done. elim (same_section a c) [
      | inl e ↦ subst (λ x. Counts cut x) e counted
      | inr e ↦ closed a c counted (Took o n (let up : suc n ≡ n + 1 = omega arith in subst (λ k. Did (actions log) a (Takes o k)) up took) done e)
    ] in
    let last : Freed log o n = freed_below s log o n legal (omega arith) in
    elim (cases_eq i n) [
      | inl e ↦ by_now b (subst (λ k. Did (actions log) b (Frees o k)) e freed)
      | inr e ↦ closed_down s log cut o n last.by legal closed last.took (by_now last.by last.freed) (omega arith) i b (omega arith) freed
    ]
