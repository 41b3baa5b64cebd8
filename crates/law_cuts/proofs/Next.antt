-- The earliest record that isn't applied may be applied next.
use Rattle.std.proofs.Common.{ℕ, zero, suc, ◌≡◌, ◌+◌, ◌<◌, ◌≤◌, ◌⊎◌, ◌==◌, if◌then◌else◌, List, [], ◌∷◌, ◌++◌, map, Option, Some, None, refl, sym, ap, ◌∙◌, subst, inl, inr, arith}
use Rattle.std.proofs.lemmas.Bool.{cond_both, cases_lt}
use Rattle.std.proofs.lemmas.Bool.Decides.{eqb_tells}
use Rattle.heap_model.specs.declared.record.Record.{Record}
use Rattle.heap_model.specs.declared.record.Record.TheVariants.{Acq, Rel, WaitRel, Put}
use Rattle.heap_model.specs.Setting.{Setting}
use Rattle.heap_model.specs.Log.{lane, holder, number, IsLegal, IsLaneWisePrefix}
use Rattle.heap_model.specs.Sections.{Action, Takes, Frees, Stores, action, actions, ended, Section, Did}
use Rattle.law_cuts.proofs.Lanes.{lane_actions}
use Rattle.law_cuts.proofs.Chain.{current, holder_took, took_had, Freed, freed_below}

-- what a section of one lane did, by the lane alone
abbrev DidIn : List Action → ℕ → Action → Type 0
DidIn [] k act = ⊥
DidIn (a ∷ older) k act = ((k ≡ ended older + 1) × (act ≡ a)) ⊎ DidIn older k act

to_lane : (log : List (ℕ × Action)) (a : Section) (act : Action) → Did log a act → DidIn (lane a.lane log) a.number act
to_lane [] a act h = elim h [ ]
to_lane (x ∷ older) a act (inl h) =
    let lanes : x.0 ≡ a.lane = sym (ap (λ s. s.lane) h.0) in
    elim (eqb_tells x.0 a.lane) [
      | inl e ↦ subst (λ b. DidIn (if b then x.1 ∷ lane a.lane older else lane a.lane older) a.number act) (sym e.0)
          (inl (ap (λ s. s.number) h.0 ∙ ap (λ k. ended (lane k older) + 1) lanes, h.1))
      | inr e ↦ absurd (e.1 lanes)
    ]
to_lane (x ∷ older) a act (inr h) = cond_both (x.0 == a.lane) (x.1 ∷ lane a.lane older) (lane a.lane older) (λ xs. DidIn xs a.number act)
    (λ e. inr (to_lane older a act h)) (λ e. to_lane older a act h)

from_lane : (log : List (ℕ × Action)) (l k : ℕ) (act : Action) → DidIn (lane l log) k act → Did log (record { lane = l; number = k }) act
from_lane [] l k act h = elim h [ ]
from_lane (x ∷ older) l k act h = elim (eqb_tells x.0 l) [
  | inl e ↦ elim (subst (λ b. DidIn (if b then x.1 ∷ lane l older else lane l older) k act) e.0 h) [
    | inl i ↦
        let numbers : k ≡ ended (lane x.0 older) + 1 = i.0 ∙ ap (λ j. ended (lane j older) + 1) (sym e.1) in
        let lanes : l ≡ x.0 = sym e.1 in
        inl ((λ j. record { lane = lanes j; number = numbers j }), i.1)
    | inr i ↦ inr (from_lane older l k act i)
  ]
  | inr e ↦ inr (from_lane older l k act (subst (λ b. DidIn (if b then x.1 ∷ lane l older else lane l older) k act) e.0 h))
]

did_more : (more older : List Record) (k : ℕ) (act : Action) → DidIn (map action older) k act → DidIn (map action (more ++ older)) k act
did_more [] older k act h = h
did_more (r ∷ more) older k act h = inr (did_more more older k act h)

did_same : (log other : List (ℕ × Record)) (a : Section) (act : Action) → lane a.lane log ≡ lane a.lane other → Did (actions log) a act → Did (actions other) a act
did_same log other a act e h = from_lane (actions other) a.lane a.number act
    (subst (λ x. DidIn x a.number act) (lane_actions a.lane log ∙ ap (map action) e ∙ sym (lane_actions a.lane other)) (to_lane (actions log) a act h))

did_longer : (log longer : List (ℕ × Record)) (a : Section) (act : Action) → IsLaneWisePrefix log longer → Did (actions log) a act → Did (actions longer) a act
did_longer log longer a act prefix h = from_lane (actions longer) a.lane a.number act
    (subst (λ x. DidIn x a.number act) (ap (map action) (sym (prefix a.lane).1) ∙ sym (lane_actions a.lane longer))
    (did_more (prefix a.lane).0 (lane a.lane log) a.number act (subst (λ x. DidIn x a.number act) (lane_actions a.lane log) (to_lane (actions log) a act h))))

never_takes : (o n : ℕ) (m : ℕ) (r : Record) (older : List (ℕ × Record)) (a : Section) → (Takes o n ≡ action r → ⊥) → Did (actions ((m, r) ∷ older)) a (Takes o n) → Did (actions older) a (Takes o n)
never_takes o n m r older a other (inl h) = absurd (other h.1)
never_takes o n m r older a other (inr h) = h

-- who takes an object at its number, takes it anew
takes_anew : (s : Setting) (older : List (ℕ × Record)) (o n : ℕ) (a : Section) → IsLegal s older → holder o older ≡ None → number o older ≡ n → Did (actions older) a (Takes o n) → ⊥
takes_anew s older o n a legal free e h = elim (took_had s older o n a legal h) [
  | inl p ↦ absurd (omega (arith, p.0))
  | inr p ↦ let owner : holder o older ≡ Some a.lane = p.1 in cc
]

-- An object is taken once under each number.
same_taker : (s : Setting) (log : List (ℕ × Record)) (o n : ℕ) (a b : Section) → IsLegal s log → Did (actions log) a (Takes o n) → Did (actions log) b (Takes o n) → a ≡ b
same_taker s [] o n a b legal h i = elim h [ ]
same_taker s ((m, Acq p k) ∷ older) o n a b legal (inl h) (inl i) = h.0 ∙ sym i.0
same_taker s ((m, Acq p k) ∷ older) o n a b legal (inl h) (inr i) =
    let act : Takes o n ≡ Takes p.0 k = h.1 in let objects : p.0 ≡ o = cc in let numbers : k ≡ n = cc in
    absurd (takes_anew s older o n b legal.0 (ap (λ x. holder x older) (sym objects) ∙ legal.1.0) (ap (λ x. number x older) (sym objects) ∙ legal.1.1 ∙ numbers) i)
same_taker s ((m, Acq p k) ∷ older) o n a b legal (inr h) (inl i) =
    let act : Takes o n ≡ Takes p.0 k = i.1 in let objects : p.0 ≡ o = cc in let numbers : k ≡ n = cc in
    absurd (takes_anew s older o n a legal.0 (ap (λ x. holder x older) (sym objects) ∙ legal.1.0) (ap (λ x. number x older) (sym objects) ∙ legal.1.1 ∙ numbers) h)
same_taker s ((m, Acq p k) ∷ older) o n a b legal (inr h) (inr i) = same_taker s older o n a b legal.0 h i
same_taker s ((m, Rel p k) ∷ older) o n a b legal h i =
    same_taker s older o n a b legal.0 (never_takes o n m (Rel p k) older a (λ e. cc) h) (never_takes o n m (Rel p k) older b (λ e. cc) i)
same_taker s ((m, WaitRel p k) ∷ older) o n a b legal h i =
    same_taker s older o n a b legal.0 (never_takes o n m (WaitRel p k) older a (λ e. cc) h) (never_takes o n m (WaitRel p k) older b (λ e. cc) i)
same_taker s ((m, Put f v w) ∷ older) o n a b legal h i =
    same_taker s older o n a b legal.0 (never_takes o n m (Put f v w) older a (λ e. cc) h) (never_takes o n m (Put f v w) older b (λ e. cc) i)

rises_by : (older : List (ℕ × Record)) (o p n : ℕ) → number p older ≡ n → number o older ≤ (if p == o then n + 1 else number o older)
rises_by older o p n e = elim (eqb_tells p o) [
  | inl t ↦ let same : number o older ≡ n = ap (λ x. number x older) (sym t.1) ∙ e in subst (λ b. number o older ≤ (if b then n + 1 else number o older)) (sym t.0) (omega arith)
  | inr t ↦ subst (λ b. number o older ≤ (if b then n + 1 else number o older)) (sym t.0) (omega arith)
]

pub number_rises : (s : Setting) (m : ℕ) (r : Record) (older : List (ℕ × Record)) (o : ℕ) → IsLegal s ((m, r) ∷ older) → number o older ≤ number o ((m, r) ∷ older)
number_rises s m (Acq p n) older o legal = omega arith
number_rises s m (Rel p n) older o legal = rises_by older o p.0 n legal.1.1
number_rises s m (WaitRel p n) older o legal = rises_by older o p.0 n legal.1.1
number_rises s m (Put f v w) older o legal = omega arith

freed_by : (older : List (ℕ × Record)) (o i p n : ℕ) → Frees o i ≡ Frees p n → i < (if p == o then n + 1 else number o older)
freed_by older o i p n act =
    let objects : p ≡ o = cc in let numbers : i ≡ n = cc in
    elim (eqb_tells p o) [ inl t ↦ subst (λ b. i < (if b then n + 1 else number o older)) (sym t.0) (omega arith) | inr t ↦ absurd (t.1 objects) ]

pub freed_past : (s : Setting) (log : List (ℕ × Record)) (o i : ℕ) (b : Section) → IsLegal s log → Did (actions log) b (Frees o i) → i < number o log
freed_past s [] o i b legal h = elim h [ ]
freed_past s ((m, Acq p n) ∷ older) o i b legal (inl h) = absurd (let act : Frees o i ≡ Takes p.0 n = h.1 in cc)
freed_past s ((m, Rel p n) ∷ older) o i b legal (inl h) = freed_by older o i p.0 n h.1
freed_past s ((m, WaitRel p n) ∷ older) o i b legal (inl h) = freed_by older o i p.0 n h.1
freed_past s ((m, Put f v w) ∷ older) o i b legal (inl h) = absurd (let act : Frees o i ≡ Stores = h.1 in cc)
freed_past s ((m, r) ∷ older) o i b legal (inr h) = omega (arith, freed_past s older o i b legal.0 h, number_rises s m r older o legal)

-- The numbers of a longer log are no less.
number_longer : (s : Setting) (log longer : List (ℕ × Record)) (o n : ℕ) → IsLegal s log → IsLegal s longer → IsLaneWisePrefix log longer → number o log ≡ n → n ≤ number o longer
number_longer s log longer o zero legal legal_longer prefix e = omega arith
number_longer s log longer o (suc n) legal legal_longer prefix e =
    let last : Freed log o n = freed_below s log o n legal (omega arith) in
    omega (arith, freed_past s longer o n last.by legal_longer (did_longer log longer last.by _ prefix last.freed))

pub legal_before : (s : Setting) (newer older : List (ℕ × Record)) → IsLegal s (newer ++ older) → IsLegal s older
legal_before s [] older legal = legal
legal_before s (x ∷ newer) older legal = legal_before s newer older legal.0

pub did_after : (newer older : List (ℕ × Record)) (a : Section) (act : Action) → Did (actions older) a act → Did (actions (newer ++ older)) a act
did_after [] older a act h = h
did_after (x ∷ newer) older a act h = inr (did_after newer older a act h)

-- where the lane takes the object next it is free, at that number
pub free_still : (s : Setting) (newer older applied : List (ℕ × Record)) (l o n : ℕ) (r : Record) → action r ≡ Takes o n →
    IsLegal s (newer ++ (l, r) ∷ older) → IsLegal s applied → IsLaneWisePrefix applied (newer ++ (l, r) ∷ older) → IsLaneWisePrefix older applied → lane l applied ≡ lane l older →
    holder o older ≡ None → number o older ≡ n → (holder o applied ≡ None) × (number o applied ≡ n)
free_still s newer older applied l o n r act legal legal_applied below above at free e =
    let all : List (ℕ × Record) = newer ++ (l, r) ∷ older in
    let mine : Did (actions all) (current older l) (Takes o n) = did_after newer ((l, r) ∷ older) (current older l) _ (inl (refl, sym act)) in
    let legal_older : IsLegal s older = (legal_before s newer ((l, r) ∷ older) legal).0 in
    let nobody : (b : Section) → Did (actions applied) b (Takes o n) → ⊥ = λ b h.
    let same : b ≡ current older l = same_taker s all o n b (current older l) legal (did_longer applied all b _ below h) mine in
    takes_anew s older o n (current older l) legal_older free e (did_same applied older (current older l) _ at (subst (λ x. Did (actions applied) x (Takes o n)) same h)) in
    let numbers : number o applied ≡ n = elim (cases_lt n (number o applied)) [
      | inl lt ↦ let f : Freed applied o n = freed_below s applied o n legal_applied lt in absurd (nobody f.by f.took)
      | inr le ↦ omega (arith, number_longer s older applied o n legal_older legal_applied above e)
    ] in
    let held_by : (v : Option ℕ) → holder o applied ≡ v → v ≡ None = λ v. elim v as (λ w. holder o applied ≡ w → w ≡ None) [
      | None ↦ λ h. refl
      | Some m ↦ λ h. absurd (nobody (current applied m) (subst (λ k. Did (actions applied) (current applied m) (Takes o k)) numbers (holder_took s applied o m legal_applied h)))
    ] in
    (held_by (holder o applied) refl, numbers)

-- what the lane holds it holds still, at that number
pub held_still : (s : Setting) (all older applied : List (ℕ × Record)) (l o n : ℕ) →
    IsLegal s all → IsLegal s older → IsLegal s applied → IsLaneWisePrefix applied all → IsLaneWisePrefix older applied → lane l applied ≡ lane l older →
    holder o older ≡ Some l → number o older ≡ n → (holder o applied ≡ Some l) × (number o applied ≡ n)
held_still s all older applied l o n legal legal_older legal_applied below above at held_by e =
    let took : Did (actions applied) (current older l) (Takes o n) = did_longer older applied (current older l) _ above (subst (λ k. Did (actions older) (current older l) (Takes o k)) e (holder_took s older o l legal_older held_by)) in
    let numbers : number o applied ≡ n = elim (cases_lt n (number o applied)) [
      | inl lt ↦
          let f : Freed applied o n = freed_below s applied o n legal_applied lt in
          let same : f.by ≡ current older l = same_taker s applied o n f.by (current older l) legal_applied f.took took in
          absurd (omega (arith, freed_past s older o n (current older l) legal_older (did_same applied older (current older l) _ at (subst (λ x. Did (actions applied) x (Frees o n)) same f.freed))))
      | inr le ↦ omega (arith, number_longer s older applied o n legal_older legal_applied above e)
    ] in
    elim (took_had s applied o n (current older l) legal_applied took) [
      | inl p ↦ absurd (omega (arith, p.0))
      | inr p ↦ (p.1, numbers)
    ]
