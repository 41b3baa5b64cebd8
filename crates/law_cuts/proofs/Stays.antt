-- A whole closed cut stays one as the log grows.
use Rattle.std.proofs.Common.{ℕ, ◌≡◌, ◌+◌, ◌<◌, ◌≤◌, ◌==◌, if◌then◌else◌, true, false, List, [], ◌∷◌, ◌++◌, sym, ap, ◌∙◌, subst, inl, inr, arith}
use Rattle.heap_model.specs.declared.record.Record.{Record}
use Rattle.heap_model.specs.declared.record.Record.TheVariants.{Acq, Rel, WaitRel, Put}
use Rattle.heap_model.specs.Setting.{Setting}
use Rattle.heap_model.specs.Log.{lane, number, IsLegal}
use Rattle.heap_model.specs.Sections.{Action, Takes, Frees, Stores, action, actions, ended, Section, Did, Earlier, Took}
use Rattle.heap_model.specs.Cuts.{Counts, IsWhole, IsClosed}
use Rattle.law_cuts.proofs.Stores.{ended_rises}
use Rattle.law_cuts.proofs.Chain.{took_had, Freed, freed_below}
use Rattle.law_cuts.proofs.Next.{freed_past, legal_before, did_after}

ended_cons : (x : ℕ × Action) (log : List (ℕ × Action)) (l : ℕ) → ended (lane l log) ≤ ended (lane l (x ∷ log))
ended_cons x log l = elim (x.0 == l) as (λ b. ended (lane l log) ≤ ended (if b then x.1 ∷ lane l log else lane l log)) [ true ↦ ended_rises x.1 (lane l log) | false ↦ omega arith ]

ended_after : (newer log : List (ℕ × Record)) (l : ℕ) → ended (lane l (actions log)) ≤ ended (lane l (actions (newer ++ log)))
ended_after [] log l = omega arith
ended_after ((m, r) ∷ newer) log l = omega (arith, ended_after newer log l, ended_cons (m, action r) (actions (newer ++ log)) l)

-- what a section that has ended did stands already
did_ended : (newer log : List (ℕ × Record)) (a : Section) (act : Action) → Did (actions (newer ++ log)) a act → a.number ≤ ended (lane a.lane (actions log)) → Did (actions log) a act
did_ended [] log a act h le = h
did_ended ((m, r) ∷ newer) log a act (inr h) le = did_ended newer log a act h le
did_ended ((m, r) ∷ newer) log a act (inl h) le =
    let numbers : a.number ≡ ended (lane m (actions (newer ++ log))) + 1 = ap (λ s. s.number) h.0 in
    let lanes : ended (lane a.lane (actions (newer ++ log))) ≡ ended (lane m (actions (newer ++ log))) = ap (λ s. ended (lane s.lane (actions (newer ++ log)))) h.0 in
    absurd (omega (arith, ended_after newer log a.lane))

frees_anew : (s : Setting) (older : List (ℕ × Record)) (o n p k : ℕ) (b : Section) → IsLegal s older → number p older ≡ k → Frees o n ≡ Frees p k → Did (actions older) b (Frees o n) → ⊥
frees_anew s older o n p k b legal e act h =
    let objects : p ≡ o = cc in let numbers : n ≡ k = cc in
    let same : number o older ≡ k = ap (λ x. number x older) (sym objects) ∙ e in
    omega (arith, freed_past s older o n b legal h)

-- An object is freed once under each number.
same_freer : (s : Setting) (log : List (ℕ × Record)) (o n : ℕ) (a b : Section) → IsLegal s log → Did (actions log) a (Frees o n) → Did (actions log) b (Frees o n) → a ≡ b
same_freer s [] o n a b legal h i = elim h [ ]
same_freer s ((m, r) ∷ older) o n a b legal (inl h) (inl i) = h.0 ∙ sym i.0
same_freer s ((m, r) ∷ older) o n a b legal (inr h) (inr i) = same_freer s older o n a b legal.0 h i
same_freer s ((m, Rel p k) ∷ older) o n a b legal (inl h) (inr i) = absurd (frees_anew s older o n p.0 k b legal.0 legal.1.1 h.1 i)
same_freer s ((m, Rel p k) ∷ older) o n a b legal (inr h) (inl i) = absurd (frees_anew s older o n p.0 k a legal.0 legal.1.1 i.1 h)
same_freer s ((m, WaitRel p k) ∷ older) o n a b legal (inl h) (inr i) = absurd (frees_anew s older o n p.0 k b legal.0 legal.1.1 h.1 i)
same_freer s ((m, WaitRel p k) ∷ older) o n a b legal (inr h) (inl i) = absurd (frees_anew s older o n p.0 k a legal.0 legal.1.1 i.1 h)
same_freer s ((m, Acq p k) ∷ older) o n a b legal (inl h) (inr i) = absurd (let act : Frees o n ≡ Takes p.0 k = h.1 in cc)
same_freer s ((m, Acq p k) ∷ older) o n a b legal (inr h) (inl i) = absurd (let act : Frees o n ≡ Takes p.0 k = i.1 in cc)
same_freer s ((m, Put f v w) ∷ older) o n a b legal (inl h) (inr i) = absurd (let act : Frees o n ≡ Stores = h.1 in cc)
same_freer s ((m, Put f v w) ∷ older) o n a b legal (inr h) (inl i) = absurd (let act : Frees o n ≡ Stores = i.1 in cc)

stays_closed : (s : Setting) (newer log : List (ℕ × Record)) (cut : ℕ → ℕ) → IsLegal s (newer ++ log) → IsWhole (actions log) cut → IsClosed (actions log) cut → IsClosed (actions (newer ++ log)) cut
stays_closed s newer log cut legal whole closed a b counted (Earlier e lt) = closed a b counted (Earlier e lt)
stays_closed s newer log cut legal whole closed a b counted (Took o n took freed differ) =
    let legal_log : IsLegal s log = legal_before s newer log legal in
    let took_here : Did (actions log) a (Takes o (n + 1)) = did_ended newer log a _ took (omega (arith, whole a.lane)) in
    let upto : n < number o log = elim (took_had s log o (n + 1) a legal_log took_here) [ inl p ↦ omega (arith, p.0) | inr p ↦ omega (arith, p.0) ] in
    let f : Freed log o n = freed_below s log o n legal_log upto in
    let same : f.by ≡ b = same_freer s (newer ++ log) o n f.by b legal (did_after newer log f.by _ f.freed) freed in
    subst (λ x. Counts cut x) same (closed a f.by counted (Took o n took_here f.freed (λ e. differ (e ∙ same))))

pub cut_stays : (s : Setting) (newer log : List (ℕ × Record)) (cut : ℕ → ℕ) → IsLegal s (newer ++ log) → IsWhole (actions log) cut → IsClosed (actions log) cut →
    IsWhole (actions (newer ++ log)) cut × IsClosed (actions (newer ++ log)) cut
cut_stays s newer log cut legal whole closed = ((λ l. omega (arith, whole l, ended_after newer log l)), stays_closed s newer log cut legal whole closed)
