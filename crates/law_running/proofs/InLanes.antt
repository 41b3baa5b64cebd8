-- What a section did is told by its lane alone.
use Rattle.std.proofs.Common.{ℕ, ◌≡◌, ◌+◌, ◌≤◌, ◌⊎◌, ◌==◌, if◌then◌else◌, true, false, List, [], ◌∷◌, ◌++◌, map, sym, ap, ◌∙◌, subst, inl, inr, arith}
use Rattle.std.proofs.lemmas.Bool.Decides.{eqb_tells}
use Rattle.heap_model.specs.declared.record.Record.{Record}
use Rattle.heap_model.specs.declared.record.Record.TheVariants.{Acq, Rel, WaitRel, Put}
use Rattle.heap_model.specs.Setting.{Setting}
use Rattle.heap_model.specs.Log.{lane, number, IsLegal}
use Rattle.heap_model.specs.Sections.{Action, Takes, Frees, Stores, action, actions, ended, Section, Did}
use Rattle.law_cuts.proofs.Lanes.{ended_in_lane}
use Rattle.law_cuts.proofs.Next.{freed_past}
use Rattle.law_cuts.proofs.Stores.{ended_more, lane_same}

-- in this lane, section k did this
abbrev pub DidIn : List Record → (k : ℕ) → Action → Type 0
DidIn [] k act = ⊥
DidIn (r ∷ older) k act = ((k ≡ ended (map action older) + 1) × (act ≡ action r)) ⊎ DidIn older k act

pub to_lane : (log : List (ℕ × Record)) (a : Section) (act : Action) → Did (actions log) a act → DidIn (lane a.lane log) a.number act
to_lane [] a act h = elim h [ ]
to_lane ((m, r) ∷ older) a act (inl h) =
    let lanes : m ≡ a.lane = ap (λ (x : Section). x.lane) (sym h.0) in
    subst (λ (xs : List Record). DidIn xs a.number act) (sym (lane_same a.lane m r older lanes))
    (inl (ap (λ (x : Section). x.number) h.0 ∙ ap (λ (k : ℕ). ended (lane k (actions older)) + 1) lanes ∙ ap (λ (k : ℕ). k + 1) (ended_in_lane a.lane older), h.1))
to_lane ((m, r) ∷ older) a act (inr h) = elim (m == a.lane) as (λ b. DidIn (if b then r ∷ lane a.lane older else lane a.lane older) a.number act) [
  | true ↦ inr (to_lane older a act h)
  | false ↦ to_lane older a act h
]

pub from_lane : (log : List (ℕ × Record)) (a : Section) (act : Action) → DidIn (lane a.lane log) a.number act → Did (actions log) a act
from_lane [] a act h = elim h [ ]
from_lane ((m, r) ∷ older) a act h = elim (eqb_tells m a.lane) [
  | inl e ↦ elim (subst (λ (xs : List Record). DidIn xs a.number act) (lane_same a.lane m r older e.1) h) [
    | inl here ↦
        let numbers : a.number ≡ ended (lane m (actions older)) + 1 = here.0 ∙ ap (λ (k : ℕ). k + 1) (sym (ended_in_lane a.lane older)) ∙ ap (λ (k : ℕ). ended (lane k (actions older)) + 1) (sym e.1) in
        inl ((λ i. record { lane = sym e.1 i; number = numbers i }), here.1)
    | inr before ↦ inr (from_lane older a act before)
  ]
  | inr e ↦ inr (from_lane older a act (subst (λ b. DidIn (if b then r ∷ lane a.lane older else lane a.lane older) a.number act) e.0 h))
]

pub did_more : (more older : List Record) (k : ℕ) (act : Action) → DidIn older k act → DidIn (more ++ older) k act
did_more [] older k act h = h
did_more (r ∷ more) older k act h = inr (did_more more older k act h)

-- what a section that has ended did stands already
pub did_first : (more older : List Record) (k : ℕ) (act : Action) → DidIn (more ++ older) k act → k ≤ ended (map action older) → DidIn older k act
did_first [] older k act h le = h
did_first (r ∷ more) older k act (inl here) le = absurd (omega (arith, here.0, le, ended_more more older))
did_first (r ∷ more) older k act (inr h) le = did_first more older k act h le

frees_anew : (s : Setting) (older : List (ℕ × Record)) (o n p k : ℕ) (b : Section) → IsLegal s older → number p older ≡ k → Frees o n ≡ Frees p k → Did (actions older) b (Frees o n) → ⊥
frees_anew s older o n p k b legal e act h =
    let objects : p ≡ o = cc in
    let numbers : n ≡ k = cc in
    let same : number o older ≡ k = ap (λ (x : ℕ). number x older) (sym objects) ∙ e in
    omega (arith, same, numbers, freed_past s older o n b legal h)

-- An object is freed once under each number.
pub same_freer : (s : Setting) (log : List (ℕ × Record)) (o n : ℕ) (a b : Section) → IsLegal s log → Did (actions log) a (Frees o n) → Did (actions log) b (Frees o n) → a ≡ b
same_freer s [] o n a b legal h i = elim h [ ]
same_freer s ((m, r) ∷ older) o n a b legal (inl h) (inl i) = h.0 ∙ sym i.0
same_freer s ((m, r) ∷ older) o n a b legal (inr h) (inr i) = same_freer s older o n a b legal.0 h i
same_freer s ((m, Rel p k) ∷ older) o n a b legal (inl h) (inr i) = absurd (frees_anew s older o n p.0 k b legal.0 legal.1.1 h.1 i)
same_freer s ((m, Rel p k) ∷ older) o n a b legal (inr h) (inl i) = absurd (frees_anew s older o n p.0 k a legal.0 legal.1.1 i.1 h)
same_freer s ((m, WaitRel p k) ∷ older) o n a b legal (inl h) (inr i) = absurd (frees_anew s older o n p.0 k b legal.0 legal.1.1 h.1 i)
same_freer s ((m, WaitRel p k) ∷ older) o n a b legal (inr h) (inl i) = absurd (frees_anew s older o n p.0 k a legal.0 legal.1.1 i.1 h)
same_freer s ((m, Acq p k) ∷ older) o n a b legal (inl h) (inr i) = absurd (let act : Frees o n ≡ Takes p.0 k = h.1 in cc)
same_freer s ((m, Acq p k) ∷ older) o n a b legal (inr h) (inl i) = absurd (let act : Frees o n ≡ Takes p.0 k = i.1 in cc)
same_freer s ((m, Put f v w) ∷ older) o n a b legal (inl h) (inr i) = absurd (let act : Frees o n ≡ Stores = h.1 in cc)
same_freer s ((m, Put f v w) ∷ older) o n a b legal (inr h) (inl i) = absurd (let act : Frees o n ≡ Stores = i.1 in cc)
