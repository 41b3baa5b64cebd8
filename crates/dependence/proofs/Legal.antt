-- What a legal list allows next may be pushed next.
use Rattle.std.proofs.Common.{ℕ, ◌≡◌, ◌+◌, ◌<◌, ◌≤◌, ◌==◌, if◌then◌else◌, Bool, true, false, List, [], ◌∷◌, Contains, Option, Some, None, refl, sym, ap, ◌∙◌, subst, inl, inr, arith}
use Rattle.std.proofs.lemmas.Bool.{eq-eqb}
use Rattle.std.proofs.lemmas.Bool.Decides.{eqb_tells}
use Rattle.heap_model.specs.declared.record.Record.{Record}
use Rattle.heap_model.specs.declared.record.Record.TheVariants.{Acq, Rel, WaitRel, Put}
use Rattle.heap_model.specs.Setting.{Setting}
use Rattle.heap_model.specs.Log.{lane, holder, number, IsLegal, IsAllowed}
use Rattle.heap_model.specs.Sections.{Action, Takes, Frees, Stores, action, actions, without, holding}
use Rattle.heap_model.specs.Cuts.{IsWhole}
use Rattle.heap_model.specs.Base.{since}
use Rattle.dependence.specs.Next.{IsBelow, IsNext}
use Rattle.dependence.proofs.Coming.{first_held, later_held, still_held}
use Rattle.dependence.proofs.Trimming.{below_since, holding_since}

pub below_wider : (o t f t' f' : ℕ) (log : List (ℕ × Action)) → t ≤ t' → f ≤ f' → IsBelow o t f log → IsBelow o t' f' log
below_wider o t f t' f' [] le le' h = tt
below_wider o t f t' f' ((l, Takes p n) ∷ older) le le' h = ((λ e. omega (arith, h.0 e)), below_wider o t f t' f' older le le' h.1)
below_wider o t f t' f' ((l, Frees p n) ∷ older) le le' h = ((λ e. omega (arith, h.0 e)), below_wider o t f t' f' older le le' h.1)
below_wider o t f t' f' ((l, Stores) ∷ older) le le' h = below_wider o t f t' f' older le le' h

-- a release, by its object and number
below_freed : (o p k N : ℕ) (older : List (ℕ × Action)) → IsBelow o (N + 1) N older → (p ≡ o → N ≡ k) →
    (p ≡ o → k < (if p == o then k + 1 else N)) × IsBelow o ((if p == o then k + 1 else N) + 1) (if p == o then k + 1 else N) older
below_freed o p k N older h at = elim (eqb_tells p o) [
  | inl e ↦ subst (λ (b : Bool). (p ≡ o → k < (if b then k + 1 else N)) × IsBelow o ((if b then k + 1 else N) + 1) (if b then k + 1 else N) older) (sym e.0)
      ((λ same. omega arith), below_wider o (N + 1) N (k + 1 + 1) (k + 1) older (omega (arith, at e.1)) (omega (arith, at e.1)) h)
  | inr e ↦ subst (λ (b : Bool). (p ≡ o → k < (if b then k + 1 else N)) × IsBelow o ((if b then k + 1 else N) + 1) (if b then k + 1 else N) older) (sym e.0)
      ((λ same. absurd (e.1 same)), h)
]

-- an object was taken up to its number, and freed below it
below_legal : (s : Setting) (o : ℕ) (log : List (ℕ × Record)) → IsLegal s log → IsBelow o (number o log + 1) (number o log) (actions log)
below_legal s o [] h = tt
below_legal s o ((l, Acq p k) ∷ older) h = ((λ e. (let at : number o older ≡ k = ap (λ (x : ℕ). number x older) (sym e) ∙ h.1.1 in omega arith)), below_legal s o older h.0)
below_legal s o ((l, Rel p k) ∷ older) h = below_freed o p.0 k (number o older) (actions older) (below_legal s o older h.0) (λ e. ap (λ (x : ℕ). number x older) (sym e) ∙ h.1.1)
below_legal s o ((l, WaitRel p k) ∷ older) h = below_freed o p.0 k (number o older) (actions older) (below_legal s o older h.0) (λ e. ap (λ (x : ℕ). number x older) (sym e) ∙ h.1.1)
below_legal s o ((l, Put f v w) ∷ older) h = below_legal s o older h.0

-- a free object was taken below its number too
free_freed : (o p k N : ℕ) (was : Option ℕ) (older : List (ℕ × Action)) → IsBelow o (N + 1) N older → (p ≡ o → N ≡ k) → (was ≡ None → IsBelow o N N older) → (if p == o then None else was) ≡ None →
    (p ≡ o → k < (if p == o then k + 1 else N)) × IsBelow o (if p == o then k + 1 else N) (if p == o then k + 1 else N) older
free_freed o p k N was older h at rest free = elim (eqb_tells p o) [
  | inl e ↦ subst (λ (b : Bool). (p ≡ o → k < (if b then k + 1 else N)) × IsBelow o (if b then k + 1 else N) (if b then k + 1 else N) older) (sym e.0)
      ((λ same. omega arith), below_wider o (N + 1) N (k + 1) (k + 1) older (omega (arith, at e.1)) (omega (arith, at e.1)) h)
  | inr e ↦ subst (λ (b : Bool). (p ≡ o → k < (if b then k + 1 else N)) × IsBelow o (if b then k + 1 else N) (if b then k + 1 else N) older) (sym e.0)
      ((λ same. absurd (e.1 same)), rest (subst (λ (b : Bool). (if b then None else was) ≡ None) e.0 free))
]

below_free : (s : Setting) (o : ℕ) (log : List (ℕ × Record)) → IsLegal s log → holder o log ≡ None → IsBelow o (number o log) (number o log) (actions log)
below_free s o [] h free = tt
below_free s o ((l, Acq p k) ∷ older) h free = elim (eqb_tells p.0 o) [
  | inl e ↦ absurd (let some : Some l ≡ None = subst (λ (b : Bool). (if b then Some l else holder o older) ≡ None) e.0 free in cc)
  | inr e ↦ ((λ same. absurd (e.1 same)), below_free s o older h.0 (subst (λ (b : Bool). (if b then Some l else holder o older) ≡ None) e.0 free))
]
below_free s o ((l, Rel p k) ∷ older) h free = free_freed o p.0 k (number o older) (holder o older) (actions older) (below_legal s o older h.0) (λ e. ap (λ (x : ℕ). number x older) (sym e) ∙ h.1.1) (below_free s o older h.0) free
below_free s o ((l, WaitRel p k) ∷ older) h free = free_freed o p.0 k (number o older) (holder o older) (actions older) (below_legal s o older h.0) (λ e. ap (λ (x : ℕ). number x older) (sym e) ∙ h.1.1) (below_free s o older h.0) free
below_free s o ((l, Put f v w) ∷ older) h free = below_free s o older h.0 free

-- the lane that holds an object has it among what it holds
held_freed : (l m o p : ℕ) (was : Option ℕ) (a : Action) (older : List (ℕ × Action)) → holding (a ∷ lane l older) ≡ without p (holding (lane l older)) → (was ≡ Some l → Contains (holding (lane l older)) o) →
    (if p == o then None else was) ≡ Some l → Contains (holding (lane l ((m, a) ∷ older))) o
held_freed l m o p was a older frees rest held = elim (eqb_tells p o) [
  | inl e ↦ absurd (let no : None ≡ Some l = subst (λ (b : Bool). (if b then None else was) ≡ Some l) e.0 held in cc)
  | inr e ↦
      let before : Contains (holding (lane l older)) o = rest (subst (λ (b : Bool). (if b then None else was) ≡ Some l) e.0 held) in
      elim (m == l) as (λ b. Contains (holding (if b then a ∷ lane l older else lane l older)) o) [
        | true ↦ subst (λ (xs : List ℕ). Contains xs o) (sym frees) (still_held o p (holding (lane l older)) e.1 before)
        | false ↦ before
      ]
]

held_legal : (s : Setting) (l o : ℕ) (log : List (ℕ × Record)) → holder o log ≡ Some l → Contains (holding (lane l (actions log))) o
held_legal s l o [] held = absurd cc
held_legal s l o ((m, Acq p k) ∷ older) held = elim (eqb_tells p.0 o) [
  | inl e ↦
      let same : m ≡ l = (let some : Some m ≡ Some l = subst (λ (b : Bool). (if b then Some m else holder o older) ≡ Some l) e.0 held in cc) in
      subst (λ (b : Bool). Contains (holding (if b then Takes p.0 k ∷ lane l (actions older) else lane l (actions older))) o) (sym (eq-eqb m l same)) (first_held o p.0 (holding (lane l (actions older))) e.1)
  | inr e ↦
      let before : Contains (holding (lane l (actions older))) o = held_legal s l o older (subst (λ (b : Bool). (if b then Some m else holder o older) ≡ Some l) e.0 held) in
      elim (m == l) as (λ b. Contains (holding (if b then Takes p.0 k ∷ lane l (actions older) else lane l (actions older))) o) [ true ↦ later_held o p.0 (holding (lane l (actions older))) before | false ↦ before ]
]
held_legal s l o ((m, Rel p k) ∷ older) held = held_freed l m o p.0 (holder o older) (Frees p.0 k) (actions older) refl (held_legal s l o older) held
held_legal s l o ((m, WaitRel p k) ∷ older) held = held_freed l m o p.0 (holder o older) (Frees p.0 k) (actions older) refl (held_legal s l o older) held
held_legal s l o ((m, Put f v w) ∷ older) held =
    let before : Contains (holding (lane l (actions older))) o = held_legal s l o older held in
    elim (m == l) as (λ b. Contains (holding (if b then Stores ∷ lane l (actions older) else lane l (actions older))) o) [ true ↦ before | false ↦ before ]

frees_next : (s : Setting) (log : List (ℕ × Record)) (base : ℕ → ℕ) (l o n : ℕ) → IsLegal s log → IsWhole (actions log) base → holder o log ≡ Some l → number o log ≡ n → IsNext (since base (actions log)) l (Frees o n)
frees_next s log base l o n legal whole held at = (
  subst (λ (xs : List ℕ). Contains xs o) (sym (holding_since base l (actions log) (whole l))) (held_legal s l o log held),
  below_since o (n + 1) n base (actions log) (subst (λ (x : ℕ). IsBelow o (x + 1) x (actions log)) at (below_legal s o log legal)),
)

pub allowed_next : (s : Setting) (log : List (ℕ × Record)) (base : ℕ → ℕ) (l : ℕ) (r : Record) → IsLegal s log → IsWhole (actions log) base → IsAllowed s log l r → IsNext (since base (actions log)) l (action r)
allowed_next s log base l (Acq o n) legal whole allowed = below_since o.0 n n base (actions log) (subst (λ (x : ℕ). IsBelow o.0 x x (actions log)) allowed.1 (below_free s o.0 log legal allowed.0))
allowed_next s log base l (Rel o n) legal whole allowed = frees_next s log base l o.0 n legal whole allowed.0 allowed.1
allowed_next s log base l (WaitRel o n) legal whole allowed = frees_next s log base l o.0 n legal whole allowed.0 allowed.1
allowed_next s log base l (Put f v w) legal whole allowed = tt
