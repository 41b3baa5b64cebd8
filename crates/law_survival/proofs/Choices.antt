-- Whether a lane can go on in a replay, and which is the least that can.
use Rattle.std.proofs.Common.{ℕ, zero, suc, ◌≡◌, ◌<◌, ◌⊎◌, List, [], ◌∷◌, ◌++◌, Option, Some, None, refl, ap, subst, inl, inr, arith}
use Rattle.std.proofs.lemmas.Bool.{cases_eq}
use Rattle.heap_model.specs.declared.ids.Lane.{Lane}
use Rattle.heap_model.specs.declared.ids.ObjectId.{ObjectId}
use Rattle.heap_model.specs.declared.record.UndoRecord.{UndoRecord}
use Rattle.heap_model.specs.declared.record.UndoRecord.TheVariants.{Acq, Rel, WaitRel, Put}
use Rattle.recover_logs.specs.Monitors.{MayStore}
use Rattle.recover_logs.specs.Replay.{holder, number, MayFollow, IsAllowed}

-- it is so, or it isn't
abbrev pub Decided : Type 0 → Type 0
Decided P = P ⊎ (P → ⊥)

pub both : {P Q : Type 0} → Decided P → Decided Q → Decided (P × Q)
both (inl p) (inl q) = inl (p, q)
both (inl p) (inr q) = inr (λ h. q h.1)
both (inr p) q = inr (λ h. p h.0)

is_none : (v : Option Lane) → Decided (v ≡ None)
is_none None = inl refl
is_none (Some k) = inr (λ e. cc)

is_lane : (v : Option Lane) (l : ℕ) → Decided (v ≡ Some (record { 0 = l }))
is_lane None l = inr (λ e. cc)
is_lane (Some k) l = elim (cases_eq k.0 l) [
  | inl e ↦ inl (λ i. Some (record { 0 = e i }))
  | inr ne ↦ inr (λ e. ne (let same : k ≡ record { 0 = l } = cc in ap (λ (x : Lane). x.0) same))
]

may_store : (guard : Option ObjectId) (done : List (ℕ × UndoRecord)) (l : ℕ) → Decided (MayStore guard done l)
may_store None done l = inr (λ h. h)
may_store (Some o) done l = is_lane (holder o.0 done) l

pub is_allowed : (guard : ℕ → Option ObjectId) (first : ℕ → ℕ) (done : List (ℕ × UndoRecord)) (l : ℕ) (r : UndoRecord) → Decided (IsAllowed guard first done l r)
is_allowed guard first done l (Acq o n) = both (is_none (holder o.0 done)) (cases_eq (number first o.0 done) n)
is_allowed guard first done l (Rel o n) = both (is_lane (holder o.0 done) l) (cases_eq (number first o.0 done) n)
is_allowed guard first done l (WaitRel o n) = both (is_lane (holder o.0 done) l) (cases_eq (number first o.0 done) n)
is_allowed guard first done l (Put f before) = may_store (guard f.0) done l

pub may_follow : (newest : Option UndoRecord) (r : UndoRecord) → Decided (MayFollow newest r)
may_follow None r = inl tt
may_follow (Some (Acq o n)) r = inl tt
may_follow (Some (Rel o n)) r = inl tt
may_follow (Some (Put f before)) r = inl tt
may_follow (Some (WaitRel o n)) (Acq p m) = elim (cases_eq p.0 o.0) [
  | inl e ↦ inl (λ i. record { 0 = e i })
  | inr ne ↦ inr (λ e. ne (ap (λ (x : ObjectId). x.0) e))
]
may_follow (Some (WaitRel o n)) (Rel p m) = inr (λ h. h)
may_follow (Some (WaitRel o n)) (WaitRel p m) = inr (λ h. h)
may_follow (Some (WaitRel o n)) (Put f before) = inr (λ h. h)

-- a list is empty, or has a last element
pub last_of : {A : Type 0} (xs : List A) → (xs ≡ []) ⊎ ((r : A) × (before : List A) × (xs ≡ before ++ r ∷ []))
last_of {A} [] = inl refl
last_of {A} (x ∷ xs) = elim (last_of xs) [
  | inl e ↦ inr (x, [], ap (λ (ys : List A). x ∷ ys) e)
  | inr h ↦ inr (h.0, x ∷ h.1, ap (λ (ys : List A). x ∷ ys) h.2)
]

-- the least number of which it is so
pub record Least (P : ℕ → Type 0) : Type 0 where
  pub at : ℕ
  pub is : P at
  pub least : (k : ℕ) → k < at → P k → ⊥

pub search : (P : ℕ → Type 0) → ((k : ℕ) → Decided (P k)) → (n : ℕ) → Least P ⊎ ((k : ℕ) → k < n → P k → ⊥)
search P decide zero = inr (λ k lt h. omega (arith, lt))
search P decide (suc n) = elim (search P decide n) [
  | inl found ↦ inl found
  | inr none ↦ elim (decide n) [
    | inl here ↦ inl (record { at = n; is = here; least = none })
    | inr isnt ↦ inr (λ k lt h. elim (cases_eq k n) [
      | inl e ↦ isnt (subst P e h)
      | inr ne ↦ none k (omega (arith, lt)) h
    ])
  ]
]

pub least : (P : ℕ → Type 0) → ((k : ℕ) → Decided (P k)) → (n : ℕ) → P n → Least P
least P decide n here = elim (search P decide n) [
  | inl found ↦ found
  | inr none ↦ record { at = n; is = here; least = none }
]
