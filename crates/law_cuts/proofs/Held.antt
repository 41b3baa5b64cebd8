-- The objects that a plain count of sections holds.
use Rattle.std.proofs.Common.{ℕ, suc, ◌≡◌, ◌+◌, ◌≤◌, ◌==◌, true, false, cond, List, [], ◌∷◌, ◌++◌, length, take, drop, if◌then◌else◌, not, nat_lt, Some, None, inl, inr, refl, sym, ap, ◌∙◌, arith}
use Rattle.std.specs.List.{remove, position, position_or_len}
use Rattle.std.proofs.lemmas.Bool.{cases_Bool, ltb-false}
use Rattle.heap_model.specs.declared.ids.ObjectId.{ObjectId}
use Rattle.heap_model.specs.Sections.{without}
use Rattle.law_cuts.specs.Plain.{numbers}

-- the object's first place, or the length where it isn't there
abbrev pub place : ℕ → List ObjectId → ℕ
place o held = position_or_len (λ h. h.0 == o) held

pub numbers_removed : (o : ℕ) (held : List ObjectId) → numbers (remove held (place o held)) ≡ without o (numbers held)
numbers_removed o [] = refl
numbers_removed o (h ∷ held) =
    let more : 1 + place o held ≡ suc (place o held) = omega arith in
    elim (h.0 == o) as (λ b. numbers (remove (h ∷ held) (cond (not b) (1 + place o held) 0)) ≡ (if b then numbers held else h.0 ∷ without o (numbers held))) [
      | true ↦ refl
      | false ↦ ap (λ k. numbers (take k (h ∷ held) ++ drop (suc k) (h ∷ held))) more ∙ ap (λ (ns : List ℕ). h.0 ∷ ns) (numbers_removed o held)
    ]

pub numbers_absent : (o : ℕ) (held : List ObjectId) → length held ≤ place o held → numbers held ≡ without o (numbers held)
numbers_absent o [] le = refl
numbers_absent o (h ∷ held) le =
    elim (h.0 == o) as (λ b. length (h ∷ held) ≤ cond (not b) (1 + place o held) 0 → numbers (h ∷ held) ≡ (if b then numbers held else h.0 ∷ without o (numbers held))) [
      | true ↦ λ none. absurd (omega arith)
      | false ↦ λ past. ap (λ (ns : List ℕ). h.0 ∷ ns) (numbers_absent o held (omega arith))
    ] le

pub placed : (o : ℕ) (held : List ObjectId) (k : ℕ) → position (λ h. h.0 == o) held ≡ Some k → k ≡ place o held
placed o held k e = elim (cases_Bool (nat_lt (place o held) (length held))) [
  | inl t ↦ let here : Some (place o held) ≡ Some k = ap (λ b. cond b (Some (place o held)) None) (sym t) ∙ e in cc
  | inr t ↦ absurd (let none : None ≡ Some k = ap (λ b. cond b (Some (place o held)) None) (sym t) ∙ e in cc)
]

pub not_placed : (o : ℕ) (held : List ObjectId) → position (λ h. h.0 == o) held ≡ None → length held ≤ place o held
not_placed o held e = elim (cases_Bool (nat_lt (place o held) (length held))) [
  | inl t ↦ absurd (let some : Some (place o held) ≡ None = ap (λ b. cond b (Some (place o held)) None) (sym t) ∙ e in cc)
  | inr t ↦ ltb-false _ _ t
]
