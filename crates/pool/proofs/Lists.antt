-- Free lists, as values are learned and stored.
use Rattle.std.proofs.Common.{ℕ, ◌≡◌, ◌≢◌, ◌+◌, ◌<◌, ◌≤◌, inl, inr, if◌then◌else◌, Bool, List, [], ◌∷◌, Option, Some, None, refl, sym, ap, ◌∙◌, subst, arith}
use Rattle.std.proofs.lemmas.Bool.Decides.{eqb_tells}
use Rattle.pool.specs.declared.pool.TheConstants.{TAKEN}
use Rattle.pool.specs.Knowledge.{Values, with_value}
use Rattle.pool.specs.FreeList.{Place, cell_of, Spells, IsNoneOf, TakesFirst, PutsFirst}

pub unsome : {x y : ℕ} → ◌≡◌ {A = Option ℕ} (Some x) (Some y) → x ≡ y
unsome {x} {y} e = cc

-- the value that was learned, and the others
pub value_there : (known : Values) (f v : ℕ) → with_value known f v f ≡ Some v
value_there known f v = elim (eqb_tells f f) [
  | inl at ↦ ap (λ (b : Bool). if b then Some v else known f) at.0
  | inr ne ↦ absurd (ne.1 refl)
]

pub value_else : (known : Values) (f v g : ℕ) → f ≢ g → with_value known f v g ≡ known g
value_else known f v g ne = elim (eqb_tells f g) [
  | inl at ↦ absurd (ne at.1)
  | inr away ↦ ap (λ (b : Bool). if b then Some v else known g) away.0
]

-- a store to the head and to a slot that isn't listed
abbrev pub stored : Place → Values → (head slot value : ℕ) → Values
stored p known v s w = with_value (with_value known p.head v) (cell_of p s) w

pub stored_head : (p : Place) (known : Values) (v s w : ℕ) → stored p known v s w p.head ≡ Some v
stored_head p known v s w = value_else (with_value known p.head v) (cell_of p s) w p.head (λ e. absurd (omega arith)) ∙ value_there known p.head v

pub stored_slot : (p : Place) (known : Values) (v s w : ℕ) → stored p known v s w (cell_of p s) ≡ Some w
stored_slot p known v s w = value_there (with_value known p.head v) (cell_of p s) w

stored_else : (p : Place) (known : Values) (v s w t : ℕ) → s ≢ t → stored p known v s w (cell_of p t) ≡ known (cell_of p t)
stored_else p known v s w t ne = value_else (with_value known p.head v) (cell_of p s) w (cell_of p t) (λ e. ne (omega arith)) ∙ value_else known p.head v (cell_of p t) (λ e. absurd (omega arith))

-- the links of the slots that are listed stay
kept : (p : Place) (known : Values) (v s w : ℕ) (link : Option ℕ) (slots : List ℕ) → IsNoneOf s slots → Spells p known link slots → Spells p (stored p known v s w) link slots
kept p known v s w link [] none spelled = spelled
kept p known v s w link (t ∷ rest) none spelled = (
  spelled.0,
  spelled.1,
  subst (λ (x : Option ℕ). Spells p (stored p known v s w) x rest) (sym (stored_else p known v s w t none.0)) (kept p known v s w (known (cell_of p t)) rest none.1 spelled.2),
)

pub takes_first : (p : Place) (known after : Values) (s next : ℕ) → known p.head ≡ Some (s + 1) → known (cell_of p s) ≡ Some next → after ≡ stored p known next s TAKEN → TakesFirst p known after s
takes_first p known after s next head link now [] free = elim free.spelled [
  | inl none ↦ absurd (let clash : ◌≡◌ {A = Option ℕ} (Some (s + 1)) None = sym head ∙ none in cc)
  | inr zero ↦ absurd (let clash : s + 1 ≡ 0 = unsome (sym head ∙ zero) in omega arith)
]
takes_first p known after s next head link now (t ∷ rest) free =
    let is_first : t ≡ s = (let e : s + 1 ≡ t + 1 = unsome (sym head ∙ free.spelled.0) in omega arith) in
    let is_next : known (cell_of p t) ≡ stored p known next s TAKEN p.head = ap (λ x. known (cell_of p x)) is_first ∙ link ∙ sym (stored_head p known next s TAKEN) in (
      rest,
      ap (λ x. x ∷ rest) is_first,
      record {
        spelled = subst (λ (m : Values). Spells p m (m p.head) rest) (sym now)
            (subst (λ (x : Option ℕ). Spells p (stored p known next s TAKEN) x rest) is_next
            (kept p known next s TAKEN (known (cell_of p t)) rest (subst (λ x. IsNoneOf x rest) is_first free.distinct.0) free.spelled.2));
        distinct = free.distinct.1;
      },
    )

-- no link of a list is the mark of a taken slot
no_mark : (p : Place) (known : Values) (link : Option ℕ) (slots : List ℕ) → p.slots ≤ 16383 → Spells p known link slots → link ≡ Some TAKEN → ⊥
no_mark p known link [] few (inl none) mark = let clash : ◌≡◌ {A = Option ℕ} None (Some TAKEN) = sym none ∙ mark in cc
no_mark p known link [] few (inr zero) mark = let clash : 0 ≡ TAKEN = unsome (sym zero ∙ mark) in absurd (omega arith)
no_mark p known link (t ∷ rest) few spelled mark = let low = spelled.1 in let clash : t + 1 ≡ TAKEN = unsome (sym spelled.0 ∙ mark) in absurd (omega arith)

-- a taken slot isn't listed
not_listed : (p : Place) (known : Values) (s : ℕ) (link : Option ℕ) (slots : List ℕ) → p.slots ≤ 16383 → known (cell_of p s) ≡ Some TAKEN → Spells p known link slots → IsNoneOf s slots
not_listed p known s link [] few mark spelled = tt
not_listed p known s link (t ∷ rest) few mark spelled =
    (λ is. no_mark p known (known (cell_of p t)) rest few spelled.2 (ap (λ x. known (cell_of p x)) (sym is) ∙ mark), not_listed p known s (known (cell_of p t)) rest few mark spelled.2)

pub puts_first : (p : Place) (known after : Values) (s link : ℕ) → p.slots ≤ 16383 → s < p.slots → known (cell_of p s) ≡ Some TAKEN → known p.head ≡ Some link → after ≡ stored p known (s + 1) s link → PutsFirst p known after s
puts_first p known after s link few low mark head now slots free =
    let none = not_listed p known s (known p.head) slots few mark free.spelled in record {
      spelled = subst (λ (m : Values). Spells p m (m p.head) (s ∷ slots)) (sym now) (
        stored_head p known (s + 1) s link,
        low,
        subst (λ (x : Option ℕ). Spells p (stored p known (s + 1) s link) x slots) (head ∙ sym (stored_slot p known (s + 1) s link)) (kept p known (s + 1) s link (known p.head) slots none free.spelled),
      );
      distinct = (none, free.distinct);
    }
