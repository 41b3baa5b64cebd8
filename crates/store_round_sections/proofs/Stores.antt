-- To which fields the sections store.
use Rattle.std.proofs.Common.{ℕ, zero, suc, ◌≡◌, ◌<◌, ◌==◌, if◌then◌else◌, Bool, true, false, List, [], ◌∷◌, ◌++◌, length, map, refl, sym, ap, ◌∙◌, inl, inr, arith}
use Rattle.std.specs.Prelude.{Contains, ◌↔◌}
use Rattle.std.specs.List.{slice_index_or}
use Rattle.std.proofs.lemmas.Bool.Decides.{eqb_tells}
use Rattle.heap_model.specs.declared.ids.FieldId.{FieldId}
use Rattle.heap_model.specs.declared.ids.ObjectId.{ObjectId}
use Rattle.heap_model.specs.declared.record.Record.{Record}
use Rattle.heap_model.specs.declared.record.Record.TheVariants.{Acq}
use Rattle.heap_model.specs.Past.{has_store}
use Rattle.store_helper_sections.specs.HelperSections.{HelperSection, helper_log, same_stores}
use Rattle.store_helper_sections.proofs.Padding.{if_same, if_apart}
use Rattle.store_round_image.specs.Turning.{fields_of}
use Rattle.store_round_image.specs.declared.cells.HomeValue.{HomeValue}
use Rattle.store_round_sections.specs.Sections.{guard_of, section_for, sections_of, with_change}

-- whether one of these is the field
abbrev pub has_field : (field : ℕ) → List HomeValue → Bool
has_field f [] = false
has_field f (c ∷ changed) = if c.field.0 == f then true else has_field f changed

pub field_listed : (f : ℕ) (changed : List HomeValue) → has_field f changed ≡ true → Contains (fields_of changed) f
field_listed f [] h = absurd (let no : false ≡ true = h in cc)
field_listed f (c ∷ changed) h = elim (eqb_tells c.field.0 f) [
  | inl e ↦ (0, omega arith, e.1)
  | inr e ↦
      let rest : Contains (fields_of changed) f = field_listed f changed (sym (if_apart c.field.0 f true (has_field f changed) e.1) ∙ h) in
      (suc rest.0, omega (arith, rest.1), rest.2)
]

pub listed_field : (f : ℕ) (changed : List HomeValue) (k : ℕ) → k < length (fields_of changed) → slice_index_or (fields_of changed) k f ≡ f → has_field f changed ≡ true
listed_field f [] k lt at = absurd (omega (arith, lt))
listed_field f (c ∷ changed) zero lt at = if_same c.field.0 f true (has_field f changed) at
listed_field f (c ∷ changed) (suc k) lt at =
    ap (λ (b : Bool). if c.field.0 == f then true else b) (listed_field f changed k (omega (arith, lt)) at)
    ∙ elim (c.field.0 == f) as (λ b. (if b then true else true) ≡ true) [ true ↦ refl | false ↦ refl ]

swapped : (a b x : Bool) → (if a then true else (if b then true else x)) ≡ (if b then true else (if a then true else x))
swapped true true x = refl
swapped true false x = refl
swapped false true x = refl
swapped false false x = refl

module _ (t : ℕ) (heap : ℕ → ℕ) (f : ℕ) where
  -- the lane's records
  abbrev in_lane : List Record → List (ℕ × Record)
  in_lane records = map (λ r. (t, r)) records

  stores_more : (o : ObjectId) (n : ℕ) (before : List (ℕ × Record)) (g : FieldId) (fields : List FieldId) →
      has_store f (in_lane (same_stores heap (fields ++ g ∷ []) ++ Acq o n ∷ []) ++ before) ≡ (if g.0 == f then true else has_store f (in_lane (same_stores heap fields ++ Acq o n ∷ []) ++ before))
  stores_more o n before g [] = refl
  stores_more o n before g (h ∷ fields) =
      ap (λ (b : Bool). if h.0 == f then true else b) (stores_more o n before g fields)
      ∙ swapped (h.0 == f) (g.0 == f) (has_store f (in_lane (same_stores heap fields ++ Acq o n ∷ []) ++ before))

  stores_with : (guards : List ObjectId) (first : List ℕ) (c : HomeValue) (sections : List HelperSection) →
      has_store f (helper_log t heap (with_change guards first c sections)) ≡ (if c.field.0 == f then true else has_store f (helper_log t heap sections))
  stores_with guards first c [] = refl
  stores_with guards first c (x ∷ older) =
      elim (x.guard.0 == (guard_of guards c).0) as (λ b. has_store f (helper_log t heap (if b then record { guard = x.guard; number = x.number; fields = x.fields ++ c.field ∷ [] } ∷ older else section_for guards first c ∷ x ∷ older))
      ≡ (if c.field.0 == f then true else has_store f (helper_log t heap (x ∷ older)))) [
        | true ↦ stores_more x.guard x.number (helper_log t heap older) c.field x.fields
        | false ↦ refl
      ]

  stores_all : (guards : List ObjectId) (first : List ℕ) (changed : List HomeValue) → has_store f (helper_log t heap (sections_of guards first changed)) ≡ has_field f changed
  stores_all guards first [] = refl
  stores_all guards first (c ∷ changed) = stores_with guards first c (sections_of guards first changed) ∙ ap (λ (b : Bool). if c.field.0 == f then true else b) (stores_all guards first changed)

  -- The sections store to the changed fields, and to no others.
  pub stores_to : (guards : List ObjectId) (first : List ℕ) (changed : List HomeValue) → Contains (fields_of changed) f ↔ (has_store f (helper_log t heap (sections_of guards first changed)) ≡ true)
  stores_to guards first changed = (
    (λ has. stores_all guards first changed ∙ listed_field f changed has.0 has.1 has.2),
    (λ is. field_listed f changed (sym (stores_all guards first changed) ∙ is)),
  )
