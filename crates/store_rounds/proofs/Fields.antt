-- Values for cells, and records that store to their fields.
use Rattle.std.proofs.Common.{ℕ, zero, suc, ◌≡◌, ◌<◌, ◌⊎◌, ◌==◌, if◌then◌else◌, Bool, true, false, List, [], ◌∷◌, ◌++◌, length, refl, sym, ap, ◌∙◌, subst, inl, inr, arith}
use Rattle.std.specs.Prelude.{All, Contains, nat_lt, slice_index_or}
use Rattle.std.proofs.lemmas.Bool.{lt-ltb}
use Rattle.std.proofs.lemmas.Bool.Decides.{eqb_tells}
use Rattle.std.proofs.lemmas.List.Elements.{All-filter, filter_passes}
use Rattle.std.proofs.lemmas.List.Sorted.{All-permutation, IsPermutation-sym}
use Rattle.std.specs.List.Sorted.{IsPermutation}
use Rattle.store_helper_sections.proofs.Padding.{if_apart, if_same}
use Rattle.heap_model.specs.declared.record.Record.{Record}
use Rattle.heap_model.specs.declared.record.Record.TheVariants.{Acq, Rel, WaitRel, Put}
use Rattle.heap_model.specs.Past.{has_store}
use Rattle.store_round_image.specs.Turning.{fields_of}
use Rattle.store_round_image.specs.declared.cells.HomeValue.{HomeValue}
use Rattle.store_round_memory.specs.Rounds.{Rounds}
use Rattle.store_round_memory.specs.Surveys.{is_marked}
use Rattle.store_rounds.specs.Cells.{settled_values, stays_put}

-- a store among records is one among more of them
pub store_left : (f : ℕ) (xs ys : List (ℕ × Record)) → has_store f xs ≡ true → has_store f (xs ++ ys) ≡ true
store_left f [] ys h = absurd (let no : false ≡ true = h in cc)
store_left f ((l, Acq o n) ∷ xs) ys h = store_left f xs ys h
store_left f ((l, Rel o n) ∷ xs) ys h = store_left f xs ys h
store_left f ((l, WaitRel o n) ∷ xs) ys h = store_left f xs ys h
store_left f ((l, Put g v w) ∷ xs) ys h =
    elim (g.0 == f) as (λ b. (if b then true else has_store f xs) ≡ true → (if b then true else has_store f (xs ++ ys)) ≡ true) [ true ↦ λ is. refl | false ↦ λ is. store_left f xs ys is ] h

pub store_right : (f : ℕ) (xs ys : List (ℕ × Record)) → has_store f ys ≡ true → has_store f (xs ++ ys) ≡ true
store_right f [] ys h = h
store_right f ((l, Acq o n) ∷ xs) ys h = store_right f xs ys h
store_right f ((l, Rel o n) ∷ xs) ys h = store_right f xs ys h
store_right f ((l, WaitRel o n) ∷ xs) ys h = store_right f xs ys h
store_right f ((l, Put g v w) ∷ xs) ys h = elim (g.0 == f) as (λ b. (if b then true else has_store f (xs ++ ys)) ≡ true) [ true ↦ refl | false ↦ store_right f xs ys h ]

-- and it is among the one or the other
pub store_parts : (f : ℕ) (xs ys : List (ℕ × Record)) → has_store f (xs ++ ys) ≡ true → (has_store f xs ≡ true) ⊎ (has_store f ys ≡ true)
store_parts f [] ys h = inr h
store_parts f ((l, Acq o n) ∷ xs) ys h = store_parts f xs ys h
store_parts f ((l, Rel o n) ∷ xs) ys h = store_parts f xs ys h
store_parts f ((l, WaitRel o n) ∷ xs) ys h = store_parts f xs ys h
store_parts f ((l, Put g v w) ∷ xs) ys h =
    elim (g.0 == f) as (λ b. (if b then true else has_store f (xs ++ ys)) ≡ true → ((if b then true else has_store f xs) ≡ true) ⊎ (has_store f ys ≡ true)) [
      | true ↦ λ is. inl refl
      | false ↦ λ is. store_parts f xs ys is
    ] h

-- whether one of these is the field
abbrev has_field : (field : ℕ) → List HomeValue → Bool
has_field f [] = false
has_field f (c ∷ cells) = if c.field.0 == f then true else has_field f cells

field_listed : (f : ℕ) (cells : List HomeValue) → has_field f cells ≡ true → Contains (fields_of cells) f
field_listed f [] h = absurd (let no : false ≡ true = h in cc)
field_listed f (c ∷ cells) h = elim (eqb_tells c.field.0 f) [
  | inl e ↦ (0, omega arith, e.1)
  | inr e ↦
      let rest : Contains (fields_of cells) f = field_listed f cells (sym (if_apart c.field.0 f true (has_field f cells) e.1) ∙ h) in
      (suc rest.0, omega (arith, rest.1), rest.2)
]

listed_field : (f : ℕ) (cells : List HomeValue) (k : ℕ) → k < length (fields_of cells) → slice_index_or (fields_of cells) k f ≡ f → has_field f cells ≡ true
listed_field f [] k lt at = absurd (omega (arith, lt))
listed_field f (c ∷ cells) zero lt at = if_same c.field.0 f true (has_field f cells) at
listed_field f (c ∷ cells) (suc k) lt at =
    ap (λ (b : Bool). if c.field.0 == f then true else b) (listed_field f cells k (omega (arith, lt)) at)
    ∙ elim (c.field.0 == f) as (λ b. (if b then true else true) ≡ true) [ true ↦ refl | false ↦ refl ]

-- whether a field has a value among these is told
pub listed_or_not : (f : ℕ) (cells : List HomeValue) → Contains (fields_of cells) f ⊎ (Contains (fields_of cells) f → ⊥)
listed_or_not f cells = elim (has_field f cells) as (λ b. has_field f cells ≡ b → Contains (fields_of cells) f ⊎ (Contains (fields_of cells) f → ⊥)) [
  | true ↦ λ is. inl (field_listed f cells is)
  | false ↦ λ is. inr (λ has. absurd (let no : true ≡ false = sym (listed_field f cells has.0 has.1 has.2) ∙ is in cc))
] refl

-- no field is listed in none
pub none_listed : (f : ℕ) → Contains (fields_of []) f → ⊥
none_listed f has = omega (arith, has.1)

-- a mark is set or not
pub marked_or_not : (marks : List Bool) (f : ℕ) → (is_marked marks f ≡ true) ⊎ (is_marked marks f ≡ false)
marked_or_not marks f = elim (is_marked marks f) as (λ b. (b ≡ true) ⊎ (b ≡ false)) [ true ↦ inl refl | false ↦ inr refl ]

-- the values of fields that don't change again are some of the values
pub settled_all : (P : HomeValue → Type 0) (m : Rounds) (cells : List HomeValue) → All P cells → All P (settled_values m cells)
settled_all P m cells all = All-filter (λ c. stays_put m c) P cells all

put_unmarked : (m : Rounds) (c : HomeValue) → c.field.0 < length m.kept → stays_put m c ≡ true → is_marked m.marks c.field.0 ≡ false
put_unmarked m c low is =
    let puts : (if is_marked m.marks c.field.0 then false else true) ≡ true = sym (ap (λ (b : Bool). if b then (if is_marked m.marks c.field.0 then false else true) else true) (lt-ltb c.field.0 (length m.kept) low)) ∙ is in
    elim (is_marked m.marks c.field.0) as (λ b. (if b then false else true) ≡ true → b ≡ false) [ true ↦ λ no. absurd (let e : false ≡ true = no in cc) | false ↦ λ yes. refl ] puts

pub settled_unmarked : (m : Rounds) (cells : List HomeValue) → All (λ c. c.field.0 < length m.kept) cells → All (λ c. is_marked m.marks c.field.0 ≡ false) (settled_values m cells)
settled_unmarked m cells low = λ k (e : HomeValue) lt.
    put_unmarked m (slice_index_or (settled_values m cells) k e) (settled_all (λ c. c.field.0 < length m.kept) m cells low k e lt) (filter_passes (λ c. stays_put m c) cells k e lt)

unmarked_puts : (m : Rounds) (c : HomeValue) → is_marked m.marks c.field.0 ≡ false → stays_put m c ≡ true
unmarked_puts m c not = elim (nat_lt c.field.0 (length m.kept)) as (λ b. (if b then (if is_marked m.marks c.field.0 then false else true) else true) ≡ true) [ true ↦ ap (λ (b : Bool). if b then false else true) not | false ↦ refl ]

settled_field : (f : ℕ) (m : Rounds) (cells : List HomeValue) → is_marked m.marks f ≡ false → has_field f (settled_values m cells) ≡ has_field f cells
settled_field f m [] not = refl
settled_field f m (c ∷ cells) not = elim (eqb_tells c.field.0 f) [
  | inl e ↦
      let puts : stays_put m c ≡ true = unmarked_puts m c (ap (is_marked m.marks) e.1 ∙ not) in
      ap (λ (b : Bool). has_field f (if b then c ∷ settled_values m cells else settled_values m cells)) puts ∙ ap (λ (b : Bool). if c.field.0 == f then true else b) (settled_field f m cells not)
  | inr e ↦
      let skip : (b : Bool) → has_field f (if b then c ∷ settled_values m cells else settled_values m cells) ≡ has_field f (settled_values m cells) =
      λ b. elim b as (λ w. has_field f (if w then c ∷ settled_values m cells else settled_values m cells) ≡ has_field f (settled_values m cells)) [ true ↦ ap (λ (w : Bool). if w then true else has_field f (settled_values m cells)) e.0 | false ↦ refl ] in
      skip (stays_put m c) ∙ settled_field f m cells not ∙ sym (ap (λ (w : Bool). if w then true else has_field f cells) e.0)
]

pub settled_listed : (f : ℕ) (m : Rounds) (cells : List HomeValue) → is_marked m.marks f ≡ false → Contains (fields_of cells) f → Contains (fields_of (settled_values m cells)) f
settled_listed f m cells not has = field_listed f (settled_values m cells) (settled_field f m cells not ∙ listed_field f cells has.0 has.1 has.2)

less_listed : (f : ℕ) (m : Rounds) (cells : List HomeValue) → has_field f (settled_values m cells) ≡ true → has_field f cells ≡ true
less_listed f m [] h = h
less_listed f m (c ∷ cells) h =
    elim (stays_put m c) as (λ b. has_field f (if b then c ∷ settled_values m cells else settled_values m cells) ≡ true → (if c.field.0 == f then true else has_field f cells) ≡ true) [
      | true ↦ λ is. elim (c.field.0 == f) as (λ b. (if b then true else has_field f (settled_values m cells)) ≡ true → (if b then true else has_field f cells) ≡ true) [ true ↦ λ e. refl | false ↦ λ e. less_listed f m cells e ] is
      | false ↦ λ is. elim (c.field.0 == f) as (λ b. (if b then true else has_field f cells) ≡ true) [ true ↦ refl | false ↦ less_listed f m cells is ]
    ] h

pub settled_was : (f : ℕ) (m : Rounds) (cells : List HomeValue) → Contains (fields_of (settled_values m cells)) f → Contains (fields_of cells) f
settled_was f m cells has = field_listed f cells (less_listed f m cells (listed_field f (settled_values m cells) has.0 has.1 has.2))

-- what holds of each of the fields
pub listed_has : (P : ℕ → Type 0) (cells : List HomeValue) (f : ℕ) → All (λ c. P c.field.0) cells → Contains (fields_of cells) f → P f
listed_has P [] f all has = absurd (none_listed f has)
listed_has P (c ∷ cells) f all has = elim (eqb_tells c.field.0 f) [
  | inl e ↦ subst P e.1 (all 0 c (omega arith))
  | inr e ↦
      let rest : has_field f cells ≡ true = sym (if_apart c.field.0 f true (has_field f cells) e.1) ∙ listed_field f (c ∷ cells) has.0 has.1 has.2 in
      listed_has P cells f (λ k d lt. all (suc k) d (omega (arith, lt))) (field_listed f cells rest)
]

none_field : (f : ℕ) (cells : List HomeValue) → (Contains (fields_of cells) f → ⊥) → All (λ c. c.field.0 ≡ f → ⊥) cells
none_field f cells none = λ k (d : HomeValue) lt same. none (field_listed f cells (field_here f cells k d lt same))
  where
    field_here : (f : ℕ) (cells : List HomeValue) (k : ℕ) (d : HomeValue) → k < length cells → (slice_index_or cells k d).field.0 ≡ f → has_field f cells ≡ true
    field_here f [] k d lt same = absurd (omega (arith, lt))
    field_here f (c ∷ cells) zero d lt same = if_same c.field.0 f true (has_field f cells) same
    field_here f (c ∷ cells) (suc k) d lt same =
        ap (λ (b : Bool). if c.field.0 == f then true else b) (field_here f cells k d (omega (arith, lt)) same)
        ∙ elim (c.field.0 == f) as (λ b. (if b then true else true) ≡ true) [ true ↦ refl | false ↦ refl ]

-- a list in another order has the same fields
pub listed_moved : (f : ℕ) (xs ys : List HomeValue) → IsPermutation xs ys → Contains (fields_of xs) f → Contains (fields_of ys) f
listed_moved f xs ys moved has = elim (listed_or_not f ys) [
  | inl is ↦ is
  | inr none ↦ absurd (listed_has (λ g. g ≡ f → ⊥) xs f (All-permutation (λ (c : HomeValue). c.field.0 ≡ f → ⊥) ys xs (IsPermutation-sym xs ys moved) (none_field f ys none)) has refl)
]
