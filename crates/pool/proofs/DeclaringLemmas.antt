-- A pool's declarations, one behind the other.
use Rattle.std.proofs.Common.{ℕ, zero, suc, ◌≡◌, ◌≢◌, ◌+◌, ◌^◌, ◌<◌, ◌⊎◌, List, [], ◌∷◌, ◌++◌, get_or, Contains, codes, decimal, inl, inr, refl, sym, ap, subst, length-append, arith}
use Rattle.std.proofs.lemmas.List.{append_cancel_left, map-append}
use Rattle.std.proofs.lemmas.List.Elements.{Contains-push_cases}
use Rattle.std.proofs.lemmas.Fmt.{decimal_is_IsNumeral, decimal_injective}
use Rattle.std.proofs.lemmas.Str.Parse.{digit_at}
use Rattle.guards.specs.Schema.{Field, Declarations, object_count, field_count, names_of, IsNewName}
use Rattle.pool.specs.LaidOut.{cell_name, head_name, slot_name, first_link, cell_field, with_slots, with_head, IsNewPool}
use Rattle.pool.specs.Declaring.{AreNewSlots}

-- slots add no object, and a field each
pub same_objects : (d : Declarations) (name : List ℕ) (o n k : ℕ) → (with_slots d name o n k).objects ≡ d.objects
same_objects d name o n zero = refl
same_objects d name o n (suc k) = same_objects d name o n k

pub more_fields : (d : Declarations) (name : List ℕ) (o n k : ℕ) → field_count (with_slots d name o n k) ≡ field_count d + k
more_fields d name o n zero = omega arith
more_fields d name o n (suc k) =
    let before = with_slots d name o n k in
    omega (arith, length-append before.fields (cell_field (slot_name name k) o (first_link n k) ∷ []), more_fields d name o n k)

-- a pool's names aren't empty, and its fields have different ones
pub is_named : (name cell : List ℕ) → name ≢ [] → cell_name name cell ≢ []
is_named [] cell named e = named refl
is_named (x ∷ xs) cell named e = absurd cc

own_of : (name a b : List ℕ) → cell_name name a ≡ cell_name name b → a ≡ b
own_of name a b same = append_cancel_left (name ++ codes ".") a b same

head_is_no_slot : (name : List ℕ) (s : ℕ) → s < 2 ^ 64 → head_name name ≡ slot_name name s → ⊥
head_is_no_slot name s small same =
    let text : decimal s ≡ codes "head" = sym (own_of name (codes "head") (decimal s) same) in
    let numeral = (decimal_is_IsNumeral s small).0 in
    let digit = digit_at (decimal s) 0 numeral.1 numeral.0 in
    let letter : get_or (decimal s) 0 0 ≡ 104 = ap (λ xs. get_or xs 0 0) text in
    absurd (omega (arith, digit.1))

slots_differ : (name : List ℕ) (s t : ℕ) → s < 2 ^ 64 → t < 2 ^ 64 → slot_name name s ≡ slot_name name t → s ≡ t
slots_differ name s t small small_too same = decimal_injective s t small small_too (own_of name (decimal s) (decimal t) same)

-- a name beside one field more
pub named_before : (fields : List Field) (more : Field) (x : List ℕ) → Contains (names_of (fields ++ more ∷ [])) x → Contains (names_of fields) x ⊎ (more.name ≡ x)
named_before fields more x has = Contains-push_cases (names_of fields) more.name x (subst (λ (names : List (List ℕ)). Contains names x) (map-append (λ (f : Field). f.name) fields (more ∷ [])) has)

-- a name beside the slots so far is one of them, or stood before
named_of : (d : Declarations) (name : List ℕ) (o n k : ℕ) (x : List ℕ) → Contains (names_of (with_slots d name o n k).fields) x
    → Contains (names_of d.fields) x ⊎ ((s : ℕ) × (s < k) × (slot_name name s ≡ x))
named_of d name o n zero x has = inl has
named_of d name o n (suc k) x has = elim (named_before (with_slots d name o n k).fields (cell_field (slot_name name k) o (first_link n k)) x has) [
  | inl earlier ↦ elim (named_of d name o n k x earlier) [
    | inl old ↦ inl old
    | inr slot ↦ inr (slot.0, (let low = slot.1 in omega arith), slot.2)
  ]
  | inr last ↦ inr (k, omega arith, last)
]

-- so the next slot's name is new
pub next_is_new : (d : Declarations) (name : List ℕ) (o n k : ℕ) → n < 2 ^ 32 → k < n → name ≢ [] → AreNewSlots d name n → IsNewName (names_of (with_slots d name o n k).fields) (slot_name name k)
next_is_new d name o n k small low named new = (
  is_named name (decimal k) named,
  λ has. elim (named_of d name o n k (slot_name name k) has) [
    | inl old ↦ new k low old
    | inr slot ↦ (let before = slot.1 in let same : slot.0 ≡ k = slots_differ name slot.0 k (omega arith) (omega arith) slot.2 in absurd (omega arith))
  ],
)

-- behind the head the slots' names are new, where the pool's are
pub new_behind_head : (d : Declarations) (name : List ℕ) (n : ℕ) → n < 2 ^ 32 → IsNewPool d name n → AreNewSlots (with_head d name) name n
new_behind_head d name n small new s low has = elim (named_before d.fields (cell_field (head_name name) (object_count d) 1) (slot_name name s) has) [
  | inl old ↦ new.cells (inr (s, low, old))
  | inr head ↦ head_is_no_slot name s (omega arith) head
]
