-- The names of workers' objects and fields are all different.
use Rattle.std.proofs.Common.{ℕ, zero, suc, ◌≡◌, ◌+◌, ◌<◌, ◌⊎◌, List, [], ◌∷◌, ◌++◌, get_or, length, slice_index, Contains, Result, Ok, Err, OnOk, codes, decimal, inl, inr, refl, ap, ◌∙◌, subst, length-append, arith}
use Rattle.std.proofs.lemmas.List.{append_cancel_left, map-append}
use Rattle.std.proofs.lemmas.List.Elements.{Contains-push_cases}
use Rattle.std.proofs.lemmas.Fmt.{decimal_injective}
use Rattle.guards.specs.Schema.{Declarations, Field, IsNewName, field_count, first_of, firsts_of, guard_of, guards_of, names_of, object_count, with_field, with_object}
use Rattle.thread_drive.specs.Schemas.{count_field, own_field, own_object, schema_of}

pub objects_are : (n : ℕ) → object_count (schema_of n) ≡ suc n
objects_are zero = refl
objects_are (suc n) = omega (arith, length-append (schema_of n).objects (own_object n ∷ []), objects_are n)

pub fields_are : (n : ℕ) → field_count (schema_of n) ≡ suc n
fields_are zero = refl
fields_are (suc n) = omega (arith, length-append (schema_of n).fields (count_field (own_field n) (suc n) ∷ []), fields_are n)

-- the next worker's object and field, behind those of the workers before
pub next_worker : (n : ℕ) → with_field (with_object (schema_of n) (own_object n)) (count_field (own_field n) (object_count (schema_of n))) ≡ schema_of (suc n)
next_worker n = ap (λ (o : ℕ). with_field (with_object (schema_of n) (own_object n)) (count_field (own_field n) o)) (objects_are n)

none_yet : (x : List ℕ) → Contains [] x → ⊥
none_yet x has = let low : has.0 < 0 = has.1 in absurd (omega (arith, low))

all_is_none : (k : ℕ) → codes "all" ≡ own_object k → ⊥
all_is_none k same =
    let letter : ◌≡◌ {A = ℕ} 97 119 = ap (λ xs. get_or xs 0 0) same in
    absurd (omega (arith, letter))

total_is_none : (k : ℕ) → codes "total" ≡ own_field k → ⊥
total_is_none k same =
    let letter : ◌≡◌ {A = ℕ} 116 111 = ap (λ xs. get_or xs 0 0) same in
    absurd (omega (arith, letter))

-- an object's name is that for all, or a worker's
object_named : (n : ℕ) (x : List ℕ) → Contains (schema_of n).objects x → (codes "all" ≡ x) ⊎ ((k : ℕ) × (k < n) × (own_object k ≡ x))
object_named zero x has = elim (Contains-push_cases [] (codes "all") x has) [
  | inl none ↦ absurd (none_yet x none)
  | inr all ↦ inl all
]
object_named (suc n) x has = elim (Contains-push_cases (schema_of n).objects (own_object n) x has) [
  | inl earlier ↦ elim (object_named n x earlier) [
    | inl all ↦ inl all
    | inr own ↦ inr (own.0, (let low = own.1 in omega arith), own.2)
  ]
  | inr last ↦ inr (n, omega arith, last)
]

-- a name beside one field more
named_before : (fields : List Field) (more : Field) (x : List ℕ) → Contains (names_of (fields ++ more ∷ [])) x → Contains (names_of fields) x ⊎ (more.name ≡ x)
named_before fields more x has = Contains-push_cases (names_of fields) more.name x (subst (λ (names : List (List ℕ)). Contains names x) (map-append (λ (f : Field). f.name) fields (more ∷ [])) has)

field_named : (n : ℕ) (x : List ℕ) → Contains (names_of (schema_of n).fields) x → (codes "total" ≡ x) ⊎ ((k : ℕ) × (k < n) × (own_field k ≡ x))
field_named zero x has = elim (named_before [] (count_field (codes "total") 0) x has) [
  | inl none ↦ absurd (none_yet x none)
  | inr total ↦ inl total
]
field_named (suc n) x has = elim (named_before (schema_of n).fields (count_field (own_field n) (suc n)) x has) [
  | inl earlier ↦ elim (field_named n x earlier) [
    | inl total ↦ inl total
    | inr own ↦ inr (own.0, (let low = own.1 in omega arith), own.2)
  ]
  | inr last ↦ inr (n, omega arith, last)
]

-- so the next worker's names are new
pub object_is_new : (n : ℕ) → n < 256 → IsNewName (schema_of n).objects (own_object n)
object_is_new n small = (
  λ none. absurd cc,
  λ has. elim (object_named n (own_object n) has) [
    | inl all ↦ all_is_none n all
    | inr own ↦ (
        let before = own.1 in
        let same : own.0 ≡ n = decimal_injective own.0 n (omega arith) (omega arith) (append_cancel_left (codes "w") (decimal own.0) (decimal n) own.2) in
        absurd (omega arith))
  ],
)

pub field_is_new : (n : ℕ) → n < 256 → IsNewName (names_of (schema_of n).fields) (own_field n)
field_is_new n small = (
  λ none. absurd cc,
  λ has. elim (field_named n (own_field n) has) [
    | inl total ↦ total_is_none n total
    | inr own ↦ (
        let before = own.1 in
        let same : own.0 ≡ n = decimal_injective own.0 n (omega arith) (omega arith) (append_cancel_left (codes "own") (decimal own.0) (decimal n) own.2) in
        absurd (omega arith))
  ],
)

-- what declaring the next worker makes, by what stood before and its names
pub declared_next : {E : Type 0} (r : Result (Unit {0}) E) (n : ℕ) (old new : Declarations) (name field : List ℕ) → old ≡ schema_of n → name ≡ own_object n → field ≡ own_field n
    → OnOk r (new ≡ with_field (with_object old name) (count_field field (object_count old))) → OnOk r (new ≡ schema_of (suc n))
declared_next (Err e) n old new name field before named owned declared = tt
declared_next (Ok done) n old new name field before named owned declared = declared
    ∙ ap (λ (b : Declarations). with_field (with_object b name) (count_field field (object_count b))) before
    ∙ ap (λ (x : List ℕ). with_field (with_object (schema_of n) x) (count_field field (object_count (schema_of n)))) named
    ∙ ap (λ (x : List ℕ). with_field (with_object (schema_of n) (own_object n)) (count_field x (object_count (schema_of n)))) owned
    ∙ next_worker n

-- it is never empty
pub never_empty : (n : ℕ) (b : Declarations) → b ≡ schema_of n → (object_count b ≡ 0) ⊎ (field_count b ≡ 0) → ⊥
never_empty n b is (inl none) = let some : object_count b ≡ suc n = ap (λ (x : Declarations). object_count x) is ∙ objects_are n in omega (arith, some, none)
never_empty n b is (inr none) = let some : field_count b ≡ suc n = ap (λ (x : Declarations). field_count x) is ∙ fields_are n in omega (arith, some, none)

-- each field begins with 0
zero_behind : (fields : List Field) (more : Field) → more.first ≡ 0 → ((f : ℕ) → slice_index (firsts_of fields) f ≡ 0) → (f : ℕ) → slice_index (firsts_of (fields ++ more ∷ [])) f ≡ 0
zero_behind [] more last before zero = last
zero_behind [] more last before (suc f) = refl
zero_behind (x ∷ fields) more last before zero = before zero
zero_behind (x ∷ fields) more last before (suc f) = zero_behind fields more last (λ (i : ℕ). before (suc i)) f

pub first_is_zero : (n f : ℕ) → first_of (schema_of n) f ≡ 0
first_is_zero zero zero = refl
first_is_zero zero (suc f) = refl
first_is_zero (suc n) f = zero_behind (schema_of n).fields (count_field (own_field n) (suc n)) refl (first_is_zero n) f

-- each field is guarded by the object of its number
numbered_behind : (a : ℕ) (fields : List Field) (more : Field) → more.guard ≡ a + length fields → ((f : ℕ) → f < length fields → slice_index (guards_of fields) f ≡ a + f)
    → (f : ℕ) → f < length fields + 1 → slice_index (guards_of (fields ++ more ∷ [])) f ≡ a + f
numbered_behind a [] more last before zero low = last
numbered_behind a [] more last before (suc f) low = absurd (omega (arith, low))
numbered_behind a (x ∷ fields) more last before zero low = before zero (omega arith)
numbered_behind a (x ∷ fields) more last before (suc f) low =
    numbered_behind (suc a) fields more (last ∙ omega arith) (λ i under. before (suc i) (omega (arith, under)) ∙ omega arith) f (omega (arith, low)) ∙ omega arith

pub guards_are : (n f : ℕ) → f < suc n → guard_of (schema_of n) f ≡ f
guards_are zero zero low = refl
guards_are zero (suc f) low = absurd (omega (arith, low))
guards_are (suc n) f low =
    let count : length (schema_of n).fields ≡ suc n = fields_are n in
    numbered_behind 0 (schema_of n).fields (count_field (own_field n) (suc n)) (omega (arith, count)) (λ i under. guards_are n i (omega (arith, under, count)) ∙ omega arith) f (omega (arith, low, count)) ∙ omega arith
