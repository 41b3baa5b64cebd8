-- The names of numbered objects and fields are all different.
use Rattle.std.proofs.Common.{ℕ, zero, suc, ◌≡◌, ◌+◌, ◌<◌, ◌≤◌, ◌^◌, ◌⊎◌, List, [], ◌∷◌, ◌++◌, Result, Err, false, length, get_or, Contains, codes, decimal, inl, inr, refl, sym, ap, ◌∙◌, subst, arith}
use Rattle.std.proofs.lemmas.List.{append_cancel_left, length-append}
use Rattle.std.proofs.lemmas.List.Elements.{Contains-append_cases, Contains-push_cases}
use Rattle.std.proofs.lemmas.Fmt.{decimal_injective}
use Rattle.guards.specs.declared.error.SchemaError.{SchemaError}
use Rattle.guards.specs.declared.error.SchemaError.TheVariants.{Empty, DoubleName, UnknownObject, TooMany, NoMemory}
use Rattle.heap_model.specs.declared.limits.TheConstants.{MOST_FIELDS, MOST_OBJECTS}
use Rattle.guards.specs.Schema.{Declarations, Field, IsNewName, field_count, field_of, firsts_of, guards_of, marks_of, names_of, object_count, owners_of, with_field}
use Rattle.image_parts.specs.Guards.{NamesObjects}
use Rattle.image_parts.specs.declared.guard_row.GuardRow.{GuardRow}
use Rattle.image_parts.specs.NumberedRows.{RefusesObject, RefusesRow, RefusesRows, field_name, fields_from, names_below, numbered, object_name}

none_yet : (x : List ℕ) → Contains [] x → ⊥
none_yet x has = let low : has.0 < 0 = has.1 in absurd (omega (arith, low))

pub objects_are : (n : ℕ) → length (names_below n) ≡ n
objects_are zero = refl
objects_are (suc n) = omega (arith, length-append (names_below n) (object_name n ∷ []), objects_are n)

pub fields_are : (k : ℕ) (rows : List GuardRow) → length (fields_from k rows) ≡ length rows
fields_are k [] = refl
fields_are k (r ∷ rows) = ap suc (fields_are (suc k) rows)

-- one field more
pub fields_more : (k : ℕ) (rows : List GuardRow) (r : GuardRow) → fields_from k (rows ++ r ∷ []) ≡ fields_from k rows ++ field_of (field_name (k + length rows)) r.owner r.guard r.first r.transient ∷ []
fields_more k [] r = ap (λ (n : ℕ). field_of (field_name n) r.owner r.guard r.first r.transient ∷ []) (omega arith)
fields_more k (x ∷ rows) r =
    let same : suc k + length rows ≡ k + suc (length rows) = omega arith in
    ap (λ (fs : List Field). field_of (field_name k) x.owner x.guard x.first x.transient ∷ fs)
    (fields_more (suc k) rows r ∙ ap (λ (n : ℕ). fields_from (suc k) rows ++ field_of (field_name n) r.owner r.guard r.first r.transient ∷ []) same)

object_named : (n : ℕ) (x : List ℕ) → Contains (names_below n) x → (j : ℕ) × (j < n) × (object_name j ≡ x)
object_named zero x has = absurd (none_yet x has)
object_named (suc n) x has = elim (Contains-push_cases (names_below n) (object_name n) x has) [
  | inl earlier ↦ (let one = object_named n x earlier in (one.0, (let low = one.1 in omega arith), one.2))
  | inr last ↦ (n, omega arith, last)
]

field_named : (k : ℕ) (rows : List GuardRow) (x : List ℕ) → Contains (names_of (fields_from k rows)) x → (j : ℕ) × (k ≤ j) × (j < k + length rows) × (field_name j ≡ x)
field_named k [] x has = absurd (none_yet x has)
field_named k (r ∷ rows) x has = elim (Contains-append_cases (field_name k ∷ []) (names_of (fields_from (suc k) rows)) x has) [
  | inl first ↦ elim (Contains-push_cases [] (field_name k) x first) [
    | inl none ↦ absurd (none_yet x none)
    | inr is ↦ (k, omega arith, omega arith, is)
  ]
  | inr later ↦ (let one = field_named (suc k) rows x later in (one.0, (let low = one.1 in omega arith), (let high = one.2 in omega arith), one.3))
]

-- so the next names are new
pub object_is_new : (n : ℕ) → n < 2 ^ 64 → IsNewName (names_below n) (object_name n)
object_is_new n small = (
  λ none. absurd cc,
  λ has.
      let one = object_named n (object_name n) has in
      let low = one.1 in
      let same : one.0 ≡ n = decimal_injective one.0 n (omega arith) (omega arith) (append_cancel_left (codes "o") (decimal one.0) (decimal n) one.2) in
      absurd (omega arith),
)

pub field_is_new : (rows : List GuardRow) → length rows < 2 ^ 64 → IsNewName (names_of (fields_from 0 rows)) (field_name (length rows))
field_is_new rows small = (
  λ none. absurd cc,
  λ has.
      let n = length rows in
      let one = field_named 0 rows (field_name n) has in
      let low : one.0 < 0 + n = one.2 in
      let same : one.0 ≡ n = decimal_injective one.0 n (omega arith) (omega arith) (append_cancel_left (codes "f") (decimal one.0) (decimal n) one.3) in
      absurd (omega arith),
)

-- what the rows say of each field
pub guard_at : (k : ℕ) (rows : List GuardRow) (f : ℕ) (d : GuardRow) → f < length rows → get_or (guards_of (fields_from k rows)) f 0 ≡ (get_or rows f d).guard.0
guard_at k [] f d low = absurd (omega arith)
guard_at k (r ∷ rows) zero d low = refl
guard_at k (r ∷ rows) (suc f) d low = guard_at (suc k) rows f d (omega arith)

pub first_at : (k : ℕ) (rows : List GuardRow) (f : ℕ) (d : GuardRow) → f < length rows → get_or (firsts_of (fields_from k rows)) f 0 ≡ (get_or rows f d).first
first_at k [] f d low = absurd (omega arith)
first_at k (r ∷ rows) zero d low = refl
first_at k (r ∷ rows) (suc f) d low = first_at (suc k) rows f d (omega arith)

pub mark_at : (k : ℕ) (rows : List GuardRow) (f : ℕ) (d : GuardRow) → f < length rows → get_or (marks_of (fields_from k rows)) f false ≡ (get_or rows f d).transient
mark_at k [] f d low = absurd (omega arith)
mark_at k (r ∷ rows) zero d low = refl
mark_at k (r ∷ rows) (suc f) d low = mark_at (suc k) rows f d (omega arith)

pub owner_at : (k : ℕ) (rows : List GuardRow) (f : ℕ) (d : GuardRow) → f < length rows → get_or (owners_of (fields_from k rows)) f 0 ≡ (get_or rows f d).owner.0
owner_at k [] f d low = absurd (omega arith)
owner_at k (r ∷ rows) zero d low = refl
owner_at k (r ∷ rows) (suc f) d low = owner_at (suc k) rows f d (omega arith)

-- why the next object isn't declared
pub object_refused : {B : Type 0} (n : ℕ) (b : Declarations) (name : List ℕ) (e : SchemaError) → b ≡ numbered n [] → name ≡ object_name n → n < 2 ^ 64
    → (◌≡◌ {A = Result B SchemaError} (Err e) (Err Empty) → name ≡ []) → (◌≡◌ {A = Result B SchemaError} (Err e) (Err DoubleName) → Contains b.objects name) → (◌≡◌ {A = Result B SchemaError} (Err e) (Err UnknownObject) → ⊥) → (◌≡◌ {A = Result B SchemaError} (Err e) (Err TooMany) → object_count b ≡ MOST_OBJECTS)
    → RefusesObject (suc n) e
object_refused n b name Empty is named small empty double unknown many = absurd ((object_is_new n small).0 (sym named ∙ empty refl))
object_refused n b name DoubleName is named small empty double unknown many =
    absurd ((object_is_new n small).1 (subst (λ (x : List ℕ). Contains (names_below n) x) named (subst (λ (d : Declarations). Contains d.objects name) is (double refl))))
object_refused n b name UnknownObject is named small empty double unknown many = absurd (unknown refl)
object_refused n b name TooMany is named small empty double unknown many =
    let count : object_count b ≡ n = ap (λ (d : Declarations). object_count d) is ∙ objects_are n in
    let most = many refl in
    omega (arith, count, most)
object_refused n b name NoMemory is named small empty double unknown many = tt

-- why the next field isn't
pub row_refused : {B : Type 0} (objects : ℕ) (before : List GuardRow) (r : GuardRow) (b : Declarations) (name : List ℕ) (e : SchemaError) → b ≡ numbered objects before → name ≡ field_name (length before) → length before < 2 ^ 64
    → (◌≡◌ {A = Result B SchemaError} (Err e) (Err Empty) → name ≡ []) → (◌≡◌ {A = Result B SchemaError} (Err e) (Err DoubleName) → Contains (names_of b.fields) name) → (◌≡◌ {A = Result B SchemaError} (Err e) (Err UnknownObject) → (object_count b ≤ r.owner.0) ⊎ (object_count b ≤ r.guard.0)) → (◌≡◌ {A = Result B SchemaError} (Err e) (Err TooMany) → field_count b ≡ MOST_FIELDS)
    → RefusesRow objects before r e
row_refused objects before r b name Empty is named small empty double unknown many = absurd ((field_is_new before small).0 (sym named ∙ empty refl))
row_refused objects before r b name DoubleName is named small empty double unknown many =
    absurd ((field_is_new before small).1 (subst (λ (x : List ℕ). Contains (names_of (fields_from 0 before)) x) named (subst (λ (d : Declarations). Contains (names_of d.fields) name) is (double refl))))
row_refused objects before r b name UnknownObject is named small empty double unknown many =
    subst (λ (n : ℕ). (n ≤ r.owner.0) ⊎ (n ≤ r.guard.0)) (ap (λ (d : Declarations). object_count d) is ∙ objects_are objects) (unknown refl)
row_refused objects before r b name TooMany is named small empty double unknown many =
    sym (ap (λ (d : Declarations). field_count d) is ∙ fields_are 0 before) ∙ many refl
row_refused objects before r b name NoMemory is named small empty double unknown many = tt

-- one field more, behind what was declared
pub row_declared : (objects : ℕ) (before : List GuardRow) (r : GuardRow) (b after : Declarations) (name : List ℕ) → b ≡ numbered objects before → name ≡ field_name (length before)
    → after ≡ with_field b (field_of name r.owner r.guard r.first r.transient) → after ≡ numbered objects (before ++ r ∷ [])
row_declared objects before r b after name is named made = made
    ∙ ap (λ (d : Declarations). with_field d (field_of name r.owner r.guard r.first r.transient)) is
    ∙ ap (λ (x : List ℕ). with_field (numbered objects before) (field_of x r.owner r.guard r.first r.transient)) named
    ∙ ap (λ (n : ℕ). with_field (numbered objects before) (field_of (field_name n) r.owner r.guard r.first r.transient)) (omega arith)
    ∙ ap (λ (fs : List Field). record { objects = names_below objects; fields = fs }) (sym (fields_more 0 before r))

-- nothing is declared only where nothing was to be
pub empty_of : (objects : ℕ) (rows : List GuardRow) (b : Declarations) → b ≡ numbered objects rows → (object_count b ≡ 0) ⊎ (field_count b ≡ 0) → (objects ≡ 0) ⊎ (length rows ≡ 0)
empty_of objects rows b is (inl none) = inl (sym (ap (λ (d : Declarations). object_count d) is ∙ objects_are objects) ∙ none)
empty_of objects rows b is (inr none) = inr (sym (ap (λ (d : Declarations). field_count d) is ∙ fields_are 0 rows) ∙ none)

-- the rows of an image make a schema, if there is memory
pub only_memory : (objects : ℕ) (rows : List GuardRow) (e : SchemaError) → 1 ≤ objects → objects ≤ 4096 → 1 ≤ length rows → length rows ≤ 16384
    → ((f : ℕ) (d : GuardRow) → f < length rows → NamesObjects objects (get_or rows f d)) → RefusesRows objects rows e → e ≡ NoMemory
only_memory objects rows Empty some few any most each (inl none) = absurd (omega (arith, some, none))
only_memory objects rows Empty some few any most each (inr none) = absurd (omega (arith, any, none))
only_memory objects rows DoubleName some few any most each why = absurd why
only_memory objects rows UnknownObject some few any most each why = elim why.3 [
  | inl high ↦ (let low = (each why.0 why.1 why.2).owner in absurd (omega (arith, high, low)))
  | inr high ↦ (let low = (each why.0 why.1 why.2).guard in absurd (omega (arith, high, low)))
]
only_memory objects rows TooMany some few any most each (inl high) = let above : 4096 < objects = high in absurd (omega (arith, above, few))
only_memory objects rows TooMany some few any most each (inr high) = let above : 16384 < length rows = high in absurd (omega (arith, above, most))
only_memory objects rows NoMemory some few any most each why = refl
