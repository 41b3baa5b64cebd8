-- The free list with which a pool begins.
use Rattle.std.proofs.Common.{ℕ, zero, suc, ◌≡◌, ◌+◌, ◌==◌, ◌<◌, if◌then◌else◌, Bool, List, [], ◌∷◌, ◌++◌, length, slice_get, Option, Some, inl, inr, refl, sym, ap, ◌∙◌, subst, length-append, arith}
use Rattle.std.proofs.lemmas.Bool.{cases_eq}
use Rattle.std.proofs.lemmas.Bool.Decides.{eqb_tells}
use Rattle.std.proofs.lemmas.List.{map-append, length-map}
use Rattle.std.specs.List.{range_with_len}
use Rattle.guards.specs.Schema.{Field, Declarations, object_count, field_count, firsts_of, with_field}
use Rattle.pool.specs.Knowledge.{Values}
use Rattle.pool.specs.FreeList.{Place, cell_of, Spells, IsNoneOf, AreDistinct, IsFreeList}
use Rattle.pool.specs.LaidOut.{head_name, slot_name, first_link, cell_field, with_slots, with_head, with_part, first_values}
use Rattle.pool.specs.Numbered.{FreeLaw}
use Rattle.pool.proofs.DeclaringLemmas.{more_fields}

-- what stands in a list, and what is put behind it
kept_at : (xs : List ℕ) (y i v : ℕ) → slice_get xs i ≡ Some v → slice_get (xs ++ y ∷ []) i ≡ Some v
kept_at [] y i v at = absurd cc
kept_at (x ∷ xs) y zero v at = at
kept_at (x ∷ xs) y (suc i) v at = kept_at xs y i v at

last_at : (xs : List ℕ) (y : ℕ) → slice_get (xs ++ y ∷ []) (length xs) ≡ Some y
last_at [] y = refl
last_at (x ∷ xs) y = last_at xs y

-- the first values, with one field more
firsts_more : (fields : List Field) (more : Field) → firsts_of (fields ++ more ∷ []) ≡ firsts_of fields ++ more.first ∷ []
firsts_more fields more = map-append (λ (f : Field). f.first) fields (more ∷ [])

first_kept : (d : Declarations) (more : Field) (i v : ℕ) → first_values d i ≡ Some v → first_values (with_field d more) i ≡ Some v
first_kept d more i v at = ap (λ xs. slice_get xs i) (firsts_more d.fields more) ∙ kept_at (firsts_of d.fields) more.first i v at

first_last : (d : Declarations) (more : Field) (i : ℕ) → i ≡ field_count d → first_values (with_field d more) i ≡ Some more.first
first_last d more i is = ap (λ j. first_values (with_field d more) j) (is ∙ sym (length-map d.fields (λ (f : Field). f.first)))
    ∙ ap (λ xs. slice_get xs (length (firsts_of d.fields))) (firsts_more d.fields more) ∙ last_at (firsts_of d.fields) more.first

-- with the slots so far
kept_by_slots : (d : Declarations) (name : List ℕ) (o n k i v : ℕ) → first_values d i ≡ Some v → first_values (with_slots d name o n k) i ≡ Some v
kept_by_slots d name o n zero i v at = at
kept_by_slots d name o n (suc k) i v at = first_kept (with_slots d name o n k) (cell_field (slot_name name k) o (first_link n k)) i v (kept_by_slots d name o n k i v at)

slot_begins : (d : Declarations) (name : List ℕ) (o n k s : ℕ) → s < k → first_values (with_slots d name o n k) (field_count d + s) ≡ Some (first_link n s)
slot_begins d name o n zero s low = absurd (omega arith)
slot_begins d name o n (suc k) s low = elim (cases_eq s k) [
  | inl last ↦ subst (λ (t : ℕ). first_values (with_slots d name o n (suc k)) (field_count d + t) ≡ Some (first_link n t)) (sym last)
      (first_last (with_slots d name o n k) (cell_field (slot_name name k) o (first_link n k)) (field_count d + k) (sym (more_fields d name o n k)))
  | inr other ↦ first_kept (with_slots d name o n k) (cell_field (slot_name name k) o (first_link n k)) (field_count d + s) (first_link n s) (slot_begins d name o n k s (omega arith))
]

-- the link that names a slot, or the end behind the last one
abbrev link_to : (slots slot : ℕ) → ℕ
link_to n s = if s == n then 0 else s + 1

link_to_slot : (n s : ℕ) → s < n → link_to n s ≡ s + 1
link_to_slot n s low = elim (eqb_tells s n) [
  | inl is ↦ absurd (let e = is.1 in omega arith)
  | inr away ↦ ap (λ (b : Bool). if b then 0 else s + 1) away.0
]

link_after : (n s : ℕ) → first_link n s ≡ link_to n (s + 1)
link_after n s = let e : s + 2 ≡ s + 1 + 1 = omega arith in ap (λ (x : ℕ). if s + 1 == n then 0 else x) e

link_to_end : (n : ℕ) → link_to n n ≡ 0
link_to_end n = elim (eqb_tells n n) [
  | inl is ↦ ap (λ (b : Bool). if b then 0 else n + 1) is.0
  | inr away ↦ absurd (away.1 refl)
]

-- from a slot on, all are listed
spelled_from : (p : Place) (known : Values) → ((s : ℕ) → s < p.slots → known (cell_of p s) ≡ Some (link_to p.slots (s + 1)))
    → (link : Option ℕ) (s k : ℕ) → s + k ≡ p.slots → link ≡ Some (link_to p.slots s) → Spells p known link (range_with_len s k)
spelled_from p known links link s zero all is = inr (is ∙ ap (λ (t : ℕ). Some (link_to p.slots t)) (let e : s ≡ p.slots = omega arith in e) ∙ ap Some (link_to_end p.slots))
spelled_from p known links link s (suc k) all is = (
  is ∙ ap Some (link_to_slot p.slots s (omega arith)),
  omega arith,
  spelled_from p known links (known (cell_of p s)) (s + 1) k (omega arith) (links s (omega arith)),
)

-- and none twice
none_of : (s t k : ℕ) → s < t → IsNoneOf s (range_with_len t k)
none_of s t zero low = tt
none_of s t (suc k) low = ((λ e. absurd (omega arith)), none_of s (t + 1) k (omega arith))

distinct_from : (s k : ℕ) → AreDistinct (range_with_len s k)
distinct_from s zero = tt
distinct_from s (suc k) = (none_of s (s + 1) k (omega arith), distinct_from (s + 1) k)

-- with the values with which its fields begin, all slots of a pool are free, in their order
pub first_list : (d : Declarations) (name : List ℕ) (n : ℕ) → 0 < n → IsFreeList (record { head = field_count d; slots = n }) (first_values (with_part d name n n)) (range_with_len 0 n)
first_list d name n some =
    let p : Place = record { head = field_count d; slots = n } in
    let o = object_count d in
    let before : Declarations = record d { objects = d.objects ++ name ∷ [] } in
    let h = with_head d name in
    let known = first_values (with_part d name n n) in
    let count : field_count h ≡ field_count d + 1 = omega (arith, length-append d.fields (cell_field (head_name name) o 1 ∷ [])) in
    let head : known (field_count d) ≡ Some 1 = kept_by_slots h name o n n (field_count d) 1 (first_last before (cell_field (head_name name) o 1) (field_count d) refl) in
    let links : (s : ℕ) → s < n → known (cell_of p s) ≡ Some (link_to n (s + 1)) = (λ s low. ap (λ (i : ℕ). known (i + s)) (sym count) ∙ slot_begins h name o n n s low ∙ ap Some (link_after n s)) in record {
      spelled = spelled_from p known links (known (field_count d)) 0 n (omega arith) (head ∙ ap Some (sym (link_to_slot n 0 some)));
      distinct = distinct_from 0 n;
    }

-- and so are those of a pool whose fields a host has declared
pub free_list : FreeLaw
free_list p known some firsts =
    let n = p.slots in
    let head : known p.head ≡ Some 1 = ap known (let e : p.head ≡ p.head + 0 = omega arith in e) ∙ firsts 0 (omega arith) in
    let links : (s : ℕ) → s < n → known (cell_of p s) ≡ Some (link_to n (s + 1)) =
    (λ s low. ap known (let e : p.head + 1 + s ≡ p.head + suc s = omega arith in e) ∙ firsts (suc s) (omega arith) ∙ ap Some (link_after n s)) in record {
      spelled = spelled_from p known links (known p.head) 0 n (omega arith) (head ∙ ap Some (sym (link_to_slot n 0 some)));
      distinct = distinct_from 0 n;
    }
