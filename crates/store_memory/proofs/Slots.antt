-- The slots of a table of places, and what stands in them.
use Rattle.std.proofs.Common.{ℕ, zero, suc, ◌≡◌, ◌≢◌, ◌+◌, ◌-◌, ◌*◌, ◌%◌, ◌<◌, ◌≤◌, List, [], ◌∷◌, ◌++◌, length, replicate, slice_index, slice_index_or, refl, sym, ap, ◌∙◌, inl, inr, arith, get_or-set_same, get_or-set_other, length-append}
use Rattle.std.proofs.lemmas.Bool.{cases_lt}
use Rattle.std.proofs.lemmas.List.{append_assoc, get_or_append_left, get_or-append_right, get_or_past, length-replicate, replicate-append-replicate}
use Rattle.std.proofs.lemmas.Nat.{mul-le}
use Rattle.std.proofs.Math.Nat.{suc-mul, mod-lt, mod-add-mod, mod-eq_of_lt, add-mod_left}
use Rattle.store_memory.specs.Ends.{slot_of, with_slot}

-- numbers less than n apart differ modulo n
differ : (n p d : ℕ) → 0 < d → d < n → (p + d) % n ≡ p % n → ⊥
differ n p d more less same =
    let r = p % n in
    let low : r < n = mod-lt p (omega arith) in
    let next : (r + d) % n ≡ r = mod-add-mod p n d ∙ same in
    elim (cases_lt (r + d) n) [
      | inl below ↦ absurd (omega (arith, more, sym (mod-eq_of_lt below) ∙ next))
      | inr from ↦
          let k = r + d - n in
          let is : r + d ≡ n + k = omega arith in
          let small : k < n = omega arith in
          let again : k ≡ r = sym (mod-eq_of_lt small) ∙ sym (add-mod_left n k) ∙ ap (λ (m : ℕ). m % n) (sym is) ∙ next in
          absurd (omega (arith, again, is, less))
    ]

-- slots of two rows differ
row_is : (k a b l m : ℕ) → l < k → m < k → a * k + l ≡ b * k + m → a ≡ b
row_is k a b l m low also same = elim (cases_lt a b) [
  | inl lt ↦ (let up : suc a * k ≤ b * k = mul-le (suc a) k b k (omega arith) (omega arith) in absurd (omega (arith, suc-mul a k)))
  | inr ge ↦ elim (cases_lt b a) [
    | inl lt ↦ (let up : suc b * k ≤ a * k = mul-le (suc b) k a k (omega arith) (omega arith) in absurd (omega (arith, suc-mul b k)))
    | inr le ↦ omega arith
  ]
]

-- the slots of two sections of a lane
pub sections_apart : (c k l i j : ℕ) → l < k → i < j → j ≤ i + c → slot_of c k l i ≢ slot_of c k l j
sections_apart c k l i j low lt near same =
    let d = j - i in
    let is : j ≡ i + d = omega arith in
    let equal : (i + d) % (c + 1) ≡ i % (c + 1) = ap (λ (n : ℕ). n % (c + 1)) (sym is) ∙ sym (row_is k (i % (c + 1)) (j % (c + 1)) l l low low same) in
    differ (c + 1) i d (omega arith) (omega arith) equal

-- the slots of two lanes
pub lanes_apart : (c k l m i j : ℕ) → l < k → m < k → l ≢ m → slot_of c k l i ≢ slot_of c k m j
lanes_apart c k l m i j low also ne same =
    let row : i % (c + 1) ≡ j % (c + 1) = row_is k (i % (c + 1)) (j % (c + 1)) l m low also same in
    ne (omega (arith, ap (λ (n : ℕ). n * k) row, same))

-- a slot lies within the table
pub slot_within : (c k l n : ℕ) → l < k → slot_of c k l n < (c + 1) * k
slot_within c k l n lt =
    let low : n % (c + 1) < c + 1 = mod-lt n (omega arith) in
    let rows : suc (n % (c + 1)) * k ≤ (c + 1) * k = mul-le (suc (n % (c + 1))) k (c + 1) k (omega arith) (omega arith) in
    omega (arith, suc-mul (n % (c + 1)) k)

-- a list of one value
pub one_value : {A : Type 0} → (n k : ℕ) (x : A) → slice_index_or (replicate n x) k x ≡ x
one_value zero k x = refl
one_value (suc n) zero x = refl
one_value (suc n) (suc k) x = one_value n k x

-- a table that has grown has 0 in each new slot
filled : (ends : List ℕ) (n i : ℕ) → slice_index (ends ++ replicate n 0) i ≡ slice_index ends i
filled ends n i = elim (cases_lt i (length ends)) [
  | inl lt ↦ get_or_append_left ends (replicate n 0) 0 i lt
  | inr ge ↦ get_or-append_right ends (replicate n 0) (length ends) i 0 refl ge ∙ one_value n (i - length ends) 0 ∙ sym (get_or_past ends i 0 ge)
]

-- the place that was noted, and the others
pub slot_same : (ends : List ℕ) (slot place : ℕ) → slice_index (with_slot ends slot place) slot ≡ place
slot_same ends slot place =
    let more : ℕ = slot + 1 - length ends in
    get_or-set_same (ends ++ replicate more 0) slot place 0 (omega (arith, length-append ends (replicate more 0), length-replicate {A = ℕ} more 0))

pub slot_other : (ends : List ℕ) (slot i place : ℕ) → i ≢ slot → slice_index (with_slot ends slot place) i ≡ slice_index ends i
slot_other ends slot i place ne = get_or-set_other (ends ++ replicate (slot + 1 - length ends) 0) slot i place 0 ne ∙ filled ends (slot + 1 - length ends) i

-- a table that grows by one more zero
pub grown_more : (ends : List ℕ) (n : ℕ) → (ends ++ replicate n 0) ++ 0 ∷ [] ≡ ends ++ replicate (n + 1) 0
grown_more ends n = append_assoc ends (replicate n 0) (0 ∷ []) ∙ ap (λ (xs : List ℕ). ends ++ xs) (replicate-append-replicate n 1 0)
