-- Bits of words: what setting and clearing one changes.
use Rattle.std.proofs.Common.{ℕ, ◌≡◌, ◌≢◌, ◌+◌, ◌*◌, ◌/◌, ◌%◌, ◌^◌, ◌<◌, ◌==◌, Bool, true, false, if◌then◌else◌, List, length, slice_index, slice_set, bit_and, bit_or, w64, sym, ap, ◌∙◌, inl, inr, arith}
use Rattle.std.specs.Int.{bit_at, bit_not, trailing_zeros}
use Rattle.std.proofs.lemmas.Bool.Decides.{eqb_tells}
use Rattle.std.proofs.lemmas.List.{get_or-set_same, get_or-set_other}
use Rattle.std.proofs.lemmas.Nat.Bits.{bit_at-zero, bit_at_set_same, bit_at_set_other, bit_at_clear_same, bit_at_clear_other, bit_at-trailing_zeros}
use Rattle.std.proofs.Math.Nat.{div-add-mod}
use mathlib.Core.Logic.{dite}
use native.Mathlib.Decide.{ℕ_discrete}
use Rattle.store_memory.specs.Bits.{has_bit, IsLowestIn}

-- a number is its word and its place in it
apart : (i at : ℕ) → i ≢ at → i / 64 ≡ at / 64 → i % 64 ≢ at % 64
apart i at other word same = other (sym (div-add-mod i 64) ∙ ap (λ w. 64 * w + i % 64) word ∙ ap (λ k. 64 * (at / 64) + k) same ∙ div-add-mod at 64)

module _ (words : List ℕ) (at : ℕ) (within : at / 64 < length words) where
  -- a word that changes one bit alone
  one_bit : (word : ℕ) (b : Bool) → (bit_at word (at % 64) == 1) ≡ b → ((k : ℕ) → k < 64 → k ≢ at % 64 → bit_at word k ≡ bit_at (slice_index words (at / 64)) k) →
      (i : ℕ) → has_bit (slice_set words (at / 64) word) i ≡ (if at == i then b else has_bit words i)
  one_bit word b is others i = elim (eqb_tells at i) [
    | inl e ↦
        ap (λ w. bit_at w (i % 64) == 1) (ap (λ k. slice_index (slice_set words (at / 64) word) (k / 64)) (sym e.1) ∙ get_or-set_same words (at / 64) word 0 within)
        ∙ ap (λ k. bit_at word (k % 64) == 1) (sym e.1) ∙ is ∙ ap (λ t. if t then b else has_bit words i) (sym e.0)
    | inr e ↦ dite (ℕ_discrete (i / 64) (at / 64))
        (λ same. ap (λ w. bit_at w (i % 64) == 1) (ap (λ k. slice_index (slice_set words (at / 64) word) k) same ∙ get_or-set_same words (at / 64) word 0 within)
        ∙ ap (λ n. n == 1) (others (i % 64) (omega arith) (apart i at (λ e'. e.1 (sym e')) same))
        ∙ ap (λ k. bit_at (slice_index words k) (i % 64) == 1) (sym same) ∙ ap (λ t. if t then b else has_bit words i) (sym e.0))
        (λ other. ap (λ w. bit_at w (i % 64) == 1) (get_or-set_other words (at / 64) (i / 64) word 0 other) ∙ ap (λ t. if t then b else has_bit words i) (sym e.0))
  ]

  pub set_is : (i : ℕ) → has_bit (slice_set words (at / 64) (bit_or (slice_index words (at / 64)) (1 * 2 ^ (at % 64) % 2 ^ 64))) i ≡ (if at == i then true else has_bit words i)
  set_is = let low : at % 64 < 64 = omega arith in
      one_bit (bit_or (slice_index words (at / 64)) (1 * 2 ^ (at % 64) % 2 ^ 64)) true
      (ap (λ n. n == 1) (bit_at_set_same w64 (slice_index words (at / 64)) (at % 64) low))
      (λ k small other. bit_at_set_other w64 (slice_index words (at / 64)) (at % 64) low k other)

  pub clear_is : (i : ℕ) → has_bit (slice_set words (at / 64) (bit_and (slice_index words (at / 64)) (bit_not w64 (1 * 2 ^ (at % 64) % 2 ^ 64)))) i ≡ (if at == i then false else has_bit words i)
  clear_is = let low : at % 64 < 64 = omega arith in
      one_bit (bit_and (slice_index words (at / 64)) (bit_not w64 (1 * 2 ^ (at % 64) % 2 ^ 64))) false
      (ap (λ n. n == 1) (bit_at_clear_same w64 (slice_index words (at / 64)) (at % 64) low))
      (λ k small other. bit_at_clear_other w64 (slice_index words (at / 64)) (at % 64) low k small other)

pub lowest_is : (words : List ℕ) (word : ℕ) → 0 < slice_index words word → slice_index words word < 2 ^ 64 → IsLowestIn words word (word * 64 + trailing_zeros w64 (slice_index words word))
lowest_is words word some small =
    let zeros : ℕ = trailing_zeros w64 (slice_index words word) in
    let low = bit_at-trailing_zeros w64 (slice_index words word) some small in
    let within : zeros < 64 = low.0 in
    let there : (word * 64 + zeros) / 64 ≡ word = omega arith in
    let place : (word * 64 + zeros) % 64 ≡ zeros = omega arith in
    record {
      there = there;
      among = ap (λ w. bit_at (slice_index words w) ((word * 64 + zeros) % 64) == 1) there ∙ ap (λ k. bit_at (slice_index words word) k == 1) place ∙ ap (λ n. n == 1) low.1;
      lowest = λ i same less. ap (λ w. bit_at (slice_index words w) (i % 64) == 1) same ∙ ap (λ n. n == 1) (low.2 (i % 64) (omega arith));
    }

pub bit_none : (words : List ℕ) (i : ℕ) → slice_index words (i / 64) ≡ 0 → has_bit words i ≡ false
bit_none words i none = ap (λ w. bit_at w (i % 64) == 1) none ∙ ap (λ n. n == 1) (bit_at-zero (i % 64))

pub no_bit : (words : List ℕ) → ((w : ℕ) → slice_index words w ≡ 0) → (i : ℕ) → has_bit words i ≡ false
no_bit words none i = bit_none words i (none (i / 64))
