-- What setting and clearing one bit of 64 does to the set of a mask.
use Rattle.std.proofs.Common.{◌≡◌, ◌≢◌, ℕ, ◌*◌, ◌%◌, ◌^◌, ◌<◌, ◌==◌, ◌||◌, ◌&&◌, not, true, false, cond, eq-eqb, ne_eqb, bit_or, bit_and, w64, refl, sym, ap, ◌∙◌, arith}
use Rattle.std.specs.Int.{bit_at, bit_not}
use Rattle.std.specs.FinSet as set
use Rattle.std.specs.Ordering.{nat_cmp}
use Rattle.std.proofs.lemmas.Nat.{or_lt, and_le_l, pow_below, one_shl}
use Rattle.std.proofs.lemmas.Nat.Bits.{same_from_bits_below, bit_at_set_same, bit_at_set_other, bit_at_clear_same, bit_at_clear_other}
use mathlib.Core.Logic.{dite}
use native.Mathlib.Decide.{ℕ_discrete}
use Rattle.lock_word.specs.WaitMask.{bit_of, mask_of, lanes_of, IsLaneSet}
use Rattle.lock_word.specs.OneMask.{in-insert, mask_below-lt, bit_at-mask_below, mask_of-lanes_of}
use Rattle.lock_word.proofs.MaskLaws.{in-remove, lanes_of-mask_of, lanes_of-zero, IsLaneSet-lanes_of}

-- the bit of the lane that was put in, and those of the others
bit_in : (s : set.FinSet nat_cmp) (lane : ℕ) → bit_of (set.insert s lane) lane ≡ 1
bit_in s lane = ap (λ b. cond b 1 0) (in-insert s lane lane ∙ ap (λ b. b || set.contains s lane) (eq-eqb lane lane refl))

bit_beside : (s : set.FinSet nat_cmp) (lane q : ℕ) → q ≢ lane → bit_of (set.insert s lane) q ≡ bit_of s q
bit_beside s lane q ne = ap (λ b. cond b 1 0) (in-insert s lane q ∙ ap (λ b. b || set.contains s q) (ne_eqb q lane ne))

bit_out : (s : set.FinSet nat_cmp) (lane : ℕ) → bit_of (set.remove s lane) lane ≡ 0
bit_out s lane = ap (λ b. cond b 1 0) (in-remove s lane lane ∙ ap (λ b. not b && set.contains s lane) (eq-eqb lane lane refl))

bit_left : (s : set.FinSet nat_cmp) (lane q : ℕ) → q ≢ lane → bit_of (set.remove s lane) q ≡ bit_of s q
bit_left s lane q ne = ap (λ b. cond b 1 0) (in-remove s lane q ∙ ap (λ b. not b && set.contains s q) (ne_eqb q lane ne))

pub set_bit : (s : set.FinSet nat_cmp) (lane : ℕ) → lane < 32 → bit_or (mask_of s) (2 ^ lane) ≡ mask_of (set.insert s lane)
set_bit s lane low =
    let wide : lane < 64 = omega arith in
    let one = one_shl lane 64 wide in
    same_from_bits_below 32 (bit_or (mask_of s) (2 ^ lane)) (mask_of (set.insert s lane)) (or_lt 32 (mask_of s) (2 ^ lane) (mask_below-lt s 32) (pow_below lane 32 low)) (mask_below-lt (set.insert s lane) 32)
    (λ i within. ap (λ m. bit_at (bit_or (mask_of s) m) i) (sym one) ∙ dite (ℕ_discrete i lane)
    (λ is. ap (bit_at (bit_or (mask_of s) (1 * 2 ^ lane % 2 ^ 64))) is ∙ bit_at_set_same w64 (mask_of s) lane wide ∙ sym (bit_at-mask_below (set.insert s lane) 32 i within ∙ ap (bit_of (set.insert s lane)) is ∙ bit_in s lane))
    (λ ne. bit_at_set_other w64 (mask_of s) lane wide i ne ∙ bit_at-mask_below s 32 i within ∙ sym (bit_at-mask_below (set.insert s lane) 32 i within ∙ bit_beside s lane i ne)))

pub clear_bit : (s : set.FinSet nat_cmp) (lane : ℕ) → lane < 32 → bit_and (mask_of s) (bit_not w64 (2 ^ lane)) ≡ mask_of (set.remove s lane)
clear_bit s lane low =
    let wide : lane < 64 = omega arith in
    let one = one_shl lane 64 wide in
    let small : bit_and (mask_of s) (bit_not w64 (2 ^ lane)) < 2 ^ 32 = (let le = and_le_l (mask_of s) (bit_not w64 (2 ^ lane)) in let lt = mask_below-lt s 32 in omega arith) in
    same_from_bits_below 32 (bit_and (mask_of s) (bit_not w64 (2 ^ lane))) (mask_of (set.remove s lane)) small (mask_below-lt (set.remove s lane) 32)
    (λ i within. ap (λ m. bit_at (bit_and (mask_of s) (bit_not w64 m)) i) (sym one) ∙ dite (ℕ_discrete i lane)
    (λ is. ap (bit_at (bit_and (mask_of s) (bit_not w64 (1 * 2 ^ lane % 2 ^ 64)))) is ∙ bit_at_clear_same w64 (mask_of s) lane wide ∙ sym (bit_at-mask_below (set.remove s lane) 32 i within ∙ ap (bit_of (set.remove s lane)) is ∙ bit_out s lane))
    (λ ne. bit_at_clear_other w64 (mask_of s) lane wide i (omega arith) ne ∙ bit_at-mask_below s 32 i within ∙ sym (bit_at-mask_below (set.remove s lane) 32 i within ∙ bit_left s lane i ne)))

-- the mask of no lane
pub no_mask : mask_of set.empty ≡ 0
no_mask = ap mask_of (sym lanes_of-zero) ∙ mask_of-lanes_of 0 (omega arith)

pub mask_law : (s : set.FinSet nat_cmp) → IsLaneSet s → (mask_of s < 2 ^ 32) × (lanes_of (mask_of s) ≡ s)
mask_law s small = (mask_below-lt s 32, lanes_of-mask_of s small)

pub lanes_law : (mask : ℕ) → mask < 2 ^ 32 → IsLaneSet (lanes_of mask) × (mask_of (lanes_of mask) ≡ mask)
lanes_law mask small = (IsLaneSet-lanes_of mask, mask_of-lanes_of mask small)

pub empty_law : (mask_of set.empty ≡ 0) × (lanes_of 0 ≡ set.empty)
empty_law = (no_mask, lanes_of-zero)
