-- Why a mask can be seen as its set: the mask of the set of a mask is that mask. A Model cites what stands in specs/
-- alone, so this one law of masks is proved here; the others are in proofs/MaskLaws.antt.
use Rattle.std.proofs.Common.{◌≡◌, ℕ, zero, suc, ◌+◌, ◌-◌, ◌*◌, ◌%◌, ◌^◌, ◌<◌, ◌≤◌, ◌==◌, ◌||◌, ◌&&◌, not, true, false, cond, eq-eqb, ne_eqb, bit_or, bit_and, w32, refl, sym, ap, ◌∙◌, ⊎_elim, true≢false, arith}
use Rattle.std.specs.Int.{bit_at, bit_not}
use Rattle.std.specs.FinSet as set
use Rattle.std.specs.FinSet.{contains-empty, contains-insert, contains-remove, same_set, nat_cmp-IsAntisymmetric}
use Rattle.std.specs.Ordering.{nat_cmp}
use Rattle.std.specs.Cmp.{unsigned_tied}
use Rattle.std.proofs.lemmas.Cmp.{nat_cmp_total}
use Rattle.std.proofs.lemmas.Bool.{false_from_ne_true, cases_lt}
use Rattle.std.proofs.Math.Nat.{pow-suc}
use Rattle.std.proofs.lemmas.Nat.Bits.{bit_at-lt, bit_at_cat_low, bit_at_cat_high, same_from_bits_below, bit_at-zero, bit_at_above, bit_at_set_same, bit_at_set_other, bit_at_clear_same, bit_at_clear_other}
use mathlib.Core.Logic.{dite}
use native.Mathlib.Decide.{ℕ_discrete}
use Rattle.lock_word.specs.WaitMask.{bit_of, mask_below, mask_of, lanes_below, lanes_of, IsLaneSet}

-- what `insert` and `remove` do to a member
pub in-insert : (s : set.FinSet nat_cmp) (k q : ℕ) → set.contains (set.insert s k) q ≡ ((q == k) || set.contains s q)
in-insert s k q = contains-insert nat_cmp_total s k q ∙ ap (λ b. b || set.contains s q) (unsigned_tied q k)

-- no lane from `count` on is in it
pub contains-lanes_below_past : (mask count q : ℕ) → count ≤ q → set.contains (lanes_below mask count) q ≡ false
unfolding lanes_below
contains-lanes_below_past mask zero q past = contains-empty nat_cmp q
contains-lanes_below_past mask (suc n) q past = elim (bit_at mask n == 1) as (λ b. set.contains (cond b (set.insert (lanes_below mask n) n) (lanes_below mask n)) q ≡ false) [
  | true ↦ in-insert (lanes_below mask n) n q ∙ ap (λ b. b || set.contains (lanes_below mask n) q) (ne_eqb q n (omega arith)) ∙ contains-lanes_below_past mask n q (omega arith)
  | false ↦ contains-lanes_below_past mask n q (omega arith)
]

-- the set of a mask has the lanes whose bits are set
pub contains-lanes_below : (mask count q : ℕ) → q < count → set.contains (lanes_below mask count) q ≡ (bit_at mask q == 1)
unfolding lanes_below
contains-lanes_below mask zero q below = absurd (omega arith)
contains-lanes_below mask (suc n) q below = dite (ℕ_discrete q n)
    (λ is. elim (bit_at mask n == 1) as (λ b. bit_at mask n == 1 ≡ b → set.contains (cond b (set.insert (lanes_below mask n) n) (lanes_below mask n)) q ≡ (bit_at mask q == 1)) [
      | true ↦ λ e. in-insert (lanes_below mask n) n q ∙ ap (λ b. b || set.contains (lanes_below mask n) q) (eq-eqb q n is) ∙ sym (ap (λ z. bit_at mask z == 1) is ∙ e)
      | false ↦ λ e. contains-lanes_below_past mask n q (omega arith) ∙ sym (ap (λ z. bit_at mask z == 1) is ∙ e)
    ] refl)
    (λ other. elim (bit_at mask n == 1) as (λ b. set.contains (cond b (set.insert (lanes_below mask n) n) (lanes_below mask n)) q ≡ (bit_at mask q == 1)) [
      | true ↦ in-insert (lanes_below mask n) n q ∙ ap (λ b. b || set.contains (lanes_below mask n) q) (ne_eqb q n other) ∙ contains-lanes_below mask n q (omega arith)
      | false ↦ contains-lanes_below mask n q (omega arith)
    ])

-- a mask of so many bits is below their power
pub mask_below-lt : (lanes : set.FinSet nat_cmp) (count : ℕ) → mask_below lanes count < 2 ^ count
unfolding mask_below
mask_below-lt lanes zero = omega arith
mask_below-lt lanes (suc n) = elim (set.contains lanes n) as (λ b. cond b 1 0 * 2 ^ n + mask_below lanes n < 2 ^ suc n) [
  | true ↦ omega (arith, pow-suc 2 n, mask_below-lt lanes n)
  | false ↦ omega (arith, pow-suc 2 n, mask_below-lt lanes n)
]

-- its bits are those of the lanes
pub bit_at-mask_below : (lanes : set.FinSet nat_cmp) (count i : ℕ) → i < count → bit_at (mask_below lanes count) i ≡ bit_of lanes i
unfolding mask_below
bit_at-mask_below lanes zero i below = absurd (omega arith)
bit_at-mask_below lanes (suc n) i below = dite (ℕ_discrete i n)
    (λ is. let from : n ≤ i = omega arith in let none : i - n ≡ 0 = omega arith in
    bit_at_cat_high (bit_of lanes n) n (mask_below lanes n) i (mask_below-lt lanes n) from ∙ ap (bit_at (bit_of lanes n)) none
    ∙ elim (set.contains lanes n) as (λ b. bit_at (cond b 1 0) 0 ≡ cond b 1 0) [ true ↦ refl | false ↦ refl ] ∙ ap (bit_of lanes) (sym is))
    (λ other. let under : i < n = omega arith in bit_at_cat_low (bit_of lanes n) n (mask_below lanes n) i under ∙ bit_at-mask_below lanes n i under)

flag-bit : (n : ℕ) → n < 2 → cond (n == 1) 1 0 ≡ n
flag-bit zero small = refl
flag-bit (suc zero) small = refl
flag-bit (suc (suc n)) small = absurd (omega arith)

-- the mask of the set of a mask is that mask
pub mask_of-lanes_of : (mask : ℕ) → mask < 2 ^ 32 → mask_of (lanes_of mask) ≡ mask
mask_of-lanes_of mask small = same_from_bits_below 32 (mask_of (lanes_of mask)) mask (mask_below-lt (lanes_of mask) 32) small
    (λ i within. bit_at-mask_below (lanes_of mask) 32 i within ∙ ap (λ b. cond b 1 0) (contains-lanes_below mask 32 i within) ∙ flag-bit (bit_at mask i) (bit_at-lt mask i))
