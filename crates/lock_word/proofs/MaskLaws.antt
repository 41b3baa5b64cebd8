-- Laws of masks: each set of lanes has one mask, and each mask of 32 bits is that of one set.
use Rattle.std.proofs.Common.{◌≡◌, ℕ, zero, suc, ◌+◌, ◌-◌, ◌*◌, ◌%◌, ◌^◌, ◌<◌, ◌≤◌, ◌==◌, ◌||◌, ◌&&◌, not, true, false, cond, eq-eqb, ne_eqb, bit_or, bit_and, w32, refl, sym, ap, ◌∙◌, ⊎_elim, true≢false, arith}
use Rattle.std.specs.Int.{bit_at, bit_not}
use Rattle.std.specs.FinSet as set
use Rattle.std.specs.FinSet.{contains-empty, contains-insert, contains-remove, same_set, nat_cmp-IsAntisymmetric}
use Rattle.std.specs.Ordering.{nat_cmp}
use Rattle.std.specs.Cmp.{unsigned_tied}
use Rattle.std.proofs.lemmas.Cmp.{nat_cmp_total}
use Rattle.std.proofs.lemmas.Bool.{false_from_ne_true, cases_lt}
use Rattle.std.proofs.Math.Nat.{pow-suc}
use Rattle.std.proofs.lemmas.Nat.Bits.{bit_at-lt, bit_at_cat_low, bit_at_cat_high, same_from_bits_below, bit_at-zero, bit_at_above, bit_at_set_same, bit_at_set_other, bit_at_clear_same, bit_at_clear_other}
use mathlib.Core.Logic.{dite}
use native.Mathlib.Decide.{ℕ_discrete}
use Rattle.lock_word.specs.WaitMask.{bit_of, mask_below, mask_of, lanes_below, lanes_of, IsLaneSet}
use Rattle.lock_word.specs.OneMask.{in-insert, contains-lanes_below_past, contains-lanes_below, mask_below-lt, bit_at-mask_below, mask_of-lanes_of}

pub in-remove : (s : set.FinSet nat_cmp) (k q : ℕ) → set.contains (set.remove s k) q ≡ (not (q == k) && set.contains s q)
in-remove s k q = contains-remove nat_cmp_total s k q ∙ ap (λ b. not b && set.contains s q) (unsigned_tied q k)

-- a set whose lanes are those with set bits is the set of the mask
pub lanes_of-is : (mask : ℕ) (lanes : set.FinSet nat_cmp) → ((q : ℕ) → q < 32 → set.contains lanes q ≡ (bit_at mask q == 1)) → ((q : ℕ) → 32 ≤ q → set.contains lanes q ≡ false) → lanes_of mask ≡ lanes
lanes_of-is mask lanes inside outside = same_set nat_cmp_total nat_cmp-IsAntisymmetric (lanes_of mask) lanes
    (λ q. ⊎_elim (λ within. contains-lanes_below mask 32 q within ∙ sym (inside q within)) (λ past. contains-lanes_below_past mask 32 q past ∙ sym (outside q past)) (cases_lt q 32))

-- nothing is set in the mask 0
pub lanes_of-zero : lanes_of 0 ≡ set.empty
lanes_of-zero = lanes_of-is 0 set.empty (λ q within. contains-empty nat_cmp q ∙ sym (ap (λ n. n == 1) (bit_at-zero q))) (λ q past. contains-empty nat_cmp q)

-- one bit more is one lane more
pub lanes_of-or : (mask lane : ℕ) → lane < 32 → lanes_of (bit_or mask (1 * 2 ^ lane % 2 ^ 32)) ≡ set.insert (lanes_of mask) lane
lanes_of-or mask lane small = lanes_of-is (bit_or mask (1 * 2 ^ lane % 2 ^ 32)) (set.insert (lanes_of mask) lane)
    (λ q within. in-insert (lanes_of mask) lane q ∙ ap (λ b. (q == lane) || b) (contains-lanes_below mask 32 q within) ∙ dite (ℕ_discrete q lane)
    (λ is. ap (λ b. b || (bit_at mask q == 1)) (eq-eqb q lane is) ∙ sym (ap (λ n. n == 1) (ap (bit_at (bit_or mask (1 * 2 ^ lane % 2 ^ 32))) is ∙ bit_at_set_same w32 mask lane small)))
    (λ other. ap (λ b. b || (bit_at mask q == 1)) (ne_eqb q lane other) ∙ sym (ap (λ n. n == 1) (bit_at_set_other w32 mask lane small q other))))
    (λ q past. in-insert (lanes_of mask) lane q ∙ ap (λ b. b || set.contains (lanes_of mask) q) (ne_eqb q lane (omega arith)) ∙ contains-lanes_below_past mask 32 q past)

-- one bit less is one lane less
pub lanes_of-and : (mask lane : ℕ) → lane < 32 → lanes_of (bit_and mask (bit_not w32 (1 * 2 ^ lane % 2 ^ 32))) ≡ set.remove (lanes_of mask) lane
lanes_of-and mask lane small = lanes_of-is (bit_and mask (bit_not w32 (1 * 2 ^ lane % 2 ^ 32))) (set.remove (lanes_of mask) lane)
    (λ q within. in-remove (lanes_of mask) lane q ∙ ap (λ b. not (q == lane) && b) (contains-lanes_below mask 32 q within) ∙ dite (ℕ_discrete q lane)
    (λ is. ap (λ b. not b && (bit_at mask q == 1)) (eq-eqb q lane is) ∙ sym (ap (λ n. n == 1) (ap (bit_at (bit_and mask (bit_not w32 (1 * 2 ^ lane % 2 ^ 32)))) is ∙ bit_at_clear_same w32 mask lane small)))
    (λ other. ap (λ b. not b && (bit_at mask q == 1)) (ne_eqb q lane other) ∙ sym (ap (λ n. n == 1) (bit_at_clear_other w32 mask lane small q within other))))
    (λ q past. in-remove (lanes_of mask) lane q ∙ ap (λ b. not b && set.contains (lanes_of mask) q) (ne_eqb q lane (omega arith)) ∙ contains-lanes_below_past mask 32 q past)

-- each set of lanes is the set of its mask
pub lanes_of-mask_of : (lanes : set.FinSet nat_cmp) → IsLaneSet lanes → lanes_of (mask_of lanes) ≡ lanes
lanes_of-mask_of lanes small = lanes_of-is (mask_of lanes) lanes
    (λ q within. elim (set.contains lanes q) as (λ b. b ≡ (cond b 1 0 == 1)) [ true ↦ refl | false ↦ refl ] ∙ ap (λ n. n == 1) (sym (bit_at-mask_below lanes 32 q within)))
    (λ q past. false_from_ne_true (set.contains lanes q) (λ there. let low = small q there in absurd (omega arith)))

-- the set of a mask is a set of lanes
pub IsLaneSet-lanes_of : (mask : ℕ) → IsLaneSet (lanes_of mask)
IsLaneSet-lanes_of mask q there = ⊎_elim (λ within. within) (λ past. absurd (true≢false (sym there ∙ contains-lanes_below_past mask 32 q past))) (cases_lt q 32)

-- the bits of a mask are those of its lanes, and no others
pub bit_at-mask_of : (lanes : set.FinSet nat_cmp) → IsLaneSet lanes → (lane : ℕ) → bit_at (mask_of lanes) lane ≡ bit_of lanes lane
bit_at-mask_of lanes small lane = ⊎_elim (λ within. bit_at-mask_below lanes 32 lane within)
    (λ past. bit_at_above (mask_of lanes) 32 lane (mask_below-lt lanes 32) past
    ∙ sym (ap (λ b. cond b 1 0) (false_from_ne_true (set.contains lanes lane) (λ there. let low = small lane there in absurd (omega arith)))))
    (cases_lt lane 32)
