-- The first bytes of a longer image.
use Rattle.std.proofs.Common.{◌≡◌, inl, inr, ℕ, ◌+◌, ◌-◌, ◌<◌, ◌≤◌, List, length, take, min, get_or, sym, ◌∙◌, ap, arith, length-take}
use Rattle.std.proofs.lemmas.List.{ext_get_or, get_or-take, get_or_past}
use Rattle.std.proofs.lemmas.Bool.{cases_lt}
use Rattle.block_disk.specs.Bytes.{spliced}
use Rattle.block_disk.specs.Device.{Range, SameOutside}
use Rattle.block_disk.proofs.Bytes.{length_spliced, spliced_above, spliced_at, spliced_below}

-- a splice within them
pub take_spliced : (n : ℕ) (xs ys : List ℕ) (at : ℕ) → n ≤ length xs → at + length ys ≤ n → take n (spliced xs at ys) ≡ spliced (take n xs) at ys
take_spliced n xs ys at low fits =
    let long : at + length ys ≤ length xs = omega (arith, low, fits) in
    let all = length_spliced xs ys at long in
    let front : length (take n xs) ≡ n = omega (arith, length-take n xs, low) in
    let within : at + length ys ≤ length (take n xs) = omega (arith, front, fits) in
    let one = length_spliced (take n xs) ys at within in
    ext_get_or 0 (take n (spliced xs at ys)) (spliced (take n xs) at ys) (omega (arith, length-take n (spliced xs at ys), all, one, front, low))
    (λ i less. each i (omega (arith, length-take n (spliced xs at ys), less)) long within)
  where
    each : (i : ℕ) → i < n → at + length ys ≤ length xs → at + length ys ≤ length (take n xs) → get_or (take n (spliced xs at ys)) i 0 ≡ get_or (spliced (take n xs) at ys) i 0
    each i less long within = get_or-take n (spliced xs at ys) i 0 less ∙ elim (cases_lt i at) [
      | inl below ↦ spliced_below xs ys at long i below ∙ sym (get_or-take n xs i 0 less) ∙ sym (spliced_below (take n xs) ys at within i below)
      | inr from ↦ elim (cases_lt i (at + length ys)) [
        | inl here ↦
            let k = i - at in
            let is : at + k ≡ i = omega (arith, from) in
            let less : k < length ys = omega (arith, from, here) in
            ap (λ (m : ℕ). get_or (spliced xs at ys) m 0) (sym is) ∙ spliced_at xs ys at long k less ∙ sym (spliced_at (take n xs) ys at within k less)
            ∙ ap (λ (m : ℕ). get_or (spliced (take n xs) at ys) m 0) is
        | inr above ↦ spliced_above xs ys at long i above ∙ sym (get_or-take n xs i 0 less) ∙ sym (spliced_above (take n xs) ys at within i above)
      ]
    ]

-- images that are the same outside of some ranges are so in their first bytes
pub take_outside : (n : ℕ) (rs : List Range) (xs ys : List ℕ) → SameOutside rs xs ys → SameOutside rs (take n xs) (take n ys)
take_outside n rs xs ys same = record {
  size = length-take n ys ∙ ap (λ (k : ℕ). min n k) same.size ∙ sym (length-take n xs);
  same = λ i clear. elim (cases_lt i n) [
    | inl less ↦ get_or-take n ys i 0 less ∙ same.same i clear ∙ sym (get_or-take n xs i 0 less)
    | inr past ↦ get_or_past (take n ys) i 0 (omega (arith, length-take n ys, past)) ∙ sym (get_or_past (take n xs) i 0 (omega (arith, length-take n xs, past)))
  ];
}
