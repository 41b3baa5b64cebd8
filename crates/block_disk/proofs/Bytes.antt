-- What a part reads, and what a splice leaves at each place.
use Rattle.std.proofs.Common.{◌≡◌, ℕ, ◌+◌, ◌-◌, ◌<◌, ◌≤◌, List, ◌++◌, length, get_or, take, drop, sym, ◌∙◌, ap, arith, length-append, length-take, length-drop}
use Rattle.std.proofs.lemmas.List.{get_or_append_left, get_or-append_right, ext_get_or, get_or-take, get_or-drop, drop-drop, drop-take, take-take}
use Rattle.block_disk.specs.Bytes.{part, spliced}

-- a part that lies within has its length
pub length_part : (at n : ℕ) (xs : List ℕ) → at + n ≤ length xs → length (part at n xs) ≡ n
length_part at n xs fits = simp (length-take, length-drop) (omega arith)

-- the bytes of a part
pub get_or_part : (at n : ℕ) (xs : List ℕ) (i : ℕ) → i < n → get_or (part at n xs) i 0 ≡ get_or xs (at + i) 0
get_or_part at n xs i within = rw (get_or-take, get_or-drop)

-- a part of a part
pub part_part : (a n at m : ℕ) (xs : List ℕ) → a + n ≤ m → part a n (part at m xs) ≡ part (at + a) n xs
part_part a n at m xs fits =
    let k = m - a in
    let is : m ≡ a + k = omega arith in
    let low : n ≤ k = omega arith in
    ap (λ (j : ℕ). part a n (take j (drop at xs))) is ∙ ap (take n) (drop-take a k (drop at xs)) ∙ take-take n k (drop a (drop at xs)) low
    ∙ ap (take n) (drop-drop a at xs)

-- parts that agree at each place are equal
pub same_part : (at n : ℕ) (xs ys : List ℕ) → at + n ≤ length xs → at + n ≤ length ys → ((i : ℕ) → i < n → get_or ys (at + i) 0 ≡ get_or xs (at + i) 0)
    → part at n ys ≡ part at n xs
same_part at n xs ys fits fits' same =
    let one = length_part at n ys fits' in
    let two = length_part at n xs fits in
    ext_get_or 0 (part at n ys) (part at n xs) (one ∙ sym two)
    (λ i within.
    let less : i < n = omega (arith, one) in
    get_or_part at n ys i less ∙ same i less ∙ sym (get_or_part at n xs i less))

module _ (xs ys : List ℕ) (at : ℕ) (fits : at + length ys ≤ length xs) where
  -- a splice keeps the length
  pub length_spliced : length (spliced xs at ys) ≡ length xs
  length_spliced = simp (length-append, length-take, length-drop) (omega arith)

  front : length (take at xs) ≡ at
  front = simp (length-take) (omega arith)

  front_two : length (take at xs ++ ys) ≡ at + length ys
  front_two = omega (arith, length-append (take at xs) ys, front)

  -- below its range it changes nothing
  pub spliced_below : (i : ℕ) → i < at → get_or (spliced xs at ys) i 0 ≡ get_or xs i 0
  spliced_below i below =
      get_or_append_left (take at xs ++ ys) (drop (at + length ys) xs) 0 i (omega (arith, front_two))
      ∙ get_or_append_left (take at xs) ys 0 i (omega (arith, front))
      ∙ get_or-take at xs i 0 below

  -- within it the new bytes stand
  pub spliced_at : (i : ℕ) → i < length ys → get_or (spliced xs at ys) (at + i) 0 ≡ get_or ys i 0
  spliced_at i within =
      let less : at + i - at ≡ i = omega arith in
      get_or_append_left (take at xs ++ ys) (drop (at + length ys) xs) 0 (at + i) (omega (arith, front_two))
      ∙ get_or-append_right (take at xs) ys at (at + i) 0 front (omega arith)
      ∙ ap (λ (k : ℕ). get_or ys k 0) less

  -- above it, it changes nothing
  pub spliced_above : (i : ℕ) → at + length ys ≤ i → get_or (spliced xs at ys) i 0 ≡ get_or xs i 0
  spliced_above i above =
      let again : at + length ys + (i - (at + length ys)) ≡ i = omega arith in
      get_or-append_right (take at xs ++ ys) (drop (at + length ys) xs) (at + length ys) i 0 front_two above
      ∙ get_or-drop (at + length ys) xs (i - (at + length ys)) 0
      ∙ ap (λ (k : ℕ). get_or xs k 0) again

  -- the part there is what was spliced in
  pub part_spliced : part at (length ys) (spliced xs at ys) ≡ ys
  part_spliced =
      let long : at + length ys ≤ length (spliced xs at ys) = omega (arith, length_spliced) in
      ext_get_or 0 (part at (length ys) (spliced xs at ys)) ys (length_part at (length ys) (spliced xs at ys) long)
      (λ i within.
      let less : i < length ys = omega (arith, length_part at (length ys) (spliced xs at ys) long) in
      get_or_part at (length ys) (spliced xs at ys) i less ∙ spliced_at i less)
