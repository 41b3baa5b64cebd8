-- Images that are the same outside of some ranges.
use Rattle.std.proofs.Common.{◌≡◌, inl, inr, ℕ, ◌+◌, ◌-◌, ◌<◌, ◌≤◌, List, [], ◌∷◌, ◌++◌, length, get_or, refl, sym, ◌∙◌, subst, arith}
use Rattle.std.proofs.lemmas.List.{ext_get_or}
use Rattle.std.proofs.lemmas.Bool.{cases_lt}
use Rattle.block_disk.specs.Bytes.{part, spliced}
use Rattle.block_disk.specs.Device.{Range, range_of, IsClear, SameOutside}
use Rattle.block_disk.specs.Images.{IsApart}
use Rattle.block_disk.proofs.Bytes.{length_part, get_or_part, same_part, length_spliced, spliced_below, spliced_at, spliced_above}

-- an image is the same as itself
pub outside_refl : (rs : List Range) (xs : List ℕ) → SameOutside rs xs xs
outside_refl rs xs = record { size = refl; same = λ i clear. refl }

pub outside_sym : (rs : List Range) (xs ys : List ℕ) → SameOutside rs xs ys → SameOutside rs ys xs
outside_sym rs xs ys same = record { size = sym same.size; same = λ i clear. sym (same.same i clear) }

pub outside_trans : (rs : List Range) (xs ys zs : List ℕ) → SameOutside rs xs ys → SameOutside rs ys zs → SameOutside rs xs zs
outside_trans rs xs ys zs a b = record { size = b.size ∙ a.size; same = λ i clear. b.same i clear ∙ a.same i clear }

-- with no ranges the images are equal
pub outside_none : (xs ys : List ℕ) → SameOutside [] xs ys → ys ≡ xs
outside_none xs ys same = ext_get_or 0 ys xs same.size (λ i within. same.same i tt)

-- outside of ranges that cover more
pub outside_more : (rs ss : List Range) (xs ys : List ℕ) → ((i : ℕ) → IsClear i ss → IsClear i rs) → SameOutside rs xs ys → SameOutside ss xs ys
outside_more rs ss xs ys to same = record { size = same.size; same = λ i clear. same.same i (to i clear) }

-- outside of one range more
pub outside_rest : (r : Range) (rs : List Range) (xs ys : List ℕ) → SameOutside rs xs ys → SameOutside (r ∷ rs) xs ys
outside_rest r rs xs ys same = outside_more rs (r ∷ rs) xs ys (λ i clear. clear.1) same

-- outside of one range and of others
pub outside_first : (r : Range) (rs : List Range) (xs ys : List ℕ) → SameOutside (r ∷ []) xs ys → SameOutside (r ∷ rs) xs ys
outside_first r rs xs ys same = outside_more (r ∷ []) (r ∷ rs) xs ys (λ i clear. (clear.0, tt)) same

-- outside of a range that the first lies within
pub outside_wider : (r s : Range) (xs ys : List ℕ) → s.start ≤ r.start → r.start + r.len ≤ s.start + s.len → SameOutside (r ∷ []) xs ys → SameOutside (s ∷ []) xs ys
outside_wider r s xs ys low high same =
    outside_more (r ∷ []) (s ∷ []) xs ys (λ i clear. (elim clear.0 [ inl below ↦ inl (omega arith) | inr above ↦ inr (omega arith) ], tt)) same

-- clear of both lists is clear of each
pub clear_left : (i : ℕ) (rs ss : List Range) → IsClear i (rs ++ ss) → IsClear i rs
clear_left i [] ss clear = tt
clear_left i (r ∷ rs) ss clear = (clear.0, clear_left i rs ss clear.1)

pub clear_right : (i : ℕ) (rs ss : List Range) → IsClear i (rs ++ ss) → IsClear i ss
clear_right i [] ss clear = clear
clear_right i (r ∷ rs) ss clear = clear_right i rs ss clear.1

-- changes in some ranges and then in others
pub outside_both : (rs ss : List Range) (xs ys zs : List ℕ) → SameOutside rs xs ys → SameOutside ss ys zs → SameOutside (rs ++ ss) xs zs
outside_both rs ss xs ys zs a b =
    outside_trans (rs ++ ss) xs ys zs (outside_more rs (rs ++ ss) xs ys (λ i clear. clear_left i rs ss clear) a)
    (outside_more ss (rs ++ ss) ys zs (λ i clear. clear_right i rs ss clear) b)

clear_in_part : (at n : ℕ) (rs : List Range) → IsApart at n rs → (i : ℕ) → i < n → IsClear (at + i) rs
clear_in_part at n [] apart i within = tt
clear_in_part at n (r ∷ rs) apart i within = (
  elim apart.0 [ inl above ↦ inl (omega arith) | inr below ↦ inr (omega arith) ],
  clear_in_part at n rs apart.1 i within,
)

-- a part whose places are clear of the ranges stays
pub part_clear : (at n : ℕ) (rs : List Range) (xs ys : List ℕ) → SameOutside rs xs ys → ((i : ℕ) → i < n → IsClear (at + i) rs) → at + n ≤ length xs
    → part at n ys ≡ part at n xs
part_clear at n rs xs ys same clear fits = same_part at n xs ys fits (omega (arith, same.size)) (λ i within. same.same (at + i) (clear i within))

-- a part that lies apart from the ranges stays
pub part_same : (at n : ℕ) (rs : List Range) (xs ys : List ℕ) → SameOutside rs xs ys → IsApart at n rs → at + n ≤ length xs → part at n ys ≡ part at n xs
part_same at n rs xs ys same apart fits = part_clear at n rs xs ys same (λ i within. clear_in_part at n rs apart i within) fits

-- a splice changes its range alone
pub spliced_same : (xs ys : List ℕ) (at : ℕ) → at + length ys ≤ length xs → SameOutside (range_of at ys ∷ []) xs (spliced xs at ys)
spliced_same xs ys at fits = record {
  size = length_spliced xs ys at fits;
  same = λ i clear. elim clear.0 [ inl below ↦ spliced_below xs ys at fits i below | inr above ↦ spliced_above xs ys at fits i above ];
}

-- an image after a torn write is one from before it, but for its range
pub torn_back : (r : Range) (rs : List Range) (old new image : List ℕ) → r.start + r.len ≤ length old
    → SameOutside (r ∷ []) old new → SameOutside (r ∷ rs) new image
    → (before : List ℕ) × SameOutside rs old before × SameOutside (r ∷ []) before image
torn_back r rs old new image fits wrote left =
    let was = part r.start r.len old in
    let n : length was ≡ r.len = length_part r.start r.len old fits in
    let long : r.start + length was ≤ length image = omega (arith, n, wrote.size, left.size) in
    let back = spliced image r.start was in (
      back,
      record {
        size = length_spliced image was r.start long ∙ left.size ∙ wrote.size;
        same = λ i clear. at_each i clear n long;
      },
      record {
        size = sym (length_spliced image was r.start long);
        same = λ i clear. elim clear.0 [
          | inl below ↦ sym (spliced_below image was r.start long i below)
          | inr above ↦ sym (spliced_above image was r.start long i (omega (arith, n)))
        ];
      },
    )
  where
    at_each : (i : ℕ) → IsClear i rs → length (part r.start r.len old) ≡ r.len → r.start + length (part r.start r.len old) ≤ length image
        → get_or (spliced image r.start (part r.start r.len old)) i 0 ≡ get_or old i 0
    at_each i clear n long = elim (cases_lt i r.start) [
      | inl below ↦ spliced_below image (part r.start r.len old) r.start long i below
          ∙ left.same i (inl below, clear) ∙ wrote.same i (inl below, tt)
      | inr from ↦ elim (cases_lt i (r.start + r.len)) [
        | inl within ↦
            let k = i - r.start in
            let is : r.start + k ≡ i = omega arith in
            let here : get_or (spliced image r.start (part r.start r.len old)) (r.start + k) 0 ≡ get_or old (r.start + k) 0 =
            spliced_at image (part r.start r.len old) r.start long k (omega (arith, n)) ∙ get_or_part r.start r.len old k (omega arith) in
            subst (λ (j : ℕ). get_or (spliced image r.start (part r.start r.len old)) j 0 ≡ get_or old j 0) is here
        | inr above ↦ spliced_above image (part r.start r.len old) r.start long i (omega (arith, n))
            ∙ left.same i (inr above, clear) ∙ wrote.same i (inr above, tt)
      ]
    ]

-- and each such image may be left
pub torn_forth : (r : Range) (rs : List Range) (old new before image : List ℕ)
    → SameOutside (r ∷ []) old new → SameOutside rs old before → SameOutside (r ∷ []) before image → SameOutside (r ∷ rs) new image
torn_forth r rs old new before image wrote was torn = record {
  size = torn.size ∙ was.size ∙ sym wrote.size;
  same = λ i clear. torn.same i (clear.0, tt) ∙ was.same i clear.1 ∙ sym (wrote.same i (clear.0, tt));
}
