-- The parts of a splice, what the areas of a device hold after a write, and what is between two contents.
use Rattle.std.proofs.Common.{◌≡◌, ◌⊎◌, inl, inr, ⊎_elim, All, Any, Bool, true, false, not, ℕ, ◌+◌, ◌-◌, ◌*◌, ◌/◌, ◌%◌, ◌<◌, ◌≤◌, List, length, get_or, drop, refl, sym, ◌∙◌, ap, subst, arith, length-take, length-drop}
use Rattle.std.proofs.lemmas.List.{ext_get_or}
use Rattle.std.proofs.lemmas.Bool.{cases_lt}
use Rattle.std.proofs.lemmas.Nat.{div-add-mod', mod_below}
use Rattle.block_disk.specs.Bytes.{part, spliced}
use Rattle.block_disk.proofs.Bytes.{length_part, get_or_part, part_part, length_spliced, spliced_below, spliced_at, spliced_above, part_spliced}
use Rattle.atomic_sectors.specs.Sectors.{IsMix, sector}
use Rattle.journal_batches.specs.declared.areas.Areas.{Areas}
use Rattle.journal_batches.specs.Areas.{half_at, half_bytes, half_of, home_of, image_at, image_bytes, room_of, with_half, with_home}
use Rattle.journal_batches.specs.Entries.{IsEither}
use Rattle.journal_batches.specs.Mixed.{IsBetween}

-- ---- parts ----

-- parts of lists as long are equal where they agree at each place
pub equal_parts : (at n : ℕ) (xs ys : List ℕ) → length ys ≡ length xs → ((i : ℕ) → i < n → get_or ys (at + i) 0 ≡ get_or xs (at + i) 0) → part at n ys ≡ part at n xs
equal_parts at n xs ys size same =
    let one : length (part at n ys) ≡ length (part at n xs) = simp (length-take, length-drop, size) refl in
    ext_get_or 0 (part at n ys) (part at n xs) one
    (λ i within.
    let less : i < n = omega (arith, length-take n (drop at ys)) in
    get_or_part at n ys i less ∙ same i less ∙ sym (get_or_part at n xs i less))

module _ (xs ys : List ℕ) (at : ℕ) (fits : at + length ys ≤ length xs) where
  -- a part before a splice stays
  pub part_spliced_below : (b n : ℕ) → b + n ≤ at → part b n (spliced xs at ys) ≡ part b n xs
  part_spliced_below b n below = equal_parts b n xs (spliced xs at ys) (length_spliced xs ys at fits) (λ i within. spliced_below xs ys at fits (b + i) (omega arith))

  -- so does one behind it
  pub part_spliced_above : (b n : ℕ) → at + length ys ≤ b → part b n (spliced xs at ys) ≡ part b n xs
  part_spliced_above b n above = equal_parts b n xs (spliced xs at ys) (length_spliced xs ys at fits) (λ i within. spliced_above xs ys at fits (b + i) (omega arith))

  -- one within it, k bytes from its begin, is a part of what was spliced in
  pub part_spliced_within : (b n k : ℕ) → b ≡ at + k → k + n ≤ length ys → part b n (spliced xs at ys) ≡ part k n ys
  part_spliced_within b n k is within =
      ap (λ (j : ℕ). part j n (spliced xs at ys)) is ∙ sym (part_part k n at (length ys) (spliced xs at ys) within) ∙ ap (part k n) (part_spliced xs ys at fits)

  -- one that the splice lies within, k bytes from the part's begin, has it there
  pub part_spliced_around : (b n k : ℕ) → at ≡ b + k → k + length ys ≤ n → b + n ≤ length xs → part b n (spliced xs at ys) ≡ spliced (part b n xs) k ys
  part_spliced_around b n k is around long =
      let had : length (part b n xs) ≡ n = length_part b n xs long in
      let has : length (part b n (spliced xs at ys)) ≡ n = length_part b n (spliced xs at ys) (omega (arith, length_spliced xs ys at fits)) in
      let room : k + length ys ≤ length (part b n xs) = omega (arith, had) in
      ext_get_or 0 (part b n (spliced xs at ys)) (spliced (part b n xs) k ys) (has ∙ sym had ∙ sym (length_spliced (part b n xs) ys k room))
      (λ i within. let less : i < n = omega (arith, has) in get_or_part b n (spliced xs at ys) i less ∙ each room i less)
    where
      each : k + length ys ≤ length (part b n xs) → (i : ℕ) → i < n → get_or (spliced xs at ys) (b + i) 0 ≡ get_or (spliced (part b n xs) k ys) i 0
      each room i less = elim (cases_lt i k) [
        | inl below ↦ spliced_below xs ys at fits (b + i) (omega arith) ∙ sym (get_or_part b n xs i less) ∙ sym (spliced_below (part b n xs) ys k room i below)
        | inr from ↦ elim (cases_lt i (k + length ys)) [
          | inl within ↦
              let j = i - k in
              let here : b + i ≡ at + j = omega arith in
              let there : k + j ≡ i = omega arith in
              let small : j < length ys = omega arith in
              ap (λ (p : ℕ). get_or (spliced xs at ys) p 0) here ∙ spliced_at xs ys at fits j small ∙ sym (spliced_at (part b n xs) ys k room j small)
              ∙ ap (λ (p : ℕ). get_or (spliced (part b n xs) k ys) p 0) there
          | inr above ↦ spliced_above xs ys at fits (b + i) (omega arith) ∙ sym (get_or_part b n xs i less) ∙ sym (spliced_above (part b n xs) ys k room i above)
        ]
      ]

-- ---- areas ----

module _ (a : Areas) (bytes : List ℕ) (room : room_of a ≤ length bytes) where
  -- each area lies within the device
  pub half_fits : (second : Bool) → half_at a second + half_bytes a ≤ length bytes
  half_fits false = omega arith
  half_fits true = omega arith

  -- and has its size
  pub length_half : (second : Bool) → length (half_of a second bytes) ≡ half_bytes a
  length_half second = length_part (half_at a second) (half_bytes a) bytes (half_fits second)

  pub length_home : length (home_of a bytes) ≡ image_bytes a
  length_home = length_part (image_at a) (image_bytes a) bytes room

  module _ (content : List ℕ) where
    -- what is written to a half lies within the device
    content_fits : (second : Bool) → length content ≤ half_bytes a → half_at a second + length content ≤ length bytes
    content_fits false fits = omega arith
    content_fits true fits = omega arith

    -- it leaves the device as long
    pub length_with_half : (second : Bool) → length content ≤ half_bytes a → length (with_half a second content bytes) ≡ length bytes
    length_with_half second fits = length_spliced bytes content (half_at a second) (content_fits second fits)

    -- and stands at the begin of that half
    pub half_with_half : (second : Bool) → length content ≤ half_bytes a → half_of a second (with_half a second content bytes) ≡ spliced (half_of a second bytes) 0 content
    half_with_half second fits =
        part_spliced_around bytes content (half_at a second) (content_fits second fits) (half_at a second) (half_bytes a) 0 (omega arith) (omega arith) (half_fits second)

    -- the other half stays
    pub other_with_half : (second : Bool) → length content ≤ half_bytes a → half_of a (not second) (with_half a second content bytes) ≡ half_of a (not second) bytes
    other_with_half false fits = part_spliced_above bytes content (half_at a false) (content_fits false fits) (half_at a true) (half_bytes a) (omega arith)
    other_with_half true fits = part_spliced_below bytes content (half_at a true) (content_fits true fits) (half_at a false) (half_bytes a) (omega arith)

    -- so does a half when the other one is written
    pub half_with_other : (second : Bool) → length content ≤ half_bytes a → half_of a second (with_half a (not second) content bytes) ≡ half_of a second bytes
    half_with_other false fits = other_with_half true fits
    half_with_other true fits = other_with_half false fits

    -- and the image's place
    pub home_with_half : (second : Bool) → length content ≤ half_bytes a → home_of a (with_half a second content bytes) ≡ home_of a bytes
    home_with_half false fits = part_spliced_above bytes content (half_at a false) (content_fits false fits) (image_at a) (image_bytes a) (omega arith)
    home_with_half true fits = part_spliced_above bytes content (half_at a true) (content_fits true fits) (image_at a) (image_bytes a) (omega arith)

  module _ (image : List ℕ) (size : length image ≡ image_bytes a) where
    home_is_room : image_at a + length image ≤ length bytes
    home_is_room = omega (arith, size)

    -- an image written to its place leaves the device as long
    pub length_with_home : length (with_home a image bytes) ≡ length bytes
    length_with_home = length_spliced bytes image (image_at a) home_is_room

    -- and stands there
    pub home_with_home : home_of a (with_home a image bytes) ≡ image
    home_with_home = ap (λ (n : ℕ). part (image_at a) n (with_home a image bytes)) (sym size) ∙ part_spliced bytes image (image_at a) home_is_room

    -- the halves stay
    pub half_with_home : (second : Bool) → half_of a second (with_home a image bytes) ≡ half_of a second bytes
    half_with_home false = part_spliced_below bytes image (image_at a) home_is_room (half_at a false) (half_bytes a) (omega arith)
    half_with_home true = part_spliced_below bytes image (image_at a) home_is_room (half_at a true) (half_bytes a) (omega arith)

-- ---- what is between two contents ----

-- what holds of each holds of some one that has more
at_some : {X : Type 0} (P Q : X → Type 0) (xs : List X) → All P xs → Any Q xs → (x : X) × P x × Q x
at_some P Q xs all (k, x, within, is, q) = (x, subst P is (all k x within), q)

-- a byte of a sector that two contents share
sector_byte : (s r : ℕ) (xs ys : List ℕ) → r < 512 → sector s xs ≡ sector s ys → get_or xs (s * 512 + r) 0 ≡ get_or ys (s * 512 + r) 0
sector_byte s r xs ys within same =
    sym (get_or_part (s * 512) 512 xs r within) ∙ ap (λ (zs : List ℕ). get_or zs r 0) same ∙ get_or_part (s * 512) 512 ys r within

module _ (a : Areas) (old new : List ℕ) where
  module _ (contents : List (List ℕ)) (image : List ℕ) (all : All (λ content. IsBetween a old new content) contents) (mix : IsMix contents image) where
    -- the content that a sector of the mix comes from
    from_sector : (i : ℕ) → (content : List ℕ) × IsBetween a old new content × (sector i image ≡ sector i content)
    from_sector i = at_some (λ content. IsBetween a old new content) (λ content. sector i image ≡ sector i content) contents all (mix.each i)

    -- so each byte, which is byte r of sector s, is that of one of both
    mixed_byte : (i s r : ℕ) → s * 512 + r ≡ i → r < 512 → (get_or image i 0 ≡ get_or old i 0) ⊎ (get_or image i 0 ≡ get_or new i 0)
    mixed_byte i s r is within =
        let from = from_sector s in
        let same : get_or image i 0 ≡ get_or from.0 i 0 =
        subst (λ (j : ℕ). get_or image j 0 ≡ get_or from.0 j 0) is (sector_byte s r image from.0 within from.2) in
        ⊎_elim (λ was. inl (same ∙ was)) (λ will. inr (same ∙ will)) (from.1.bytes i)

    -- the sectors of contents between two mix to one between them
    pub mixed : IsBetween a old new image
    mixed = record {
      size =
          let one = at_some (λ content. IsBetween a old new content) (λ content. length image ≡ length content) contents all mix.size in
          one.2 ∙ one.1.size;
      sectors = λ i low.
          let from = from_sector i in
          ⊎_elim (λ was. inl (from.2 ∙ was)) (λ will. inr (from.2 ∙ will)) (from.1.sectors i low);
      bytes = λ i. mixed_byte i (i / 512) (i % 512) (div-add-mod' i 512) (mod_below i 512 (omega arith));
    }

  -- the old content is between them
  pub old_between : IsBetween a old new old
  old_between = record { size = refl; sectors = λ i low. inl refl; bytes = λ i. inl refl }

  module _ (image content : List ℕ) (at : ℕ) (fits : at + length content ≤ length old) (between : IsBetween a old new image)
      (each : (i : ℕ) → i < length content → (get_or content i 0 ≡ get_or image (at + i) 0) ⊎ (get_or content i 0 ≡ get_or new (at + i) 0)) where
    room : at + length content ≤ length image
    room = omega (arith, fits, between.size)

    -- bytes of which each is as it was or as the new content has it leave each byte that of one of both
    pub spliced_bytes : (i : ℕ) → (get_or (spliced image at content) i 0 ≡ get_or old i 0) ⊎ (get_or (spliced image at content) i 0 ≡ get_or new i 0)
    spliced_bytes i = elim (cases_lt i at) [
      | inl below ↦ stays (spliced_below image content at room i below)
      | inr from ↦ elim (cases_lt i (at + length content)) [
        | inl within ↦
            let k = i - at in
            let is : at + k ≡ i = omega arith in
            let here : get_or (spliced image at content) i 0 ≡ get_or content k 0 =
            ap (λ (j : ℕ). get_or (spliced image at content) j 0) (sym is) ∙ spliced_at image content at room k (omega arith) in
            ⊎_elim
            (λ was. stays (here ∙ was ∙ ap (λ (j : ℕ). get_or image j 0) is))
            (λ will. inr (here ∙ will ∙ ap (λ (j : ℕ). get_or new j 0) is))
            (each k (omega arith))
        | inr above ↦ stays (spliced_above image content at room i above)
      ]
    ]
      where
        stays : get_or (spliced image at content) i 0 ≡ get_or image i 0
            → (get_or (spliced image at content) i 0 ≡ get_or old i 0) ⊎ (get_or (spliced image at content) i 0 ≡ get_or new i 0)
        stays same = ⊎_elim (λ was. inl (same ∙ was)) (λ will. inr (same ∙ will)) (between.bytes i)

    -- and behind the halves leave what is between both
    pub behind_between : image_at a ≤ at → IsBetween a old new (spliced image at content)
    behind_between low = record {
      size = length_spliced image content at room ∙ between.size;
      sectors = λ i within.
          let same : sector i (spliced image at content) ≡ sector i image = part_spliced_below image content at room (i * 512) 512 (omega arith) in
          ⊎_elim (λ was. inl (same ∙ was)) (λ will. inr (same ∙ will)) (between.sectors i within);
      bytes = spliced_bytes;
    }

  module _ (image : List ℕ) (page : ℕ) (size : length new ≡ length old) (fits : page * 4096 + 4096 ≤ length old) (between : IsBetween a old new image) where
    length_page : length (part (page * 4096) 4096 new) ≡ 4096
    length_page = length_part (page * 4096) 4096 new (omega (arith, size))

    page_room : page * 4096 + length (part (page * 4096) 4096 new) ≤ length image
    page_room = omega (arith, length_page, fits, between.size)

    -- a sector of that page is the new one, and any other stays
    page_sector : (i : ℕ) → (sector i (spliced image (page * 4096) (part (page * 4096) 4096 new)) ≡ sector i image)
        ⊎ (sector i (spliced image (page * 4096) (part (page * 4096) 4096 new)) ≡ sector i new)
    page_sector i = elim (cases_lt i (page * 8)) [
      | inl below ↦ inl (part_spliced_below image (part (page * 4096) 4096 new) (page * 4096) page_room (i * 512) 512 (omega arith))
      | inr from ↦ elim (cases_lt i (page * 8 + 8)) [
        | inl within ↦
            let k = i * 512 - page * 4096 in
            let is : i * 512 ≡ page * 4096 + k = omega arith in
            inr (
            part_spliced_within image (part (page * 4096) 4096 new) (page * 4096) page_room (i * 512) 512 k is (omega (arith, length_page))
            ∙ part_part k 512 (page * 4096) 4096 new (omega arith) ∙ ap (λ (j : ℕ). part j 512 new) (sym is)
            )
        | inr above ↦ inl (part_spliced_above image (part (page * 4096) 4096 new) (page * 4096) page_room (i * 512) 512 (omega (arith, length_page)))
      ]
    ]

    -- so a page as the new content has it leaves what is between both
    pub page_between : IsBetween a old new (spliced image (page * 4096) (part (page * 4096) 4096 new))
    page_between = record {
      size = length_spliced image (part (page * 4096) 4096 new) (page * 4096) page_room ∙ between.size;
      sectors = λ i low. ⊎_elim (λ same. ⊎_elim (λ was. inl (same ∙ was)) (λ will. inr (same ∙ will)) (between.sectors i low)) (λ will. inr will) (page_sector i);
      bytes = spliced_bytes image (part (page * 4096) 4096 new) (page * 4096) (omega (arith, length_page)) between
          (λ i within. inr (get_or_part (page * 4096) 4096 new i (omega (arith, length_page))));
    }

  -- so do bytes in the image's place of which each is what reads there or what the new content has there
  pub home_between : (image content : List ℕ) (at : ℕ) → length new ≡ length old → image_at a ≤ at → at + length content ≤ length old → IsBetween a old new image
      → IsEither (part at (length content) image) (part at (length content) new) content → IsBetween a old new (spliced image at content)
  home_between image content at size low fits between either =
      behind_between image content at fits between
      (λ i within. ⊎_elim
      (λ was. inl (was ∙ get_or_part at (length content) image i within))
      (λ will. inr (will ∙ get_or_part at (length content) new i within))
      (either.each i))
      low
