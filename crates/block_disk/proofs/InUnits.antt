-- Writes of 16 bytes each, one right behind the other.
use Rattle.std.proofs.Common.{◌≡◌, inl, inr, ℕ, zero, suc, ◌+◌, ◌-◌, ◌*◌, ◌<◌, ◌≤◌, List, [], ◌∷◌, ◌++◌, length, get_or, take, drop, refl, sym, ◌∙◌, ap, subst, arith, length-append, length-take, length-drop, take-append-drop}
use Rattle.std.proofs.lemmas.List.{drop-drop, ext_get_or, get_or_append_left, get_or-append_right}
use Rattle.std.proofs.lemmas.Bool.{cases_lt}
use Rattle.block_disk.specs.Bytes.{spliced}
use Rattle.block_disk.specs.Device.{Range, Device, IsClear, SameOutside, written, written_units, unit_ranges}
use Rattle.block_disk.specs.Images.{Always, ImageBut, LeavesOnly}
use Rattle.block_disk.proofs.Bytes.{length_spliced, spliced_below, spliced_at, spliced_above}
use Rattle.block_disk.proofs.Ranges.{outside_more, outside_first}
use Rattle.block_disk.proofs.Images.{begin, and_then, weaker, follows, now_too, besides_none, besides_then, besides_wider, besides_union, leaves_written}

-- the first of them has 16 bytes, and those behind it the others
pub head_long : (n : ℕ) (bytes : List ℕ) → length bytes ≡ suc n * 16 → length (take 16 bytes) ≡ 16
head_long n bytes long = omega (arith, length-take 16 bytes)

pub rest_long : (n : ℕ) (bytes : List ℕ) → length bytes ≡ suc n * 16 → length (drop 16 bytes) ≡ n * 16
rest_long n bytes long = omega (arith, length-drop 16 bytes)

pub head_size : (n at : ℕ) (bytes : List ℕ) (d : Device) → length bytes ≡ suc n * 16 → at + length bytes ≤ length d.now.bytes → length (written at (take 16 bytes) d).now.bytes ≡ length d.now.bytes
head_size n at bytes d long fits = length_spliced d.now.bytes (take 16 bytes) at (omega (arith, head_long n bytes long))

-- they keep the size
pub units_size : (n at : ℕ) (bytes : List ℕ) (d : Device) → length bytes ≡ n * 16 → at + length bytes ≤ length d.now.bytes → length (written_units n at bytes d).now.bytes ≡ length d.now.bytes
units_size zero at bytes d long fits = refl
units_size (suc n) at bytes d long fits =
    let kept = head_size n at bytes d long fits in
    let rest = rest_long n bytes long in
    units_size n (at + 16) (drop 16 bytes) (written at (take 16 bytes) d) rest (omega arith) ∙ kept

pub units_failures : (n at : ℕ) (bytes : List ℕ) (d : Device) → (written_units n at bytes d).failures ≡ d.failures
units_failures zero at bytes d = refl
units_failures (suc n) at bytes d = units_failures n (at + 16) (drop 16 bytes) (written at (take 16 bytes) d)

-- a crash leaves images from before them, but for their ranges
pub units_leave : (n at : ℕ) (bytes : List ℕ) (d : Device) → length bytes ≡ n * 16 → at + length bytes ≤ length d.now.bytes → LeavesOnly d (written_units n at bytes d) (ImageBut d (unit_ranges n at))
units_leave zero at bytes d long fits = begin d (ImageBut d [])
units_leave (suc n) at bytes d long fits =
    let r : Range = record { start = at; len = 16 } in
    let rs : List Range = unit_ranges n (at + 16) in
    let next : Device = written at (take 16 bytes) d in
    let last : Device = written_units n (at + 16) (drop 16 bytes) next in
    let head = head_long n bytes long in
    let here : at + length (take 16 bytes) ≤ length d.now.bytes = omega arith in
    let one : LeavesOnly d next (ImageBut d (r ∷ [])) = subst (λ (k : ℕ). LeavesOnly d next (ImageBut d (record { start = at; len = k } ∷ []))) head (leaves_written at (take 16 bytes) d next here refl) in
    let always : Always next (ImageBut d (r ∷ [])) = now_too d next (ImageBut d (r ∷ [])) (besides_none d (r ∷ [])) one in
    let kept = head_size n at bytes d long fits in
    let rest = rest_long n bytes long in
    let others : LeavesOnly next last (ImageBut next rs) = units_leave n (at + 16) (drop 16 bytes) next rest (omega arith) in
    and_then d next last (ImageBut d (r ∷ rs))
    (weaker d next (ImageBut d (r ∷ [])) (ImageBut d (r ∷ rs)) (λ image from. besides_wider d (r ∷ []) (r ∷ rs) image (λ xs ys same. outside_first r rs xs ys same) from) one)
    (weaker next last (ImageBut next rs) (ImageBut d (r ∷ rs)) (λ image from. besides_union d next (r ∷ []) rs image always from) others)

-- one of n writes lies in their ranges
clear_unit : (n at i j : ℕ) → i < n → IsClear j (unit_ranges n at) → IsClear j (record { start = at + i * 16; len = 16 } ∷ [])
clear_unit zero at i j lt clear = absurd (omega arith)
clear_unit (suc n) at zero j lt clear =
    let here : at ≡ at + 0 * 16 = omega arith in
    subst (λ (p : ℕ). IsClear j (record { start = p; len = 16 } ∷ [])) here (clear.0, tt)
clear_unit (suc n) at (suc i) j lt clear =
    let here : at + 16 + i * 16 ≡ at + suc i * 16 = omega arith in
    subst (λ (p : ℕ). IsClear j (record { start = p; len = 16 } ∷ [])) here (clear_unit n (at + 16) i j (omega arith) clear.1)

outside_unit : (n at i : ℕ) (xs ys : List ℕ) → i < n → SameOutside (record { start = at + i * 16; len = 16 } ∷ []) xs ys → SameOutside (unit_ranges n at) xs ys
outside_unit n at i xs ys lt same = outside_more (record { start = at + i * 16; len = 16 } ∷ []) (unit_ranges n at) xs ys (λ j clear. clear_unit n at i j lt clear) same

-- one write more
pub unit_follows : (n at i : ℕ) (old mid new : Device) → i < n → Always mid (ImageBut old (unit_ranges n at))
    → LeavesOnly old mid (ImageBut old (unit_ranges n at)) → LeavesOnly mid new (ImageBut mid (record { start = at + i * 16; len = 16 } ∷ []))
    → LeavesOnly old new (ImageBut old (unit_ranges n at))
unit_follows n at i old mid new lt always before one =
    follows old mid new (ImageBut old (unit_ranges n at)) (record { start = at + i * 16; len = 16 } ∷ []) before one
    (λ image from. besides_then old mid (unit_ranges n at) image always
    (besides_wider mid (record { start = at + i * 16; len = 16 } ∷ []) (unit_ranges n at) image (λ xs ys same. outside_unit n at i xs ys lt same) from))

pub unit_always : (n at i : ℕ) (old mid new : Device) → i < n → Always mid (ImageBut old (unit_ranges n at))
    → LeavesOnly mid new (ImageBut mid (record { start = at + i * 16; len = 16 } ∷ [])) → Always new (ImageBut old (unit_ranges n at))
unit_always n at i old mid new lt always one =
    now_too mid new (ImageBut old (unit_ranges n at)) always (unit_follows_here n at i old mid new lt always one)
  where
    unit_follows_here : (n at i : ℕ) (old mid new : Device) → i < n → Always mid (ImageBut old (unit_ranges n at)) → LeavesOnly mid new (ImageBut mid (record { start = at + i * 16; len = 16 } ∷ [])) → LeavesOnly mid new (ImageBut old (unit_ranges n at))
    unit_follows_here n at i old mid new lt always one =
        weaker mid new (ImageBut mid (record { start = at + i * 16; len = 16 } ∷ [])) (ImageBut old (unit_ranges n at))
        (λ image from. besides_then old mid (unit_ranges n at) image always
        (besides_wider mid (record { start = at + i * 16; len = 16 } ∷ []) (unit_ranges n at) image (λ xs ys same. outside_unit n at i xs ys lt same) from))
        one

-- a splice right behind another
pub spliced_twice : (xs a b : List ℕ) (at : ℕ) → at + length a + length b ≤ length xs → spliced (spliced xs at a) (at + length a) b ≡ spliced xs at (a ++ b)
spliced_twice xs a b at fits =
    let first : at + length a ≤ length xs = omega arith in
    let size = length_spliced xs a at first in
    let behind : at + length a + length b ≤ length (spliced xs at a) = omega (arith, size) in
    let both = length-append a b in
    let whole : at + length (a ++ b) ≤ length xs = omega (arith, both) in
    ext_get_or 0 (spliced (spliced xs at a) (at + length a) b) (spliced xs at (a ++ b))
    (length_spliced (spliced xs at a) b (at + length a) behind ∙ size ∙ sym (length_spliced xs (a ++ b) at whole))
    (λ i within. elim (cases_lt i at) [
      | inl below ↦ spliced_below (spliced xs at a) b (at + length a) behind i (omega arith) ∙ spliced_below xs a at first i below ∙ sym (spliced_below xs (a ++ b) at whole i below)
      | inr from ↦ elim (cases_lt i (at + length a)) [
        | inl in_a ↦
            let k = i - at in
            let is : at + k ≡ i = omega arith in
            let e : get_or (spliced (spliced xs at a) (at + length a) b) (at + k) 0 ≡ get_or (spliced xs at (a ++ b)) (at + k) 0 =
            spliced_below (spliced xs at a) b (at + length a) behind (at + k) (omega arith) ∙ spliced_at xs a at first k (omega arith)
            ∙ sym (get_or_append_left a b 0 k (omega arith)) ∙ sym (spliced_at xs (a ++ b) at whole k (omega (arith, both))) in
            subst (λ (j : ℕ). get_or (spliced (spliced xs at a) (at + length a) b) j 0 ≡ get_or (spliced xs at (a ++ b)) j 0) is e
        | inr past_a ↦ elim (cases_lt i (at + length a + length b)) [
          | inl in_b ↦
              let k = i - (at + length a) in
              let is : at + length a + k ≡ i = omega arith in
              let too : at + (length a + k) ≡ i = omega arith in
              let less : length a + k - length a ≡ k = omega arith in
              let low : k < length b = omega arith in
              subst (λ (j : ℕ). get_or (spliced (spliced xs at a) (at + length a) b) j 0 ≡ get_or b k 0) is (spliced_at (spliced xs at a) b (at + length a) behind k low)
              ∙ sym (subst (λ (j : ℕ). get_or (spliced xs at (a ++ b)) j 0 ≡ get_or b k 0) too
              (spliced_at xs (a ++ b) at whole (length a + k) (omega (arith, both)) ∙ get_or-append_right a b (length a) (length a + k) 0 refl (omega arith) ∙ ap (λ (j : ℕ). get_or b j 0) less))
          | inr past ↦ spliced_above (spliced xs at a) b (at + length a) behind i past ∙ spliced_above xs a at first i past_a ∙ sym (spliced_above xs (a ++ b) at whole i (omega (arith, both)))
        ]
      ]
    ])

-- what they make of the bytes
pub units_bytes : (n at : ℕ) (bytes : List ℕ) (d : Device) → length bytes ≡ n * 16 → at + length bytes ≤ length d.now.bytes → (written_units n at bytes d).now.bytes ≡ spliced d.now.bytes at bytes
units_bytes zero at [] d long fits = sym (ext_get_or 0 (spliced d.now.bytes at []) d.now.bytes (length_spliced d.now.bytes [] at fits) (λ i within. elim (cases_lt i at) [
  | inl below ↦ spliced_below d.now.bytes [] at fits i below
  | inr from ↦ spliced_above d.now.bytes [] at fits i (let none : length {A = ℕ} [] ≡ 0 = refl in omega arith)
]))
units_bytes zero at (b ∷ bs) d long fits = absurd (omega arith)
units_bytes (suc n) at bytes d long fits =
    let a : List ℕ = take 16 bytes in
    let b : List ℕ = drop 16 bytes in
    let head : length a ≡ 16 = head_long n bytes long in
    let rest : length b ≡ n * 16 = rest_long n bytes long in
    let kept : length (spliced d.now.bytes at a) ≡ length d.now.bytes = head_size n at bytes d long fits in
    let both : a ++ b ≡ bytes = take-append-drop 16 bytes in
    let there : at + 16 ≡ at + length a = omega arith in
    units_bytes n (at + 16) b (written at a d) rest (omega arith)
    ∙ ap (λ (k : ℕ). spliced (spliced d.now.bytes at a) k b) there
    ∙ spliced_twice d.now.bytes a b at (omega arith)
    ∙ ap (λ (xs : List ℕ). spliced d.now.bytes at xs) both

-- the bytes of one write
pub unit_is : (i : ℕ) (bytes : List ℕ) → take (i * 16 + 16 - i * 16) (drop (i * 16) bytes) ≡ take 16 (drop (i * 16) bytes)
unit_is i bytes =
    let e : i * 16 + 16 - i * 16 ≡ 16 = omega arith in
    ap (λ (k : ℕ). take k (drop (i * 16) bytes)) e

-- one write less is left
pub next_rest : (n i at : ℕ) (bytes : List ℕ) (old new : Device) → i < n → new ≡ written (at + i * 16) (take 16 (drop (i * 16) bytes)) old
    → written_units (n - (i + 1)) (at + (i + 1) * 16) (drop ((i + 1) * 16) bytes) new ≡ written_units (n - i) (at + i * 16) (drop (i * 16) bytes) old
next_rest n i at bytes old new lt made =
    let m : ℕ = n - (i + 1) in
    let b : List ℕ = drop (i * 16) bytes in
    let more : (i + 1) * 16 ≡ i * 16 + 16 = omega arith in
    let behind : drop ((i + 1) * 16) bytes ≡ drop 16 b = ap (λ (k : ℕ). drop k bytes) more ∙ sym (drop-drop 16 (i * 16) bytes) in
    let here : at + (i + 1) * 16 ≡ at + i * 16 + 16 = omega arith in
    let left : suc m ≡ n - i = omega arith in
    ap (λ (k : ℕ). written_units m k (drop ((i + 1) * 16) bytes) new) here
    ∙ ap (λ (xs : List ℕ). written_units m (at + i * 16 + 16) xs new) behind
    ∙ ap (λ (d : Device). written_units m (at + i * 16 + 16) (drop 16 b) d) made
    ∙ ap (λ (k : ℕ). written_units k (at + i * 16) b old) left
