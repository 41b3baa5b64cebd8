-- Where the parts of an image lie.
use Rattle.std.proofs.Common.{◌≡◌, ◌⊎◌, inl, inr, ℕ, ◌+◌, ◌-◌, ◌*◌, ◌%◌, ◌<◌, ◌≤◌, List, [], ◌∷◌, length, drop, refl, sym, ap, ◌∙◌, arith, length-take, length-drop}
use Rattle.std.proofs.Math.Nat.{mod-lt, mod-eq_of_lt, mod-add-mod, add-mod_left, mul-le-mul_right}
use Rattle.std.proofs.lemmas.Bool.{cases_lt}
use Rattle.block_disk.specs.Bytes.{part}
use Rattle.block_disk.specs.Device.{Range}
use Rattle.block_disk.specs.Images.{IsApart, Survives}
use Rattle.block_disk.proofs.Ranges.{part_same}
use Rattle.image_parts.specs.Guards.{HasGuard}
use Rattle.image_parts.specs.Laws.{AreApart, HeaderSurvives, GuardsSurvive, CellSurvives, HomeSurvives}
use Rattle.image_parts.specs.Layout.{IsLayout, guard_at, cell_at, area_at}
use Rattle.image_parts.specs.declared.guard_row.GuardRow.{GuardRow}
use Rattle.image_parts.specs.declared.layout.Layout.{Layout}

-- places less than n apart differ modulo n
differ : (n p d : ℕ) → 0 < d → d < n → (p + d) % n ≡ p % n → ⊥
differ n p d more less same =
    let r = p % n in
    let low : r < n = mod-lt p (omega arith) in
    let next : (r + d) % n ≡ r = mod-add-mod p n d ∙ same in
    elim (cases_lt (r + d) n) [
      | inl below ↦ absurd (omega (arith, more, sym (mod-eq_of_lt below) ∙ next))
      | inr from ↦
          let k = r + d - n in
          let is : r + d ≡ n + k = omega arith in
          let small : k < n = omega arith in
          let again : k ≡ r = sym (mod-eq_of_lt small) ∙ sym (add-mod_left n k) ∙ ap (λ (m : ℕ). m % n) (sym is) ∙ next in
          absurd (omega (arith, again, is, less))
    ]

sides : (at x y : ℕ) → (y ≡ x → ⊥) → (at + 16 * x + 16 ≤ at + 16 * y) ⊎ (at + 16 * y + 16 ≤ at + 16 * x)
sides at x y apart = elim (cases_lt x y) [
  | inl below ↦ inl (omega arith)
  | inr from ↦ inr (let less : y < x = omega arith in omega arith)
]

pub places : (l : Layout) → IsLayout l → AreApart l
places l is = record {
  rows = λ f g below. omega arith;
  cells = λ f lane below. omega arith;
  areas = λ lane other below. let more : 16 * lane + 16 ≤ 16 * other = omega arith in omega (arith, mul-le-mul_right l.capacity more);
  within = λ lane below. let more : 16 * lane + 16 ≤ 16 * l.lanes = omega arith in omega (arith, mul-le-mul_right l.capacity more);
  records = λ lane place. let low : place % l.capacity < l.capacity = mod-lt place (omega (arith, is.capacity)) in (omega arith, omega arith);
  places = λ lane place later below near.
      let d = later - place in
      let is' : place + d ≡ later = omega arith in
      sides (area_at l lane) (place % l.capacity) (later % l.capacity)
      (λ same. differ l.capacity place d (omega arith) (omega arith) (ap (λ (k : ℕ). k % l.capacity) is' ∙ same));
}

-- what lies within a part that is apart is apart
apart_within : (at n a k : ℕ) (rs : List Range) → at ≤ a → a + k ≤ at + n → IsApart at n rs → IsApart a k rs
apart_within at n a k [] low high apart = tt
apart_within at n a k (r ∷ rs) low high apart = (
  elim apart.0 [ inl above ↦ inl (omega arith) | inr below ↦ inr (omega arith) ],
  apart_within at n a k rs low high apart.1,
)

-- a part of so many bytes lies within
room_of : (at n : ℕ) (xs bytes : List ℕ) → length bytes ≡ n → 0 < n → part at n xs ≡ bytes → at + n ≤ length xs
room_of at n xs bytes long some is = omega (arith, ap length is, length-take n (drop at xs), length-drop at xs)

pub header_survives : HeaderSurvives
header_survives l rs apart xs ys has same = record {
  room = omega (arith, has.room, same.size);
  spelled = part_same 0 64 rs xs ys same apart (omega (arith, has.room)) ∙ has.spelled;
  limits = has.limits;
}

guard_survives : (l : Layout) (f : ℕ) (r : GuardRow) (rs : List Range) → f < l.fields → IsApart 2160 (16 * l.fields) rs → Survives rs (λ image. HasGuard l f image r)
guard_survives l f r rs below apart xs ys has same = record {
  spelled = part_same (guard_at f) 16 rs xs ys same (apart_within 2160 (16 * l.fields) (guard_at f) 16 rs (omega arith) (omega arith) apart)
      (room_of (guard_at f) 16 xs _ refl (omega arith) has.spelled) ∙ has.spelled;
  objects = has.objects;
  fits = has.fits;
}

pub guards_survive : GuardsSurvive
guards_survive l rows rs apart xs ys has same = record {
  size = has.size;
  each = λ f d below. guard_survives l f _ rs below apart xs ys (has.each f d below) same;
}

pub cell_survives : CellSurvives
cell_survives l f v rs apart xs ys has same = record {
  spelled = part_same (cell_at l f) 8 rs xs ys same apart (room_of (cell_at l f) 8 xs _ refl (omega arith) has.spelled) ∙ has.spelled;
  fits = has.fits;
}

pub home_survives : HomeSurvives
home_survives l row f v rs apart xs ys has same = record {
  persistent = λ is. cell_survives l f v rs apart xs ys (has.persistent is) same;
  transient = has.transient;
}
