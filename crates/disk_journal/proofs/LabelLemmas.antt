-- What bytes are a label, and of which parts.
use Rattle.std.specs.Int.{to_be_bytes, from_be_bytes, w64}
use Rattle.std.proofs.Common.{◌≡◌, inl, inr, ◌<◌, ◌≤◌, ◌^◌, ℕ, List, ◌∷◌, ◌++◌, Bool, true, false, not, length, take, sym, ◌∙◌, ap, subst, arith}
use Rattle.std.proofs.Math.Dec.{eqb}
use Rattle.std.specs.Cmp.Lexicographic.{pointwise, bytes_decides}
use Rattle.std.proofs.lemmas.List.{take-take}
use Rattle.std.proofs.lemmas.Bool.{cases_lt}
use Rattle.std.proofs.lemmas.Nat.{from_be_bytes-to_be_bytes_8}
use Rattle.block_disk.specs.Bytes.{part}
use Rattle.block_disk.proofs.Bytes.{part_part}
use Rattle.journal_batches.specs.declared.areas.Areas.{Areas}
use Rattle.journal_batches.specs.Areas.{room_of}
use Rattle.disk_journal.specs.Labels.{HasLabel}
use Rattle.disk_journal.specs.Refusals.{AreNoJournal, LacksRoom}

not_true : (b : Bool) → b ≡ true → not b ≡ true → ⊥
not_true true p q = cc
not_true false p q = cc

-- what `!=` on bytes says
pub differ : (xs ys : List ℕ) (r : Bool) → r ≡ not (pointwise eqb xs ys) → r ≡ true → xs ≡ ys → ⊥
differ xs ys r is holds same = not_true (pointwise eqb xs ys) ((bytes_decides xs ys).1 same) (sym is ∙ holds)

-- the numbers of a label
pub half_told : (a : Areas) (bytes : List ℕ) → HasLabel a bytes → part 8 8 bytes ≡ to_be_bytes w64 a.half
half_told a bytes label = sym (part_part 8 8 0 24 bytes (omega arith)) ∙ ap (λ (xs : List ℕ). part 8 8 xs) label

pub image_told : (a : Areas) (bytes : List ℕ) → HasLabel a bytes → part 16 8 bytes ≡ to_be_bytes w64 a.image
image_told a bytes label = sym (part_part 16 8 0 24 bytes (omega arith)) ∙ ap (λ (xs : List ℕ). part 16 8 xs) label

-- parts that have the numbers of a label have that label
pub label_of_numbers : (a b : Areas) (bytes : List ℕ) → to_be_bytes w64 b.half ≡ part 8 8 bytes → to_be_bytes w64 b.image ≡ part 16 8 bytes → HasLabel a bytes
    → HasLabel b bytes
label_of_numbers a b bytes half image label =
    let one = half ∙ half_told a bytes label in
    let two = image ∙ image_told a bytes label in
    label ∙ (λ i. 77 ∷ 79 ∷ 78 ∷ 73 ∷ 72 ∷ 65 ∷ 76 ∷ 70 ∷ (sym one i ++ sym two i))

same_number : (n m : ℕ) → n < 2 ^ 64 → m < 2 ^ 64 → to_be_bytes w64 n ≡ to_be_bytes w64 m → n ≡ m
same_number n m low high same =
    sym (from_be_bytes-to_be_bytes_8 n low) ∙ ap (λ (xs : List ℕ). from_be_bytes w64 xs) same ∙ from_be_bytes-to_be_bytes_8 m high

-- bytes have one label, if its numbers are ones of eight bytes
pub one_label : (a b : Areas) (bytes : List ℕ) → a.half < 2 ^ 64 → a.image < 2 ^ 64 → b.half < 2 ^ 64 → b.image < 2 ^ 64
    → HasLabel a bytes → HasLabel b bytes → a ≡ b
one_label a b bytes ah ai bh bi one two =
    let half = same_number a.half b.half ah bh (sym (half_told a bytes one) ∙ half_told b bytes two) in
    let image = same_number a.image b.image ai bi (sym (image_told a bytes one) ∙ image_told b bytes two) in
    λ i. record { half = half i; image = image i }

-- a label of the first 24 bytes is the label of all
pub begins_with : (a : Areas) (head bytes : List ℕ) → head ≡ take 24 bytes → HasLabel a head → HasLabel a bytes
begins_with a head bytes is label = sym (take-take 24 24 bytes (omega arith)) ∙ ap (λ (xs : List ℕ). take 24 xs) (sym is) ∙ label

-- a device that hasn't room for parts lacks it
pub lacks_room : (a : Areas) (bytes : List ℕ) → (room_of a ≤ length bytes × 1 ≤ a.half → ⊥) → LacksRoom a bytes
lacks_room a bytes not_both = elim (cases_lt (length bytes) (room_of a)) [
  | inl less ↦ inl less
  | inr from ↦ elim (cases_lt 0 a.half) [ inl some ↦ absurd (not_both (from, some)) | inr none ↦ inr (omega arith) ]
]

-- bytes with a label and room for its parts are a journal's
pub is_journal : (a : Areas) (bytes : List ℕ) → a.half < 2 ^ 64 → a.image < 2 ^ 64 → HasLabel a bytes → room_of a ≤ length bytes → 1 ≤ a.half
    → AreNoJournal bytes → ⊥
is_journal a bytes half image label room some (inl none) = none a half image label
is_journal a bytes half image label room some (inr (b, labelled, lacks)) =
    let is : b ≡ a = one_label b a bytes labelled.half labelled.image half image labelled.label label in
    elim (subst (λ (x : Areas). LacksRoom x bytes) is lacks) [
      | inl less ↦ absurd (omega (arith, less, room))
      | inr none ↦ absurd (omega (arith, none, some))
    ]
