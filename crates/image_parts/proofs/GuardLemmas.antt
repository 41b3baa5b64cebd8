-- Guard rows: each has one spelling, and a block of them is read as it stands in the image.
use Rattle.std.proofs.Common.{◌≡◌, ◌==◌, ℕ, zero, suc, ◌+◌, ◌-◌, ◌*◌, ◌<◌, ◌≤◌, List, ◌++◌, ◌∷◌, length, get_or, Bool, true, false, refl, sym, ap, subst, ◌∙◌, inl, inr, arith}
use Rattle.std.specs.Prelude.{All}
use Rattle.std.specs.Int.{w16, w32, w64, from_be_bytes, to_be_bytes}
use Rattle.std.proofs.lemmas.Bool.{cases_lt}
use Rattle.std.proofs.lemmas.List.{drop_all, drop_more, get_or_append_left, get_or-append_right}
use Rattle.std.proofs.lemmas.List.Elements.{All-get_or, All-from_get_or}
use Rattle.std.proofs.lemmas.Nat.{from_be_bytes-to_be_bytes_2, from_be_bytes-to_be_bytes_4, from_be_bytes-to_be_bytes_8}
use Rattle.block_disk.specs.Bytes.{part}
use Rattle.block_disk.proofs.Bytes.{part_part}
use Rattle.image_parts.specs.Layout.{guard_at}
use Rattle.image_parts.specs.Guards.{FitsGuard, NamesObjects, HasGuard, HasGuards, guard_bytes, mark_of, no_row}
use Rattle.image_parts.specs.Blocks.{HoldsNoRow, HoldsRows, HasBlock, HasEach}
use Rattle.image_parts.specs.declared.layout.Layout.{Layout}
use Rattle.image_parts.specs.declared.guard_row.GuardRow.{GuardRow}
use Rattle.image_parts.proofs.Numbers.{cut}

-- a mark says one thing
one_mark : (a b : Bool) → mark_of a ≡ mark_of b → a ≡ b
one_mark true true is = refl
one_mark false false is = refl
one_mark true false is = absurd cc
one_mark false true is = absurd cc

-- a byte that is a mark is the one of what it says
pub mark_read : (n : ℕ) → n ≤ 1 → mark_of (n == 1) ≡ n
mark_read zero small = refl
mark_read (suc zero) small = refl
mark_read (suc (suc n)) small = absurd (omega arith)

pub one_guard : (x y : GuardRow) → FitsGuard x → FitsGuard y → guard_bytes x ≡ guard_bytes y → x ≡ y
one_guard x y p q is =
    let a = sym (from_be_bytes-to_be_bytes_4 x.guard.0 p.guard) ∙ ap (λ (b : List ℕ). from_be_bytes w32 (part 0 4 b)) is ∙ from_be_bytes-to_be_bytes_4 y.guard.0 q.guard in
    let m = one_mark x.transient y.transient (ap (λ (b : List ℕ). get_or b 4 0) is) in
    let b = sym (from_be_bytes-to_be_bytes_2 x.owner.0 p.owner) ∙ ap (λ (b : List ℕ). from_be_bytes w16 (part 6 2 b)) is ∙ from_be_bytes-to_be_bytes_2 y.owner.0 q.owner in
    let d = sym (from_be_bytes-to_be_bytes_8 x.first p.first) ∙ ap (λ (b : List ℕ). from_be_bytes w64 (part 8 8 b)) is ∙ from_be_bytes-to_be_bytes_8 y.first q.first in
    λ i. record { guard = record { 0 = a i }; owner = record { 0 = b i }; first = d i; transient = m i }

-- sixteen bytes whose parts are those of a row are the row's
pub guard_spelled : (bs : List ℕ) (r : GuardRow) → length bs ≡ 16 → to_be_bytes w32 r.guard.0 ≡ part 0 4 bs → mark_of r.transient ≡ get_or bs 4 0
    → 0 ≡ get_or bs 5 0 → to_be_bytes w16 r.owner.0 ≡ part 6 2 bs → to_be_bytes w64 r.first ≡ part 8 8 bs → bs ≡ guard_bytes r
guard_spelled bs r long a m z b d =
    let mark = drop_more bs 4 0 (omega arith) in
    let nothing = drop_more bs 5 0 (omega arith) in
    cut 0 4 bs ∙ (λ i. sym a i ++ (mark ∙ (λ j. sym m j ∷ (nothing ∙ (λ k. sym z k ∷ (cut 6 2 bs ∙ (λ n. sym b n ++ (cut 8 8 bs
    ∙ (λ o. sym d o ++ drop_all 16 bs (omega arith) o)) n)) k)) j)) i)

-- an image has one row for a field
pub one_row_there : (l : Layout) (f : ℕ) (image : List ℕ) (x y : GuardRow) → HasGuard l f image x → HasGuard l f image y → x ≡ y
one_row_there l f image x y p q = one_guard x y p.fits q.fits (sym p.spelled ∙ q.spelled)

module _ (l : Layout) (first n : ℕ) (image bytes : List ℕ) (at : ℕ) (at_is : at ≡ guard_at first) (is : bytes ≡ part at (16 * n) image) where
  -- the bytes of field first + i in the block
  bytes_there : (i : ℕ) → i < n → part (guard_at (first + i)) 16 image ≡ part (16 * i) 16 bytes
  bytes_there i within =
      let place : guard_at (first + i) ≡ at + 16 * i = omega arith in
      ap (λ (k : ℕ). part k 16 image) place ∙ sym (part_part (16 * i) 16 at (16 * n) image (omega arith)) ∙ ap (part (16 * i) 16) (sym is)

  -- where the image has rows at all, each 16 bytes of the block are one
  pub block_whole : (others : List GuardRow) → HasGuards l image others → first + n ≤ l.fields → HoldsNoRow bytes n → ⊥
  block_whole others has within none =
      let one = has.each (first + none.0) no_row (omega (arith, none.1)) in
      none.2 (get_or others (first + none.0) no_row) (record { spelled = sym (bytes_there none.0 none.1) ∙ one.spelled; fits = one.fits })

module _ (l : Layout) (first n : ℕ) (image bytes : List ℕ) (rows : List GuardRow) (at : ℕ) (at_is : at ≡ guard_at first) (is : bytes ≡ part at (16 * n) image)
    (holds : HoldsRows bytes n rows) (long : length rows ≡ n) where
  -- row i of the block is the row of field first + i
  there : (i : ℕ) (d : GuardRow) → i < n → part (guard_at (first + i)) 16 image ≡ guard_bytes (get_or rows i d)
  there i d within = bytes_there l first n image bytes at at_is is i within ∙ (holds i d within).spelled

  pub block_there : All (NamesObjects l.objects) rows → (rest : List GuardRow) → HasBlock l first n image (rows ++ rest)
  block_there named rest i d within =
      let below : i < length rows = omega arith in
      subst (HasGuard l (first + i) image) (sym (get_or_append_left rows rest d i below)) (record {
        spelled = there i d within;
        objects = All-get_or (NamesObjects l.objects) rows i d below named;
        fits = (holds i d within).fits;
      })

  -- where the image has rows at all, those of the block name objects
  pub block_named : (others : List GuardRow) → HasGuards l image others → first + n ≤ l.fields → All (NamesObjects l.objects) rows
  block_named others has within = All-from_get_or (NamesObjects l.objects) rows no_row (λ i below.
      let one = has.each (first + i) no_row (omega arith) in
      let same = one_guard (get_or others (first + i) no_row) (get_or rows i no_row) one.fits ((holds i no_row (omega arith)).fits) (sym one.spelled ∙ there i no_row (omega arith)) in
      subst (NamesObjects l.objects) same one.objects)

-- the fields of a block, each with its row
pub each_more : (l : Layout) (first n : ℕ) (image : List ℕ) (block : List GuardRow) → HasEach l first image → HasBlock l first n image block → HasEach l (first + n) image
each_more l first n image block before more f below = elim (cases_lt f first) [
  | inl under ↦ before f under
  | inr from ↦
      let is : first + (f - first) ≡ f = omega arith in
      (get_or block (f - first) no_row, subst (λ (k : ℕ). HasGuard l k image (get_or block (f - first) no_row)) is (more (f - first) no_row (omega arith)))
]

-- the rows so far, and those of a block behind them
pub rows_more : (l : Layout) (n : ℕ) (image : List ℕ) (rows block : List GuardRow) → ((f : ℕ) (d : GuardRow) → f < length rows → HasGuard l f image (get_or rows f d))
    → length block ≡ n → HasBlock l (length rows) n image block → (f : ℕ) (d : GuardRow) → f < length rows + n → HasGuard l f image (get_or (rows ++ block) f d)
rows_more l n image rows block before long more f d below = elim (cases_lt f (length rows)) [
  | inl under ↦ subst (HasGuard l f image) (sym (get_or_append_left rows block d f under)) (before f d under)
  | inr from ↦
      let k = f - length rows in
      let is : length rows + k ≡ f = omega arith in
      let same : get_or (rows ++ block) f d ≡ get_or block k d = get_or-append_right rows block (length rows) f d refl from in
      subst (HasGuard l f image) (sym same) (subst (λ (j : ℕ). HasGuard l j image (get_or block k d)) is (more k d (omega arith)))
]
