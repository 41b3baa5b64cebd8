-- What a copy of a guard row says.
use Rattle.std.proofs.Common.{◌≡◌, ◌∙◌, ℕ, List, [], ◌++◌, length, drop, ap, arith, refl}
use Rattle.std.proofs.lemmas.List.{append-nil, drop_all}
use Rattle.block_disk.specs.Bytes.{part}
use Rattle.disk_deferred.specs.Copying.{CopiesFrom}
use Rattle.image_parts.specs.Guards.{guard_bytes}
use Rattle.image_parts.specs.declared.guard_row.GuardRow.{GuardRow}

-- a copy of a row has its bytes
pub row_copied : (image old new : List ℕ) (at count : ℕ) (r : GuardRow) → CopiesFrom image at old new count → length old ≡ 16 → part at 16 image ≡ guard_bytes r → new ≡ guard_bytes r
row_copied image old new at count r copied long spelled =
    let whole : part at (length old) image ≡ guard_bytes r = ap (λ (n : ℕ). part at n image) long ∙ spelled in
    let sixteen : length (guard_bytes r) ≡ 16 = refl in
    let counted : count ≡ 16 = copied.counted ∙ ap length whole ∙ sixteen in
    let none : drop count old ≡ [] = drop_all count old (omega (arith, counted, long)) in
    copied.bytes ∙ (λ i. whole i ++ none i) ∙ append-nil (guard_bytes r)
