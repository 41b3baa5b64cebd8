-- What bytes are a label.
use Rattle.std.proofs.Common.{◌≡◌, ◌<◌, ◌^◌, ℕ, List, Bool, Option, None, Some, IfNone, true, false, not, take, sym, ◌∙◌}
use Rattle.std.proofs.Math.Dec.{eqb}
use Rattle.std.specs.Cmp.Lexicographic.{pointwise, bytes_decides}
use Rattle.disk_sectors.specs.Labels.{label_bytes}
use Rattle.disk_sectors.specs.declared.label.Label.{Label}
use Rattle.disk_sectors.specs.declared.size.SectorSize.{SectorSize}
use Rattle.disk_sectors.specs.declared.size.SectorSize.TheVariants.{Bytes512, Bytes4096}

not_true : (b : Bool) → b ≡ true → not b ≡ true → ⊥
not_true true p q = cc
not_true false p q = cc

-- what `!=` on bytes says
pub differ : (xs ys : List ℕ) (r : Bool) → r ≡ not (pointwise eqb xs ys) → r ≡ true → xs ≡ ys → ⊥
differ xs ys r is holds same = not_true (pointwise eqb xs ys) ((bytes_decides xs ys).1 same) (sym is ∙ holds)

-- bytes that spell no label, of sectors of either size
pub neither : (r : Option Label) (spelled head : List ℕ) → spelled ≡ take 16 head → ((count : ℕ) → count < 2 ^ 64 → spelled ≡ label_bytes Bytes512 count → ⊥)
    → IfNone r ((count : ℕ) → count < 2 ^ 64 → spelled ≡ label_bytes Bytes4096 count → ⊥)
    → IfNone r ((size : SectorSize) (count : ℕ) → count < 2 ^ 64 → take 16 head ≡ label_bytes size count → ⊥)
neither (Some l) spelled head is small large = tt
neither None spelled head is small large = either
  where
    either : (size : SectorSize) (count : ℕ) → count < 2 ^ 64 → take 16 head ≡ label_bytes size count → ⊥
    either Bytes512 count bound same = small count bound (is ∙ same)
    either Bytes4096 count bound same = large count bound (is ∙ same)
