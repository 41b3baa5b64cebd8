-- Making a device stand for a disk in two places, step by step.
use Rattle.std.proofs.Common.{◌≡◌, inr, ℕ, ◌+◌, ◌≤◌, Bool, true, false, List, [], ◌∷◌, length, replicate, sym, ◌∙◌, ap, subst, arith, nat_eq}
use Rattle.std.proofs.lemmas.List.{length-replicate}
use Rattle.block_disk.specs.Device.{Device, Range, SameMoments, SameOutside, synced}
use Rattle.block_disk.specs.Images.{ImageBut, LeavesOnly}
use Rattle.block_disk.proofs.Images.{begin}
use Rattle.block_disk.proofs.Ranges.{outside_wider}
use Rattle.disk_sectors.specs.declared.size.SectorSize.{SectorSize}
use Rattle.disk_sectors.specs.Size.{place_of}
use Rattle.disk_sectors.specs.Places.{IsAsFound, IsKept, Matches, area, first_sector, one_sector, sectors_from, turn_of}
use Rattle.disk_sectors.proofs.Beginnings.{all_marked, kept_found}
use Rattle.disk_sectors.proofs.Sizes.{area_among, apart_gate, apart_label, area_fits_all, first_among, gate_among, gate_clear_label, label_among, leaves_then, place_le, sector_apart_gate, sector_apart_label}
use Rattle.disk_sectors.proofs.TwoAreas.{area_same, matches_same}

-- What was written lies among the sectors that the disk takes.

pub among_label : (size : SectorSize) (count : ℕ) (xs ys : List ℕ) → SameOutside (one_sector size 0 ∷ []) xs ys → SameOutside (sectors_from size 0 (count + count + 2) ∷ []) xs ys
among_label size count xs ys same =
    outside_wider (one_sector size 0) (sectors_from size 0 (count + count + 2)) xs ys (place_le size 0 0 (omega arith)) (label_among size count) same

pub among_gate : (size : SectorSize) (count : ℕ) (xs ys : List ℕ) → SameOutside (one_sector size 1 ∷ []) xs ys → SameOutside (sectors_from size 0 (count + count + 2) ∷ []) xs ys
among_gate size count xs ys same =
    outside_wider (one_sector size 1) (sectors_from size 0 (count + count + 2)) xs ys (place_le size 0 1 (omega arith)) (gate_among size count) same

pub among_first : (size : SectorSize) (count n : ℕ) (xs ys : List ℕ) → n ≡ count → SameOutside (sectors_from size 2 n ∷ []) xs ys → SameOutside (sectors_from size 0 (count + count + 2) ∷ []) xs ys
among_first size count n xs ys is same =
    outside_wider (sectors_from size 2 n) (sectors_from size 0 (count + count + 2)) xs ys (place_le size 0 2 (omega arith)) (first_among size count n is) same

pub among_area : (size : SectorSize) (count : ℕ) (turn : Bool) (first n : ℕ) (xs ys : List ℕ) → first ≡ first_sector count turn → n ≡ count
    → SameOutside (sectors_from size first n ∷ []) xs ys → SameOutside (sectors_from size 0 (count + count + 2) ∷ []) xs ys
among_area size count turn first n xs ys is many same =
    outside_wider (sectors_from size (first_sector count turn) count) (sectors_from size 0 (count + count + 2)) xs ys (place_le size 0 (first_sector count turn) (omega arith)) (area_among size count turn)
    (subst (λ (r : Range). SameOutside (r ∷ []) xs ys) (λ i. sectors_from size (is i) (many i)) same)

-- And so does what a crash leaves of it.

pub leaves_gate : (size : SectorSize) (count : ℕ) (old new : Device) → LeavesOnly old new (ImageBut old (one_sector size 1 ∷ []))
    → LeavesOnly old new (ImageBut old (sectors_from size 0 (count + count + 2) ∷ []))
leaves_gate size count old new leaves =
    leaves_then old old new (one_sector size 1) (sectors_from size 0 (count + count + 2)) (place_le size 0 1 (omega arith)) (gate_among size count)
    (begin old (ImageBut old (sectors_from size 0 (count + count + 2) ∷ []))) leaves

pub leaves_area : (size : SectorSize) (count : ℕ) (turn : Bool) (first n : ℕ) (old new : Device) → first ≡ first_sector count turn → n ≡ count
    → LeavesOnly old new (ImageBut old (sectors_from size first n ∷ [])) → LeavesOnly old new (ImageBut old (sectors_from size 0 (count + count + 2) ∷ []))
leaves_area size count turn first n old new is many leaves =
    leaves_then old old new (sectors_from size (first_sector count turn) count) (sectors_from size 0 (count + count + 2)) (place_le size 0 (first_sector count turn) (omega arith)) (area_among size count turn)
    (begin old (ImageBut old (sectors_from size 0 (count + count + 2) ∷ [])))
    (subst (λ (r : Range). LeavesOnly old new (ImageBut old (r ∷ []))) (λ i. sectors_from size (is i) (many i)) leaves)

pub leaves_both : (old mid new : Device) (r : Range) → LeavesOnly old mid (ImageBut old (r ∷ [])) → LeavesOnly mid new (ImageBut mid (r ∷ [])) → LeavesOnly old new (ImageBut old (r ∷ []))
leaves_both old mid new r a b = leaves_then old mid new r r (omega arith) (omega arith) a b

-- The first area was filled, then the gate turned to it, and then the label written.
pub kept_laid : (size : SectorSize) (count : ℕ) (fresh stale : List Bool) (image : List ℕ) (filled turned d : Device) → d.now.pending ≡ [] → place_of size (count + count + 2) ≤ length filled.now.bytes
    → SameOutside (one_sector size 1 ∷ []) filled.now.bytes turned.now.bytes → turn_of size turned.now.bytes ≡ false → SameOutside (one_sector size 0 ∷ []) turned.now.bytes d.now.bytes
    → area size count false filled.now.bytes ≡ image → length fresh ≡ count → stale ≡ replicate count true → Matches size 2 fresh image filled.now.bytes
    → IsKept size true false fresh stale image (record { bytes = image; pending = [] }) d
kept_laid size count fresh stale image filled turned d settled fits one says two whole many stale_is matches =
    let fits1 : place_of size (count + count + 2) ≤ length turned.now.bytes = omega (arith, fits, one.size) in
    let fits2 : place_of size (count + count + 2) ≤ length d.now.bytes = omega (arith, fits1, two.size) in
    let says2 : turn_of size d.now.bytes ≡ false = ap (λ (b : ℕ). nat_eq b 1) (two.same (place_of size 1) (gate_clear_label size)) ∙ says in
    let same : area size count false d.now.bytes ≡ image =
    area_same size count false (one_sector size 0 ∷ []) turned.now.bytes d.now.bytes two fits1 (apart_label size count false)
    ∙ area_same size count false (one_sector size 1 ∷ []) filled.now.bytes turned.now.bytes one fits (apart_gate size count false) ∙ whole in
    let long : place_of size (2 + length fresh) ≤ length filled.now.bytes =
    subst (λ (n : ℕ). place_of size (2 + n) ≤ length filled.now.bytes) (sym many) (area_fits_all size count false (length filled.now.bytes) fits) in
    let long1 : place_of size (2 + length fresh) ≤ length turned.now.bytes = omega (arith, long, one.size) in
    kept_found size count false fresh stale image d settled fits2 says2 (sym same) many (ap (λ (xs : List Bool). length xs) stale_is ∙ length-replicate count true)
    (matches_same size 2 fresh image turned.now.bytes d.now.bytes (one_sector size 0) two long1 (λ i less. sector_apart_label size count false i)
    (matches_same size 2 fresh image filled.now.bytes turned.now.bytes (one_sector size 1) one long (λ i less. sector_apart_gate size count false i) matches))
    (all_marked size (first_sector count true) count stale image d.now.bytes stale_is)

-- A device that was flushed, and then only read.

pub read_since : (old flushed new : Device) → flushed ≡ synced old → SameMoments flushed new → IsAsFound old new
read_since old flushed new is same = inr (subst (λ (d : Device). SameMoments d new) is same)

pub same_then : (old mid new : Device) → SameMoments old mid → SameMoments mid new → SameMoments old new
same_then old mid new a b = record { name = b.name ∙ a.name; now = b.now ∙ a.now; past = b.past ∙ a.past }
