-- Filling an area, a sector after the other.
use Rattle.std.proofs.Common.{◌≡◌, inl, inr, ◌⊎◌, ℕ, ◌+◌, ◌<◌, ◌≤◌, Bool, true, false, List, [], ◌∷◌, length, get_or, sym, ◌∙◌, subst, arith, below_more}
use Rattle.std.proofs.lemmas.Bool.{cases_lt}
use Rattle.block_disk.specs.Device.{Device, Range, SameOutside}
use Rattle.block_disk.specs.Images.{ImageBut, LeavesOnly}
use Rattle.block_disk.proofs.Images.{and_then, after_sync, begin, besides_none, now_too}
use Rattle.block_disk.proofs.Ranges.{outside_refl, outside_trans, outside_wider, part_same}
use Rattle.disk_sectors.specs.declared.size.SectorSize.{SectorSize}
use Rattle.disk_sectors.specs.Size.{bytes_in, place_of, sector}
use Rattle.disk_sectors.specs.Places.{sectors_from, one_sector, Matches}
use Rattle.disk_sectors.proofs.Sizes.{leaves_then, sector_apart, sector_fits, sector_high, sector_low}
use Rattle.disk_sectors.proofs.TwoAreas.{unmarked_within}

-- the first i sectors of an area hold what the image does, and nothing else was written
pub record Filled (size : SectorSize) (first i : ℕ) (marks : List Bool) (image : List ℕ) (old new : Device) : Type 0 where
  pub all : (j : ℕ) → j < i → sector size (first + j) new.now.bytes ≡ sector size j image
  pub matches : Matches size first marks image new.now.bytes
  pub same : SameOutside (sectors_from size first (length marks) ∷ []) old.now.bytes new.now.bytes
  pub leaves : LeavesOnly old new (ImageBut old (sectors_from size first (length marks) ∷ []))

pub filled_none : (size : SectorSize) (first : ℕ) (marks : List Bool) (image : List ℕ) (old : Device) → Matches size first marks image old.now.bytes → Filled size first 0 marks image old old
filled_none size first marks image old matches = record {
  all = λ j less. absurd (omega arith);
  matches = matches;
  same = outside_refl (sectors_from size first (length marks) ∷ []) old.now.bytes;
  leaves = begin old (ImageBut old (sectors_from size first (length marks) ∷ []));
}

-- what was written since, whatever it answered
pub filled_same : (size : SectorSize) (first i : ℕ) (marks : List Bool) (image : List ℕ) (old mid new : Device) → i < length marks → Filled size first i marks image old mid
    → SameOutside (one_sector size (first + i) ∷ []) mid.now.bytes new.now.bytes → SameOutside (sectors_from size first (length marks) ∷ []) old.now.bytes new.now.bytes
filled_same size first i marks image old mid new less filled same =
    outside_trans (sectors_from size first (length marks) ∷ []) old.now.bytes mid.now.bytes new.now.bytes filled.same
    (outside_wider (one_sector size (first + i)) (sectors_from size first (length marks)) mid.now.bytes new.now.bytes (sector_low size first i) (sector_high size first i (length marks) less) same)

pub filled_leaves : (size : SectorSize) (first i : ℕ) (marks : List Bool) (image : List ℕ) (old mid new : Device) → i < length marks → Filled size first i marks image old mid
    → LeavesOnly mid new (ImageBut mid (one_sector size (first + i) ∷ [])) → LeavesOnly old new (ImageBut old (sectors_from size first (length marks) ∷ []))
filled_leaves size first i marks image old mid new less filled leaves =
    leaves_then old mid new (one_sector size (first + i)) (sectors_from size first (length marks)) (sector_low size first i) (sector_high size first i (length marks) less) filled.leaves leaves

-- one more
pub filled_more : (size : SectorSize) (first i : ℕ) (marks : List Bool) (image : List ℕ) (old mid new : Device) → i < length marks → place_of size (first + length marks) ≤ length old.now.bytes
    → Filled size first i marks image old mid → sector size (first + i) new.now.bytes ≡ sector size i image → Matches size first marks image new.now.bytes
    → SameOutside (one_sector size (first + i) ∷ []) mid.now.bytes new.now.bytes → LeavesOnly mid new (ImageBut mid (one_sector size (first + i) ∷ []))
    → Filled size first (i + 1) marks image old new
filled_more size first i marks image old mid new less fits filled this matches same leaves = record {
  all = below_more (λ (j : ℕ). sector size (first + j) new.now.bytes ≡ sector size j image) i
      (λ j low.
      let long : place_of size (first + length marks) ≤ length mid.now.bytes = omega (arith, filled.same.size, fits) in
      let there : j < length marks = omega arith in
      part_same (place_of size (first + j)) (bytes_in size) (one_sector size (first + i) ∷ []) mid.now.bytes new.now.bytes same (sector_apart size (first + j) (first + i) (inl (omega arith)))
      (sector_fits size first j (length marks) (length mid.now.bytes) there long)
      ∙ filled.all j low)
      this;
  matches = matches;
  same = filled_same size first i marks image old mid new less filled same;
  leaves = filled_leaves size first i marks image old mid new less filled leaves;
}

-- a sector that is marked may hold any bytes
pub matches_torn : (size : SectorSize) (first i : ℕ) (marks : List Bool) (image xs ys : List ℕ) → get_or marks i true ≡ true → place_of size (first + length marks) ≤ length xs
    → SameOutside (one_sector size (first + i) ∷ []) xs ys → Matches size first marks image xs → Matches size first marks image ys
matches_torn size first i marks image xs ys marked fits same matches j clear =
    let there = unmarked_within marks j clear in
    part_same (place_of size (first + j)) (bytes_in size) (one_sector size (first + i) ∷ []) xs ys same (sector_apart size (first + j) (first + i) (apart (cases_lt i j)))
    (sector_fits size first j (length marks) (length xs) there fits)
    ∙ matches j clear
  where
    apart : (i < j) ⊎ (j ≤ i) → (first + j < first + i) ⊎ (first + i < first + j)
    apart (inl less) = inr (omega arith)
    apart (inr le) = elim (cases_lt j i) [
      | inl more ↦ inl (omega arith)
      | inr ge ↦
          let is : i ≡ j = omega arith in
          let clash : get_or marks i true ≡ false = subst (λ (k : ℕ). get_or marks k true ≡ false) (sym is) clear in
          absurd cc
    ]

-- and then a flush that is tried
pub filled_settled : (old mid new : Device) (r : Range) → LeavesOnly old mid (ImageBut old (r ∷ [])) → LeavesOnly mid new (ImageBut mid []) → LeavesOnly old new (ImageBut old (r ∷ []))
filled_settled old mid new r a b =
    let P = ImageBut old (r ∷ []) in
    and_then old mid new P a (after_sync mid new P (now_too old mid P (besides_none old (r ∷ [])) a) b).0

-- where each sector does, those that aren't marked hold what the image does, whichever these are
pub matches_all : (size : SectorSize) (first : ℕ) (marks : List Bool) (image bytes : List ℕ) → ((i : ℕ) → i < length marks → sector size (first + i) bytes ≡ sector size i image)
    → Matches size first marks image bytes
matches_all size first marks image bytes all i clear = all i (unmarked_within marks i clear)
