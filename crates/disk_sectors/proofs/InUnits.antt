-- A run of writes of 16 bytes each into a disk whose writes don't fail, one right behind the other.
use Rattle.std.proofs.Common.{◌≡◌, ℕ, ◌+◌, ◌-◌, ◌*◌, ◌<◌, ◌≤◌, List, length, take, drop, sym, ◌∙◌, ap, subst, arith, length-take, length-drop}
use Rattle.block_disk.specs.Device.{Device, written, written_units, unit_ranges}
use Rattle.block_disk.specs.Images.{ImageBut, LeavesOnly}
use Rattle.block_disk.proofs.Bytes.{length_spliced}
use Rattle.block_disk.proofs.InUnits.{next_rest, unit_is, units_leave}

-- one of them keeps the disk's size
unit_size : (n i at : ℕ) (units : List ℕ) (old new : Device) → i < n → length units ≡ n * 16 → at + length units ≤ length old.now.bytes
    → new ≡ written (at + i * 16) (take 16 (drop (i * 16) units)) old → length new.now.bytes ≡ length old.now.bytes
unit_size n i at units old new less long fits made =
    let unit = take 16 (drop (i * 16) units) in
    let within : at + i * 16 + length unit ≤ length old.now.bytes = omega (arith, length-take 16 (drop (i * 16) units), length-drop (i * 16) units) in
    ap (λ (d : Device). length d.now.bytes) made ∙ length_spliced old.now.bytes unit (at + i * 16) within

-- and is one less that is left
pub unit_more : (n i at : ℕ) (units : List ℕ) (first old new : Device) → i < n → length units ≡ n * 16 → at + length units ≤ length first.now.bytes
    → new ≡ written (at + i * 16) (take (i * 16 + 16 - i * 16) (drop (i * 16) units)) old
    → written_units (n - i) (at + i * 16) (drop (i * 16) units) old ≡ written_units n at units first → length old.now.bytes ≡ length first.now.bytes
    → (written_units (n - (i + 1)) (at + (i + 1) * 16) (drop ((i + 1) * 16) units) new ≡ written_units n at units first) × (length new.now.bytes ≡ length first.now.bytes)
unit_more n i at units first old new less long fits wrote rest same =
    let made : new ≡ written (at + i * 16) (take 16 (drop (i * 16) units)) old = wrote ∙ ap (λ (xs : List ℕ). written (at + i * 16) xs old) (unit_is i units) in
    let within : at + length units ≤ length old.now.bytes = omega (arith, fits, same) in (
      next_rest n i at units old new less made ∙ rest,
      unit_size n i at units old new less long within made ∙ same,
    )

-- once none is left: what a crash leaves
pub units_left : (n i at : ℕ) (units : List ℕ) (first last : Device) → i ≡ n → length units ≡ n * 16 → at + length units ≤ length first.now.bytes
    → written_units (n - i) (at + i * 16) (drop (i * 16) units) last ≡ written_units n at units first → LeavesOnly first last (ImageBut first (unit_ranges n at))
units_left n i at units first last end long fits rest =
    let none : n - i ≡ 0 = omega arith in
    let is : last ≡ written_units n at units first = sym (ap (λ (k : ℕ). written_units k (at + i * 16) (drop (i * 16) units) last) none) ∙ rest in
    subst (λ (d : Device). LeavesOnly first d (ImageBut first (unit_ranges n at))) (sym is) (units_leave n at units first long fits)
