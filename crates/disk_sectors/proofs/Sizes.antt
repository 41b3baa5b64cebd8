-- Where sectors and areas lie.
use Rattle.std.proofs.Common.{◌≡◌, inl, inr, ◌⊎◌, ℕ, ◌+◌, ◌/◌, ◌%◌, ◌<◌, ◌≤◌, Bool, true, false, not, List, [], ◌∷◌, length, get_or, sym, ◌∙◌, ap, subst, arith, nat_eq, take}
use Rattle.std.proofs.lemmas.List.{ext_get_or, take-take}
use Rattle.block_disk.specs.Bytes.{part, spliced}
use Rattle.block_disk.specs.Device.{Device, IsClear, Range, written}
use Rattle.block_disk.specs.Images.{ImageBut, IsApart, LeavesOnly, Always}
use Rattle.block_disk.proofs.Bytes.{length_part, get_or_part, part_spliced, spliced_at}
use Rattle.block_disk.proofs.Ranges.{outside_wider}
use Rattle.block_disk.proofs.Images.{besides_none, besides_then, besides_wider, follows, now_too}
use Rattle.disk_sectors.specs.declared.size.SectorSize.{SectorSize}
use Rattle.disk_sectors.specs.declared.size.SectorSize.TheVariants.{Bytes512, Bytes4096}
use Rattle.disk_sectors.specs.Size.{bytes_in, place_of, sector}
use Rattle.disk_sectors.specs.Places.{first_sector, sectors_from, one_sector, turn_of}

pub some_bytes : (size : SectorSize) → 0 < bytes_in size
some_bytes Bytes512 = omega arith
some_bytes Bytes4096 = omega arith

-- a sector ends where the next one begins, or before a later one
pub ends_before : (size : SectorSize) (i j : ℕ) → i < j → place_of size i + bytes_in size ≤ place_of size j
ends_before Bytes512 i j less = omega arith
ends_before Bytes4096 i j less = omega arith

pub place_add : (size : SectorSize) (i j : ℕ) → place_of size (i + j) ≡ place_of size i + place_of size j
place_add Bytes512 i j = omega arith
place_add Bytes4096 i j = omega arith

pub place_le : (size : SectorSize) (i j : ℕ) → i ≤ j → place_of size i ≤ place_of size j
place_le Bytes512 i j le = omega arith
place_le Bytes4096 i j le = omega arith

-- both areas lie within as many bytes as these
pub area_fits : (size : SectorSize) (count : ℕ) (turn : Bool) (n : ℕ) → place_of size (count + count + 2) ≤ n
    → place_of size (first_sector count turn) + place_of size count ≤ n
area_fits Bytes512 count false n le = omega arith
area_fits Bytes512 count true n le = omega arith
area_fits Bytes4096 count false n le = omega arith
area_fits Bytes4096 count true n le = omega arith

pub area_fits_all : (size : SectorSize) (count : ℕ) (turn : Bool) (n : ℕ) → place_of size (count + count + 2) ≤ n
    → place_of size (first_sector count turn + count) ≤ n
area_fits_all size count turn n le = subst (λ (k : ℕ). k ≤ n) (sym (place_add size (first_sector count turn) count)) (area_fits size count turn n le)

-- and so do the label and the gate
pub gate_fits : (size : SectorSize) (count n : ℕ) → place_of size (count + count + 2) ≤ n → place_of size 2 ≤ n
gate_fits Bytes512 count n le = omega arith
gate_fits Bytes4096 count n le = omega arith

pub label_fits : (size : SectorSize) (count n : ℕ) → place_of size (count + count + 2) ≤ n → place_of size 0 + bytes_in size ≤ n
label_fits Bytes512 count n le = omega arith
label_fits Bytes4096 count n le = omega arith

-- an area's sectors lie behind the gate
pub behind_gate : (size : SectorSize) (count : ℕ) (turn : Bool) → place_of size 1 + bytes_in size ≤ place_of size (first_sector count turn)
behind_gate Bytes512 count false = omega arith
behind_gate Bytes512 count true = omega arith
behind_gate Bytes4096 count false = omega arith
behind_gate Bytes4096 count true = omega arith

pub apart_gate : (size : SectorSize) (count : ℕ) (turn : Bool) → IsApart (place_of size (first_sector count turn)) (place_of size count) (one_sector size 1 ∷ [])
apart_gate size count turn = (inr (behind_gate size count turn), tt)

pub sector_apart_gate : (size : SectorSize) (count : ℕ) (turn : Bool) (i : ℕ) → IsApart (place_of size (first_sector count turn + i)) (bytes_in size) (one_sector size 1 ∷ [])
sector_apart_gate size count turn i =
    let le = place_le size (first_sector count turn) (first_sector count turn + i) (omega arith) in
    let low = behind_gate size count turn in
    (inr (omega (arith, le, low)), tt)

-- the areas lie apart
pub apart_other : (size : SectorSize) (count : ℕ) (turn : Bool)
    → IsApart (place_of size (first_sector count turn)) (place_of size count) (sectors_from size (first_sector count (not turn)) count ∷ [])
apart_other Bytes512 count false = (inl (omega arith), tt)
apart_other Bytes512 count true = (inr (omega arith), tt)
apart_other Bytes4096 count false = (inl (omega arith), tt)
apart_other Bytes4096 count true = (inr (omega arith), tt)

-- so do the sectors of one and the other
pub sector_apart_other : (size : SectorSize) (count : ℕ) (turn : Bool) (i : ℕ) → i < count
    → IsApart (place_of size (first_sector count turn + i)) (bytes_in size) (sectors_from size (first_sector count (not turn)) count ∷ [])
sector_apart_other Bytes512 count false i less = (inl (omega arith), tt)
sector_apart_other Bytes512 count true i less = (inr (omega arith), tt)
sector_apart_other Bytes4096 count false i less = (inl (omega arith), tt)
sector_apart_other Bytes4096 count true i less = (inr (omega arith), tt)

-- the label lies before the gate and the areas
pub label_apart_gate : (size : SectorSize) → IsApart (place_of size 0) (bytes_in size) (one_sector size 1 ∷ [])
label_apart_gate Bytes512 = (inl (omega arith), tt)
label_apart_gate Bytes4096 = (inl (omega arith), tt)

pub label_apart_area : (size : SectorSize) (count : ℕ) (turn : Bool) → IsApart (place_of size 0) (bytes_in size) (sectors_from size (first_sector count turn) count ∷ [])
label_apart_area Bytes512 count false = (inl (omega arith), tt)
label_apart_area Bytes512 count true = (inl (omega arith), tt)
label_apart_area Bytes4096 count false = (inl (omega arith), tt)
label_apart_area Bytes4096 count true = (inl (omega arith), tt)

-- and so do the areas and the gate of the label
pub apart_label : (size : SectorSize) (count : ℕ) (turn : Bool) → IsApart (place_of size (first_sector count turn)) (place_of size count) (one_sector size 0 ∷ [])
apart_label size count turn =
    let low = behind_gate size count turn in
    let before = ends_before size 0 1 (omega arith) in
    (inr (omega (arith, before, low)), tt)

pub sector_apart_label : (size : SectorSize) (count : ℕ) (turn : Bool) (i : ℕ) → IsApart (place_of size (first_sector count turn + i)) (bytes_in size) (one_sector size 0 ∷ [])
sector_apart_label size count turn i =
    let le = place_le size (first_sector count turn) (first_sector count turn + i) (omega arith) in
    let low = behind_gate size count turn in
    let before = ends_before size 0 1 (omega arith) in
    (inr (omega (arith, le, low, before)), tt)

pub gate_clear_label : (size : SectorSize) → IsClear (place_of size 1) (one_sector size 0 ∷ [])
gate_clear_label size = (inr (ends_before size 0 1 (omega arith)), tt)

pub gate_clear_area : (size : SectorSize) (count : ℕ) (turn : Bool) → IsClear (place_of size 1) (sectors_from size (first_sector count turn) count ∷ [])
gate_clear_area size count turn =
    let low = behind_gate size count turn in
    let some = some_bytes size in
    (inl (omega (arith, low, some)), tt)

-- a sector of an area lies within it
pub sector_low : (size : SectorSize) (first i : ℕ) → place_of size first ≤ place_of size (first + i)
sector_low size first i = place_le size first (first + i) (omega arith)

pub sector_high : (size : SectorSize) (first i count : ℕ) → i < count → place_of size (first + i) + bytes_in size ≤ place_of size first + place_of size count
sector_high Bytes512 first i count less = omega arith
sector_high Bytes4096 first i count less = omega arith

pub sector_fits : (size : SectorSize) (first i count n : ℕ) → i < count → place_of size (first + count) ≤ n → place_of size (first + i) + bytes_in size ≤ n
sector_fits Bytes512 first i count n less le = omega arith
sector_fits Bytes4096 first i count n less le = omega arith

-- other sectors lie apart from one
pub sector_apart : (size : SectorSize) (i j : ℕ) → (i < j) ⊎ (j < i) → IsApart (place_of size i) (bytes_in size) (one_sector size j ∷ [])
sector_apart size i j (inl less) = (inl (ends_before size i j less), tt)
sector_apart size i j (inr more) = (inr (ends_before size j i more), tt)

-- the sector in which a byte of an area lies, and its place there
pub find_sector : (size : SectorSize) (first count i : ℕ) → i < place_of size count
    → (q : ℕ) × (r : ℕ) × (q < count) × (r < bytes_in size) × (place_of size (first + q) + r ≡ place_of size first + i) × (place_of size q + r ≡ i)
find_sector Bytes512 first count i less = (i / 512, i % 512, omega arith, omega arith, omega arith, omega arith)
find_sector Bytes4096 first count i less = (i / 4096, i % 4096, omega arith, omega arith, omega arith, omega arith)

-- an area whose sectors hold what those of an image do holds the image
pub whole_area : (size : SectorSize) (first count : ℕ) (image bytes : List ℕ) → length image ≡ place_of size count → place_of size (first + count) ≤ length bytes
    → ((i : ℕ) → i < count → sector size (first + i) bytes ≡ sector size i image) → part (place_of size first) (place_of size count) bytes ≡ image
whole_area size first count image bytes long fits same =
    let within : place_of size first + place_of size count ≤ length bytes = subst (λ (k : ℕ). k ≤ length bytes) (place_add size first count) fits in
    let is = length_part (place_of size first) (place_of size count) bytes within in
    ext_get_or 0 (part (place_of size first) (place_of size count) bytes) image (is ∙ sym long)
    (λ i less.
    let low : i < place_of size count = omega (arith, is) in
    let f = find_sector size first count i low in
    get_or_part (place_of size first) (place_of size count) bytes i low
    ∙ ap (λ (k : ℕ). get_or bytes k 0) (sym f.4)
    ∙ sym (get_or_part (place_of size (first + f.0)) (bytes_in size) bytes f.1 f.3)
    ∙ ap (λ (xs : List ℕ). get_or xs f.1 0) (same f.0 f.2)
    ∙ get_or_part (place_of size f.0) (bytes_in size) image f.1 f.3
    ∙ ap (λ (k : ℕ). get_or image k 0) f.5)

-- one call more, which leaves what it leaves within what the others did
pub leaves_then : (old mid new : Device) (r s : Range) → s.start ≤ r.start → r.start + r.len ≤ s.start + s.len
    → LeavesOnly old mid (ImageBut old (s ∷ [])) → LeavesOnly mid new (ImageBut mid (r ∷ [])) → LeavesOnly old new (ImageBut old (s ∷ []))
leaves_then old mid new r s low high a b =
    let all : Always mid (ImageBut old (s ∷ [])) = now_too old mid (ImageBut old (s ∷ [])) (besides_none old (s ∷ [])) a in
    follows old mid new (ImageBut old (s ∷ [])) (r ∷ []) a b
    (λ image from. besides_then old mid (s ∷ []) image all (besides_wider mid (r ∷ []) (s ∷ []) image (λ x y same. outside_wider r s x y low high same) from))

-- bytes lie in the sectors from the one in which they begin to the last in which some of them lie
pub marked_apart : (size : SectorSize) (at len i from to : ℕ) → from ≡ at / bytes_in size → at + len ≤ place_of size to → (i < from) ⊎ (to ≤ i)
    → IsApart (place_of size i) (bytes_in size) (record { start = at; len = len } ∷ [])
marked_apart Bytes512 at len i from to is within (inl less) = (inl (omega arith), tt)
marked_apart Bytes4096 at len i from to is within (inl less) = (inl (omega arith), tt)
marked_apart Bytes512 at len i from to is within (inr more) = (inr (omega arith), tt)
marked_apart Bytes4096 at len i from to is within (inr more) = (inr (omega arith), tt)

-- so many sectors are no more than there are
pub marked_within : (size : SectorSize) (n to count : ℕ) → n ≤ place_of size count → place_of size to < n + bytes_in size → to ≤ count
marked_within Bytes512 n to count le less = omega arith
marked_within Bytes4096 n to count le less = omega arith

-- a sector has room for a label, which is what the device begins with
pub sixteen : (size : SectorSize) → 16 ≤ bytes_in size
sixteen Bytes512 = omega arith
sixteen Bytes4096 = omega arith

pub label_begins : (size : SectorSize) (bytes : List ℕ) → take 16 (sector size 0 bytes) ≡ take 16 bytes
label_begins Bytes512 bytes = take-take 16 512 bytes (omega arith)
label_begins Bytes4096 bytes = take-take 16 4096 bytes (omega arith)

-- what is written to a sector stands in it
pub sector_written : (size : SectorSize) (number : ℕ) (bytes : List ℕ) (old new : Device) → length bytes ≡ bytes_in size → place_of size number + bytes_in size ≤ length old.now.bytes
    → new ≡ written (place_of size number) bytes old → sector size number new.now.bytes ≡ bytes
sector_written size number bytes old new long fits is =
    let within : place_of size number + length bytes ≤ length old.now.bytes = subst (λ (k : ℕ). place_of size number + k ≤ length old.now.bytes) (sym long) fits in
    ap (λ (d : Device). sector size number d.now.bytes) is
    ∙ ap (λ (k : ℕ). part (place_of size number) k (spliced old.now.bytes (place_of size number) bytes)) (sym long)
    ∙ part_spliced old.now.bytes bytes (place_of size number) within

-- and what is written to the gate says whose turn it is
pub gate_written : (size : SectorSize) (turn : Bool) (bytes : List ℕ) (old new : Device) → length bytes ≡ bytes_in size → place_of size 2 ≤ length old.now.bytes
    → nat_eq (get_or bytes 0 0) 1 ≡ turn → new ≡ written (place_of size 1) bytes old → turn_of size new.now.bytes ≡ turn
gate_written size turn bytes old new long fits says is =
    let some : 0 < length bytes = subst (λ (k : ℕ). 0 < k) (sym long) (some_bytes size) in
    let ends = ends_before size 1 2 (omega arith) in
    let within : place_of size 1 + length bytes ≤ length old.now.bytes = subst (λ (k : ℕ). place_of size 1 + k ≤ length old.now.bytes) (sym long) (omega (arith, ends, fits)) in
    let zero : place_of size 1 + 0 ≡ place_of size 1 = omega arith in
    let here : get_or (spliced old.now.bytes (place_of size 1) bytes) (place_of size 1) 0 ≡ get_or bytes 0 0 =
    subst (λ (k : ℕ). get_or (spliced old.now.bytes (place_of size 1) bytes) k 0 ≡ get_or bytes 0 0) zero (spliced_at old.now.bytes bytes (place_of size 1) within 0 some) in
    ap (λ (d : Device). turn_of size d.now.bytes) is ∙ ap (λ (k : ℕ). nat_eq k 1) here ∙ says

-- there are no more sectors than bytes
pub few_count : (size : SectorSize) (count n : ℕ) → place_of size (count + count + 2) ≤ n → count + 2 ≤ n
few_count Bytes512 count n le = omega arith
few_count Bytes4096 count n le = omega arith

pub few_sectors : (size : SectorSize) (count n : ℕ) → place_of size count ≤ n → count ≤ n
few_sectors Bytes512 count n le = omega arith
few_sectors Bytes4096 count n le = omega arith

-- how many sectors so many bytes take
pub ceil_512 : (size : SectorSize) (len : ℕ) → size ≡ Bytes512 → (len ≤ place_of size ((len + 511) / 512)) × (place_of size ((len + 511) / 512) < len + bytes_in size)
ceil_512 size len is =
    subst (λ (s : SectorSize). (len ≤ place_of s ((len + 511) / 512)) × (place_of s ((len + 511) / 512) < len + bytes_in s)) (sym is) (omega arith, omega arith)

pub ceil_4096 : (size : SectorSize) (len : ℕ) → size ≡ Bytes4096 → (len ≤ place_of size ((len + 4095) / 4096)) × (place_of size ((len + 4095) / 4096) < len + bytes_in size)
ceil_4096 size len is =
    subst (λ (s : SectorSize). (len ≤ place_of s ((len + 4095) / 4096)) × (place_of s ((len + 4095) / 4096) < len + bytes_in s)) (sym is) (omega arith, omega arith)

-- the label, the gate and each area lie among the sectors that a disk in two places takes
pub label_among : (size : SectorSize) (count : ℕ) → place_of size 0 + bytes_in size ≤ place_of size 0 + place_of size (count + count + 2)
label_among Bytes512 count = omega arith
label_among Bytes4096 count = omega arith

pub gate_among : (size : SectorSize) (count : ℕ) → place_of size 1 + bytes_in size ≤ place_of size 0 + place_of size (count + count + 2)
gate_among Bytes512 count = omega arith
gate_among Bytes4096 count = omega arith

pub first_among : (size : SectorSize) (count n : ℕ) → n ≡ count → place_of size 2 + place_of size n ≤ place_of size 0 + place_of size (count + count + 2)
first_among Bytes512 count n is = omega (arith, is)
first_among Bytes4096 count n is = omega (arith, is)

pub area_among : (size : SectorSize) (count : ℕ) (turn : Bool) → place_of size (first_sector count turn) + place_of size count ≤ place_of size 0 + place_of size (count + count + 2)
area_among Bytes512 count false = omega arith
area_among Bytes512 count true = omega arith
area_among Bytes4096 count false = omega arith
area_among Bytes4096 count true = omega arith
