-- What is known once a device was read, or was made to stand for zeros.
use Rattle.std.proofs.Common.{◌≡◌, ◌⊎◌, inl, inr, ℕ, ◌+◌, ◌-◌, ◌*◌, ◌/◌, ◌<◌, ◌≤◌, Bool, true, false, not, List, [], ◌∷◌, length, get_or, replicate, refl, sym, ◌∙◌, ap, subst, arith, below_more, nat_eq}
use Rattle.std.proofs.lemmas.Bool.{ne_eqb}
use Rattle.std.proofs.lemmas.List.{get_or-replicate, length-replicate}
use Rattle.block_disk.specs.Bytes.{part, spliced}
use Rattle.block_disk.specs.Device.{Moment, Device, SameMoments, SameOutside}
use Rattle.block_disk.proofs.Bytes.{get_or_part, length_part, length_spliced, part_part, part_spliced}
use Rattle.block_disk.proofs.Images.{always_only}
use Rattle.block_disk.proofs.Ranges.{outside_refl, part_same, spliced_same}
use Rattle.disk_sectors.specs.declared.size.SectorSize.{SectorSize}
use Rattle.disk_sectors.specs.declared.size.SectorSize.TheVariants.{Bytes512, Bytes4096}
use Rattle.disk_sectors.specs.Size.{bytes_in, place_of, sector}
use Rattle.disk_sectors.specs.Places.{first_sector, one_sector, area, turn_of, Holds, Matches, IsKept}
use Rattle.disk_sectors.proofs.Sizes.{area_fits, area_fits_all, apart_gate, ends_before, place_add, sector_apart_gate, sector_fits, some_bytes}
use Rattle.disk_sectors.proofs.TwoAreas.{area_same, kept_step, matches_same, unmarked_within}

-- a device of so many sectors has room for two areas of so many
pub room_is : (size : SectorSize) (most count n : ℕ) → most * bytes_in size ≤ n → 2 ≤ most → count ≤ (most - 2) / 2 → place_of size (count + count + 2) ≤ n
room_is Bytes512 most count n le some within = omega arith
room_is Bytes4096 most count n le some within = omega arith

pub room_wants : (size : SectorSize) (most count n : ℕ) → n < most * bytes_in size + bytes_in size → (most < 2) ⊎ ((most - 2) / 2 < count) → n < place_of size (count + count + 2)
room_wants Bytes512 most count n less (inl few) = omega arith
room_wants Bytes512 most count n less (inr past) = omega arith
room_wants Bytes4096 most count n less (inl few) = omega arith
room_wants Bytes4096 most count n less (inr past) = omega arith

-- what the gate reads as
pub gate_reads : (size : SectorSize) (bytes out : List ℕ) → out ≡ sector size 1 bytes → nat_eq (get_or out 0 0) 1 ≡ turn_of size bytes
gate_reads size bytes out is =
    let zero : place_of size 1 + 0 ≡ place_of size 1 = omega arith in
    ap (λ (xs : List ℕ). nat_eq (get_or xs 0 0) 1) is
    ∙ ap (λ (k : ℕ). nat_eq k 1) (get_or_part (place_of size 1) (bytes_in size) bytes 0 (some_bytes size) ∙ ap (λ (k : ℕ). get_or bytes k 0) zero)

-- a gate that can't be read is the first area's turn
pub gate_lost : (size : SectorSize) (bytes : List ℕ) → 256 ≤ get_or (sector size 1 bytes) 0 0 → false ≡ turn_of size bytes
gate_lost size bytes lost =
    let not_one : get_or (sector size 1 bytes) 0 0 ≡ 1 → ⊥ = λ is. absurd (omega (arith, lost, is)) in
    sym (ne_eqb (get_or (sector size 1 bytes) 0 0) 1 not_one) ∙ gate_reads size bytes (sector size 1 bytes) refl

-- one sector more was read
pub copied_more : (size : SectorSize) (first i count : ℕ) (image new bytes : List ℕ) → i < count → length image ≡ place_of size count → place_of size (first + count) ≤ length bytes
    → new ≡ spliced image (place_of size i) (sector size (first + i) bytes)
    → ((j : ℕ) → j < i → sector size (first + j) bytes ≡ sector size j image) → (j : ℕ) → j < i + 1 → sector size (first + j) bytes ≡ sector size j new
copied_more size first i count image new bytes less long fits is all =
    let content = sector size (first + i) bytes in
    let wide : length content ≡ bytes_in size = length_part (place_of size (first + i)) (bytes_in size) bytes (sector_fits size first i count (length bytes) less fits) in
    let ends = ends_before size i count less in
    let within : place_of size i + length content ≤ length image = omega (arith, ends, wide, long) in
    below_more (λ (j : ℕ). sector size (first + j) bytes ≡ sector size j new) i
    (λ j low.
    let before = ends_before size j i low in
    let there : place_of size j + bytes_in size ≤ length image = omega (arith, before, ends, long) in
    all j low
    ∙ sym (part_same (place_of size j) (bytes_in size) (record { start = place_of size i; len = length content } ∷ []) image (spliced image (place_of size i) content)
    (spliced_same image content (place_of size i) within) (inl before, tt) there)
    ∙ ap (λ (xs : List ℕ). sector size j xs) (sym is))
    (sym (ap (λ (xs : List ℕ). sector size i xs) is ∙ ap (λ (k : ℕ). part (place_of size i) k (spliced image (place_of size i) content)) (sym wide)
    ∙ part_spliced image content (place_of size i) within))

pub copied_long : (size : SectorSize) (first i count : ℕ) (image new bytes : List ℕ) → i < count → length image ≡ place_of size count → place_of size (first + count) ≤ length bytes
    → new ≡ spliced image (place_of size i) (sector size (first + i) bytes) → length new ≡ place_of size count
copied_long size first i count image new bytes less long fits is =
    let content = sector size (first + i) bytes in
    let wide : length content ≡ bytes_in size = length_part (place_of size (first + i)) (bytes_in size) bytes (sector_fits size first i count (length bytes) less fits) in
    let ends = ends_before size i count less in
    let within : place_of size i + length content ≤ length image = omega (arith, ends, wide, long) in
    ap (λ (xs : List ℕ). length xs) is ∙ length_spliced image content (place_of size i) within ∙ long

-- the sectors of an area that is the image
area_matches : (size : SectorSize) (count : ℕ) (turn : Bool) (bytes image : List ℕ) → image ≡ area size count turn bytes → place_of size (count + count + 2) ≤ length bytes
    → (i : ℕ) → i < count → sector size (first_sector count turn + i) bytes ≡ sector size i image
area_matches size count turn bytes image is fits i less =
    let first = first_sector count turn in
    sym (ap (λ (xs : List ℕ). sector size i xs) is
    ∙ part_part (place_of size i) (bytes_in size) (place_of size first) (place_of size count) bytes (ends_before size i count less)
    ∙ ap (λ (k : ℕ). part k (bytes_in size) bytes) (sym (place_add size first i)))

-- marks that say nothing
pub all_marked : (size : SectorSize) (first count : ℕ) (marks : List Bool) (image bytes : List ℕ) → marks ≡ replicate count true → Matches size first marks image bytes
all_marked size first count marks image bytes is i clear =
    let there : i < length (replicate count true) = subst (λ (xs : List Bool). i < length xs) is (unmarked_within marks i clear) in
    let less : i < count = subst (λ (n : ℕ). i < n) (length-replicate count true) there in
    let marked : get_or marks i true ≡ true = ap (λ (xs : List Bool). get_or xs i true) is ∙ get_or-replicate count i true true less in
    absurd cc

-- what is read of a device with nothing in flight is kept
pub kept_found : (size : SectorSize) (count : ℕ) (turn : Bool) (fresh stale : List Bool) (image : List ℕ) (d : Device) → d.now.pending ≡ [] → place_of size (count + count + 2) ≤ length d.now.bytes
    → turn_of size d.now.bytes ≡ turn → image ≡ area size count turn d.now.bytes → length fresh ≡ count → length stale ≡ count
    → Matches size (first_sector count turn) fresh image d.now.bytes → Matches size (first_sector count (not turn)) stale image d.now.bytes
    → IsKept size true turn fresh stale image (record { bytes = image; pending = [] }) d
kept_found size count turn fresh stale image d settled fits says is one two mine other =
    let m : Moment = record { bytes = image; pending = [] } in
    kept_step size count true turn fresh stale image (sector size 0 d.now.bytes) m d one two
    (record {
      long = ap (λ (xs : List ℕ). length xs) is ∙ length_part (place_of size (first_sector count turn)) (place_of size count) d.now.bytes (area_fits size count turn (length d.now.bytes) fits);
      fits = fits;
      mine = mine;
      other = other;
    })
    refl
    (always_only d (Holds size count true turn (sector size 0 d.now.bytes) m) settled (record {
      fits = fits;
      labelled = refl;
      gate = λ yes. says;
      mine = subst (λ (xs : List ℕ). SameOutside [] image xs) is (outside_refl [] image);
      other = λ none. absurd cc;
    }))

pub kept_opened : (size : SectorSize) (count : ℕ) (turn : Bool) (fresh stale : List Bool) (image : List ℕ) (d : Device) → d.now.pending ≡ [] → place_of size (count + count + 2) ≤ length d.now.bytes
    → turn ≡ turn_of size d.now.bytes → image ≡ area size count turn d.now.bytes → fresh ≡ replicate count false → stale ≡ replicate count true
    → IsKept size true turn fresh stale image (record { bytes = image; pending = [] }) d
kept_opened size count turn fresh stale image d settled fits says is one two =
    let many : length fresh ≡ count = ap (λ (xs : List Bool). length xs) one ∙ length-replicate count false in
    kept_found size count turn fresh stale image d settled fits (sym says) is many (ap (λ (xs : List Bool). length xs) two ∙ length-replicate count true)
    (λ i clear. area_matches size count turn d.now.bytes image is fits i (subst (λ (n : ℕ). i < n) many (unmarked_within fresh i clear)))
    (all_marked size (first_sector count (not turn)) count stale image d.now.bytes two)

-- the first area was filled, and the gate turned to it
pub kept_made : (size : SectorSize) (count : ℕ) (fresh stale : List Bool) (image : List ℕ) (mid d : Device) → d.now.pending ≡ [] → place_of size (count + count + 2) ≤ length mid.now.bytes
    → SameOutside (one_sector size 1 ∷ []) mid.now.bytes d.now.bytes → turn_of size d.now.bytes ≡ false → area size count false mid.now.bytes ≡ image → length fresh ≡ count
    → stale ≡ replicate count true → Matches size 2 fresh image mid.now.bytes → IsKept size true false fresh stale image (record { bytes = image; pending = [] }) d
kept_made size count fresh stale image mid d settled fits same says whole one two matches =
    let fits' : place_of size (count + count + 2) ≤ length d.now.bytes = omega (arith, fits, same.size) in
    kept_found size count false fresh stale image d settled fits' says
    (sym (area_same size count false (one_sector size 1 ∷ []) mid.now.bytes d.now.bytes same fits (apart_gate size count false) ∙ whole)) one
    (ap (λ (xs : List Bool). length xs) two ∙ length-replicate count true)
    (matches_same size 2 fresh image mid.now.bytes d.now.bytes (one_sector size 1) same
    (subst (λ (n : ℕ). place_of size (2 + n) ≤ length mid.now.bytes) (sym one) (area_fits_all size count false (length mid.now.bytes) fits))
    (λ i less. sector_apart_gate size count false i) matches)
    (all_marked size (first_sector count true) count stale image d.now.bytes two)

-- A device read in steps: what holds of its bytes and of what is in flight at one moment holds at each.

pub same_fits : (old mid : Device) (n : ℕ) → mid.now.bytes ≡ old.now.bytes → n ≤ length old.now.bytes → n ≤ length mid.now.bytes
same_fits old mid n same le = subst (λ (xs : List ℕ). n ≤ length xs) (sym same) le

pub same_now : (old new : Device) → SameMoments old new → new.now.bytes ≡ old.now.bytes
same_now old new same = ap (λ (m : Moment). m.bytes) same.now

pub same_pending : (old new : Device) → SameMoments old new → old.now.pending ≡ [] → new.now.pending ≡ []
same_pending old new same is = ap (λ (m : Moment). m.pending) same.now ∙ is
