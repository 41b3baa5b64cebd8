-- What stands in two areas and in the gate after each step.
use Rattle.std.proofs.Common.{◌≡◌, inl, inr, ℕ, ◌+◌, ◌<◌, ◌≤◌, Bool, true, false, not, List, [], ◌∷◌, length, get_or, refl, sym, ◌∙◌, ap, subst, arith, nat_eq}
use Rattle.std.proofs.lemmas.Bool.{cases_lt}
use Rattle.std.proofs.lemmas.List.{get_or_past}
use Rattle.block_disk.specs.Bytes.{part, spliced}
use Rattle.block_disk.specs.Device.{Range, Moment, Device, Image, SameOutside, range_of}
use Rattle.block_disk.specs.Images.{Always, ImageBut, IsApart, LeavesOnly, Survives}
use Rattle.block_disk.proofs.Bytes.{length_spliced}
use Rattle.block_disk.proofs.Ranges.{outside_refl, part_same, spliced_same, torn_forth}
use Rattle.block_disk.proofs.Images.{always_now, always_only, always_weaker, survives, weaker}
use Rattle.disk_sectors.specs.declared.size.SectorSize.{SectorSize}
use Rattle.disk_sectors.specs.Size.{bytes_in, place_of, sector}
use Rattle.disk_sectors.specs.Places.{first_sector, sectors_from, one_sector, area, turn_of, Shows, Holds, Matches, Reads, IsKept}
use Rattle.disk_sectors.proofs.Sizes.{area_fits, label_fits, apart_gate, apart_other, label_apart_gate, label_apart_area, gate_clear_area, sector_fits, sector_apart_gate, sector_apart_other, area_fits_all, ends_before}

-- the other of two is the one again, twice
pub not_not : (b : Bool) → not (not b) ≡ b
not_not false = refl
not_not true = refl

either : (size : SectorSize) (count : ℕ) (m : Moment) (image : List ℕ) (turn t : Bool) → Image m (area size count turn image) → Image m (area size count (not turn) image)
    → Image m (area size count t image)
either size count m image true true mine other = mine
either size count m image true false mine other = other
either size count m image false true mine other = other
either size count m image false false mine other = mine

-- an image of the device stands for one of the disk
pub shows : (size : SectorSize) (count : ℕ) (is_firm turn : Bool) (label : List ℕ) (m : Moment) (image : List ℕ) → Holds size count is_firm turn label m image → Shows size count label m image
shows size count true turn label m image h = record {
  labelled = h.labelled;
  possible = subst (λ (t : Bool). Image m (area size count t image)) (sym (h.gate refl)) h.mine;
}
shows size count false turn label m image h = record {
  labelled = h.labelled;
  possible = either size count m image turn (turn_of size image) h.mine (h.other refl);
}

pub area_same : (size : SectorSize) (count : ℕ) (turn : Bool) (rs : List Range) (xs ys : List ℕ) → SameOutside rs xs ys → place_of size (count + count + 2) ≤ length xs
    → IsApart (place_of size (first_sector count turn)) (place_of size count) rs → area size count turn ys ≡ area size count turn xs
area_same size count turn rs xs ys same fits apart =
    part_same (place_of size (first_sector count turn)) (place_of size count) rs xs ys same apart (area_fits size count turn (length xs) fits)

-- where it may say either, the gate may hold any bytes
pub gate_survives : (size : SectorSize) (count : ℕ) (turn : Bool) (label : List ℕ) (m : Moment) → Survives (one_sector size 1 ∷ []) (Holds size count false turn label m)
gate_survives size count turn label m old new h same = record {
  fits = omega (arith, h.fits, same.size);
  labelled = part_same (place_of size 0) (bytes_in size) (one_sector size 1 ∷ []) old new same (label_apart_gate size) (label_fits size count (length old) h.fits) ∙ h.labelled;
  gate = λ is. absurd cc;
  mine = subst (λ (xs : List ℕ). Image m xs) (sym (area_same size count turn (one_sector size 1 ∷ []) old new same h.fits (apart_gate size count turn))) h.mine;
  other = λ is. subst (λ (xs : List ℕ). Image m xs) (sym (area_same size count (not turn) (one_sector size 1 ∷ []) old new same h.fits (apart_gate size count (not turn)))) (h.other refl);
}

-- where it is firm, the other area may
pub area_survives : (size : SectorSize) (count : ℕ) (turn : Bool) (label : List ℕ) (m : Moment)
    → Survives (sectors_from size (first_sector count (not turn)) count ∷ []) (Holds size count true turn label m)
area_survives size count turn label m old new h same =
    let rs = sectors_from size (first_sector count (not turn)) count ∷ [] in
    record {
      fits = omega (arith, h.fits, same.size);
      labelled = part_same (place_of size 0) (bytes_in size) rs old new same (label_apart_area size count (not turn)) (label_fits size count (length old) h.fits) ∙ h.labelled;
      gate = λ is. ap (λ (b : ℕ). nat_eq b 1) (same.same (place_of size 1) (gate_clear_area size count (not turn))) ∙ h.gate is;
      mine = subst (λ (xs : List ℕ). Image m xs) (sym (area_same size count turn rs old new same h.fits (apart_other size count turn))) h.mine;
      other = λ is. absurd cc;
    }

-- the gate is durable, and says whose turn it is
pub made_firm : (size : SectorSize) (count : ℕ) (turn : Bool) (label : List ℕ) (m : Moment) (d : Device) → d.now.pending ≡ [] → turn_of size d.now.bytes ≡ turn
    → Always d (Holds size count false turn label m) → Always d (Holds size count true turn label m)
made_firm size count turn label m d is says always =
    let h = always_now d (Holds size count false turn label m) always in
    always_only d (Holds size count true turn label m) is (record { fits = h.fits; labelled = h.labelled; gate = λ yes. says; mine = h.mine; other = λ none. absurd cc })

-- the other area is durable, and holds what the disk reads: it may be its turn
pub made_ready : (size : SectorSize) (count : ℕ) (turn : Bool) (label : List ℕ) (m : Moment) (d : Device) → d.now.pending ≡ [] → area size count (not turn) d.now.bytes ≡ m.bytes
    → Always d (Holds size count true turn label m) → Always d (Holds size count false (not turn) label m)
made_ready size count turn label m d is whole always =
    let h = always_now d (Holds size count true turn label m) always in
    always_only d (Holds size count false (not turn) label m) is (record {
      fits = h.fits;
      labelled = h.labelled;
      gate = λ none. absurd cc;
      mine = subst (λ (xs : List ℕ). Image m xs) (sym whole) (outside_refl m.pending m.bytes);
      other = λ yes. subst (λ (t : Bool). Image m (area size count t d.now.bytes)) (sym (not_not turn)) h.mine;
    })

-- it is its turn, durably: the disk is synced
pub made_durable : (size : SectorSize) (count : ℕ) (turn : Bool) (label : List ℕ) (m : Moment) (d : Device) → d.now.pending ≡ [] → area size count turn d.now.bytes ≡ m.bytes
    → Always d (Holds size count true turn label m) → Always d (Holds size count true turn label (record { bytes = m.bytes; pending = [] }))
made_durable size count turn label m d is whole always =
    let h = always_now d (Holds size count true turn label m) always in
    always_only d (Holds size count true turn label (record { bytes = m.bytes; pending = [] })) is (record {
      fits = h.fits;
      labelled = h.labelled;
      gate = h.gate;
      mine = subst (λ (xs : List ℕ). SameOutside [] m.bytes xs) (sym whole) (outside_refl [] m.bytes);
      other = λ none. absurd cc;
    })

-- Marks.

-- a sector that isn't marked is one of those that there are
pub unmarked_within : (marks : List Bool) (i : ℕ) → get_or marks i true ≡ false → i < length marks
unmarked_within marks i is = elim (cases_lt i (length marks)) [
  | inl less ↦ less
  | inr past ↦ let none : get_or marks i true ≡ true = get_or_past marks i true past in absurd cc
]

-- sectors that lie apart from what was written hold what they held
pub matches_same : (size : SectorSize) (first : ℕ) (marks : List Bool) (image xs ys : List ℕ) (r : Range) → SameOutside (r ∷ []) xs ys → place_of size (first + length marks) ≤ length xs
    → ((i : ℕ) → i < length marks → IsApart (place_of size (first + i)) (bytes_in size) (r ∷ [])) → Matches size first marks image xs → Matches size first marks image ys
matches_same size first marks image xs ys r same fits apart matches i clear =
    let less = unmarked_within marks i clear in
    part_same (place_of size (first + i)) (bytes_in size) (r ∷ []) xs ys same (apart i less) (sector_fits size first i (length marks) (length xs) less fits) ∙ matches i clear

-- the gate is none of the areas' sectors
pub reads_gate : (size : SectorSize) (count : ℕ) (turn : Bool) (fresh stale : List Bool) (image xs ys : List ℕ) → length fresh ≡ count → length stale ≡ count
    → SameOutside (one_sector size 1 ∷ []) xs ys → Reads size count turn fresh stale image xs → Reads size count turn fresh stale image ys
reads_gate size count turn fresh stale image xs ys one two same r = record {
  long = r.long;
  fits = omega (arith, r.fits, same.size);
  mine = matches_same size (first_sector count turn) fresh image xs ys (one_sector size 1) same
      (subst (λ (n : ℕ). place_of size (first_sector count turn + n) ≤ length xs) (sym one) (area_fits_all size count turn (length xs) r.fits))
      (λ i less. sector_apart_gate size count turn i) r.mine;
  other = matches_same size (first_sector count (not turn)) stale image xs ys (one_sector size 1) same
      (subst (λ (n : ℕ). place_of size (first_sector count (not turn) + n) ≤ length xs) (sym two) (area_fits_all size count (not turn) (length xs) r.fits))
      (λ i less. sector_apart_gate size count (not turn) i) r.other;
}

-- the sectors of one area are none of the other's
pub reads_area : (size : SectorSize) (count : ℕ) (turn : Bool) (fresh stale after : List Bool) (image xs ys : List ℕ) → length fresh ≡ count
    → SameOutside (sectors_from size (first_sector count (not turn)) count ∷ []) xs ys → Matches size (first_sector count (not turn)) after image ys
    → Reads size count turn fresh stale image xs → Reads size count turn fresh after image ys
reads_area size count turn fresh stale after image xs ys one same matches r = record {
  long = r.long;
  fits = omega (arith, r.fits, same.size);
  mine = matches_same size (first_sector count turn) fresh image xs ys (sectors_from size (first_sector count (not turn)) count) same
      (subst (λ (n : ℕ). place_of size (first_sector count turn + n) ≤ length xs) (sym one) (area_fits_all size count turn (length xs) r.fits))
      (λ i less. sector_apart_other size count turn i (subst (λ (n : ℕ). i < n) one less)) r.mine;
  other = matches;
}

-- the other's turn
pub reads_turned : (size : SectorSize) (count : ℕ) (turn : Bool) (fresh stale : List Bool) (image xs : List ℕ) → Reads size count turn fresh stale image xs
    → Reads size count (not turn) stale fresh image xs
reads_turned size count turn fresh stale image xs r = record {
  long = r.long;
  fits = r.fits;
  mine = r.other;
  other = subst (λ (t : Bool). Matches size (first_sector count t) fresh image xs) (sym (not_not turn)) r.mine;
}

-- A write into the disk.

-- what might be left before it may be left after it
image_written : (m : Moment) (at : ℕ) (content image : List ℕ) → at + length content ≤ length m.bytes → Image m image
    → Image (record { bytes = spliced m.bytes at content; pending = range_of at content ∷ m.pending }) image
image_written m at content image fits left =
    torn_forth (range_of at content) m.pending m.bytes (spliced m.bytes at content) image image (spliced_same m.bytes content at fits) left
    (outside_refl (range_of at content ∷ []) image)

pub holds_written : (size : SectorSize) (count : ℕ) (is_firm turn : Bool) (label : List ℕ) (m : Moment) (at : ℕ) (content image : List ℕ) → at + length content ≤ length m.bytes
    → Holds size count is_firm turn label m image → Holds size count is_firm turn label (record { bytes = spliced m.bytes at content; pending = range_of at content ∷ m.pending }) image
holds_written size count is_firm turn label m at content image fits h = record {
  fits = h.fits;
  labelled = h.labelled;
  gate = h.gate;
  mine = image_written m at content (area size count turn image) fits h.mine;
  other = λ is. image_written m at content (area size count (not turn) image) fits (h.other is);
}

-- the sectors that aren't marked for it hold what the image does still
pub matches_written : (size : SectorSize) (first count : ℕ) (old new : List Bool) (image bytes : List ℕ) (at : ℕ) (content : List ℕ) → length image ≡ place_of size count → length old ≡ count
    → at + length content ≤ length image
    → ((i : ℕ) → get_or new i true ≡ false → (get_or old i true ≡ false) × IsApart (place_of size i) (bytes_in size) (range_of at content ∷ []))
    → Matches size first old image bytes → Matches size first new (spliced image at content) bytes
matches_written size first count old new image bytes at content long is fits marked matches i clear =
    let was = marked i clear in
    let less : i < count = subst (λ (n : ℕ). i < n) is (unmarked_within old i was.0) in
    let within : place_of size i + bytes_in size ≤ length image = subst (λ (n : ℕ). place_of size i + bytes_in size ≤ n) (sym long) (ends_before size i count less) in
    matches i was.0 ∙ sym (part_same (place_of size i) (bytes_in size) (range_of at content ∷ []) image (spliced image at content) (spliced_same image content at fits) was.1 within)

-- What steps leave at each moment.

-- the gate is written, which may say either
pub gate_leaves : (size : SectorSize) (count : ℕ) (turn : Bool) (label : List ℕ) (m : Moment) (old new : Device) → LeavesOnly old new (ImageBut old (one_sector size 1 ∷ []))
    → Always old (Holds size count false turn label m) → LeavesOnly old new (Shows size count label m) × Always new (Holds size count false turn label m)
gate_leaves size count turn label m old new leaves always =
    let P = Holds size count false turn label m in
    let both = survives old new (one_sector size 1 ∷ []) P always (gate_survives size count turn label m) leaves in
    (weaker old new P (Shows size count label m) (λ image h. shows size count false turn label m image h) both.0, both.1)

-- the other area is
pub area_leaves : (size : SectorSize) (count : ℕ) (turn : Bool) (label : List ℕ) (m : Moment) (old new : Device)
    → LeavesOnly old new (ImageBut old (sectors_from size (first_sector count (not turn)) count ∷ []))
    → Always old (Holds size count true turn label m) → LeavesOnly old new (Shows size count label m) × Always new (Holds size count true turn label m)
area_leaves size count turn label m old new leaves always =
    let P = Holds size count true turn label m in
    let both = survives old new (sectors_from size (first_sector count (not turn)) count ∷ []) P always (area_survives size count turn label m) leaves in
    (weaker old new P (Shows size count label m) (λ image h. shows size count true turn label m image h) both.0, both.1)

-- The whole.

pub always_shows : (size : SectorSize) (is_firm turn : Bool) (fresh stale : List Bool) (image : List ℕ) (m : Moment) (d : Device) → IsKept size is_firm turn fresh stale image m d
    → Always d (Shows size (length fresh) (sector size 0 d.now.bytes) m)
always_shows size is_firm turn fresh stale image m d kept =
    let P = Holds size (length fresh) is_firm turn kept.label m in
    let now = always_now d P kept.crash in
    let weak : Always d (Shows size (length fresh) kept.label m) =
    always_weaker d P (Shows size (length fresh) kept.label m) (λ x h. shows size (length fresh) is_firm turn kept.label m x h) kept.crash in
    subst (λ (l : List ℕ). Always d (Shows size (length fresh) l m)) (sym now.labelled) weak

-- after a write into the disk
pub kept_written : (size : SectorSize) (is_firm turn : Bool) (fresh stale fresh' stale' : List Bool) (image : List ℕ) (m : Moment) (d : Device) (at : ℕ) (content : List ℕ)
    → at + length content ≤ length image → length fresh' ≡ length fresh → length stale' ≡ length fresh
    → (Reads size (length fresh) turn fresh stale image d.now.bytes → Reads size (length fresh) turn fresh' stale' (spliced image at content) d.now.bytes)
    → IsKept size is_firm turn fresh stale image m d
    → IsKept size is_firm turn fresh' stale' (spliced image at content) (record { bytes = spliced m.bytes at content; pending = range_of at content ∷ m.pending }) d
kept_written size is_firm turn fresh stale fresh' stale' image m d at content fits one two reads kept =
    let m' : Moment = record { bytes = spliced m.bytes at content; pending = range_of at content ∷ m.pending } in
    let within : at + length content ≤ length m.bytes = subst (λ (xs : List ℕ). at + length content ≤ length xs) (sym kept.bytes) fits in
    record {
      bytes = ap (λ (xs : List ℕ). spliced xs at content) kept.bytes;
      same_count = two ∙ sym one;
      reads = subst (λ (n : ℕ). Reads size n turn fresh' stale' (spliced image at content) d.now.bytes) (sym one) (reads kept.reads);
      label = kept.label;
      crash = subst (λ (n : ℕ). Always d (Holds size n is_firm turn kept.label m')) (sym one)
          (always_weaker d (Holds size (length fresh) is_firm turn kept.label m) (Holds size (length fresh) is_firm turn kept.label m')
          (λ x h. holds_written size (length fresh) is_firm turn kept.label m at content x within h) kept.crash);
    }

-- What filling the other area needs and leaves, where its first sector is known by an equation.

pub other_fits : (size : SectorSize) (count : ℕ) (turn : Bool) (fresh stale : List Bool) (image bytes : List ℕ) (first : ℕ) → first ≡ first_sector count (not turn) → length stale ≡ count
    → Reads size count turn fresh stale image bytes → place_of size (first + length stale) ≤ length bytes
other_fits size count turn fresh stale image bytes first is many r =
    subst (λ (f : ℕ). place_of size (f + length stale) ≤ length bytes) (sym is)
    (subst (λ (n : ℕ). place_of size (first_sector count (not turn) + n) ≤ length bytes) (sym many) (area_fits_all size count (not turn) (length bytes) r.fits))

pub other_matches : (size : SectorSize) (count : ℕ) (turn : Bool) (fresh stale : List Bool) (image bytes : List ℕ) (first : ℕ) → first ≡ first_sector count (not turn)
    → Reads size count turn fresh stale image bytes → Matches size first stale image bytes
other_matches size count turn fresh stale image bytes first is r = subst (λ (f : ℕ). Matches size f stale image bytes) (sym is) r.other

range_is : (size : SectorSize) (first first' n count : ℕ) → first ≡ first' → n ≡ count → sectors_from size first n ≡ sectors_from size first' count
range_is size first first' n count p q = λ i. sectors_from size (p i) (q i)

pub reads_filled : (size : SectorSize) (count : ℕ) (turn : Bool) (fresh stale after : List Bool) (image xs ys : List ℕ) (first : ℕ) → first ≡ first_sector count (not turn)
    → length fresh ≡ count → length stale ≡ count
    → SameOutside (sectors_from size first (length stale) ∷ []) xs ys → Matches size first after image ys
    → Reads size count turn fresh stale image xs → Reads size count turn fresh after image ys
reads_filled size count turn fresh stale after image xs ys first is one two same matches r =
    reads_area size count turn fresh stale after image xs ys one
    (subst (λ (s : Range). SameOutside (s ∷ []) xs ys) (range_is size first (first_sector count (not turn)) (length stale) count is two) same)
    (subst (λ (f : ℕ). Matches size f after image ys) is matches) r

pub leaves_filled : (size : SectorSize) (count : ℕ) (turn : Bool) (label : List ℕ) (m : Moment) (old new : Device) (first n : ℕ) → first ≡ first_sector count (not turn) → n ≡ count
    → LeavesOnly old new (ImageBut old (sectors_from size first n ∷ []))
    → Always old (Holds size count true turn label m) → LeavesOnly old new (Shows size count label m) × Always new (Holds size count true turn label m)
leaves_filled size count turn label m old new first n is many leaves always =
    area_leaves size count turn label m old new
    (subst (λ (s : Range). LeavesOnly old new (ImageBut old (s ∷ []))) (range_is size first (first_sector count (not turn)) n count is many) leaves) always

pub whole_filled : (size : SectorSize) (count : ℕ) (turn : Bool) (image bytes : List ℕ) (first n : ℕ) → first ≡ first_sector count turn → n ≡ count
    → part (place_of size first) (place_of size n) bytes ≡ image → area size count turn bytes ≡ image
whole_filled size count turn image bytes first n is many whole =
    subst (λ (f : ℕ). part (place_of size f) (place_of size count) bytes ≡ image) is (subst (λ (k : ℕ). part (place_of size first) (place_of size k) bytes ≡ image) many whole)

-- the gate is turned, durably, to the area that was filled
pub finished : (size : SectorSize) (count : ℕ) (turn turn' is_firm : Bool) (label image : List ℕ) (m : Moment) (mid new : Device) → turn' ≡ turn → is_firm ≡ true → new.now.pending ≡ []
    → SameOutside (one_sector size 1 ∷ []) mid.now.bytes new.now.bytes → place_of size (count + count + 2) ≤ length mid.now.bytes
    → area size count turn mid.now.bytes ≡ image → m.bytes ≡ image → Always new (Holds size count is_firm turn' label m)
    → Always new (Holds size count is_firm turn' label (record { bytes = m.bytes; pending = [] }))
finished size count turn turn' is_firm label image m mid new same_turn firm durable same fits whole is always =
    let m' : Moment = record { bytes = m.bytes; pending = [] } in
    let firmly : Always new (Holds size count true turn' label m) = subst (λ (f : Bool). Always new (Holds size count f turn' label m)) firm always in
    let here : area size count turn' new.now.bytes ≡ m.bytes =
    area_same size count turn' (one_sector size 1 ∷ []) mid.now.bytes new.now.bytes same fits (apart_gate size count turn')
    ∙ ap (λ (t : Bool). area size count t mid.now.bytes) same_turn ∙ whole ∙ sym is in
    subst (λ (f : Bool). Always new (Holds size count f turn' label m')) (sym firm) (made_durable size count turn' label m new durable here firmly)

-- what a step keeps
pub kept_step : (size : SectorSize) (count : ℕ) (is_firm turn : Bool) (fresh stale : List Bool) (image label : List ℕ) (m : Moment) (d : Device) → length fresh ≡ count → length stale ≡ count
    → Reads size count turn fresh stale image d.now.bytes → m.bytes ≡ image → Always d (Holds size count is_firm turn label m) → IsKept size is_firm turn fresh stale image m d
kept_step size count is_firm turn fresh stale image label m d one two reads is always = record {
  bytes = is;
  same_count = two ∙ sym one;
  reads = subst (λ (n : ℕ). Reads size n turn fresh stale image d.now.bytes) (sym one) reads;
  label = label;
  crash = subst (λ (n : ℕ). Always d (Holds size n is_firm turn label m)) (sym one) always;
}

-- by the label that stands on the device
pub leaves_label : (size : SectorSize) (count : ℕ) (is_firm turn : Bool) (label : List ℕ) (m : Moment) (old new : Device) → Always old (Holds size count is_firm turn label m)
    → LeavesOnly old new (Shows size count label m) → LeavesOnly old new (Shows size count (sector size 0 old.now.bytes) m)
leaves_label size count is_firm turn label m old new always leaves =
    subst (λ (l : List ℕ). LeavesOnly old new (Shows size count l m)) (sym (always_now old (Holds size count is_firm turn label m) always).labelled) leaves

-- what isn't marked for a write holds what the image does still
pub reads_written : (size : SectorSize) (count : ℕ) (turn : Bool) (fresh stale fresh' stale' : List Bool) (image on : List ℕ) (at : ℕ) (content : List ℕ) → length fresh ≡ count → length stale ≡ count
    → at + length content ≤ length image
    → ((i : ℕ) → get_or fresh' i true ≡ false → (get_or fresh i true ≡ false) × IsApart (place_of size i) (bytes_in size) (range_of at content ∷ []))
    → ((i : ℕ) → get_or stale' i true ≡ false → (get_or stale i true ≡ false) × IsApart (place_of size i) (bytes_in size) (range_of at content ∷ []))
    → Reads size count turn fresh stale image on → Reads size count turn fresh' stale' (spliced image at content) on
reads_written size count turn fresh stale fresh' stale' image on at content one two fits mark mark' r = record {
  long = length_spliced image content at fits ∙ r.long;
  fits = r.fits;
  mine = matches_written size (first_sector count turn) count fresh fresh' image on at content r.long one fits mark r.mine;
  other = matches_written size (first_sector count (not turn)) count stale stale' image on at content r.long two fits mark' r.other;
}
