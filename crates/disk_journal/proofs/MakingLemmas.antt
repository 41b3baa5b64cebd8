-- The making of a journaled device: what is no label, what a crash mixes of a first sector, and what a device that was laid out stands for.
use Rattle.std.specs.Prelude.{if◌then◌else◌, Any, None, Ok, Err, OnOk, Some}
use Rattle.std.proofs.Common.{◌≡◌, ◌⊎◌, inl, inr, ⊎_elim, ℕ, zero, suc, ◌+◌, ◌-◌, ◌*◌, ◌/◌, ◌%◌, ◌<◌, ◌≤◌, Bool, false, true, List, [], ◌∷◌, All, Result, length, get_or, take, drop, replicate, refl, sym, ◌∙◌, ap, subst, arith}
use Rattle.std.proofs.lemmas.Bool.{cases_lt}
use Rattle.std.proofs.lemmas.List.{ext_get_or, get_or-drop, get_or-replicate, get_or-take, get_or_past, length-replicate}
use Rattle.std.proofs.lemmas.Nat.{div-add-mod', mod_below}
use Rattle.block_disk.specs.Bytes.{part, spliced}
use Rattle.block_disk.specs.Device.{Device, SameOutside, range_of}
use Rattle.block_disk.proofs.Bytes.{get_or_part, length_part, length_spliced, spliced_at, spliced_below}
use Rattle.block_disk.proofs.Ranges.{outside_refl, outside_trans, outside_wider, spliced_same}
use Rattle.atomic_sectors.specs.Left.{LeavesWhole, MixedSince}
use Rattle.atomic_sectors.specs.Sectors.{IsMixable, sector}
use Rattle.atomic_sectors.proofs.Calculus.{leaves_then, leaves_weaker, reads_then, reads_weaker, same_sectors, whole}
use Rattle.journal_batches.specs.declared.areas.Areas.{Areas}
use Rattle.journal_batches.specs.Areas.{half_at, half_bytes, half_of, image_at, image_bytes, room_of, with_half}
use Rattle.journal_batches.specs.Batches.{Batch, StampsUpTo, batch_in, is_complete, number, stamp_at, entries_in, sectors_for, count_in}
use Rattle.journal_batches.specs.Rests.{IsCleared}
use Rattle.journal_batches.specs.Shown.{shown}
use Rattle.journal_batches.specs.Spelled.{CanSpell, spelled}
use Rattle.journal_batches.proofs.HalfLemmas.{length_spelled, spelled_holds, spliced_behind, stamps_hold}
use Rattle.journal_batches.proofs.MixLemmas.{half_with_half, home_with_half, length_with_half, other_with_half, part_spliced_above}
use Rattle.journal_batches.proofs.TurnLemmas.{rests}
use Rattle.disk_journal.specs.Labels.{HasLabel, HasNoLabel, label_sector}
use Rattle.disk_journal.specs.Made.{ChangesArea, ChangesHead, IsLaid}
use Rattle.disk_journal.specs.Stands.{IsAllHome, IsMadeWithin}
use Rattle.disk_journal.specs.Steps.{HasInHalf, StaysBetween}
use Rattle.disk_journal.proofs.SettlingLemmas.{area, keeps_between, keeps_half, reads_half, reads_last, stands}

pub on_ok_two : {T E A B C : Type 0} (r : Result T E) → (A → B → C) → OnOk r A → OnOk r B → OnOk r C
on_ok_two (Ok x) to a b = to a b
on_ok_two (Err e) to a b = tt

-- ---- no label ----

-- bytes that begin with a zero have no label
pub none_at_zero : (bytes : List ℕ) → get_or bytes 0 0 ≡ 0 → HasNoLabel bytes
none_at_zero bytes begins a half image same =
    let first : get_or (take 24 bytes) 0 0 ≡ 77 = ap (λ (xs : List ℕ). get_or xs 0 0) same in
    let is : get_or (take 24 bytes) 0 0 ≡ get_or bytes 0 0 = get_or-take 24 bytes 0 0 (omega arith) in
    absurd (omega (arith, first, is, begins))

-- ---- what a crash mixes ----

any_of : {X : Type 0} (P Q : X → Type 0) (xs : List X) → All P xs → Any Q xs → (x : X) × P x × Q x
any_of P Q xs all (k, x, within, is, q) = (x, subst P is (all k x within), q)

-- contents with the same sector have the same byte at each place of it
sector_at : (xs ys : List ℕ) (i : ℕ) → sector (i / 512) xs ≡ sector (i / 512) ys → get_or xs i 0 ≡ get_or ys i 0
sector_at xs ys i same =
    let k = i % 512 in
    let low : k < 512 = mod_below i 512 (omega arith) in
    let is : i / 512 * 512 + k ≡ i = div-add-mod' i 512 in
    ap (λ (n : ℕ). get_or xs n 0) (sym is)
    ∙ sym (get_or_part (i / 512 * 512) 512 xs k low)
    ∙ ap (λ (zs : List ℕ). get_or zs k 0) same
    ∙ get_or_part (i / 512 * 512) 512 ys k low
    ∙ ap (λ (n : ℕ). get_or ys n 0) is

each_from : (P : ℕ → Type 0) → P 0 → ((i : ℕ) → P (suc i)) → (i : ℕ) → P i
each_from P first later zero = first
each_from P first later (suc i) = later i

module _ (b y : List ℕ) (long : length y ≡ 512) (fits : 512 ≤ length b) where
  head_fits : 0 + length y ≤ length b
  head_fits = omega arith

  -- behind the first sector nothing changes
  head_behind : (at n : ℕ) → 512 ≤ at → part at n (spliced b 0 y) ≡ part at n b
  head_behind at n behind = part_spliced_above b y 0 head_fits at n (omega arith)

  -- contents of which each has the one first sector or the other mix to one of both
  mixes_head : IsMixable (λ image. (image ≡ b) ⊎ (image ≡ spliced b 0 y))
  mixes_head contents image all mix =
      let P : List ℕ → Type 0 = λ (c : List ℕ). (c ≡ b) ⊎ (c ≡ spliced b 0 y) in
      let same : length (spliced b 0 y) ≡ length b = length_spliced b y 0 head_fits in
      let sized = any_of P (λ (c : List ℕ). length image ≡ length c) contents all mix.size in
      let size : length image ≡ length b = sized.2 ∙ ⊎_elim (λ is. ap length is) (λ is. ap length is ∙ same) sized.1 in
      let head = any_of P (λ (c : List ℕ). sector 0 image ≡ sector 0 c) contents all (mix.each 0) in
      let behind : (i : ℕ) → sector (suc i) image ≡ sector (suc i) b = λ i.
      let one = any_of P (λ (c : List ℕ). sector (suc i) image ≡ sector (suc i) c) contents all (mix.each (suc i)) in
      one.2 ∙ ⊎_elim (λ is. ap (sector (suc i)) is) (λ is. ap (sector (suc i)) is ∙ head_behind (suc i * 512) 512 (omega arith)) one.1 in
      ⊎_elim
      (λ is. inl (same_sectors b image size (each_from (λ i. sector i image ≡ sector i b) (head.2 ∙ ap (sector 0) is) behind)))
      (λ is. inr (same_sectors (spliced b 0 y) image (size ∙ sym same)
      (each_from (λ i. sector i image ≡ sector i (spliced b 0 y)) (head.2 ∙ ap (sector 0) is)
      (λ i. behind i ∙ sym (head_behind (suc i * 512) 512 (omega arith))))))
      head.1

-- with a first sector that begins with a zero, a device does
pub zero_head : (b y : List ℕ) → length y ≡ 512 → 512 ≤ length b → get_or y 0 0 ≡ 0 → get_or (spliced b 0 y) 0 0 ≡ 0
zero_head b y long fits begins = spliced_at b y 0 (omega arith) 0 (omega arith) ∙ begins

-- with one of a label it has that label
pub labelled : (a : Areas) (b y : List ℕ) → y ≡ label_sector a → HasLabel a (spliced b 0 y)
labelled a b y is = subst (λ (xs : List ℕ). HasLabel a (spliced b 0 xs)) (sym is) refl

-- what reads is among what a crash may leave
reads_mixed : (d : Device) (t : ℕ) → t ≤ length d.past → MixedSince t d d.now.bytes
reads_mixed d t le = inl (le, record { size = (0, d.now.bytes, omega arith, refl, refl); each = λ i. (0, d.now.bytes, omega arith, refl, refl) })

-- a first sector that is written: a crash leaves nothing new but that
pub head_leaves : {P : List ℕ → Type 0} {old new : Device} (y : List ℕ) → length y ≡ 512 → 512 ≤ length old.now.bytes → old.now.pending ≡ []
    → ChangesHead y old new → P (spliced old.now.bytes 0 y) → LeavesWhole old new P
head_leaves {P = P} {old = old} y long fits none head p =
    let w = whole (mixes_head old.now.bytes y long fits) none (inl refl) head in record {
      later = w.later;
      grows = w.grows;
      each = λ t image le left.
          ⊎_elim (λ was. inl was)
          (λ one. ⊎_elim (λ is. inl (subst (MixedSince t old) (sym is) (reads_mixed old t le))) (λ is. inr (subst P (sym is) p)) one)
          (w.each t image le left);
    }

-- and changes nothing behind it
pub head_beyond : {old new : Device} (y : List ℕ) (n : ℕ) → length y ≤ n → ChangesHead y old new → drop n new.now.bytes ≡ drop n old.now.bytes
head_beyond {old = old} y n low head =
    ⊎_elim (λ is. ap (drop n) is) (λ is. ap (drop n) is ∙ spliced_behind old.now.bytes y n low) (reads_last head (inl refl))

-- ---- the halves and the image's place ----

-- contents that are as before elsewhere mix to one that is
mixes_rest : (a : Areas) (before : List ℕ) → IsMixable (λ image. SameOutside (area a ∷ []) before image)
mixes_rest a before contents image all mix =
    let P : List ℕ → Type 0 = λ (c : List ℕ). SameOutside (area a ∷ []) before c in
    let sized = any_of P (λ (c : List ℕ). length image ≡ length c) contents all mix.size in record {
      size = sized.2 ∙ sized.1.size;
      same = λ i clear.
          let from = any_of P (λ (c : List ℕ). sector (i / 512) image ≡ sector (i / 512) c) contents all (mix.each (i / 512)) in
          sector_at image from.0 i from.2 ∙ from.1.same i clear;
    }

-- while they are written a device that begins with a zero has no label
area_leaves : {old new : Device} (a : Areas) (before : List ℕ) → old.now.pending ≡ [] → get_or old.now.bytes 0 0 ≡ 0
    → drop (room_of a) old.now.bytes ≡ drop (room_of a) before → ChangesArea a old new → LeavesWhole old new (IsMadeWithin a before)
area_leaves {old = old} a before none begins behind changes =
    leaves_weaker
    (λ image same.
    ((stands {P = λ image. Unit {0}} a old.now.bytes image same tt).beyond ∙ behind, inl (none_at_zero image (same.same 0 (inl (omega arith), tt) ∙ begins))))
    (whole (mixes_rest a old.now.bytes) none (outside_refl (area a ∷ []) old.now.bytes) changes)

pub area_now : {old new : Device} (a : Areas) → ChangesArea a old new → SameOutside (area a ∷ []) old.now.bytes new.now.bytes
area_now {old = old} a changes = reads_last changes (outside_refl (area a ∷ []) old.now.bytes)

pub area_beyond : {old new : Device} (a : Areas) → ChangesArea a old new → drop (room_of a) new.now.bytes ≡ drop (room_of a) old.now.bytes
area_beyond {old = old} {new = new} a changes = (stands {P = λ image. Unit {0}} a old.now.bytes new.now.bytes (area_now a changes) tt).beyond

-- a batch in the first half
pub area_batch : {old mid new : Device} (a : Areas) (content : List ℕ) → room_of a ≤ length old.now.bytes → length content ≤ half_bytes a → ChangesArea a old mid
    → StaysBetween a (HasInHalf a false content) mid new → ChangesArea a old new
area_batch {old = old} {mid = mid} a content room fits changes stays =
    let same = area_now a changes in
    let room' : room_of a ≤ length mid.now.bytes = omega (arith, room, same.size) in
    reads_then changes
    (reads_weaker
    (λ image between. outside_trans (area a ∷ []) old.now.bytes mid.now.bytes image same
    (keeps_between a mid.now.bytes (with_half a false content mid.now.bytes) image (keeps_half a mid.now.bytes room' false content fits) between))
    (reads_half a false content room' fits stays))

-- ---- zeros ----

pub zeros_at : (n k : ℕ) → get_or {A = ℕ} (replicate n 0) k 0 ≡ 0
zeros_at n k = elim (cases_lt k n) [
  | inl within ↦ get_or-replicate n k 0 0 within
  | inr past ↦ get_or_past (replicate n 0) k 0 (omega (arith, length-replicate {A = ℕ} n 0))
]

number_zero : (xs : List ℕ) → ((k : ℕ) → get_or xs k 0 ≡ 0) → number xs ≡ 0
number_zero xs zeros =
    let e : (k : ℕ) → k < 8 → get_or (take 8 xs) k 0 ≡ 0 = λ k low. get_or-take 8 xs k 0 low ∙ zeros k in
    omega (
      arith,
      e 0 (omega arith),
      e 1 (omega arith),
      e 2 (omega arith),
      e 3 (omega arith),
      e 4 (omega arith),
      e 5 (omega arith),
      e 6 (omega arith),
      e 7 (omega arith),
    )

stamp_zero : (n i : ℕ) → stamp_at i (replicate n 0) ≡ 0
stamp_zero n i = number_zero (drop (i * 512) (replicate n 0)) (λ k. get_or-drop (i * 512) (replicate n 0) k 0 ∙ zeros_at n (i * 512 + k))

chosen : (t : Bool) (x b : Batch) → (if t then Some x else None) ≡ Some b → x ≡ b
chosen true x b is = cc
chosen false x b is = absurd cc

-- a batch of zeros has stamp 0
batch_zero : (n : ℕ) (b : Batch) → batch_in (replicate n 0) ≡ Some b → b.stamp ≡ 0
batch_zero n b is =
    let half = replicate n 0 in
    let x : Batch = record { stamp = number half; entries = take (count_in half) (entries_in (sectors_for (count_in half)) half) } in
    sym (ap (λ (c : Batch). c.stamp) (chosen (is_complete half) x b is)) ∙ number_zero half (zeros_at n)

part_zero : (bytes : List ℕ) (room at n : ℕ) → ((i : ℕ) → 4096 ≤ i → i < room → get_or bytes i 0 ≡ 0) → 4096 ≤ at → at + n ≤ room → room ≤ length bytes
    → part at n bytes ≡ replicate n 0
part_zero bytes room at n zeros low high long =
    let size : length (part at n bytes) ≡ n = length_part at n bytes (omega arith) in
    ext_get_or 0 (part at n bytes) (replicate n 0) (size ∙ sym (length-replicate n 0))
    (λ i within.
    let less : i < n = omega (arith, size) in
    get_or_part at n bytes i less ∙ zeros (at + i) (omega arith) (omega arith) ∙ sym (get_or-replicate n i 0 0 less))

-- one page more of zeros
pub fill_more : {old mid : Device} (a : Areas) (page : ℕ) (ys : List ℕ) → room_of a ≤ length old.now.bytes → page < 2 * a.half + a.image → length ys ≡ 4096
    → ((k : ℕ) → get_or ys k 0 ≡ 0) → ChangesArea a old mid → ((i : ℕ) → 4096 ≤ i → i < 4096 + page * 4096 → get_or mid.now.bytes i 0 ≡ 0)
    → SameOutside (area a ∷ []) old.now.bytes (spliced mid.now.bytes (4096 + page * 4096) ys)
    × ((i : ℕ) → 4096 ≤ i → i < 4096 + (page + 1) * 4096 → get_or (spliced mid.now.bytes (4096 + page * 4096) ys) i 0 ≡ 0)
fill_more {old = old} {mid = mid} a page ys room within long zeros changes filled =
    let at = 4096 + page * 4096 in
    let same = area_now a changes in
    let fits : at + length ys ≤ length mid.now.bytes = omega (arith, within, long, room, same.size) in (
      outside_trans (area a ∷ []) old.now.bytes mid.now.bytes (spliced mid.now.bytes at ys) same
          (outside_wider (range_of at ys) (area a) mid.now.bytes (spliced mid.now.bytes at ys) (omega arith) (omega (arith, within, long))
          (spliced_same mid.now.bytes ys at fits)),
      λ i low high. elim (cases_lt i at) [
        | inl below ↦ spliced_below mid.now.bytes ys at fits i below ∙ filled i low below
        | inr from ↦
            let k = i - at in
            let is : at + k ≡ i = omega arith in
            ap (λ (j : ℕ). get_or (spliced mid.now.bytes at ys) j 0) (sym is) ∙ spliced_at mid.now.bytes ys at fits k (omega (arith, long, high)) ∙ zeros k
      ],
    )

-- ---- a device that was laid out ----

module _ (a : Areas) (half : 1 ≤ a.half) where
  content_can : CanSpell a 2 []
  content_can = record { fits = omega arith; stamp_fits = omega arith; words = λ k d within. absurd (omega arith); count_fits = omega arith }

  pub content_fits : length (spelled 2 []) ≤ half_bytes a
  content_fits = omega (arith, length_spelled 2 [])

  -- over zeros an empty batch lays it out
  pub laid_by : (bytes : List ℕ) → room_of a ≤ length bytes → ((i : ℕ) → 4096 ≤ i → i < room_of a → get_or bytes i 0 ≡ 0)
      → IsLaid a (with_half a false (spelled 2 []) bytes)
  laid_by bytes room zeros = record {
    room = omega (arith, length_with_half a bytes room (spelled 2 []) false content_fits);
    first = half_with_half a bytes room (spelled 2 []) false content_fits
        ∙ ap (λ (xs : List ℕ). spliced xs 0 (spelled 2 [])) (part_zero bytes (room_of a) (half_at a false) (half_bytes a) zeros (omega arith) (omega arith) room);
    second = other_with_half a bytes room (spelled 2 []) false content_fits
        ∙ part_zero bytes (room_of a) (half_at a true) (half_bytes a) zeros (omega arith) (omega arith) room;
    home = home_with_half a bytes room (spelled 2 []) false content_fits
        ∙ part_zero bytes (room_of a) (image_at a) (image_bytes a) zeros (omega arith) (omega arith) room;
  }

  -- whatever its first sector is
  pub laid_under : (bytes y : List ℕ) → length y ≡ 512 → IsLaid a bytes → IsLaid a (spliced bytes 0 y)
  laid_under bytes y long laid =
      let room : room_of a ≤ length bytes = laid.room in
      let fits : 512 ≤ length bytes = omega arith in record {
        room = omega (arith, length_spliced bytes y 0 (omega arith));
        first = head_behind bytes y long fits (half_at a false) (half_bytes a) (omega arith) ∙ laid.first;
        second = head_behind bytes y long fits (half_at a true) (half_bytes a) (omega arith) ∙ laid.second;
        home = head_behind bytes y long fits (image_at a) (image_bytes a) (omega arith) ∙ laid.home;
      }

  module _ (bytes : List ℕ) (laid : IsLaid a bytes) where
    laid_stamps : (second : Bool) → StampsUpTo 2 (half_of a second bytes)
    laid_stamps false =
        let zeros : List ℕ = replicate (half_bytes a) 0 in
        let long : length zeros ≡ half_bytes a = length-replicate (half_bytes a) 0 in
        subst (StampsUpTo 2) (sym laid.first)
        (λ i within.
        let within' : i * 512 + 512 ≤ length zeros = omega (arith, length_spliced zeros (spelled 2 []) 0 (omega (arith, content_fits, long))) in
        elim (stamps_hold a 2 [] zeros i long content_can within') [ inl old ↦ omega (arith, old, stamp_zero (half_bytes a) i) | inr new ↦ omega (arith, new) ])
    laid_stamps true = subst (StampsUpTo 2) (sym laid.second) (λ i within. omega (arith, stamp_zero (half_bytes a) i))

    -- nothing is to be replayed
    laid_cleared : IsCleared a false 2 (replicate (image_bytes a) 0) bytes
    laid_cleared =
        let other : (b : Batch) → batch_in (half_of a true bytes) ≡ Some b → b.stamp ≡ 0 =
        λ b is. batch_zero (half_bytes a) b (subst (λ (xs : List ℕ). batch_in xs ≡ Some b) laid.second is) in record {
          rests = record {
            room = laid.room;
            newest = ap batch_in laid.first ∙ spelled_holds a 2 [] (replicate (half_bytes a) 0) (length-replicate (half_bytes a) 0) content_can;
            own = λ k d within. absurd (omega arith);
            alone = sym laid.home;
            earlier = λ b is. omega (arith, other b is);
            after = λ b is next. absurd (omega (arith, other b is, next));
            stamps = laid_stamps;
          };
          sole = λ b is next. omega (arith, other b is, next);
        }

    -- it stands for zeros
    pub laid_shown : shown a bytes ≡ replicate (image_bytes a) 0
    laid_shown = (rests a false 2 [] (replicate (image_bytes a) 0) bytes laid_cleared.rests).0

  pub laid_home : (d : Device) → d.now.pending ≡ [] → IsLaid a d.now.bytes → IsAllHome a false 2 d
  laid_home d none laid = record {
    durable = none;
    cleared = subst (λ (image : List ℕ). IsCleared a false 2 image d.now.bytes) (sym (laid_shown d.now.bytes laid)) (laid_cleared d.now.bytes laid);
  }

-- ---- from the first step to the last ----

zeros_long : length (replicate {A = ℕ} 512 0) ≡ 512
zeros_long = length-replicate {A = ℕ} 512 0

-- with a first sector of zeros a device begins with a zero
begin_zero : (old new : List ℕ) → 512 ≤ length old → new ≡ spliced old 0 (replicate 512 0) → get_or new 0 0 ≡ 0
begin_zero old new room ok = ap (λ (xs : List ℕ). get_or xs 0 0) ok ∙ zero_head old (replicate 512 0) zeros_long room (zeros_at 512 0)

module _ {old new : Device} (a : Areas) (room : room_of a ≤ length old.now.bytes) where
  -- a crash leaves the device as it was, or with no label
  pub begin_leaves : old.now.pending ≡ [] → ChangesHead (replicate 512 0) old new → LeavesWhole old new (IsMadeWithin a old.now.bytes)
  begin_leaves none head =
      head_leaves (replicate 512 0) zeros_long (omega arith) none head (
        spliced_behind old.now.bytes (replicate 512 0) (room_of a) (omega (arith, zeros_long)),
        inl (none_at_zero (spliced old.now.bytes 0 (replicate 512 0)) (begin_zero old.now.bytes (spliced old.now.bytes 0 (replicate 512 0)) (omega arith) refl)),
      )

  pub begin_size : ChangesHead (replicate 512 0) old new → length new.now.bytes ≡ length old.now.bytes
  begin_size head =
      ⊎_elim (λ is. ap length is) (λ is. ap length is ∙ length_spliced old.now.bytes (replicate 512 0) 0 (omega (arith, zeros_long))) (reads_last head (inl refl))

-- and no label while the rest is written
pub lay_leaves : {old mid new : Device} (a : Areas) → room_of a ≤ length old.now.bytes → old.now.pending ≡ [] → ChangesHead (replicate 512 0) old mid
    → mid.now.pending ≡ [] → mid.now.bytes ≡ spliced old.now.bytes 0 (replicate 512 0) → ChangesArea a mid new → LeavesWhole old new (IsMadeWithin a old.now.bytes)
lay_leaves {old = old} {mid = mid} a room none head none' ok changes =
    leaves_then (begin_leaves a room none head)
    (area_leaves a old.now.bytes none' (begin_zero old.now.bytes mid.now.bytes (omega arith) ok)
    (head_beyond (replicate 512 0) (room_of a) (omega (arith, zeros_long)) head) changes)

pub sector_long : (a : Areas) (y : List ℕ) → y ≡ label_sector a → length y ≡ 512
sector_long a y is = ap length is

module _ (a : Areas) (half : 1 ≤ a.half) where
  -- with the label the device is the disk of zeros
  pub made_shown : (bytes y : List ℕ) → y ≡ label_sector a → IsLaid a bytes → shown a (spliced bytes 0 y) ≡ replicate (image_bytes a) 0
  made_shown bytes y is laid = laid_shown a half (spliced bytes 0 y) (laid_under a half bytes y (sector_long a y is) laid)

  pub made_home : (bytes y : List ℕ) → y ≡ label_sector a → IsLaid a bytes → (d : Device) → d.now.pending ≡ [] → d.now.bytes ≡ spliced bytes 0 y
      → IsAllHome a false 2 d
  made_home bytes y is laid d none ok =
      laid_home a half d none (subst (IsLaid a) (sym ok) (laid_under a half bytes y (sector_long a y is) laid))

  -- a crash leaves it as it was, or with its label
  pub made_leaves : {old new : Device} (before y : List ℕ) → y ≡ label_sector a → IsLaid a old.now.bytes → old.now.pending ≡ []
      → drop (room_of a) old.now.bytes ≡ drop (room_of a) before → ChangesHead y old new → LeavesWhole old new (IsMadeWithin a before)
  made_leaves {old = old} before y is laid none behind head =
      let room : room_of a ≤ length old.now.bytes = laid.room in
      let long = sector_long a y is in
      head_leaves y long (omega arith) none head
      (spliced_behind old.now.bytes y (room_of a) (omega (arith, long)) ∙ behind, inr (labelled a old.now.bytes y is, made_shown old.now.bytes y is laid))
