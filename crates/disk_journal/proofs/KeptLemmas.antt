-- What a journaled disk keeps in memory: the words that were touched, and what a crash leaves of the device.
use Rattle.std.specs.Prelude.{min, if◌then◌else◌, ◌^◌}
use Rattle.std.specs.List.Sorted.{IsPermutation}
use Rattle.std.proofs.Common.{◌≡◌, ◌⊎◌, inl, inr, ⊎_elim, Bool, true, false, ℕ, ◌+◌, ◌-◌, ◌*◌, ◌/◌, ◌<◌, ◌≤◌, ◌==◌, List, [], ◌∷◌, length, get_or, take, drop, refl, sym, ◌∙◌, ap, subst, arith}
use Rattle.std.proofs.lemmas.List.Elements.{All-nil}
use Rattle.std.proofs.lemmas.List.Sorted.{All-permutation, Contains-permutation}
use Rattle.std.proofs.lemmas.Bool.{cases_lt}
use Rattle.block_disk.specs.Bytes.{spliced}
use Rattle.block_disk.specs.Device.{HasFailed, Moment, Device, Image, SameOutside, range_of}
use Rattle.block_disk.proofs.Bytes.{length_spliced, spliced_below, spliced_above}
use Rattle.block_disk.proofs.Ranges.{outside_refl, spliced_same, torn_forth}
use Rattle.atomic_sectors.specs.Sectors.{sector, contents_since}
use Rattle.atomic_sectors.specs.Left.{AlwaysWhole, LeavesWhole, MixedNow}
use Rattle.atomic_sectors.proofs.Calculus.{always_only, leaves_then, leaves_weaker, since_always}
use Rattle.journal_batches.specs.declared.areas.Areas.{Areas}
use Rattle.journal_batches.specs.declared.entry.Entry.{Entry}
use Rattle.journal_batches.specs.Areas.{half_at, half_bytes, half_of, image_bytes}
use Rattle.journal_batches.specs.Batches.{batch_in}
use Rattle.journal_batches.specs.Entries.{AreOf, Covers, DifferWithin, IsEither, replayed}
use Rattle.journal_batches.specs.Laws.{ReplayLaw}
use Rattle.journal_batches.specs.Rests.{Rests}
use Rattle.journal_batches.specs.Shown.{shown}
use Rattle.journal_batches.specs.Spelled.{pages_for}
use Rattle.journal_batches.proofs.EntryLemmas.{any_first, length_replayed}
use Rattle.disk_journal.specs.Kept.{AreWithin, IsKept, SameButTouched, Touches, words_among}
use Rattle.disk_journal.specs.declared.opening.Opened.{Opened}
use Rattle.disk_journal.specs.Opened.{IsOpened}
use Rattle.disk_journal.specs.Stands.{IsAllHome, IsAtRest, Stands, StandsMixed, StandsStill, StandsTurned}
use Rattle.disk_journal.specs.Steps.{AreWordPlaces, BringsHome}
use Rattle.disk_journal.proofs.SettlingLemmas.{differ_replayed, rest_brings}

-- ---- words that were touched ----

-- in another order they are the same
pub touches_permuted : (xs ys : List ℕ) (i : ℕ) → IsPermutation xs ys → Touches xs i → Touches ys i
touches_permuted xs ys i order (k, x, within, is, p) = let there = Contains-permutation xs ys x order (k, within, is) in (there.0, x, there.1, there.2, p)

pub within_permuted : (size : ℕ) (xs ys : List ℕ) → IsPermutation xs ys → AreWithin size xs → AreWithin size ys
within_permuted size xs ys order within = All-permutation (λ (place : ℕ). (place ≡ place / 8 * 8) × (place + 8 ≤ size)) xs ys order within

-- images that are the same but for touched words differ within the entries there
pub touched_differ : (entries : List Entry) (places old new : List ℕ) → length new ≡ length old → ((i : ℕ) → Touches places i → Covers entries i)
    → SameButTouched places old new
    → DifferWithin entries old new
touched_differ entries places old new size covers same = record { size = size; same = λ i. ⊎_elim (λ is. inl is) (λ touched. inr (covers i touched)) (same i) }

-- after a write of bytes whose words are noted
pub touched_written : (places places' old new : List ℕ) (at : ℕ) (content : List ℕ) → at + length content ≤ length new
    → ((i : ℕ) → Touches places i ⊎ ((at ≤ i) × (i < at + length content)) → Touches places' i) → SameButTouched places old new
    → SameButTouched places' old (spliced new at content)
touched_written places places' old new at content fits all same i = elim (cases_lt i at) [
  | inl below ↦ stays (spliced_below new content at fits i below)
  | inr from ↦ elim (cases_lt i (at + length content)) [
    | inl within ↦ inr (all i (inr (from, within)))
    | inr above ↦ stays (spliced_above new content at fits i above)
  ]
]
  where
    stays : get_or (spliced new at content) i 0 ≡ get_or new i 0 → (get_or (spliced new at content) i 0 ≡ get_or old i 0) ⊎ Touches places' i
    stays is = ⊎_elim (λ was. inl (is ∙ was)) (λ touched. inr (all i (inl touched))) (same i)

-- ---- what the device stands for ----

pub stands_weaker : (a : Areas) (before left : List ℕ) (P Q : List ℕ → Type 0) → ((image : List ℕ) → P image → Q image) → Stands a before P left
    → Stands a before Q left
stands_weaker a before left P Q to s = record { size = s.size; label = s.label; beyond = s.beyond; image = to (shown a left) s.image }

-- what stands over a device that stands itself
pub stands_then : (a : Areas) (before mid left : List ℕ) (P Q : List ℕ → Type 0) → Stands a before P mid → Stands a mid Q left → Stands a before Q left
stands_then a before mid left P Q s t = record { size = t.size ∙ s.size; label = t.label ∙ s.label; beyond = t.beyond ∙ s.beyond; image = t.image }

-- and the other way
pub stands_back : (a : Areas) (before mid left : List ℕ) (P Q : List ℕ → Type 0) → Stands a before P mid → Stands a before Q left → Stands a mid Q left
stands_back a before mid left P Q s t = record { size = t.size ∙ sym s.size; label = t.label ∙ sym s.label; beyond = t.beyond ∙ sym s.beyond; image = t.image }

pub stands_self : (a : Areas) (bytes : List ℕ) (P : List ℕ → Type 0) → P (shown a bytes) → Stands a bytes P bytes
stands_self a bytes P p = record { size = refl; label = refl; beyond = refl; image = p }

-- with nothing pending a crash leaves the image
pub stands_durable : (a : Areas) (d : Device) → d.now.pending ≡ [] → AlwaysWhole d (StandsStill a d.now.bytes)
stands_durable a d durable = always_only d (StandsStill a d.now.bytes) durable (stands_self a d.now.bytes (λ image. image ≡ shown a d.now.bytes) refl)

-- the one image or the other is bytes of both
pub turned_mixed : (a : Areas) (entries : List Entry) (before left : List ℕ) → StandsTurned a entries before left
    → StandsMixed a (replayed entries (shown a before)) before left
turned_mixed a entries before left s =
    let old = shown a before in
    stands_weaker a before left (λ image. (image ≡ old) ⊎ (image ≡ replayed entries old)) (λ image. IsEither old (replayed entries old) image)
    (λ image or. elim or [
      | inl is ↦ record { size = ap length is; each = λ i. inl (ap (λ (xs : List ℕ). get_or xs i 0) is) }
      | inr is ↦ record { size = ap length is ∙ length_replayed entries old; each = λ i. inr (ap (λ (xs : List ℕ). get_or xs i 0) is) }
    ]) s

pub leaves_mixed : (a : Areas) (entries next : List Entry) (before : List ℕ) (old new : Device) → entries ≡ next
    → LeavesWhole old new (StandsTurned a entries before)
    → LeavesWhole old new (StandsMixed a (replayed next (shown a before)) before)
leaves_mixed a entries next before old new is leaves =
    subst (λ (es : List Entry). LeavesWhole old new (StandsMixed a (replayed es (shown a before)) before)) is
    (leaves_weaker (turned_mixed a entries before) leaves)

-- bytes of the last sync's image and of this one's are what a crash of the disk may leave
pub either_possible : (m : Moment) (old new image : List ℕ) → m.bytes ≡ new → Image m old → IsEither old new image → Image m image
either_possible m old new image is possible either = record {
  size = either.size ∙ possible.size;
  same = λ i clear. ⊎_elim (λ was. was ∙ possible.same i clear) (λ now. now ∙ ap (λ (xs : List ℕ). get_or xs i 0) (sym is)) (either.each i);
}

-- so calls that leave them leave what the disk may
pub leaves_possible : (a : Areas) (m : Moment) (image : List ℕ) (old new : Device) → m.bytes ≡ image → Image m (shown a old.now.bytes)
    → LeavesWhole old new (StandsMixed a image old.now.bytes) → LeavesWhole old new (Stands a old.now.bytes (λ left. Image m left))
leaves_possible a m image old new is possible leaves =
    leaves_weaker
    (λ left s. stands_weaker a old.now.bytes left (λ x. IsEither (shown a old.now.bytes) image x) (λ x. Image m x)
    (λ x either. either_possible m (shown a old.now.bytes) image x is possible either) s) leaves

-- what reads is one of the images that a crash may leave
pub mixed_reads : (d : Device) → MixedNow d d.now.bytes
mixed_reads d =
    let before = if length d.now.pending == 0 then [] else contents_since d.past in
    record {
      size = any_first (λ (content : List ℕ). length d.now.bytes ≡ length content) d.now.bytes before refl;
      each = λ i. any_first (λ (content : List ℕ). sector i d.now.bytes ≡ sector i content) d.now.bytes before refl;
    }

-- ---- what is kept ----

-- all is durable
pub kept_settled : (a : Areas) (second : Bool) (stamp : ℕ) (last : List Entry) (image bytes : List ℕ) (d : Device) → bytes ≡ image
    → length image ≡ image_bytes a
    → IsAtRest a second stamp last d → AreWordPlaces last → shown a d.now.bytes ≡ image
    → IsKept a second stamp last [] false image (record { bytes = bytes; pending = [] }) d
kept_settled a second stamp last image bytes d is size rest places here =
    let m : Moment = record { bytes = bytes; pending = [] } in
    let possible : Image m (shown a d.now.bytes) = subst (λ (xs : List ℕ). SameOutside [] bytes xs) (is ∙ sym here) (outside_refl [] bytes) in
    record {
      bytes = is;
      size = size;
      room = rest.rests.room;
      crash = always_only d (Stands a d.now.bytes (λ left. Image m left)) rest.durable (stands_self a d.now.bytes (λ left. Image m left) possible);
      works = λ same. record {
        rest = rest;
        places = places;
        within = All-nil (λ (place : ℕ). (place ≡ place / 8 * 8) × (place + 8 ≤ image_bytes a));
        differs = λ i. inl (ap (λ (xs : List ℕ). get_or xs i 0) (sym here));
        possible = possible;
      };
    }

-- what an opening has found
pub opened_kept : (opened : Opened) (d : Device) → IsOpened opened d
    → IsKept opened.areas opened.second opened.stamp [] [] false opened.image.items (record { bytes = opened.image.items; pending = [] }) d
opened_kept opened d o =
    let rest : IsAtRest opened.areas opened.second opened.stamp [] d = record { durable = o.home.durable; rests = o.home.cleared.rests } in
    kept_settled opened.areas opened.second opened.stamp [] opened.image.items opened.image.items d refl (ap length (sym o.image) ∙ (rest_brings rest).size)
    rest
    (All-nil (λ (e : Entry). e.at ≡ e.at / 8 * 8)) o.image

-- a call has failed
pub kept_failed : (a : Areas) (second second' : Bool) (stamp stamp' : ℕ) (last last' : List Entry) (touched touched' : List ℕ) (is_over : Bool)
    (image : List ℕ) (m : Moment) (old new : Device)
    → IsKept a second stamp last touched is_over image m old → LeavesWhole old new (Stands a old.now.bytes (λ left. Image m left))
    → IsKept a second' stamp' last' touched' true image m new
kept_failed a second second' stamp stamp' last last' touched touched' is_over image m old new k leaves =
    let always = since_always leaves k.crash in
    let here : Stands a old.now.bytes (λ left. Image m left) new.now.bytes = always new.now.bytes (mixed_reads new) in
    record {
      bytes = k.bytes;
      size = k.size;
      room = omega (arith, k.room, here.size);
      crash = λ left mixed. stands_back a old.now.bytes new.now.bytes left (λ left. Image m left) (λ left. Image m left) here (always left mixed);
      works = λ same. absurd (cc);
    }

-- a write into the disk leaves what might be left before
pub image_written : (m : Moment) (at : ℕ) (content image : List ℕ) → at + length content ≤ length m.bytes → Image m image
    → Image (record { bytes = spliced m.bytes at content; pending = range_of at content ∷ m.pending }) image
image_written m at content image fits left =
    torn_forth (range_of at content) m.pending m.bytes (spliced m.bytes at content) image image (spliced_same m.bytes content at fits) left
    (outside_refl (range_of at content ∷ []) image)

pub kept_written : (a : Areas) (second : Bool) (stamp : ℕ) (last : List Entry) (touched touched' : List ℕ) (is_over : Bool) (image : List ℕ) (m : Moment)
    (d : Device) (at : ℕ) (content : List ℕ)
    → at + length content ≤ length image → AreWithin (image_bytes a) touched'
    → ((i : ℕ) → Touches touched i ⊎ ((at ≤ i) × (i < at + length content)) → Touches touched' i)
    → IsKept a second stamp last touched is_over image m d
    → IsKept a second stamp last touched' is_over (spliced image at content)
    (record { bytes = spliced m.bytes at content; pending = range_of at content ∷ m.pending }) d
kept_written a second stamp last touched touched' is_over image m d at content fits within all k =
    let m' : Moment = record { bytes = spliced m.bytes at content; pending = range_of at content ∷ m.pending } in
    let long : at + length content ≤ length m.bytes = subst (λ (xs : List ℕ). at + length content ≤ length xs) (sym k.bytes) fits in
    record {
      bytes = ap (λ (xs : List ℕ). spliced xs at content) k.bytes;
      size = length_spliced image content at fits ∙ k.size;
      room = k.room;
      crash = λ left mixed.
          stands_weaker a d.now.bytes left (λ x. Image m x) (λ x. Image m' x) (λ x possible. image_written m at content x long possible) (k.crash left mixed);
      works = λ works.
          let o = k.works works in record {
            rest = o.rest;
            places = o.places;
            within = within;
            differs = touched_written touched touched' (shown a d.now.bytes) image at content fits all o.differs;
            possible = image_written m at content (shown a d.now.bytes) long o.possible;
          };
    }

-- ---- a sync ----

-- the entries that were made of the words that were touched, and each once
module _ {a : Areas} {second : Bool} {stamp : ℕ} {last : List Entry} {touched : List ℕ} {is_over : Bool} {image : List ℕ} {m : Moment} {d : Device}
    (k : IsKept a second stamp last touched is_over image m d) (works : is_over ≡ false) (next : List Entry) {read : List ℕ} (law : ReplayLaw)
    (is : read ≡ image) (own : AreOf read next) (covers : (i : ℕ) → Touches touched i → Covers next i) where
  -- they make the memory's image of what the device stands for
  pub sync_image : replayed next (shown a d.now.bytes) ≡ image
  sync_image =
      let o = k.works works in
      let old = shown a d.now.bytes in
      law next old image (subst (λ (xs : List ℕ). AreOf xs next) is own)
      (touched_differ next touched old image (ap length (sym k.bytes) ∙ sym o.possible.size) covers o.differs)

  -- and are the own ones of what they make
  pub sync_own : AreOf (replayed next (shown a d.now.bytes)) next
  sync_own = subst (λ (xs : List ℕ). AreOf xs next) (is ∙ sym sync_image) own

  -- whatever a sync leaves is what the disk may
  pub sync_possible : {new : Device} → LeavesWhole d new (StandsMixed a (replayed next (shown a d.now.bytes)) d.now.bytes)
      → LeavesWhole d new (Stands a d.now.bytes (λ left. Image m left))
  sync_possible {new = new} leaves =
      leaves_possible a m image d new k.bytes (k.works works).possible
      (subst (λ (xs : List ℕ). LeavesWhole d new (StandsMixed a xs d.now.bytes)) sync_image leaves)

  -- where it makes a turn, that is the image of before or the disk's
  pub sync_turned : {new : Device} → LeavesWhole d new (StandsTurned a next d.now.bytes)
      → LeavesWhole d new (Stands a d.now.bytes (λ left. (left ≡ shown a d.now.bytes) ⊎ (left ≡ m.bytes)))
  sync_turned {new = new} leaves =
      subst (λ (xs : List ℕ). LeavesWhole d new (Stands a d.now.bytes (λ left. (left ≡ shown a d.now.bytes) ⊎ (left ≡ xs)))) (sync_image ∙ sym k.bytes) leaves

  module _ (count : length next ≡ words_among (length read / 8) touched) where
    many : length next ≡ words_among (a.image * 512) touched
    many =
        let words : length read / 8 ≡ a.image * 512 = omega (arith, ap length is, k.size) in
        count ∙ ap (λ (n : ℕ). words_among n touched) words

    -- what waits fits into a half, or doesn't
    pub sync_fits : pages_for (words_among (a.image * 512) touched) * 4096 ≤ half_bytes a → pages_for (length next) ≤ a.half
    sync_fits fits = subst (λ (n : ℕ). pages_for n ≤ a.half) (sym many) (omega (arith, fits))

    pub sync_past : ¬ (pages_for (words_among (a.image * 512) touched) * 4096 ≤ half_bytes a) → a.half < pages_for (length next)
    sync_past not_fits = elim (cases_lt a.half (pages_for (words_among (a.image * 512) touched))) [
      | inl less ↦ subst (λ (n : ℕ). a.half < pages_for n) (sym many) less
      | inr fits ↦ absurd (not_fits (omega (arith, fits)))
    ]

-- one failure more
pub failed_more : (n m : ℕ) → n < 2 ^ 64 → m ≡ min (n + 1) (2 ^ 64 - 1) → HasFailed n m
failed_more n m fits is = record { later = omega arith; rose = elim (cases_lt n (2 ^ 64 - 1)) [ inl less ↦ inl (omega arith) | inr last ↦ inr (omega arith) ] }

-- ---- the way past the journal ----

-- a half that has a batch has a page
pub has_page : (a : Areas) (second : Bool) (stamp : ℕ) (entries : List Entry) (image bytes : List ℕ) → Rests a second stamp entries image bytes
    → 4096 ≤ half_bytes a
has_page a second stamp entries image bytes r = elim (cases_lt 0 a.half) [
  | inl some ↦ omega arith
  | inr none ↦
      let zero : half_bytes a ≡ 0 = omega arith in
      let nothing : half_of a second bytes ≡ [] = ap (λ (n : ℕ). take n (drop (half_at a second) bytes)) zero in
      absurd (cc (ap batch_in nothing, r.newest))
]

-- over an image in its place these entries bring the next one there
pub next_brings : (a : Areas) (second : Bool) (stamp : ℕ) (next : List Entry) (image : List ℕ) (d : Device) → IsAllHome a second stamp d
    → shown a d.now.bytes ≡ image
    → AreOf (replayed next image) next → BringsHome a (replayed next image) next d
next_brings a second stamp next image d home is own =
    let rest : IsAtRest a second stamp [] d = record { durable = home.durable; rests = home.cleared.rests } in record {
      size = length_replayed next image ∙ ap length (sym is) ∙ (rest_brings rest).size;
      own = own;
      rest = subst (λ (xs : List ℕ). DifferWithin next xs (replayed next image)) (sym is ∙ rest.rests.alone) (differ_replayed next image);
    }

-- an image that stays is one of bytes of both
pub still_mixed : (a : Areas) (later before left : List ℕ) → StandsStill a before left → StandsMixed a later before left
still_mixed a later before left s =
    stands_weaker a before left (λ image. image ≡ shown a before) (λ image. IsEither (shown a before) later image)
    (λ image is. record { size = ap length is; each = λ i. inl (ap (λ (xs : List ℕ). get_or xs i 0) is) }) s

-- the image is brought to its place, and then another one written there
pub past_leaves : (a : Areas) (later : List ℕ) (old mid new : Device) → old.now.pending ≡ [] → LeavesWhole old mid (StandsStill a old.now.bytes)
    → LeavesWhole mid new (StandsMixed a later mid.now.bytes) → LeavesWhole old new (StandsMixed a later old.now.bytes)
past_leaves a later old mid new durable first second =
    let before = old.now.bytes in
    let here : StandsStill a before mid.now.bytes = since_always first (stands_durable a old durable) mid.now.bytes (mixed_reads mid) in
    leaves_then (leaves_weaker (still_mixed a later before) first)
    (leaves_weaker
    (λ left s. stands_then a before mid.now.bytes left (λ image. image ≡ shown a before) (λ image. IsEither (shown a before) later image) here
    (subst (λ (xs : List ℕ). Stands a mid.now.bytes (λ image. IsEither xs later image) left) here.image s)) second)
