-- What a turn leaves: the parts of what is between two contents, and the image that a device stands for.
use Rattle.std.proofs.Common.{◌≡◌, ◌⊎◌, inl, inr, ℕ, suc, ◌+◌, ◌*◌, ◌<◌, ◌≤◌, Bool, true, false, not, List, [], Option, Some, None, length, get_or, refl, sym, ◌∙◌, ap, subst, arith, length-take, length-drop, nat_lt, ◌==◌}
use Rattle.std.proofs.lemmas.Bool.{cases_lt, lt-ltb, le-ltb}
use Rattle.std.proofs.lemmas.Bool.Decides.{eqb_tells, nat_tests}
use Rattle.std.proofs.lemmas.List.{ext_get_or, get_or_past}
use Rattle.block_disk.specs.Bytes.{part, spliced}
use Rattle.block_disk.proofs.Bytes.{get_or_part, part_part, same_part, length_spliced}
use Rattle.atomic_sectors.specs.Sectors.{sector}
use Rattle.journal_batches.specs.declared.areas.Areas.{Areas}
use Rattle.journal_batches.specs.declared.entry.Entry.{Entry}
use Rattle.journal_batches.specs.Areas.{half_at, half_bytes, half_of, home_of, image_at, image_bytes, room_of, with_half}
use Rattle.journal_batches.specs.Batches.{AllUpTo, Batch, StampsUpTo, batch_in, stamp_at}
use Rattle.journal_batches.specs.Entries.{IsEither, replayed}
use Rattle.journal_batches.specs.Laws.{RestsLaw, TurnLaw, TurnedLaw}
use Rattle.journal_batches.specs.Mixed.{IsBetween}
use Rattle.journal_batches.specs.Rests.{turned}
use Rattle.journal_batches.specs.Shown.{is_second_newest, newest_half, shown, under_both}
use Rattle.journal_batches.specs.Spelled.{CanSpell, spelled}
use Rattle.journal_batches.proofs.EntryLemmas.{again, length_replayed, replayed_twice}
use Rattle.journal_batches.proofs.HalfLemmas.{half_holds, length_spelled, spelled_holds, stamps_hold}
use Rattle.journal_batches.proofs.MixLemmas.{half_fits, half_with_half, half_with_home, half_with_other, home_with_home, length_half, length_home, length_with_half, length_with_home}

-- ---- what is between two contents ----

-- what both have at a place
between_part : (a : Areas) (at n : ℕ) (old new image : List ℕ) → at + n ≤ length old → part at n new ≡ part at n old → IsBetween a old new image → part at n image ≡ part at n old
between_part a at n old new image fits same between =
    same_part at n old image fits (omega (arith, between.size)) (λ i within. elim (between.bytes (at + i)) [
      | inl is ↦ is
      | inr is ↦ is ∙ sym (get_or_part at n new i within) ∙ ap (λ (xs : List ℕ). get_or xs i 0) same ∙ get_or_part at n old i within
    ])

-- a half that both have
pub between_same : (a : Areas) (s : Bool) (old new image : List ℕ) → room_of a ≤ length old → half_of a s new ≡ half_of a s old → IsBetween a old new image
    → half_of a s image ≡ half_of a s old
between_same a s old new image room same between = between_part a (half_at a s) (half_bytes a) old new image (half_fits a old room s) same between

-- an image that both have
pub between_home : (a : Areas) (old new image : List ℕ) → room_of a ≤ length old → home_of a new ≡ home_of a old → IsBetween a old new image → home_of a image ≡ home_of a old
between_home a old new image room same between = between_part a (image_at a) (image_bytes a) old new image room same between

-- the bytes of two images
pub between_either : (a : Areas) (old new image : List ℕ) → room_of a ≤ length old → IsBetween a old new image → IsEither (home_of a old) (home_of a new) (home_of a image)
between_either a old new image room between =
    let was : length (home_of a old) ≡ image_bytes a = length_home a old room in
    let is : length (home_of a image) ≡ image_bytes a = length_home a image (omega (arith, between.size)) in
    record {
      size = is ∙ sym was;
      each = λ i. elim (cases_lt i (image_bytes a)) [
        | inl within ↦
            let here : get_or (home_of a image) i 0 ≡ get_or image (image_at a + i) 0 = get_or_part (image_at a) (image_bytes a) image i within in
            elim (between.bytes (image_at a + i)) [
              | inl same ↦ inl (here ∙ same ∙ sym (get_or_part (image_at a) (image_bytes a) old i within))
              | inr same ↦ inr (here ∙ same ∙ sym (get_or_part (image_at a) (image_bytes a) new i within))
            ]
        | inr past ↦ inl (get_or_past (home_of a image) i 0 (omega arith) ∙ sym (get_or_past (home_of a old) i 0 (omega arith)))
      ];
    }

-- the number of a half's first sector
abbrev first_of : Areas → (second : Bool) → ℕ
first_of a false = 8
first_of a true = 8 + a.half * 8

first_is : (a : Areas) (s : Bool) (i : ℕ) → half_at a s + i * 512 ≡ (first_of a s + i) * 512
first_is a false i = omega arith
first_is a true i = omega arith

first_low : (a : Areas) (s : Bool) (i : ℕ) → i * 512 + 512 ≤ half_bytes a → (first_of a s + i) * 512 + 512 ≤ image_at a
first_low a false i fits = omega arith
first_low a true i fits = omega arith

-- a half's sectors are sectors of the device
sector_half : (a : Areas) (s : Bool) (i : ℕ) (bytes : List ℕ) → i * 512 + 512 ≤ half_bytes a → sector i (half_of a s bytes) ≡ sector (first_of a s + i) bytes
sector_half a s i bytes fits = part_part (i * 512) 512 (half_at a s) (half_bytes a) bytes fits ∙ ap (λ (at : ℕ). part at 512 bytes) (first_is a s i)

-- past the end a sector has no bytes
sector_past : (i : ℕ) (xs : List ℕ) → length xs ≤ i * 512 → length (sector i xs) ≡ 0
sector_past i xs past = simp (length-take, length-drop) (omega arith)

-- so the sectors of a half are between those of both contents
pub between_half : (a : Areas) (s : Bool) (old new image : List ℕ) → room_of a ≤ length old → IsBetween a old new image → (i : ℕ)
    → (sector i (half_of a s image) ≡ sector i (half_of a s old)) ⊎ (sector i (half_of a s image) ≡ sector i (half_of a s new))
between_half a s old new image room between i = elim (cases_lt (i * 512) (half_bytes a)) [
  | inl less ↦
      let fits : i * 512 + 512 ≤ half_bytes a = omega arith in
      elim (between.sectors (first_of a s + i) (first_low a s i fits)) [
        | inl is ↦ inl (sector_half a s i image fits ∙ is ∙ sym (sector_half a s i old fits))
        | inr is ↦ inr (sector_half a s i image fits ∙ is ∙ sym (sector_half a s i new fits))
      ]
  | inr past ↦
      let one : length (half_of a s image) ≡ half_bytes a = length_half a image (omega (arith, between.size)) s in
      let two : length (half_of a s old) ≡ half_bytes a = length_half a old room s in
      let none : length (sector i (half_of a s image)) ≡ 0 = sector_past i (half_of a s image) (omega arith) in
      let none' : length (sector i (half_of a s old)) ≡ 0 = sector_past i (half_of a s old) (omega arith) in
      inl (ext_get_or 0 (sector i (half_of a s image)) (sector i (half_of a s old)) (none ∙ sym none') (λ k within. absurd (omega arith)))
]

-- ---- what a device stands for ----

-- the other half of the other half
pub not_not : (s : Bool) → not (not s) ≡ s
not_not false = refl
not_not true = refl

-- the image under the batch of half `s` and that of the other, and whether the second half has the newest: the choice of `s` is made here once
abbrev pub both : (s : Bool) → (mine other : Option Batch) → List ℕ → List ℕ
both false mine other home = under_both mine other home
both true mine other home = under_both other mine home

abbrev pub newest_of : (s : Bool) → (mine other : Option Batch) → Bool
newest_of false mine other = is_second_newest mine other
newest_of true mine other = is_second_newest other mine

-- what a device stands for, by either choice
pub shown_both : (a : Areas) (s : Bool) (bytes : List ℕ) → shown a bytes ≡ both s (batch_in (half_of a s bytes)) (batch_in (half_of a (not s) bytes)) (home_of a bytes)
shown_both a false bytes = refl
shown_both a true bytes = refl

pub newest_both : (a : Areas) (s : Bool) (bytes : List ℕ) → newest_half a bytes ≡ newest_of s (batch_in (half_of a s bytes)) (batch_in (half_of a (not s) bytes))
newest_both a false bytes = refl
newest_both a true bytes = refl

pub both_other : (s : Bool) (mine other : Option Batch) (home : List ℕ) → both s mine other home ≡ both (not s) other mine home
both_other false mine other home = refl
both_other true mine other home = refl

-- a batch with none just before it
pub both_alone : (s : Bool) (b : Batch) (other : Option Batch) (home : List ℕ) → ((c : Batch) → other ≡ Some c → suc c.stamp < b.stamp)
    → both s (Some b) other home ≡ replayed b.entries home
both_alone false b None home older = refl
both_alone true b None home older = refl
both_alone false b (Some c) home older =
    let less : suc c.stamp < b.stamp = older c refl in
    let one : nat_lt b.stamp c.stamp ≡ false = le-ltb b.stamp c.stamp (omega arith) in
    let two : (suc c.stamp == b.stamp) ≡ false = grind (arith, nat_tests) in
    rw one (rw two refl)
both_alone true b (Some c) home older =
    let less : suc c.stamp < b.stamp = older c refl in
    let one : nat_lt c.stamp b.stamp ≡ true = lt-ltb c.stamp b.stamp (omega arith) in
    let two : (suc c.stamp == b.stamp) ≡ false = grind (arith, nat_tests) in
    rw one (rw two refl)

-- a batch and the one just before it
pub both_after : (s : Bool) (b c : Batch) (home : List ℕ) → suc c.stamp ≡ b.stamp → both s (Some b) (Some c) home ≡ replayed b.entries (replayed c.entries home)
both_after false b c home next =
    let one : nat_lt b.stamp c.stamp ≡ false = le-ltb b.stamp c.stamp (omega arith) in
    let two : (suc c.stamp == b.stamp) ≡ true = grind (arith, nat_tests) in
    rw one (rw two refl)
both_after true b c home next =
    let one : nat_lt c.stamp b.stamp ≡ true = lt-ltb c.stamp b.stamp (omega arith) in
    let two : (suc c.stamp == b.stamp) ≡ true = grind (arith, nat_tests) in
    rw one (rw two refl)

-- the batch with the later stamp is the newest
pub newest_mine : (s : Bool) (b : Batch) (other : Option Batch) → ((c : Batch) → other ≡ Some c → c.stamp < b.stamp) → newest_of s (Some b) other ≡ s
newest_mine false b None older = refl
newest_mine true b None older = refl
newest_mine false b (Some c) older = let less : c.stamp < b.stamp = older c refl in le-ltb b.stamp c.stamp (omega arith)
newest_mine true b (Some c) older = let less : c.stamp < b.stamp = older c refl in lt-ltb c.stamp b.stamp (omega arith)

-- an image that both batches make, and the newer one alone
pub both_make : (s : Bool) (b : Batch) (other : Option Batch) (home image : List ℕ) → image ≡ replayed b.entries home → ((c : Batch) → other ≡ Some c → c.stamp < b.stamp)
    → ((c : Batch) → other ≡ Some c → suc c.stamp ≡ b.stamp → image ≡ replayed b.entries (replayed c.entries home)) → both s (Some b) other home ≡ image
both_make s b None home image alone older after = both_alone s b None home (λ c is. absurd cc) ∙ sym alone
both_make s b (Some c) home image alone older after = elim (eqb_tells (suc c.stamp) b.stamp) [
  | inl next ↦ both_after s b c home next.1 ∙ sym (after c refl next.1)
  | inr apart ↦
      let less : c.stamp < b.stamp = older c refl in
      let before : suc c.stamp < b.stamp = omega (arith, apart.1) in
      both_alone s b (Some c) home (λ d is. let same : c ≡ d = cc in subst (λ (e : Batch). suc e.stamp < b.stamp) same before) ∙ sym alone
]

-- ---- the laws of turns ----

-- a device between turns stands for the image
pub rests : RestsLaw
rests a s stamp entries image bytes r =
    let other = batch_in (half_of a (not s) bytes) in
    let b : Batch = record { stamp = stamp; entries = entries } in (
      shown_both a s bytes ∙ ap (λ (o : Option Batch). both s o other (home_of a bytes)) r.newest
          ∙ both_make s b other (home_of a bytes) image r.alone r.earlier r.after,
      newest_both a s bytes ∙ ap (λ (o : Option Batch). newest_of s o other) r.newest ∙ newest_mine s b other r.earlier,
    )

-- a batch that can be spelled fits into a half
pub spelled_fits : (a : Areas) (stamp : ℕ) (entries : List Entry) → CanSpell a stamp entries → length (spelled stamp entries) ≤ half_bytes a
spelled_fits a stamp entries can = omega (arith, length_spelled stamp entries, can.fits)

-- the parts of a device after a turn
module _ (a : Areas) (s : Bool) (stamp : ℕ) (entries : List Entry) (image bytes : List ℕ) (can : CanSpell a stamp entries) (long : length image ≡ image_bytes a)
    (room : room_of a ≤ length bytes) where
  abbrev with_batch : List ℕ
  with_batch = with_half a (not s) (spelled stamp entries) bytes

  length_with_batch : length with_batch ≡ length bytes
  length_with_batch = length_with_half a bytes room (spelled stamp entries) (not s) (spelled_fits a stamp entries can)

  has_room : room_of a ≤ length with_batch
  has_room = omega (arith, length_with_batch)

  length_turned : length (turned a s stamp entries image bytes) ≡ length bytes
  length_turned = length_with_home a with_batch has_room image long ∙ length_with_batch

  home_turned : home_of a (turned a s stamp entries image bytes) ≡ image
  home_turned = home_with_home a with_batch has_room image long

  -- the one half is as it was
  mine_turned : half_of a s (turned a s stamp entries image bytes) ≡ half_of a s bytes
  mine_turned = half_with_home a with_batch has_room image long s ∙ half_with_other a bytes room (spelled stamp entries) s (spelled_fits a stamp entries can)

  -- the other one begins with the batch
  other_turned : half_of a (not s) (turned a s stamp entries image bytes) ≡ spliced (half_of a (not s) bytes) 0 (spelled stamp entries)
  other_turned =
      half_with_home a with_batch has_room image long (not s)
      ∙ half_with_half a bytes room (spelled stamp entries) (not s) (spelled_fits a stamp entries can)

-- what a crash leaves of a half while a batch is written to it whose stamp none had
pub half_left : (a : Areas) (s : Bool) (top stamp : ℕ) (entries : List Entry) (old new left : List ℕ) → room_of a ≤ length old → AllUpTo a top old → top < stamp
    → CanSpell a stamp entries → half_of a s new ≡ spliced (half_of a s old) 0 (spelled stamp entries) → IsBetween a old new left
    → (batch_in (half_of a s left) ≡ None)
    ⊎ ((batch_in (half_of a s left) ≡ batch_in (half_of a s old)) ⊎ (batch_in (half_of a s left) ≡ Some (record { stamp = stamp; entries = entries })))
half_left a s top stamp entries old new left room stamps later can is between =
    let long : length (half_of a s old) ≡ half_bytes a = length_half a old room s in
    let long' : length (half_of a s left) ≡ half_bytes a = length_half a left (omega (arith, between.size)) s in
    half_holds a stamp entries (half_of a s old) (half_of a s left) long can
    (λ i fits same. let low : stamp_at i (half_of a s old) ≤ top = stamps s i fits in absurd (omega (arith, same)))
    (long' ∙ sym long)
    (λ i. subst (λ (xs : List ℕ). (sector i (half_of a s left) ≡ sector i (half_of a s old)) ⊎ (sector i (half_of a s left) ≡ sector i xs)) is
    (between_half a s old new left room between i))

-- what holds of one and of the other holds of each
each_half : (P : Bool → Type 0) (s : Bool) → P s → P (not s) → (t : Bool) → P t
each_half P false mine other false = mine
each_half P false mine other true = other
each_half P true mine other true = mine
each_half P true mine other false = other

-- and after it no stamp is later than the batch's
pub stamps_after : (a : Areas) (s : Bool) (top stamp : ℕ) (entries : List Entry) (old new : List ℕ) → room_of a ≤ length old → AllUpTo a top old → top ≤ stamp
    → CanSpell a stamp entries → half_of a s new ≡ spliced (half_of a s old) 0 (spelled stamp entries) → half_of a (not s) new ≡ half_of a (not s) old → AllUpTo a stamp new
stamps_after a s top stamp entries old new room stamps later can is same =
    let half = half_of a s old in
    let long : length half ≡ half_bytes a = length_half a old room s in
    let fits : 0 + length (spelled stamp entries) ≤ length half = omega (arith, spelled_fits a stamp entries can) in
    each_half (λ (t : Bool). StampsUpTo stamp (half_of a t new)) s
    (subst (λ (xs : List ℕ). StampsUpTo stamp xs) (sym is)
    (λ i within.
    let within' : i * 512 + 512 ≤ length half = omega (arith, length_spliced half (spelled stamp entries) 0 fits) in
    let low : stamp_at i half ≤ top = stamps s i within' in
    elim (stamps_hold a stamp entries half i long can within') [ inl old_one ↦ omega (arith, old_one) | inr new_one ↦ omega (arith, new_one) ]))
    (subst (λ (xs : List ℕ). StampsUpTo stamp xs) (sym same)
    (λ i within. let low : stamp_at i (half_of a (not s) old) ≤ top = stamps (not s) i within in omega arith))

-- a crash in a turn: the other half has no batch, the one that it had, or the next one
pub turn : TurnLaw
turn a s stamp entries later image bytes left r can between =
    let new = turned a s (suc stamp) later image bytes in
    let home = home_of a bytes in
    let home' = home_of a left in
    let b : Batch = record { stamp = stamp; entries = entries } in
    let c : Batch = record { stamp = suc stamp; entries = later } in
    let other = batch_in (half_of a (not s) bytes) in
    let long : length image ≡ image_bytes a = ap length r.alone ∙ length_replayed entries home ∙ length_home a bytes r.room in
    let mine : batch_in (half_of a s left) ≡ Some b =
    ap batch_in (between_same a s bytes new left r.room (mine_turned a s (suc stamp) later image bytes can long r.room) between) ∙ r.newest in
    let either : IsEither home image home' =
    subst (λ (xs : List ℕ). IsEither home xs home') (home_turned a s (suc stamp) later image bytes can long r.room) (between_either a bytes new left r.room between) in
    let alone : replayed entries home' ≡ image =
    again [] entries home home' (subst (λ (xs : List ℕ). IsEither home xs home') r.alone either) ∙ sym r.alone in
    let stands : (o : Option Batch) → batch_in (half_of a (not s) left) ≡ o → shown a left ≡ both s (Some b) o home' =
    λ o is. shown_both a s left ∙ ap (λ (m : Option Batch). both s m (batch_in (half_of a (not s) left)) home') mine ∙ ap (λ (m : Option Batch). both s (Some b) m home') is in
    elim (half_left a (not s) stamp (suc stamp) later bytes new left r.room r.stamps (omega arith) can (other_turned a s (suc stamp) later image bytes can long r.room) between) [
      | inl none ↦ inl (stands None none ∙ both_alone s b None home' (λ d is. absurd cc) ∙ alone)
      | inr some ↦ elim some [
        | inl old ↦ inl (stands other old ∙ both_make s b other home' image (sym alone) r.earlier
            (λ d is next.
            let both_is : image ≡ replayed entries (replayed d.entries home) = r.after d is next in
            both_is ∙ sym (again d.entries entries home home' (subst (λ (xs : List ℕ). IsEither home xs home') both_is either))))
        | inr fresh ↦ inr (stands (Some c) fresh ∙ both_other s (Some b) (Some c) home' ∙ both_after (not s) c b home' refl ∙ ap (replayed later) alone)
      ]
    ]

-- after a turn the device is between turns again
pub turned_rests : TurnedLaw
turned_rests a s stamp entries later image bytes r can own =
    let new = turned a s (suc stamp) later image bytes in
    let home = home_of a bytes in
    let b : Batch = record { stamp = stamp; entries = entries } in
    let other = half_of a (not s) bytes in
    let long : length image ≡ image_bytes a = ap length r.alone ∙ length_replayed entries home ∙ length_home a bytes r.room in
    let home_is : home_of a new ≡ image = home_turned a s (suc stamp) later image bytes can long r.room in
    let other_is : half_of a (not s) new ≡ spliced other 0 (spelled (suc stamp) later) = other_turned a s (suc stamp) later image bytes can long r.room in
    let mine_is : half_of a s new ≡ half_of a s bytes = mine_turned a s (suc stamp) later image bytes can long r.room in
    let size : length new ≡ length bytes = length_turned a s (suc stamp) later image bytes can long r.room in
    let itself : replayed entries image ≡ image =
    subst (λ (xs : List ℕ). replayed entries xs ≡ xs) (sym r.alone) (replayed_twice entries home) in
    let was : (d : Batch) → batch_in (half_of a (not (not s)) new) ≡ Some d → b ≡ d =
    λ d is. let mine : batch_in (half_of a s new) ≡ Some d = subst (λ (t : Bool). batch_in (half_of a t new) ≡ Some d) (not_not s) is in
    let newest : batch_in (half_of a s bytes) ≡ Some b = r.newest in
    let same : batch_in (half_of a s new) ≡ batch_in (half_of a s bytes) = ap batch_in mine_is in
    cc in
    let long_other : length other ≡ half_bytes a = length_half a bytes r.room (not s) in
    record {
      room = omega (arith, size, r.room);
      newest = ap batch_in other_is ∙ spelled_holds a (suc stamp) later other long_other can;
      own = own;
      alone = ap (replayed later) (sym home_is);
      earlier = λ d is. let same : b ≡ d = was d is in subst (λ (e : Batch). e.stamp < suc stamp) same (omega arith);
      after = λ d is next.
          let same : b ≡ d = was d is in
          subst (λ (e : Batch). replayed later image ≡ replayed later (replayed e.entries (home_of a new))) same
          (ap (replayed later) (subst (λ (xs : List ℕ). image ≡ replayed entries xs) (sym home_is) (sym itself)));
      stamps = stamps_after a (not s) stamp (suc stamp) later bytes new r.room r.stamps (omega arith) can other_is
          (subst (λ (t : Bool). half_of a t new ≡ half_of a t bytes) (sym (not_not s)) mine_is);
    }
