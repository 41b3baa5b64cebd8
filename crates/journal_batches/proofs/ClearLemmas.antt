-- What an opening leaves, which brings the image to its place and then writes an empty batch, and a change that no half has room for.
use Rattle.std.proofs.Common.{◌≡◌, ◌⊎◌, inl, inr, ℕ, suc, ◌+◌, ◌*◌, ◌<◌, ◌≤◌, Bool, true, false, not, List, [], Option, Some, None, length, take, refl, sym, ◌∙◌, ap, subst, arith, nat_lt, ◌==◌}
use Rattle.std.specs.Prelude.{if◌then◌else◌, nat_le}
use Rattle.std.proofs.lemmas.Bool.{and_parts, leb-true}
use Rattle.block_disk.specs.Bytes.{spliced}
use Rattle.journal_batches.specs.declared.areas.Areas.{Areas}
use Rattle.journal_batches.specs.declared.entry.Entry.{Entry}
use Rattle.journal_batches.specs.Areas.{half_bytes, half_of, home_of, image_bytes, room_of, with_half, with_home}
use Rattle.journal_batches.specs.Batches.{AllUpTo, Batch, StampsUpTo, all_stamped, batch_in, count_in, entries_in, is_complete, number, sectors_for}
use Rattle.journal_batches.specs.Entries.{IsEither, replayed}
use Rattle.journal_batches.specs.Laws.{BroughtLaw, ClearLaw, ClearedLaw, HomeLaw, PassedLaw, PastLaw}
use Rattle.journal_batches.specs.Mixed.{IsBetween}
use Rattle.journal_batches.specs.Rests.{IsCleared}
use Rattle.journal_batches.specs.Shown.{is_second_newest, newest_half, shown, under, under_both}
use Rattle.journal_batches.specs.Spelled.{CanSpell, spelled}
use Rattle.journal_batches.proofs.EntryLemmas.{again, length_replayed, replayed_twice}
use Rattle.journal_batches.proofs.HalfLemmas.{spelled_holds}
use Rattle.journal_batches.proofs.MixLemmas.{half_with_half, half_with_home, half_with_other, home_with_half, home_with_home, length_half, length_home, length_with_half, length_with_home, other_with_half}
use Rattle.journal_batches.proofs.TurnLemmas.{between_either, between_home, between_same, both, both_alone, both_other, half_left, newest_both, newest_of, shown_both, spelled_fits, stamps_after}

-- ---- the image in its place ----

-- a batch over the one before it is over the entries of one, or of none
under_two : (b c : Batch) → (one : List Entry) × ((home : List ℕ) → under b c home ≡ replayed b.entries (replayed one home))
under_two b c =
    elim (suc c.stamp == b.stamp) as (λ t. (one : List Entry) × ((home : List ℕ) → replayed b.entries (if t then replayed c.entries home else home) ≡ replayed b.entries (replayed one home))) [
      | true ↦ (c.entries, λ home. refl)
      | false ↦ ([], λ home. refl)
    ]

-- so both halves are two lists of entries
as_two : (first second : Option Batch) → (one : List Entry) × (two : List Entry) × ((home : List ℕ) → under_both first second home ≡ replayed two (replayed one home))
as_two None None = ([], [], λ home. refl)
as_two (Some b) None = ([], b.entries, λ home. refl)
as_two None (Some b) = ([], b.entries, λ home. refl)
as_two (Some b) (Some c) =
    let u = under_two c b in
    let v = under_two b c in
    elim (nat_lt b.stamp c.stamp) as
    (λ t. (one : List Entry) × (two : List Entry) × ((home : List ℕ) → (if t then under c b home else under b c home) ≡ replayed two (replayed one home))) [
      | true ↦ (u.0, c.entries, u.1)
      | false ↦ (v.0, b.entries, v.1)
    ]

-- with the same halves a device stands for what they make of what it has in the image's place
shown_same : (a : Areas) (old new : List ℕ) → ((s : Bool) → half_of a s new ≡ half_of a s old)
    → shown a new ≡ under_both (batch_in (half_of a false old)) (batch_in (half_of a true old)) (home_of a new)
shown_same a old new same =
    ap (λ (xs : List ℕ). under_both (batch_in xs) (batch_in (half_of a true new)) (home_of a new)) (same false)
    ∙ ap (λ (xs : List ℕ). under_both (batch_in (half_of a false old)) (batch_in xs) (home_of a new)) (same true)

newest_same : (a : Areas) (old new : List ℕ) → ((s : Bool) → half_of a s new ≡ half_of a s old) → newest_half a new ≡ newest_half a old
newest_same a old new same =
    ap (λ (xs : List ℕ). is_second_newest (batch_in xs) (batch_in (half_of a true new))) (same false)
    ∙ ap (λ (xs : List ℕ). is_second_newest (batch_in (half_of a false old)) (batch_in xs)) (same true)

-- an image has its size
length_shown : (a : Areas) (bytes : List ℕ) → room_of a ≤ length bytes → length (shown a bytes) ≡ image_bytes a
length_shown a bytes room =
    let home = home_of a bytes in
    let two = as_two (batch_in (half_of a false bytes)) (batch_in (half_of a true bytes)) in
    ap length (two.2 home) ∙ length_replayed two.1 (replayed two.0 home) ∙ length_replayed two.0 home ∙ length_home a bytes room

-- a crash while the image is brought to its place: what the batches make of the bytes that it left there, they have made
pub home_left : HomeLaw
home_left a bytes left room between =
    let home = home_of a bytes in
    let home' = home_of a left in
    let image = shown a bytes in
    let two = as_two (batch_in (half_of a false bytes)) (batch_in (half_of a true bytes)) in
    let long : length image ≡ image_bytes a = length_shown a bytes room in
    let either : IsEither home image home' =
    subst (λ (xs : List ℕ). IsEither home xs home') (home_with_home a bytes room image long) (between_either a bytes (with_home a image bytes) left room between) in
    shown_same a bytes left (λ s. between_same a s bytes (with_home a image bytes) left room (half_with_home a bytes room image long s) between)
    ∙ two.2 home' ∙ again two.0 two.1 home home' (subst (λ (xs : List ℕ). IsEither home xs home') (two.2 home) either) ∙ sym (two.2 home)

-- and after it
pub brought : BroughtLaw
brought a bytes room =
    let image = shown a bytes in
    let long : length image ≡ image_bytes a = length_shown a bytes room in (
      home_left a bytes (with_home a image bytes) room
          (record { size = length_with_home a bytes room image long; sectors = λ i low. inr refl; bytes = λ i. inr refl }),
      newest_same a bytes (with_home a image bytes) (λ s. half_with_home a bytes room image long s),
    )

-- ---- an empty batch ----

-- the batch of the newest half is the last of those that make the image; where there is none, the other half has none either
newest_is : (s : Bool) (mine other : Option Batch) → newest_of s mine other ≡ s
    → (other ≡ None) ⊎ ((b : Batch) × (mine ≡ Some b) × (one : List Entry) × ((home : List ℕ) → both s mine other home ≡ replayed b.entries (replayed one home)))
newest_is s mine None is = inl refl
newest_is false None (Some c) is = absurd cc
newest_is true None (Some c) is = absurd cc
newest_is false (Some b) (Some c) is = let v = under_two b c in inr (b, refl, v.0, λ home. rw is (v.1 home))
newest_is true (Some b) (Some c) is = let v = under_two b c in inr (b, refl, v.0, λ home. rw is (v.1 home))

-- over the image itself it makes the image alone
none_over : (s : Bool) (mine other : Option Batch) (home : List ℕ) → newest_of s mine other ≡ s → home ≡ both s mine other home
    → both s mine None home ≡ both s mine other home
none_over s mine other home is same = elim (newest_is s mine other is) [
  | inl none ↦ ap (λ (o : Option Batch). both s mine o home) (sym none)
  | inr some ↦
      let b = some.0 in
      let make : both s mine other home ≡ replayed b.entries (replayed some.2 home) = some.3 home in
      ap (λ (o : Option Batch). both s o None home) some.1 ∙ both_alone s b None home (λ c none. absurd cc) ∙ ap (replayed b.entries) (same ∙ make) ∙ replayed_twice b.entries (replayed some.2 home) ∙ sym make
]

-- an empty batch, with none just before it
empty_over : (s : Bool) (mine : Option Batch) (home : List ℕ) (stamp : ℕ) → ((b : Batch) → mine ≡ Some b → suc b.stamp < stamp)
    → both s mine (Some (record { stamp = stamp; entries = [] })) home ≡ home
empty_over s mine home stamp older =
    let b : Batch = record { stamp = stamp; entries = [] } in
    both_other s mine (Some b) home ∙ both_alone (not s) b mine home older

-- where there is a batch, it is complete
chosen : (t : Bool) (x b : Batch) → (if t then Some x else None) ≡ Some b → (t ≡ true) × (x ≡ b)
chosen true x b is = (refl, cc)
chosen false x b is = absurd cc

-- a batch's stamp is that of its half's first sector
stamp_low : (top : ℕ) (half : List ℕ) (b : Batch) → StampsUpTo top half → batch_in half ≡ Some b → b.stamp ≤ top
stamp_low top half b stamps is =
    let x : Batch = record { stamp = number half; entries = take (count_in half) (entries_in (sectors_for (count_in half)) half) } in
    let both_are = chosen (is_complete half) x b is in
    let parts = and_parts (nat_le (sectors_for (count_in half) * 512) (length half)) (all_stamped (sectors_for (count_in half)) (number half) half) both_are.0 in
    let fits : sectors_for (count_in half) * 512 ≤ length half = leb-true (sectors_for (count_in half) * 512) (length half) parts.0 in
    let low : number half ≤ top = stamps 0 (omega arith) in
    subst (λ (c : Batch). c.stamp ≤ top) both_are.1 low

-- while it is written
clear_at : (a : Areas) (s : Bool) (top : ℕ) (bytes left : List ℕ) → newest_half a bytes ≡ s → room_of a ≤ length bytes → home_of a bytes ≡ shown a bytes
    → AllUpTo a top bytes → CanSpell a (top + 2) [] → IsBetween a bytes (with_half a (not s) (spelled (top + 2) []) bytes) left → shown a left ≡ shown a bytes
clear_at a s top bytes left is room same stamps can between =
    let content = spelled (top + 2) [] in
    let new = with_half a (not s) content bytes in
    let fits : length content ≤ half_bytes a = spelled_fits a (top + 2) [] can in
    let home = home_of a bytes in
    let mine = batch_in (half_of a s bytes) in
    let other = batch_in (half_of a (not s) bytes) in
    let mine_is : half_of a s left ≡ half_of a s bytes =
    between_same a s bytes new left room
    (half_with_other a bytes room content s fits) between in
    let home_is : home_of a left ≡ home = between_home a bytes new left room (home_with_half a bytes room content (not s) fits) between in
    let newest : newest_of s mine other ≡ s = sym (newest_both a s bytes) ∙ is in
    let stands : (o : Option Batch) → batch_in (half_of a (not s) left) ≡ o → shown a left ≡ both s mine o home =
    λ o there. shown_both a s left ∙ ap (λ (xs : List ℕ). both s (batch_in xs) (batch_in (half_of a (not s) left)) (home_of a left)) mine_is
    ∙ ap (λ (xs : List ℕ). both s mine (batch_in (half_of a (not s) left)) xs) home_is ∙ ap (λ (m : Option Batch). both s mine m home) there in
    let image_is : shown a bytes ≡ both s mine other home = shown_both a s bytes in
    elim (half_left a (not s) top (top + 2) [] bytes new left room stamps (omega arith) can (half_with_half a bytes room content (not s) fits) between) [
      | inl none ↦ stands None none ∙ none_over s mine other home newest (same ∙ image_is) ∙ sym image_is
      | inr some ↦ elim some [
        | inl old ↦ stands other old ∙ sym image_is
        | inr fresh ↦ stands (Some (record { stamp = top + 2; entries = [] })) fresh
            ∙ empty_over s mine home (top + 2) (λ b there. let low : b.stamp ≤ top = stamp_low top (half_of a s bytes) b (stamps s) there in omega arith) ∙ same
      ]
    ]

pub clear : ClearLaw
clear a top bytes left room same stamps can between = clear_at a (newest_half a bytes) top bytes left refl room same stamps can between

-- and after it
cleared_at : (a : Areas) (s : Bool) (top : ℕ) (image bytes : List ℕ) → room_of a ≤ length bytes → home_of a bytes ≡ image
    → AllUpTo a top bytes → CanSpell a (top + 2) [] → IsCleared a s (top + 2) image (with_half a s (spelled (top + 2) []) bytes)
cleared_at a s top image bytes room same stamps can =
    let content = spelled (top + 2) [] in
    let new = with_half a s content bytes in
    let fits : length content ≤ half_bytes a = spelled_fits a (top + 2) [] can in
    let mine_is : half_of a s new ≡ spliced (half_of a s bytes) 0 content = half_with_half a bytes room content s fits in
    let other_is : half_of a (not s) new ≡ half_of a (not s) bytes = other_with_half a bytes room content s fits in
    let older : (b : Batch) → batch_in (half_of a (not s) new) ≡ Some b → b.stamp ≤ top =
    λ b is. stamp_low top (half_of a (not s) bytes) b (stamps (not s)) (subst (λ (xs : List ℕ). batch_in xs ≡ Some b) other_is is) in
    record {
      rests = record {
        room = omega (arith, length_with_half a bytes room content s fits);
        newest = ap batch_in mine_is ∙ spelled_holds a (top + 2) [] (half_of a s bytes) (length_half a bytes room s) can;
        own = λ k d within. absurd (omega arith);
        alone = sym (home_with_half a bytes room content s fits ∙ same);
        earlier = λ b is. omega (arith, older b is);
        after = λ b is next. absurd (omega (arith, older b is));
        stamps = stamps_after a s top (top + 2) [] bytes new room stamps (omega arith) can mine_is other_is;
      };
      sole = λ b is next. omega (arith, older b is);
    }

pub cleared : ClearedLaw
cleared a top bytes room same stamps can = cleared_at a (not (newest_half a bytes)) top (shown a bytes) bytes room same stamps can

-- ---- another image ----

-- where nothing is to be replayed, the image's place is the image
shown_home : (a : Areas) (s : Bool) (stamp : ℕ) (image old new : List ℕ) → IsCleared a s stamp image old → ((t : Bool) → half_of a t new ≡ half_of a t old)
    → shown a new ≡ home_of a new
shown_home a s stamp image old new c same =
    let b : Batch = record { stamp = stamp; entries = [] } in
    let other = batch_in (half_of a (not s) new) in
    let newest : batch_in (half_of a s new) ≡ Some b = ap batch_in (same s) ∙ c.rests.newest in
    shown_both a s new ∙ ap (λ (o : Option Batch). both s o other (home_of a new)) newest
    ∙ both_alone s b other (home_of a new)
    (λ d is.
    let was : batch_in (half_of a (not s) old) ≡ Some d = subst (λ (xs : List ℕ). batch_in xs ≡ Some d) (same (not s)) is in
    omega (arith, c.rests.earlier d was, c.sole d was))

-- while another image is written to its place
pub past : PastLaw
past a s stamp image later bytes left c long between =
    let room : room_of a ≤ length bytes = c.rests.room in
    let new = with_home a later bytes in
    let either : IsEither image later (home_of a left) =
    subst (λ (xs : List ℕ). IsEither xs later (home_of a left)) (sym c.rests.alone)
    (subst (λ (xs : List ℕ). IsEither (home_of a bytes) xs (home_of a left)) (home_with_home a bytes room later long) (between_either a bytes new left room between)) in
    subst (λ (xs : List ℕ). IsEither image later xs)
    (sym (shown_home a s stamp image bytes left c (λ t. between_same a t bytes new left room (half_with_home a bytes room later long t) between))) either

-- and after it
pub passed : PassedLaw
passed a s stamp image later bytes c long =
    let r = c.rests in
    let new = with_home a later bytes in
    let same : (t : Bool) → half_of a t new ≡ half_of a t bytes = λ t. half_with_home a bytes r.room later long t in
    let was : (b : Batch) → batch_in (half_of a (not s) new) ≡ Some b → batch_in (half_of a (not s) bytes) ≡ Some b =
    λ b is. subst (λ (xs : List ℕ). batch_in xs ≡ Some b) (same (not s)) is in
    record {
      rests = record {
        room = omega (arith, length_with_home a bytes r.room later long, r.room);
        newest = ap batch_in (same s) ∙ r.newest;
        own = λ k d within. absurd (omega arith);
        alone = sym (home_with_home a bytes r.room later long);
        earlier = λ b is. r.earlier b (was b is);
        after = λ b is next. absurd (c.sole b (was b is) next);
        stamps = λ t. subst (λ (xs : List ℕ). StampsUpTo stamp xs) (sym (same t)) (r.stamps t);
      };
      sole = λ b is. c.sole b (was b is);
    }
