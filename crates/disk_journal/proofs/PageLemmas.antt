-- What writes to a journaled device keep, page by page, and which words are noted.
use Rattle.std.proofs.Common.{◌≡◌, ◌⊎◌, inl, inr, ⊎_elim, All, Any, Bool, true, false, ℕ, ◌+◌, ◌-◌, ◌*◌, ◌/◌, ◌<◌, ◌≤◌, List, [], ◌∷◌, ◌++◌, length, get_or, take, drop, Result, Ok, Err, OnOk, OnErr, refl, sym, ◌∙◌, ap, subst, append_assoc, arith, length-append, length-take}
use Rattle.std.proofs.lemmas.List.{ext_get_or, drop-drop, get_or_append_left, get_or-append_right, take_all, take_more}
use Rattle.std.proofs.lemmas.List.Elements.{All-head, All-tail, All-take, All-drop}
use Rattle.std.proofs.lemmas.Bool.{cases_lt}
use Rattle.std.proofs.lemmas.Result.{on_ok_weaker}
use Rattle.std.proofs.Math.Seq.{take-add, take-append_seam, drop-append_seam}
use Rattle.std.specs.Int.{to_be_bytes, w64}
use Rattle.block_disk.specs.declared.error.Fault.{Fault}
use Rattle.block_disk.specs.Bytes.{part, spliced}
use Rattle.block_disk.specs.Device.{Moment, Device, Range, written}
use Rattle.block_disk.proofs.Bytes.{length_part, get_or_part, part_part, length_spliced, spliced_below, spliced_at, spliced_above, part_spliced}
use Rattle.atomic_sectors.specs.Left.{MakesSyncs, Reads}
use Rattle.atomic_sectors.specs.Untorn.{IsUntorn}
use Rattle.atomic_sectors.proofs.Calculus.{reads_begin, reads_then, reads_weaker, reads_written, reads_untorn, reads_is, syncs_begin, syncs_then, syncs_is, syncs_torn, syncs_written}
use Rattle.journal_batches.specs.declared.areas.Areas.{Areas}
use Rattle.journal_batches.specs.declared.entry.Entry.{Entry}
use Rattle.journal_batches.specs.Areas.{half_at, half_bytes, home_of, image_at, image_bytes, room_of, with_home}
use Rattle.journal_batches.specs.Entries.{AreOf, Covers, IsOf, entered, replayed}
use Rattle.journal_batches.specs.Mixed.{IsBetween}
use Rattle.journal_batches.proofs.EntryLemmas.{any_first, any_later, entered_else, entered_fitting, entered_outside, entered_own, length_entered, length_replayed, length_word, replay, replayed_append, replayed_uncovered}
use Rattle.journal_batches.proofs.MixLemmas.{behind_between, page_between, part_spliced_around}
use Rattle.disk_journal.specs.Kept.{Touches}
use Rattle.disk_journal.specs.Steps.{ArePending, AreWordPlaces, BringsHome, HasHome, HasInHalf, IsPending, StaysBetween}

-- ---- splices ----

-- where lists as long agree outside of a part, the part spliced into the one makes the other
pub spliced_part : (xs ys : List ℕ) (at n : ℕ) → length ys ≡ length xs → at + n ≤ length xs → ((i : ℕ) → (i < at) ⊎ (at + n ≤ i) → get_or ys i 0 ≡ get_or xs i 0)
    → spliced xs at (part at n ys) ≡ ys
spliced_part xs ys at n size fits same =
    let long : length (part at n ys) ≡ n = length_part at n ys (omega arith) in
    let room : at + length (part at n ys) ≤ length xs = omega arith in
    ext_get_or 0 (spliced xs at (part at n ys)) ys (length_spliced xs (part at n ys) at room ∙ sym size) (λ i within. each i long room)
  where
    each : (i : ℕ) → length (part at n ys) ≡ n → at + length (part at n ys) ≤ length xs → get_or (spliced xs at (part at n ys)) i 0 ≡ get_or ys i 0
    each i long room = elim (cases_lt i at) [
      | inl below ↦ spliced_below xs (part at n ys) at room i below ∙ sym (same i (inl below))
      | inr from ↦ elim (cases_lt i (at + n)) [
        | inl within ↦
            let k = i - at in
            let is : at + k ≡ i = omega arith in
            let here : get_or (spliced xs at (part at n ys)) (at + k) 0 ≡ get_or ys (at + k) 0 =
            spliced_at xs (part at n ys) at room k (omega arith) ∙ get_or_part at n ys k (omega arith) in
            subst (λ (j : ℕ). get_or (spliced xs at (part at n ys)) j 0 ≡ get_or ys j 0) is here
        | inr above ↦ spliced_above xs (part at n ys) at room i (omega arith) ∙ sym (same i (inr above))
      ]
    ]

-- so a part spliced in where it stands changes nothing
pub spliced_again : (xs : List ℕ) (at n : ℕ) → at + n ≤ length xs → spliced xs at (part at n xs) ≡ xs
spliced_again xs at n fits = spliced_part xs xs at n refl fits (λ i outside. refl)

-- and of two splices as long at one place the later one stands
pub spliced_over : (xs ys zs : List ℕ) (at : ℕ) → length zs ≡ length ys → at + length ys ≤ length xs → spliced (spliced xs at ys) at zs ≡ spliced xs at zs
spliced_over xs ys zs at size fits =
    let first : length (spliced xs at ys) ≡ length xs = length_spliced xs ys at fits in
    let room : at + length zs ≤ length xs = omega arith in
    let last : length (spliced xs at zs) ≡ length xs = length_spliced xs zs at room in
    ap (λ (ws : List ℕ). spliced (spliced xs at ys) at ws) (sym (part_spliced xs zs at room))
    ∙ spliced_part (spliced xs at ys) (spliced xs at zs) at (length zs) (last ∙ sym first) (omega arith) (λ i outside. elim outside [
      | inl below ↦ spliced_below xs zs at room i below ∙ sym (spliced_below xs ys at fits i below)
      | inr above ↦ spliced_above xs zs at room i above ∙ sym (spliced_above xs ys at fits i (omega arith))
    ])

-- a splice right behind another one
pub spliced_behind : (xs ys zs : List ℕ) (at : ℕ) → at + length ys ≤ length xs → spliced (spliced xs at ys) (at + length ys) zs ≡ spliced xs at (ys ++ zs)
spliced_behind xs ys zs at fits =
    let front = take at xs ++ ys in
    let rest = drop (at + length ys) xs in
    let long : length front ≡ at + length ys = omega (arith, length-append (take at xs) ys, length-take at xs) in
    let before : take (at + length ys) (front ++ rest) ≡ front = ap (λ (n : ℕ). take n (front ++ rest)) (sym long) ∙ take-append_seam front rest in
    let behind : drop (at + length ys) (front ++ rest) ≡ rest = ap (λ (n : ℕ). drop n (front ++ rest)) (sym long) ∙ drop-append_seam front rest in
    let last : drop (at + length ys + length zs) (front ++ rest) ≡ drop (at + length ys + length zs) xs =
    sym (drop-drop (length zs) (at + length ys) (front ++ rest)) ∙ ap (drop (length zs)) behind ∙ drop-drop (length zs) (at + length ys) xs in
    let size : at + length ys + length zs ≡ at + length (ys ++ zs) = omega (arith, length-append ys zs) in
    (λ i. before i ++ zs ++ last i)
    ∙ (λ i. append_assoc (take at xs) ys zs i ++ drop (size i) xs)

-- ---- what calls keep ----

reads_last : (P : List ℕ → Type 0) (since : List Moment) (m n : Moment) (before after : List Moment) → n ∷ after ≡ since ++ (m ∷ before) → All (λ s. P s.bytes) since
    → P m.bytes → P n.bytes
reads_last P [] m n before after is each p = let same : n ≡ m = cc in subst (λ (k : Moment). P k.bytes) (sym same) p
reads_last P (s ∷ since) m n before after is each p =
    let same : n ≡ s = cc in subst (λ (k : Moment). P k.bytes) (sym same) (All-head (λ k. P k.bytes) s since each)

-- what reads after calls has what it has at each moment of them
pub reads_now : {P : List ℕ → Type 0} {old new : Device} → Reads P old new → P old.now.bytes → P new.now.bytes
reads_now {P = P} {old = old} {new = new} a p = reads_last P a.since old.now new.now old.past new.past a.moments a.each p

-- no call
pub between_begin : (a : Areas) (Q : List ℕ → Type 0) (d : Device) → StaysBetween a Q d d
between_begin a Q d = λ before after size room has between. reads_begin

-- calls, and then others
pub between_then : (a : Areas) (Q : List ℕ → Type 0) (old mid new : Device) → StaysBetween a Q old mid → StaysBetween a Q mid new → StaysBetween a Q old new
between_then a Q old mid new one two = λ before after size room has between.
    let first = one before after size room has between in reads_then first (two before after size room has (reads_now first between))

module _ (old new : Device) (at : ℕ) (bytes : List ℕ) where
  -- a write that keeps what is between two contents, whatever it answers
  pub between_write : (a : Areas) (Q : List ℕ → Type 0) (r : Result (Unit {0}) Fault) → OnOk r (new ≡ written at bytes old) → OnErr r (IsUntorn at (length bytes) old new)
      → ((before after : List ℕ) → length after ≡ length before → room_of a ≤ length before → Q after → IsBetween a before after old.now.bytes
      → IsBetween a before after (spliced old.now.bytes at bytes))
      → StaysBetween a Q old new
  between_write a Q (Ok u) ok err keeps = λ before after size room has between.
      reads_is (reads_written at bytes reads_begin (keeps before after size room has between)) ok
  between_write a Q (Err e) ok err keeps = λ before after size room has between. reads_untorn reads_begin between err

  -- and makes no sync
  pub syncs_write : (r : Result (Unit {0}) Fault) → OnOk r (new ≡ written at bytes old) → OnErr r (IsUntorn at (length bytes) old new) → MakesSyncs 0 old new
  syncs_write (Ok u) ok err = syncs_is (syncs_written at bytes syncs_begin) ok
  syncs_write (Err e) ok err = syncs_torn at (length bytes) syncs_begin err.0

-- ---- pages that are written again ----

-- what is written as it reads changes nothing, whatever the write answers
pub again_reads : (old new : Device) (at : ℕ) (bytes : List ℕ) (r : Result (Unit {0}) Fault) → spliced old.now.bytes at bytes ≡ old.now.bytes
    → OnOk r (new ≡ written at bytes old) → OnErr r (IsUntorn at (length bytes) old new) → Reads (λ b. b ≡ old.now.bytes) old new
again_reads old new at bytes (Ok u) same ok err = reads_is (reads_written at bytes reads_begin same) ok
again_reads old new at bytes (Err e) same ok err = reads_untorn reads_begin refl err

-- calls that change nothing, and then others
pub again_then : {old mid new : Device} → Reads (λ b. b ≡ old.now.bytes) old mid → Reads (λ b. b ≡ mid.now.bytes) mid new → Reads (λ b. b ≡ old.now.bytes) old new
again_then a b = let same = reads_now a refl in reads_then a (reads_weaker (λ bytes is. is ∙ same) b)

-- a range more is pending: what was pending still is
pub still_pending : (old new : Device) (r : Range) → new.now.pending ≡ r ∷ old.now.pending → (i : ℕ) → IsPending i old → IsPending i new
still_pending old new r is i was =
    let P = λ (r : Range). (r.start ≤ i) × (i < r.start + r.len) in subst (λ (rs : List Range). Any P rs) (sym is) (any_later P r old.now.pending was)

-- and one page more is
pub pages_pending : (at pages : ℕ) (old new : Device) → ArePending at (pages * 4096) old
    → new.now.pending ≡ record { start = at + pages * 4096; len = 4096 } ∷ old.now.pending → ArePending at ((pages + 1) * 4096) new
pages_pending at pages old new was is = λ i from within.
    let r : Range = record { start = at + pages * 4096; len = 4096 } in
    let P = λ (r : Range). (r.start ≤ i) × (i < r.start + r.len) in
    elim (cases_lt i (at + pages * 4096)) [
      | inl before ↦ still_pending old new r is i (was i from before)
      | inr here ↦ subst (λ (rs : List Range). Any P rs) (sym is) (any_first P r old.now.pending (here, omega (arith, within)))
    ]

-- ---- a batch ----

-- where a page of a half lies
page_of_half : (a : Areas) (second : Bool) (page : ℕ) → (p : ℕ) × (p * 4096 ≡ half_at a second + page * 4096)
page_of_half a false page = (1 + page, omega arith)
page_of_half a true page = (1 + a.half + page, omega arith)

pub half_in_room : (a : Areas) (second : Bool) → half_at a second + half_bytes a ≤ room_of a
half_in_room a false = omega arith
half_in_room a true = omega arith

-- a page that the new content has in a half leaves what is between both
pub half_page_between : (a : Areas) (second : Bool) (content bytes : List ℕ) (page : ℕ) → page * 4096 + 4096 ≤ length content → length content ≤ half_bytes a
    → (before after : List ℕ) → length after ≡ length before → room_of a ≤ length before → HasInHalf a second content after → IsBetween a before after bytes
    → IsBetween a before after (spliced bytes (half_at a second + page * 4096) (part (page * 4096) 4096 content))
half_page_between a second content bytes page within fits before after size room has between =
    let at = page_of_half a second page in
    let is : at.0 * 4096 ≡ half_at a second + page * 4096 = at.1 in
    let ends = half_in_room a second in
    let kept = page_between a before after bytes at.0 size (omega arith) between in
    let there : part (half_at a second + page * 4096) 4096 after ≡ part (page * 4096) 4096 content =
    sym (part_part (page * 4096) 4096 (half_at a second) (length content) after within) ∙ ap (part (page * 4096) 4096) has in
    subst (λ (ys : List ℕ). IsBetween a before after (spliced bytes (half_at a second + page * 4096) ys)) there
    (subst (λ (n : ℕ). IsBetween a before after (spliced bytes n (part n 4096 after))) is kept)

module _ (a : Areas) (second : Bool) (content : List ℕ) (page at : ℕ) (bytes : List ℕ) (place : at ≡ half_at a second + page * 4096) where
  -- so does a write of it, whatever it answers
  pub half_page_stays : (old new : Device) (r : Result (Unit {0}) Fault) → bytes ≡ part (page * 4096) 4096 content → page * 4096 + 4096 ≤ length content
      → length content ≤ half_bytes a → OnOk r (new ≡ written at bytes old) → OnErr r (IsUntorn at (length bytes) old new)
      → StaysBetween a (HasInHalf a second content) old new
  half_page_stays old new r is within fits ok err =
      between_write old new at bytes a (HasInHalf a second content) r ok err (λ before after size room has between.
      subst (λ (n : ℕ). IsBetween a before after (spliced old.now.bytes n bytes)) (sym place)
      (subst (λ (ys : List ℕ). IsBetween a before after (spliced old.now.bytes (half_at a second + page * 4096) ys)) (sym is)
      (half_page_between a second content old.now.bytes page within fits before after size room has between)))

-- the first pages of a batch are written
pub record Batched (a : Areas) (second : Bool) (content : List ℕ) (pages : ℕ) (old new : Device) : Type 0 where
  pub bytes : new.now.bytes ≡ spliced old.now.bytes (half_at a second) (take (pages * 4096) content)
  pub between : StaysBetween a (HasInHalf a second content) old new
  pub syncs : MakesSyncs 0 old new
  pub failures : new.failures ≡ old.failures

-- none yet
pub batched_none : (a : Areas) (second : Bool) (content : List ℕ) (d : Device) → room_of a ≤ length d.now.bytes → Batched a second content 0 d d
batched_none a second content d room = record {
  bytes = let ends = half_in_room a second in sym (spliced_again d.now.bytes (half_at a second) 0 (omega arith));
  between = between_begin a (HasInHalf a second content) d;
  syncs = syncs_begin;
  failures = refl;
}

-- one more
pub batched_more : (a : Areas) (second : Bool) (content : List ℕ) (pages : ℕ) (old mid new : Device) → room_of a ≤ length old.now.bytes → pages * 4096 ≤ length content
    → length content ≤ half_bytes a → Batched a second content pages old mid
    → new.now.bytes ≡ spliced mid.now.bytes (half_at a second + pages * 4096) (part (pages * 4096) 4096 content)
    → StaysBetween a (HasInHalf a second content) mid new → MakesSyncs 0 mid new → new.failures ≡ mid.failures → Batched a second content (pages + 1) old new
batched_more a second content pages old mid new room within fits so is between syncs failures = record {
  bytes =
      let ends = half_in_room a second in
      let at = half_at a second in
      let front = take (pages * 4096) content in
      let next = part (pages * 4096) 4096 content in
      let long : length front ≡ pages * 4096 = omega (arith, length-take (pages * 4096) content) in
      let more : pages * 4096 + 4096 ≡ (pages + 1) * 4096 = omega arith in
      is ∙ ap (λ (xs : List ℕ). spliced xs (at + pages * 4096) next) so.bytes
      ∙ ap (λ (n : ℕ). spliced (spliced old.now.bytes at front) (at + n) next) (sym long)
      ∙ spliced_behind old.now.bytes front next at (omega arith)
      ∙ ap (spliced old.now.bytes at) (sym (take-add (pages * 4096) 4096 content) ∙ ap (λ (n : ℕ). take n content) more);
  between = between_then a (HasInHalf a second content) old mid new so.between between;
  syncs = syncs_then so.syncs syncs;
  failures = failures ∙ so.failures;
}

-- ---- entries, page by page ----

-- a byte that entries of an image make of another one is what it was, or the image's
pub replayed_own : (entries : List Entry) (home image : List ℕ) (i : ℕ) → length image ≡ length home → AreOf image entries
    → (get_or (replayed entries home) i 0 ≡ get_or home i 0) ⊎ (get_or (replayed entries home) i 0 ≡ get_or image i 0)
replayed_own [] home image i size own = inl refl
replayed_own (e ∷ later) home image i size own =
    elim (replayed_own later (entered e home) image i (size ∙ sym (length_entered e home)) (All-tail (λ (e : Entry). IsOf image e) e later own)) [
      | inl same ↦ elim (cases_lt i e.at) [
        | inl below ↦ inl (same ∙ entered_outside e home i (inl below))
        | inr from ↦ elim (cases_lt i (e.at + 8)) [
          | inl within ↦ inr (same ∙ sym (entered_own e home image i size (All-head (λ (e : Entry). IsOf image e) e later own) from within))
          | inr above ↦ inl (same ∙ entered_outside e home i (inr above))
        ]
      ]
      | inr is ↦ inr is
    ]

-- entries beyond an image change nothing
pub replayed_beyond : (entries : List Entry) (image : List ℕ) → All (λ (e : Entry). length image < e.at + 8) entries → replayed entries image ≡ image
replayed_beyond [] image all = refl
replayed_beyond (e ∷ later) image all =
    let tail = All-tail (λ (e : Entry). length image < e.at + 8) e later all in
    ap (replayed later) (entered_else e image (All-head (λ (e : Entry). length image < e.at + 8) e later all)) ∙ replayed_beyond later image tail

module _ (page : ℕ) (run : List Entry) (places : AreWordPlaces run) (here : All (λ (e : Entry). e.at / 4096 ≡ page) run) where
  -- words at word places of one page lie within it
  pub run_within : All (λ (e : Entry). (page * 4096 ≤ e.at) × (e.at + 8 ≤ page * 4096 + 4096)) run
  run_within k d within = let place = places k d within in let is = here k d within in (omega arith, omega arith)

  -- so bytes outside of the page stay
  pub run_outside : (image : List ℕ) (i : ℕ) → (i < page * 4096) ⊎ (page * 4096 + 4096 ≤ i) → get_or (replayed run image) i 0 ≡ get_or image i 0
  run_outside image i outside = replayed_uncovered run image i bare
    where
      bare : Covers run i → ⊥
      bare (k, e, within, is, (low, high)) =
          let lies = subst (λ (e : Entry). (page * 4096 ≤ e.at) × (e.at + 8 ≤ page * 4096 + 4096)) is (run_within k e within) in
          elim outside [ inl below ↦ omega (arith, below, low, lies.0) | inr above ↦ omega (arith, above, high, lies.1) ]

  -- of an image that doesn't have that page all stay
  pub run_beyond : (image : List ℕ) → length image ≤ page * 4096 → replayed run image ≡ image
  run_beyond image few = replayed_beyond run image (λ k d within. let lies = run_within k d within in omega (arith, lies.0))

  module _ (a : Areas) (bytes : List ℕ) (room : room_of a ≤ length bytes) (has : page < a.image) (content : List ℕ)
      (is : content ≡ part (page * 4096) 4096 (replayed run (home_of a bytes))) where
    home_long : length (home_of a bytes) ≡ image_bytes a
    home_long = length_part (image_at a) (image_bytes a) bytes room

    ends : page * 4096 + 4096 ≤ image_bytes a
    ends = omega arith

    content_long : length content ≡ 4096
    content_long = ap length is ∙ length_part (page * 4096) 4096 (replayed run (home_of a bytes)) (omega (arith, ends, home_long, length_replayed run (home_of a bytes)))

    content_fits : image_at a + page * 4096 + length content ≤ length bytes
    content_fits = omega (arith, ends, content_long)

    -- the page that has their words brings them to the image's place
    pub page_brings : spliced bytes (image_at a + page * 4096) content ≡ with_home a (replayed run (home_of a bytes)) bytes
    page_brings =
        let home = home_of a bytes in
        let after = replayed run home in
        let at = image_at a + page * 4096 in
        let new = spliced bytes at content in
        let size : length new ≡ length bytes = length_spliced bytes content at content_fits in
        let all : spliced bytes (image_at a) (part (image_at a) (image_bytes a) new) ≡ new =
        spliced_part bytes new (image_at a) (image_bytes a) size room (λ i outside. elim outside [
          | inl below ↦ spliced_below bytes content at content_fits i (omega arith)
          | inr above ↦ spliced_above bytes content at content_fits i (omega (arith, above, ends, content_long))
        ]) in
        let there : part (image_at a) (image_bytes a) new ≡ spliced home (page * 4096) content =
        part_spliced_around bytes content at content_fits (image_at a) (image_bytes a) (page * 4096) refl (omega (arith, ends, content_long)) room in
        let made : spliced home (page * 4096) content ≡ after =
        ap (spliced home (page * 4096)) is
        ∙ spliced_part home after (page * 4096) 4096 (length_replayed run home) (omega (arith, ends, home_long)) (λ i outside. run_outside home i outside) in
        sym all ∙ ap (spliced bytes (image_at a)) (there ∙ made)

    -- and leaves what is between contents of which the new one has the image there that they are of
    page_home_between : (image : List ℕ) → length image ≡ image_bytes a → AreOf image run
        → (before after : List ℕ) → length after ≡ length before → room_of a ≤ length before → HasHome a image after → IsBetween a before after bytes
        → IsBetween a before after (spliced bytes (image_at a + page * 4096) content)
    page_home_between image size own before after sizes low have between =
        behind_between a before after bytes content (image_at a + page * 4096) (omega (arith, content_long, ends, low)) between
        (λ i within. each i (omega (arith, within, content_long))) (omega arith)
      where
        each : (i : ℕ) → i < 4096
            → (get_or content i 0 ≡ get_or bytes (image_at a + page * 4096 + i) 0) ⊎ (get_or content i 0 ≡ get_or after (image_at a + page * 4096 + i) 0)
        each i within =
            let k = page * 4096 + i in
            let home = home_of a bytes in
            let less : k < image_bytes a = omega (arith, ends) in
            let place : image_at a + k ≡ image_at a + page * 4096 + i = omega arith in
            let made : get_or content i 0 ≡ get_or (replayed run home) k 0 =
            ap (λ (xs : List ℕ). get_or xs i 0) is ∙ get_or_part (page * 4096) 4096 (replayed run home) i within in
            ⊎_elim
            (λ was. inl (made ∙ was ∙ get_or_part (image_at a) (image_bytes a) bytes k less ∙ ap (λ (j : ℕ). get_or bytes j 0) place))
            (λ will. inr (
            made ∙ will ∙ sym (ap (λ (xs : List ℕ). get_or xs k 0) have) ∙ get_or_part (image_at a) (image_bytes a) after k less
            ∙ ap (λ (j : ℕ). get_or after j 0) place
            ))
            (replayed_own run home image k (size ∙ sym home_long) own)

    module _ (old new : Device) (at : ℕ) (same : old.now.bytes ≡ bytes) (place : at ≡ image_at a + page * 4096) (r : Result (Unit {0}) Fault)
        (ok : OnOk r (new ≡ written at content old)) where
      -- so a write of it brings them there
      pub page_written : OnOk r (new.now.bytes ≡ with_home a (replayed run (home_of a bytes)) bytes)
      page_written = on_ok_weaker r (λ is. ap (λ (d : Device). d.now.bytes) is ∙ (λ i. spliced (same i) (place i) content) ∙ page_brings) ok

      -- and stays between them, whatever it answers
      pub page_stays : OnErr r (IsUntorn at (length content) old new) → (image : List ℕ) → length image ≡ image_bytes a → AreOf image run
          → StaysBetween a (HasHome a image) old new
      page_stays err image size own =
          between_write old new at content a (HasHome a image) r ok err (λ before after sizes low have between.
          let was : IsBetween a before after bytes = subst (IsBetween a before after) same between in
          (subst (IsBetween a before after) (λ i. spliced (sym same i) (sym place i) content)
          (page_home_between image size own before after sizes low have was)))

-- the device as it is has what stands in the image's place there
pub home_again : (a : Areas) (bytes : List ℕ) → room_of a ≤ length bytes → with_home a (home_of a bytes) bytes ≡ bytes
home_again a bytes room = spliced_again bytes (image_at a) (image_bytes a) room

-- what reads where a page of the image lies is that page
pub page_read : (a : Areas) (bytes out : List ℕ) (page at : ℕ) → page < a.image → at ≡ image_at a + page * 4096 → length out ≡ 4096 → out ≡ part at (length out) bytes
    → out ≡ part (page * 4096) (length out) (home_of a bytes)
page_read a bytes out page at has place size read =
    read ∙ (λ i. part (place i) (length out) bytes) ∙ sym (part_part (page * 4096) (length out) (image_at a) (image_bytes a) bytes (omega arith))

-- one word more of those that lie in a part of an image
pub word_more : (run : List Entry) (i from n : ℕ) (d : Entry) (image out : List ℕ) → i < length run → from ≤ (get_or run i d).at → (get_or run i d).at + 8 ≤ from + n
    → from + n ≤ length image → out ≡ part from n (replayed (take i run) image)
    → spliced out ((get_or run i d).at - from) (to_be_bytes w64 (get_or run i d).word) ≡ part from n (replayed (take (i + 1) run) image)
word_more run i from n d image out within low high fits so =
    let e = get_or run i d in
    let was = replayed (take i run) image in
    let word = to_be_bytes w64 e.word in
    let size : length was ≡ length image = length_replayed (take i run) image in
    let long : length word ≡ 8 = length_word e.word in
    let made : replayed (take (i + 1) run) image ≡ spliced was e.at word =
    ap (λ (es : List Entry). replayed es image) (take_more run i d within) ∙ replayed_append (take i run) (e ∷ []) image ∙ entered_fitting e was (omega arith) in
    ap (λ (xs : List ℕ). spliced xs (e.at - from) word) so
    ∙ sym (part_spliced_around was word e.at (omega arith) from n (e.at - from) (omega arith) (omega arith) (omega arith))
    ∙ ap (part from n) (sym made)

-- the first entries are brought to their places
pub record Brought (a : Areas) (entries : List Entry) (count : ℕ) (old new : Device) : Type 0 where
  pub bytes : new.now.bytes ≡ with_home a (replayed (take count entries) (home_of a old.now.bytes)) old.now.bytes
  pub between : (image : List ℕ) → length image ≡ image_bytes a → AreOf image entries → StaysBetween a (HasHome a image) old new
  pub syncs : MakesSyncs 0 old new
  pub failures : new.failures ≡ old.failures

-- none yet
pub brought_none : (a : Areas) (entries : List Entry) (d : Device) → room_of a ≤ length d.now.bytes → Brought a entries 0 d d
brought_none a entries d room = record {
  bytes = sym (home_again a d.now.bytes room);
  between = λ image size own. between_begin a (HasHome a image) d;
  syncs = syncs_begin;
  failures = refl;
}

-- all of them bring the image to its place
pub brought_all : (a : Areas) (entries : List Entry) (count : ℕ) (old new : Device) → length entries ≤ count → Brought a entries count old new
    → (image : List ℕ) → BringsHome a image entries old → new.now.bytes ≡ with_home a image old.now.bytes
brought_all a entries count old new all so image brings =
    so.bytes ∙ (λ i. with_home a (replayed (take_all count entries all i) (home_of a old.now.bytes)) old.now.bytes)
    ∙ (λ i. with_home a (replay entries (home_of a old.now.bytes) image brings.own brings.rest i) old.now.bytes)

-- those of a run more
module _ (a : Areas) (entries run : List Entry) (count more : ℕ) (old mid new : Device) (room : room_of a ≤ length old.now.bytes) (these : run ≡ take more (drop count entries))
    (so : Brought a entries count old mid) where
  home_brought : length (replayed (take count entries) (home_of a old.now.bytes)) ≡ image_bytes a
  home_brought = length_replayed (take count entries) (home_of a old.now.bytes) ∙ length_part (image_at a) (image_bytes a) old.now.bytes room

  pub brought_between : ((image : List ℕ) → length image ≡ image_bytes a → AreOf image run → StaysBetween a (HasHome a image) mid new)
      → (image : List ℕ) → length image ≡ image_bytes a → AreOf image entries → StaysBetween a (HasHome a image) old new
  brought_between between image size own =
      between_then a (HasHome a image) old mid new (so.between image size own)
      (between image size (subst (AreOf image) (sym these)
      (All-take (λ (e : Entry). IsOf image e) more (drop count entries) (All-drop (λ (e : Entry). IsOf image e) count entries own))))

  pub brought_more : new.now.bytes ≡ with_home a (replayed run (home_of a mid.now.bytes)) mid.now.bytes
      → ((image : List ℕ) → length image ≡ image_bytes a → AreOf image run → StaysBetween a (HasHome a image) mid new)
      → MakesSyncs 0 mid new → new.failures ≡ mid.failures → Brought a entries (count + more) old new
  brought_more is between syncs failures = record {
    bytes =
        let home = home_of a old.now.bytes in
        let was = replayed (take count entries) home in
        let fits : image_at a + length was ≤ length old.now.bytes = omega (arith, home_brought) in
        let there : home_of a mid.now.bytes ≡ was =
        ap (home_of a) so.bytes ∙ ap (λ (n : ℕ). part (image_at a) n (with_home a was old.now.bytes)) (sym home_brought) ∙ part_spliced old.now.bytes was (image_at a) fits in
        let made : replayed run was ≡ replayed (take (count + more) entries) home =
        sym (replayed_append (take count entries) run home)
        ∙ ap (λ (es : List Entry). replayed es home) (ap (λ (es : List Entry). take count entries ++ es) these ∙ sym (take-add count more entries)) in
        is ∙ (λ i. with_home a (replayed run (there i)) (so.bytes i))
        ∙ spliced_over old.now.bytes was (replayed run was) (image_at a) (length_replayed run was) fits
        ∙ ap (λ (image : List ℕ). with_home a image old.now.bytes) made;
    between = brought_between between;
    syncs = syncs_then so.syncs syncs;
    failures = failures ∙ so.failures;
  }

-- ---- words that are noted ----

-- one place more
module _ (places : List ℕ) (place : ℕ) where
  -- byte i lies in words as before
  pub touches_old : (i : ℕ) → Touches places i → Touches (places ++ place ∷ []) i
  touches_old i (k, p, within, is, lies) =
      (k, p, omega (arith, within, length-append places (place ∷ [])), get_or_append_left places (place ∷ []) p k within ∙ is, lies)

  -- and each byte of the new word in that one
  pub touches_last : (i : ℕ) → place ≤ i → i < place + 8 → Touches (places ++ place ∷ []) i
  touches_last i low high =
      let there : 0 ≡ length places - length places = omega arith in (
        length places,
        place,
        omega (arith, length-append places (place ∷ [])),
        get_or-append_right places (place ∷ []) (length places) (length places) place refl (omega arith) ∙ sym (ap (λ (k : ℕ). get_or (place ∷ []) k place) there),
        (low, high),
      )
