-- What an opening makes of what it reads.
use Rattle.std.specs.Prelude.{if◌then◌else◌, ◌^◌, max, nat_lt, Result, Ok, Err, IfOk, OnErr, OnOk, All, Option, None, Some, map}
use Rattle.std.specs.List.Sorted.{IsPermutation}
use Rattle.std.proofs.Common.{◌≡◌, ◌⊎◌, inl, inr, Bool, true, false, ℕ, suc, ◌+◌, ◌==◌, ◌*◌, ◌<◌, ◌≤◌, List, [], ◌∷◌, length, get_or, refl, sym, ◌∙◌, ap, subst, arith}
use Rattle.std.proofs.lemmas.List.{get_or-map, get_or_default, length-map}
use Rattle.std.proofs.lemmas.Bool.{cases_lt}
use Rattle.block_disk.specs.Bytes.{part}
use Rattle.block_disk.specs.Device.{Device, synced}
use Rattle.block_disk.specs.Images.{Continues}
use Rattle.block_disk.specs.declared.error.Fault.{Fault}
use Rattle.block_disk.proofs.Images.{grows_then}
use Rattle.atomic_sectors.specs.Left.{LeavesWhole, MakesSyncs, Reads}
use Rattle.atomic_sectors.proofs.Calculus.{reads_is, reads_synced, whole_same}
use Rattle.journal_batches.specs.declared.areas.Areas.{Areas}
use Rattle.journal_batches.specs.declared.codec.Found.{Found}
use Rattle.journal_batches.specs.declared.entry.Entry.{Entry}
use Rattle.journal_batches.specs.Areas.{half_at, half_bytes, half_of, home_of, image_at, room_of}
use Rattle.journal_batches.specs.Batches.{AllUpTo, Batch, StampsUpTo, batch_in}
use Rattle.journal_batches.specs.Coded.{HasStamp, IsBatchOf, batch_of}
use Rattle.journal_batches.specs.Entries.{AreOf, Covers, DifferWithin, entered, replayed}
use Rattle.journal_batches.specs.Shown.{is_second_newest, newest_half, shown, under, under_both}
use Rattle.journal_batches.proofs.EntryLemmas.{any_first, any_later, entered_else, entered_outside, length_entered, length_replayed}
use Rattle.journal_batches.proofs.MixLemmas.{length_half, length_home}
use Rattle.disk_journal.specs.declared.opening.Batches.{Batches}
use Rattle.disk_journal.specs.declared.opening.Choice.{Choice}
use Rattle.disk_journal.specs.declared.opening.Halves.{Halves}
use Rattle.disk_journal.specs.declared.error.JournalError.{JournalError}
use Rattle.disk_journal.specs.Labels.{IsLabelled}
use Rattle.disk_journal.specs.Kept.{Touches}
use Rattle.disk_journal.specs.Opened.{AreRead, HasNoWords, IsChosen, IsPlanned, IsUnchosen, TellsWhy, LiesInBatch, LiesWithin, WritesAgain, batch_bytes, batch_of_found, newest_batch, newest_held}
use Rattle.disk_journal.specs.Steps.{ArePending, BringsHome, IsPending}
use Rattle.disk_journal.proofs.KeptLemmas.{touches_permuted}
use Rattle.disk_journal.proofs.PageLemmas.{reads_now}

-- ---- which bytes batches change ----

-- an entry changes bytes of its word alone, and those only if it lies within the image
entered_changes : (e : Entry) (image : List ℕ) (i : ℕ)
    → (get_or (entered e image) i 0 ≡ get_or image i 0) ⊎ ((e.at + 8 ≤ length image) × (e.at ≤ i) × (i < e.at + 8))
entered_changes e image i = elim (cases_lt (length image) (e.at + 8)) [
  | inl beyond ↦ inl (ap (λ (xs : List ℕ). get_or xs i 0) (entered_else e image beyond))
  | inr fits ↦ elim (cases_lt i e.at) [
    | inl below ↦ inl (entered_outside e image i (inl below))
    | inr from ↦ elim (cases_lt i (e.at + 8)) [
      | inl within ↦ inr (fits, from, within)
      | inr above ↦ inl (entered_outside e image i (inr above))
    ]
  ]
]

-- so do entries
replayed_changes : (size : ℕ) (entries : List Entry) (image : List ℕ) (i : ℕ) → length image ≡ size
    → (get_or (replayed entries image) i 0 ≡ get_or image i 0) ⊎ LiesWithin size entries i
replayed_changes size [] image i is = inl refl
replayed_changes size (e ∷ later) image i is =
    let P : Entry → Type 0 = λ (e : Entry). (e.at + 8 ≤ size) × (e.at ≤ i) × (i < e.at + 8) in
    elim (replayed_changes size later (entered e image) i (length_entered e image ∙ is)) [
      | inl same ↦ elim (entered_changes e image i) [
        | inl stays ↦ inl (same ∙ stays)
        | inr lies ↦ inr (any_first P e later (subst (λ (n : ℕ). e.at + 8 ≤ n) is lies.0, lies.1, lies.2))
      ]
      | inr lies ↦ inr (any_later P e later lies)
    ]

-- some entries, and others before them or not
pair_changes : (size : ℕ) (newest other : List Entry) (both : Bool) (home : List ℕ) (i : ℕ) → length home ≡ size
    → (get_or (replayed newest (if both then replayed other home else home)) i 0 ≡ get_or home i 0) ⊎ (LiesWithin size newest i ⊎ LiesWithin size other i)
pair_changes size newest other true home i is = elim (replayed_changes size newest (replayed other home) i (length_replayed other home ∙ is)) [
  | inl same ↦ elim (replayed_changes size other home i is) [ inl stays ↦ inl (same ∙ stays) | inr lies ↦ inr (inr lies) ]
  | inr lies ↦ inr (inl lies)
]
pair_changes size newest other false home i is =
    elim (replayed_changes size newest home i is) [ inl same ↦ inl same | inr lies ↦ inr (inl lies) ]

-- so do both batches
pub under_changes : (size : ℕ) (first second : Option Found) (home : List ℕ) (i : ℕ) → length home ≡ size
    → (get_or (under_both (batch_of_found first) (batch_of_found second) home) i 0 ≡ get_or home i 0) ⊎ (LiesInBatch size first i ⊎ LiesInBatch size second i)
under_changes size None None home i is = inl refl
under_changes size (Some b) None home i is = elim (replayed_changes size b.entries.items home i is) [ inl same ↦ inl same | inr lies ↦ inr (inl lies) ]
under_changes size None (Some b) home i is = elim (replayed_changes size b.entries.items home i is) [ inl same ↦ inl same | inr lies ↦ inr (inr lies) ]
under_changes size (Some b) (Some c) home i is =
    elim (nat_lt b.stamp c.stamp) as (λ t.
    (get_or (if t then under (batch_of c) (batch_of b) home else under (batch_of b) (batch_of c) home) i 0 ≡ get_or home i 0)
    ⊎ (LiesWithin size b.entries.items i ⊎ LiesWithin size c.entries.items i)) [
      | true ↦ elim (pair_changes size c.entries.items b.entries.items (suc b.stamp == c.stamp) home i is) [
        | inl same ↦ inl same
        | inr lies ↦ inr (elim lies [ inl one ↦ inr one | inr two ↦ inl two ])
      ]
      | false ↦ pair_changes size b.entries.items c.entries.items (suc c.stamp == b.stamp) home i is
    ]

pair_length : (newest other : List Entry) (both : Bool) (home : List ℕ) → length (replayed newest (if both then replayed other home else home)) ≡ length home
pair_length newest other true home = length_replayed newest (replayed other home) ∙ length_replayed other home
pair_length newest other false home = length_replayed newest home

-- the image stays as long
pub length_under : (first second : Option Batch) (home : List ℕ) → length (under_both first second home) ≡ length home
length_under None None home = refl
length_under (Some b) None home = length_replayed b.entries home
length_under None (Some b) home = length_replayed b.entries home
length_under (Some b) (Some c) home = elim (nat_lt b.stamp c.stamp) as (λ t. length (if t then under c b home else under b c home) ≡ length home) [
  | true ↦ pair_length c.entries b.entries (suc b.stamp == c.stamp) home
  | false ↦ pair_length b.entries c.entries (suc c.stamp == b.stamp) home
]

-- ---- the words that are brought home ----

-- what all places have, the entries' places have
pub places_all : (P : ℕ → Type 0) (entries : List Entry) (places : List ℕ) → map (λ (e : Entry). e.at) entries ≡ places → All P places
    → All (λ e. P e.at) entries
places_all P entries places is all = λ k d within.
    let at : get_or places k d.at ≡ (get_or entries k d).at =
    ap (λ (ps : List ℕ). get_or ps k d.at) (sym is) ∙ get_or-map (λ (e : Entry). e.at) entries k d d.at within in
    subst P at (all k d.at (omega (arith, within, length-map entries (λ (e : Entry). e.at), ap length is)))

-- a byte in a word of these places lies in a word of these entries
places_cover : (entries : List Entry) (places : List ℕ) (i : ℕ) → map (λ (e : Entry). e.at) entries ≡ places → Touches places i → Covers entries i
places_cover entries places i is (k, place, within, at, p) =
    let none : Entry = record { at = place; word = 0 } in
    let e = get_or entries k none in
    let low : k < length entries = omega (arith, within, length-map entries (λ (e : Entry). e.at), ap length is) in
    let here : e.at ≡ place = sym (get_or-map (λ (e : Entry). e.at) entries k none place low) ∙ ap (λ (ps : List ℕ). get_or ps k place) is ∙ at in
    (k, e, low, get_or_default entries k e none low, (omega (arith, here, p.0), omega (arith, here, p.1)))

-- the words of an image at places that were noted: they are all in which it differs from what both batches were put into
pub noted_differ : (size : ℕ) (first second : Option Found) (home image : List ℕ) (noted sorted : List ℕ) (entries : List Entry)
    → length image ≡ size → IsPermutation noted sorted → map (λ (e : Entry). e.at) entries ≡ sorted
    → ((i : ℕ) → LiesInBatch size first i ⊎ LiesInBatch size second i → Touches noted i)
    → image ≡ under_both (batch_of_found first) (batch_of_found second) home → DifferWithin entries home image
noted_differ size first second home image noted sorted entries is same at all made =
    let long : length image ≡ length home = ap length made ∙ length_under (batch_of_found first) (batch_of_found second) home in record {
      size = long;
      same = λ i. elim (under_changes size first second home i (sym long ∙ is)) [
        | inl stays ↦ inl (ap (λ (xs : List ℕ). get_or xs i 0) made ∙ stays)
        | inr lies ↦ inr (places_cover entries sorted i at (touches_permuted noted sorted i same (all i lies)))
      ];
    }

-- ---- the device ----

-- both halves as they were read: whole pages, and as many
pub half_read : {a : Areas} {halves : Halves} {image bytes : List ℕ} → AreRead a halves image bytes → room_of a ≤ length bytes
    → (length halves.first.items ≡ half_bytes a) × (length halves.second.items ≡ half_bytes a)
half_read {a = a} {bytes = bytes} read room = (ap length read.first ∙ length_half a bytes room false, ap length read.second ∙ length_half a bytes room true)

-- pages written again, and a flush: what reads is as before, and a crash leaves nothing new
pub again_same : {old mid new : Device} → Reads (λ b. b ≡ old.now.bytes) old mid → new ≡ synced mid → new.now.bytes ≡ old.now.bytes
again_same {old = old} a is = ap (λ (d : Device). d.now.bytes) is ∙ reads_now a refl

pub again_whole : {P : List ℕ → Type 0} {old mid new : Device} → Reads (λ b. b ≡ old.now.bytes) old mid → new ≡ synced mid → LeavesWhole old new P
again_whole {old = old} a is = whole_same (reads_is (reads_synced a (reads_now a refl)) is)

pub on_ok : {T E P : Type 0} (r : Result T E) → P → OnOk r P
on_ok (Ok x) p = p
on_ok (Err e) p = tt

pub on_err : {T E P : Type 0} (r : Result T E) → P → OnErr r P
on_err (Ok x) p = tt
on_err (Err e) p = p

-- the later of both halves' latest stamps
pub later_stamp : (first second : List ℕ) (a b top : ℕ) → top ≡ max a b → HasStamp a first → HasStamp b second → 2 ^ 63 ≤ top
    → (stamp : ℕ) × (2 ^ 63 ≤ stamp) × (HasStamp stamp first ⊎ HasStamp stamp second)
later_stamp first second a b top is one two late = elim (cases_lt a b) [
  | inl less ↦ (b, omega (arith, is, late, less), inr two)
  | inr from ↦ (a, omega (arith, is, late, from), inl one)
]

-- it is the stamp of one of them
pub latest_held : (first second : List ℕ) (a b top : ℕ) → top ≡ max a b → HasStamp a first → HasStamp b second
    → HasStamp top first ⊎ HasStamp top second
latest_held first second a b top is one two = elim (cases_lt a b) [
  | inl less ↦
      let e : b ≡ top = omega (arith, is, less) in inr (subst (λ (n : ℕ). HasStamp n second) e two)
  | inr from ↦
      let e : a ≡ top = omega (arith, is, from) in inl (subst (λ (n : ℕ). HasStamp n first) e one)
]

-- a half's stamp, where it was found in what was read of it
pub stamp_held : {half out : List ℕ} {latest : ℕ} → out ≡ half → (512 ≤ length out → HasStamp latest out) → 512 ≤ length half → HasStamp latest half
stamp_held {latest = latest} is found long = subst (HasStamp latest) is (found (subst (λ (xs : List ℕ). 512 ≤ length xs) (sym is) long))

-- no stamp of a half is after the later of both latest ones
pub stamps_up : {half out : List ℕ} {latest : ℕ} (top : ℕ) → out ≡ half → latest ≤ top → StampsUpTo latest out → StampsUpTo top half
stamps_up {latest = latest} top is le up = λ i fits.
    let low = subst (StampsUpTo latest) is up i fits in omega (arith, low, le)

-- a stamp of what was read is one of the device
pub stamp_read : {a : Areas} {halves : Halves} {image bytes : List ℕ} {stamp : ℕ} → AreRead a halves image bytes
    → HasStamp stamp halves.first.items ⊎ HasStamp stamp halves.second.items → (second : Bool) × HasStamp stamp (half_of a second bytes)
stamp_read {stamp = stamp} read (inl has) = (false, subst (HasStamp stamp) read.first has)
stamp_read {stamp = stamp} read (inr has) = (true, subst (HasStamp stamp) read.second has)

-- what was read there
pub read_as : {out bytes bytes' : List ℕ} {at n at' n' : ℕ} → out ≡ part at n bytes → at ≡ at' → n ≡ n' → bytes ≡ bytes' → out ≡ part at' n' bytes'
read_as is e f g = is ∙ (λ i. part (e i) (f i) (g i))

-- a refusal of the halves is one of the device
pub unchosen_tells : {a : Areas} {halves : Halves} {image bytes : List ℕ} (why : JournalError) → AreRead a halves image bytes → IsLabelled a bytes
    → room_of a ≤ length bytes → IsUnchosen why halves → TellsWhy why bytes
unchosen_tells {bytes = bytes} why read label room (inl is) = subst (λ (w : JournalError). TellsWhy w bytes) (sym is) tt
unchosen_tells {a = a} {bytes = bytes} why read label room (inr (is, stamp, late, inl has)) =
    subst (λ (w : JournalError). TellsWhy w bytes) (sym is) (a, label, room, (false, stamp, late, subst (HasStamp stamp) read.first has))
unchosen_tells {a = a} {bytes = bytes} why read label room (inr (is, stamp, late, inr has)) =
    subst (λ (w : JournalError). TellsWhy w bytes) (sym is) (a, label, room, (true, stamp, late, subst (HasStamp stamp) read.second has))

module _ {a : Areas} {halves : Halves} {image : List ℕ} {choice : Choice} {bytes : List ℕ} (read : AreRead a halves (home_of a bytes) bytes)
    (chosen : IsChosen halves (home_of a bytes) image choice) where
  -- a half, as it was read
  held : (second : Bool) → (if second then halves.second.items else halves.first.items) ≡ half_of a second bytes
  held true = read.second
  held false = read.first

  -- what was chosen is what the device has
  pub chosen_newest : newest_half a bytes ≡ choice.second
  chosen_newest = (λ i. is_second_newest (batch_in (sym read.first i)) (batch_in (sym read.second i))) ∙ sym chosen.newest

  newest_is : newest_held halves choice.second ≡ newest_batch a bytes
  newest_is = ap batch_in (held choice.second) ∙ ap (λ (s : Bool). batch_in (half_of a s bytes)) (sym chosen_newest)

  pub chosen_image : image ≡ shown a bytes
  chosen_image = chosen.image ∙ (λ i. under_both (batch_in (read.first i)) (batch_in (read.second i)) (home_of a bytes))

  pub chosen_top : AllUpTo a choice.top bytes
  chosen_top false = subst (StampsUpTo choice.top) read.first chosen.first
  chosen_top true = subst (StampsUpTo choice.top) read.second chosen.second

  -- so it is what is to be done there
  pub chosen_planned : image ≡ shown a bytes → room_of a ≤ length bytes → IsPlanned a bytes choice
  chosen_planned is room = record {
    newest = chosen_newest;
    pages = chosen.pages ∙ ap batch_bytes newest_is;
    fits =
        let two : length halves.first.items ≡ half_bytes a = ap length read.first ∙ length_half a bytes room false in
        omega (arith, two, chosen.fits);
    empty = λ none. chosen.empty (subst HasNoWords (sym newest_is) none);
    stamps = chosen_top;
    top = chosen.top;
    size = length_under (batch_in (half_of a false bytes)) (batch_in (half_of a true bytes)) (home_of a bytes) ∙ length_home a bytes room;
    own = subst (λ (xs : List ℕ). AreOf xs choice.entries.items) is chosen.own;
    places = chosen.places;
    rest = subst (λ (xs : List ℕ). DifferWithin choice.entries.items (home_of a bytes) xs) is chosen.rest;
  }

-- what follows of what an Ok has
pub if_ok_weaker : {T E : Type 0} {P Q : T → Type 0} (r : Result T E) → ((x : T) → P x → Q x) → IfOk r P → IfOk r Q
if_ok_weaker (Ok x) to p = to x p
if_ok_weaker (Err e) to p = tt

-- the image that was made of what was read is the one that the device stands for, and what was chosen is what is to be done
pub chosen_here : {a : Areas} {halves : Halves} {old new : List ℕ} {choice : Choice} {bytes : List ℕ} → AreRead a halves old bytes
    → IsChosen halves old new choice → room_of a ≤ length bytes → IsPlanned a bytes choice × new ≡ shown a bytes
chosen_here {a = a} {halves = halves} {new = new} {choice = choice} {bytes = bytes} read chosen room =
    let here = subst (λ (xs : List ℕ). IsChosen halves xs new choice) read.home chosen in
    let there : AreRead a halves (home_of a bytes) bytes = record { first = read.first; second = read.second; home = refl } in
    let is = chosen_image {a = a} {bytes = bytes} there here in
    (chosen_planned {a = a} {bytes = bytes} there here is room, is)

-- a device that reads so is brought to that image
pub planned_brings : {a : Areas} {bytes : List ℕ} {choice : Choice} (d : Device) → IsPlanned a bytes choice → d.now.bytes ≡ bytes
    → BringsHome a (shown a d.now.bytes) choice.entries.items d
planned_brings {a = a} {choice = choice} d plan is = record {
  size = ap length (ap (shown a) is) ∙ plan.size;
  own = subst (λ (xs : List ℕ). AreOf xs choice.entries.items) (ap (shown a) (sym is)) plan.own;
  rest = subst (λ (bs : List ℕ). DifferWithin choice.entries.items (home_of a bs) (shown a bs)) (sym is) plan.rest;
}

-- ---- what is written again ----

-- the batch that was found in a half is the one that it holds
pub found_held : (halves : Halves) (batches : Batches) → IsBatchOf halves.first.items batches.first → IsBatchOf halves.second.items batches.second
    → (second : Bool) → batch_of_found (if second then batches.second else batches.first) ≡ newest_held halves second
found_held halves batches one two true = two
found_held halves batches one two false = one

-- and takes no more pages than a half has
pub held_fits : (halves : Halves) (batches : Batches) (n pages : ℕ) → IsBatchOf halves.first.items batches.first → IsBatchOf halves.second.items batches.second
    → length halves.first.items ≡ n * 4096 → length halves.second.items ≡ n * 4096 → (second : Bool) (found : Option Found)
    → found ≡ (if second then batches.second else batches.first)
    → ((half : List ℕ) (n : ℕ) → length half ≡ n * 4096 → IsBatchOf half found → pages ≤ n) → pages ≤ n
held_fits halves batches n pages one two long long' true found is fits = fits halves.second.items n long' (subst (IsBatchOf halves.second.items) (sym is) two)
held_fits halves batches n pages one two long long' false found is fits = fits halves.first.items n long (subst (IsBatchOf halves.first.items) (sym is) one)

-- what is trusted is pending once all of it was written
pub again_whole_now : {a : Areas} {choice : Choice} {old new : Device} (first second : Device) (r : Result (Unit {0}) Fault) (half image pages : ℕ)
    → IsPlanned a old.now.bytes choice → half ≡ half_at a choice.second → image ≡ image_at a → (choice.is_empty ≡ true → pages ≡ a.image)
    → Reads (λ b. b ≡ old.now.bytes) old new → MakesSyncs 0 old new
    → ArePending 0 (1 * 4096) first → ((i : ℕ) → IsPending i first → IsPending i second) → ArePending half (choice.pages * 4096) second
    → OnOk r ((i : ℕ) → IsPending i second → IsPending i new) → OnOk r (ArePending image (pages * 4096) new) → OnOk r (WritesAgain a old new)
again_whole_now {a = a} {choice = choice} {old = old} {new = new} first second (Ok u) half image pages plan at there all reads syncs label later batch still home = record {
  mid = new;
  no_sync = syncs;
  same = reads_now reads refl;
  label = λ i from within. still i (later i (label i from within));
  batch = λ i from within.
      let here : half ≡ half_at a (newest_half a old.now.bytes) = at ∙ ap (half_at a) (sym plan.newest) in
      still i (batch i (omega (arith, here, from)) (omega (arith, here, plan.pages, within)));
  image = λ none i from within. home i (omega (arith, there, from)) (omega (arith, there, all (plan.empty none), within));
  later = record { name = refl; since = []; moments = refl };
}
again_whole_now first second (Err e) half image pages plan at there all reads syncs label later batch still home = tt

-- and stays so, whatever comes after
pub again_later : {a : Areas} {old mid new : Device} → WritesAgain a old mid → Continues mid new → WritesAgain a old new
again_later {mid = mid} {new = new} w more = record {
  mid = w.mid;
  no_sync = w.no_sync;
  same = w.same;
  label = w.label;
  batch = w.batch;
  image = w.image;
  later = grows_then w.mid mid new w.later more;
}

-- a flush goes on
pub flush_later : {old new : Device} → new ≡ synced old → Continues old new
flush_later {old = old} is = subst (Continues old) (sym is) (record { name = refl; since = (synced old).now ∷ []; moments = refl })
