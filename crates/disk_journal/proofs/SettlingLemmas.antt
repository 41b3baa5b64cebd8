-- The way from one image to the next: what stays outside of the journal and the image's place, what a run of writes with one flush leaves, and a turn.
use Rattle.std.proofs.Common.{◌≡◌, ◌⊎◌, inl, inr, ⊎_elim, ℕ, suc, ◌+◌, ◌<◌, ◌≤◌, Bool, true, false, not, List, [], ◌∷◌, ◌++◌, All, Result, Ok, Err, OnOk, OnErr, length, get_or, take, drop, refl, sym, ◌∙◌, ap, subst, arith, length-take, length-drop}
use Rattle.std.proofs.lemmas.Bool.{cases_lt}
use Rattle.std.proofs.lemmas.List.{ext_get_or, get_or-take, get_or-drop}
use Rattle.std.proofs.lemmas.List.Elements.{All-head}
use Rattle.block_disk.specs.Bytes.{spliced}
use Rattle.block_disk.specs.Device.{Device, Moment, Range, SameMoments, SameOutside, range_of, synced}
use Rattle.block_disk.proofs.Bytes.{part_spliced}
use Rattle.block_disk.proofs.Ranges.{outside_refl, outside_trans, outside_wider, spliced_same}
use Rattle.atomic_sectors.specs.Left.{LeavesWhole, Reads}
use Rattle.atomic_sectors.proofs.Calculus.{leaves_weaker, reads_is, reads_same, reads_synced, reads_then, whole}
use Rattle.journal_batches.specs.declared.areas.Areas.{Areas}
use Rattle.journal_batches.specs.declared.entry.Entry.{Entry}
use Rattle.journal_batches.specs.Areas.{half_at, half_bytes, half_of, home_of, image_at, image_bytes, room_of, with_half, with_home}
use Rattle.journal_batches.specs.Batches.{AllUpTo, StampsUpTo}
use Rattle.journal_batches.specs.Entries.{AreOf, Covers, DifferWithin, entered, replayed}
use Rattle.journal_batches.specs.Mixed.{IsBetween}
use Rattle.journal_batches.specs.Rests.{IsCleared, Rests, turned}
use Rattle.journal_batches.specs.Shown.{newest_half, shown}
use Rattle.journal_batches.specs.Spelled.{CanSpell, spelled}
use Rattle.journal_batches.proofs.ClearLemmas.{brought, clear, cleared, home_left, passed, past}
use Rattle.journal_batches.proofs.EntryLemmas.{any_first, any_later, entered_outside, length_replayed}
use Rattle.journal_batches.proofs.MixLemmas.{half_with_home, home_with_half, home_with_home, length_home, length_with_half, length_with_home, mixed, old_between, part_spliced_below}
use Rattle.journal_batches.proofs.TurnLemmas.{rests, spelled_fits, turn, turned_rests}
use Rattle.disk_journal.specs.Stands.{IsAllHome, IsAtRest, Stands, StandsMixed, StandsStill, StandsTurned}
use Rattle.disk_journal.specs.Steps.{BringsHome, HasHome, HasInHalf, StaysBetween}

-- ---- outside of the journal and the image's place ----

-- the journal and the image's place
abbrev pub area : Areas → Range
area a = record { start = 4096; len = half_bytes a + half_bytes a + image_bytes a }

-- the content is as before, but for these
abbrev pub KeepsRest : Areas → (before content : List ℕ) → Type 0
KeepsRest a before content = SameOutside (area a ∷ []) before content

-- so is what is between both
pub keeps_between : (a : Areas) (before content left : List ℕ) → KeepsRest a before content → IsBetween a before content left → KeepsRest a before left
keeps_between a before content left keeps between = record {
  size = between.size;
  same = λ i clear. ⊎_elim (λ was. was) (λ is. is ∙ keeps.same i clear) (between.bytes i);
}

-- it stands for an image, if what it shows is that
pub stands : {P : List ℕ → Type 0} (a : Areas) (before left : List ℕ) → KeepsRest a before left → P (shown a left) → Stands a before P left
stands a before left keeps p = record {
  size = keeps.size;
  label =
      let long : length (take 4096 left) ≡ length (take 4096 before) = simp (length-take, keeps.size) refl in
      ext_get_or 0 (take 4096 left) (take 4096 before) long
      (λ i within.
      let less : i < 4096 = omega (arith, length-take 4096 left) in
      get_or-take 4096 left i 0 less ∙ keeps.same i (inl less, tt) ∙ sym (get_or-take 4096 before i 0 less));
  beyond =
      let n = room_of a in
      let long : length (drop n left) ≡ length (drop n before) = simp (length-drop, keeps.size) refl in
      ext_get_or 0 (drop n left) (drop n before) long
      (λ i within. get_or-drop n left i 0 ∙ keeps.same (n + i) (inr (omega arith), tt) ∙ sym (get_or-drop n before i 0));
  image = p;
}

module _ (a : Areas) (bytes : List ℕ) (room : room_of a ≤ length bytes) where
  -- a write to these changes nothing else
  keeps_spliced : (at : ℕ) (ys : List ℕ) → 4096 ≤ at → at + length ys ≤ room_of a → KeepsRest a bytes (spliced bytes at ys)
  keeps_spliced at ys low high =
      outside_wider (range_of at ys) (area a) bytes (spliced bytes at ys) low (omega arith) (spliced_same bytes ys at (omega arith))

  -- nor does a batch in a half
  pub keeps_half : (second : Bool) (content : List ℕ) → length content ≤ half_bytes a → KeepsRest a bytes (with_half a second content bytes)
  keeps_half false content fits = keeps_spliced (half_at a false) content (omega arith) (omega arith)
  keeps_half true content fits = keeps_spliced (half_at a true) content (omega arith) (omega arith)

  -- nor an image in its place
  pub keeps_home : (image : List ℕ) → length image ≡ image_bytes a → KeepsRest a bytes (with_home a image bytes)
  keeps_home image size = keeps_spliced (image_at a) image (omega arith) (omega arith)

  -- a batch stands where it was written
  pub in_half : (second : Bool) (content : List ℕ) → length content ≤ half_bytes a → HasInHalf a second content (with_half a second content bytes)
  in_half false content fits = part_spliced bytes content (half_at a false) (omega arith)
  in_half true content fits = part_spliced bytes content (half_at a true) (omega arith)

  -- also when the image is at its place
  pub in_half_still : (second : Bool) (content image : List ℕ) → length content ≤ half_bytes a → length image ≡ image_bytes a
      → HasInHalf a second content bytes → HasInHalf a second content (with_home a image bytes)
  in_half_still false content image fits size has = part_spliced_below bytes image (image_at a) (omega arith) (half_at a false) (length content) (omega arith) ∙ has
  in_half_still true content image fits size has = part_spliced_below bytes image (image_at a) (omega arith) (half_at a true) (length content) (omega arith) ∙ has

-- ---- writes, and one flush ----

-- what holds of what reads at each moment holds of it now
last_in : (P : List ℕ → Type 0) (since : List Moment) (m n : Moment) (before past : List Moment) → n ∷ past ≡ since ++ (m ∷ before)
    → All (λ s. P s.bytes) since → P m.bytes → P n.bytes
last_in P [] m n before past is each p = let same : m ≡ n = cc in subst (λ (s : Moment). P s.bytes) same p
last_in P (s ∷ since) m n before past is each p = let same : s ≡ n = cc in subst (λ (s : Moment). P s.bytes) same (All-head (λ s. P s.bytes) s since each)

pub reads_last : {P : List ℕ → Type 0} {old new : Device} → Reads P old new → P old.now.bytes → P new.now.bytes
reads_last {P = P} {old = old} {new = new} a p = last_in P a.since old.now new.now old.past new.past a.moments a.each p

-- a flush, whatever it answers
pub reads_flushed : {E : Type 0} {P : List ℕ → Type 0} {old mid new : Device} (r : Result (Unit {0}) E) → OnOk r (new ≡ synced mid)
    → OnErr r (SameMoments mid new) → P old.now.bytes → Reads P old mid → Reads P old new
reads_flushed (Ok u) ok err p a = reads_is (reads_synced a (reads_last a p)) ok
reads_flushed (Err e) ok err p a = reads_same a err

-- writes between two contents leave what stands for what such a content shows
pub leaves_between : {P : List ℕ → Type 0} {old new : Device} (a : Areas) (before content : List ℕ) → KeepsRest a before old.now.bytes → old.now.pending ≡ []
    → KeepsRest a old.now.bytes content → ((left : List ℕ) → IsBetween a old.now.bytes content left → P (shown a left))
    → Reads (IsBetween a old.now.bytes content) old new → LeavesWhole old new (Stands a before P)
leaves_between {old = old} a before content was none keeps shows reads =
    let bytes = old.now.bytes in
    leaves_weaker
    (λ left between. stands a before left (outside_trans (area a ∷ []) before bytes left was (keeps_between a bytes content left keeps between)) (shows left between))
    (whole (mixed a bytes content) none (old_between a bytes content) reads)

-- a batch that is written to a half
pub reads_half : {old new : Device} (a : Areas) (second : Bool) (content : List ℕ) → room_of a ≤ length old.now.bytes → length content ≤ half_bytes a
    → StaysBetween a (HasInHalf a second content) old new → Reads (IsBetween a old.now.bytes (with_half a second content old.now.bytes)) old new
reads_half {old = old} a second content room fits stays =
    let bytes = old.now.bytes in
    let after = with_half a second content bytes in
    stays bytes after (length_with_half a bytes room content second fits) room (in_half a bytes room second content fits) (old_between a bytes after)

-- an image that is brought to its place
pub reads_home : {old new : Device} (a : Areas) (image : List ℕ) → room_of a ≤ length old.now.bytes → length image ≡ image_bytes a
    → StaysBetween a (HasHome a image) old new → Reads (IsBetween a old.now.bytes (with_home a image old.now.bytes)) old new
reads_home {old = old} a image room size stays =
    let bytes = old.now.bytes in
    let after = with_home a image bytes in
    stays bytes after (length_with_home a bytes room image size) room (home_with_home a bytes room image size) (old_between a bytes after)

-- ---- a turn ----

-- each byte is as it was, or entries cover it
replayed_within : (entries : List Entry) (image : List ℕ) (i : ℕ) → (get_or (replayed entries image) i 0 ≡ get_or image i 0) ⊎ Covers entries i
replayed_within [] image i = inl refl
replayed_within (e ∷ later) image i = elim (replayed_within later (entered e image) i) [
  | inr covers ↦ inr (any_later (λ (e : Entry). (e.at ≤ i) × (i < e.at + 8)) e later covers)
  | inl same ↦ elim (cases_lt i e.at) [
    | inl below ↦ inl (same ∙ entered_outside e image i (inl below))
    | inr low ↦ elim (cases_lt i (e.at + 8)) [
      | inl high ↦ inr (any_first (λ (e : Entry). (e.at ≤ i) × (i < e.at + 8)) e later (low, high))
      | inr above ↦ inl (same ∙ entered_outside e image i (inr above))
    ]
  ]
]

-- what entries make of an image differs from it within them
pub differ_replayed : (entries : List Entry) (image : List ℕ) → DifferWithin entries image (replayed entries image)
differ_replayed entries image = record { size = length_replayed entries image; same = λ i. replayed_within entries image i }

-- the entries of a device at rest bring its image to its place
pub rest_brings : {a : Areas} {s : Bool} {stamp : ℕ} {entries : List Entry} {d : Device} → IsAtRest a s stamp entries d → BringsHome a (shown a d.now.bytes) entries d
rest_brings {a = a} {entries = entries} {d = d} rest =
    let home = home_of a d.now.bytes in
    record {
      size = ap length rest.rests.alone ∙ length_replayed entries home ∙ length_home a d.now.bytes rest.rests.room;
      own = rest.rests.own;
      rest = subst (λ (xs : List ℕ). DifferWithin entries home xs) (sym rest.rests.alone) (differ_replayed entries home);
    }

module _ {a : Areas} {s : Bool} {stamp : ℕ} {last next : List Entry} {old : Device} (rest : IsAtRest a s stamp last old) (can : CanSpell a (suc stamp) next) where
  abbrev before : List ℕ
  before = old.now.bytes

  abbrev image : List ℕ
  image = shown a before

  abbrev content : List ℕ
  content = spelled (suc stamp) next

  -- what reads once the batch is in its half, and once the image is in its place too
  abbrev halfway : List ℕ
  halfway = with_half a (not s) content before

  abbrev after : List ℕ
  after = turned a s (suc stamp) next image before

  room : room_of a ≤ length before
  room = rest.rests.room

  brings : BringsHome a image last old
  brings = rest_brings rest

  size : length image ≡ image_bytes a
  size = brings.size

  fits : length content ≤ half_bytes a
  fits = spelled_fits a (suc stamp) next can

  long : length halfway ≡ length before
  long = length_with_half a before room content (not s) fits

  room_then : room_of a ≤ length halfway
  room_then = omega (arith, long, room)

  long_after : length after ≡ length before
  long_after = length_with_home a halfway room_then image size ∙ long

  -- while the batch is written
  pub turn_half : {n : ℕ} {mid : Device} → n ≡ suc stamp → StaysBetween a (HasInHalf a (not s) (spelled n next)) old mid → Reads (IsBetween a before after) old mid
  turn_half is stays =
      let has : HasInHalf a (not s) content after = in_half_still a halfway room_then (not s) content image fits size (in_half a before room (not s) content fits) in
      stays before after long_after room (subst (λ (n : ℕ). HasInHalf a (not s) (spelled n next) after) (sym is) has) (old_between a before after)

  -- the last batch's words bring the image to its place then
  turn_brings : (mid : Device) → mid.now.bytes ≡ halfway → BringsHome a image last mid
  turn_brings mid is = record {
    size = size;
    own = brings.own;
    rest = subst (λ (xs : List ℕ). DifferWithin last xs image) (sym (ap (home_of a) is ∙ home_with_half a before room content (not s) fits)) brings.rest;
  }

  module _ {n : ℕ} (mid new : Device) (is : n ≡ suc stamp) (half : mid.now.bytes ≡ with_half a (not s) (spelled n next) before) where
    half_is : mid.now.bytes ≡ halfway
    half_is = half ∙ ap (λ (m : ℕ). with_half a (not s) (spelled m next) before) is

    -- while they are written there
    pub turn_home : ((later : List ℕ) → BringsHome a later last mid → StaysBetween a (HasHome a later) mid new) → Reads (IsBetween a before after) old mid
        → Reads (IsBetween a before after) old new
    turn_home stays reads =
        reads_then reads
        (stays image (turn_brings mid half_is) before after long_after room
        (home_with_home a halfway room_then image size) (reads_last reads (old_between a before after)))

    -- and once they are
    pub turn_done : ((later : List ℕ) → BringsHome a later last mid → new.now.bytes ≡ with_home a later mid.now.bytes) → new.now.bytes ≡ after
    turn_done done = done image (turn_brings mid half_is) ∙ ap (with_home a image) half_is

  -- a crash leaves what stands for the image of before or for the one of after
  pub turn_leaves : {new : Device} → Reads (IsBetween a before after) old new → LeavesWhole old new (StandsTurned a next before)
  turn_leaves reads =
      leaves_between a before after (outside_refl (area a ∷ []) before) rest.durable
      (outside_trans (area a ∷ []) before halfway after (keeps_half a before room (not s) content fits) (keeps_home a halfway room_then image size))
      (λ left between. turn a s stamp last next image before left rest.rests can between) reads

  -- after a flush the device is at rest, with the image of after
  pub turn_rests : {new : Device} (mid : Device) → AreOf (replayed next image) next → new ≡ synced mid → mid.now.bytes ≡ after
      → (shown a new.now.bytes ≡ replayed next image) × IsAtRest a (not s) (suc stamp) next new
  turn_rests {new = new} mid own ok is =
      let r : Rests a (not s) (suc stamp) next (replayed next image) new.now.bytes =
      subst (λ (xs : List ℕ). Rests a (not s) (suc stamp) next (replayed next image) xs) (sym ((λ i. (ok i).now.bytes) ∙ is))
      (turned_rests a s stamp last next image before rest.rests can own) in
      let shows : shown a new.now.bytes ≡ replayed next image = (rests a (not s) (suc stamp) next (replayed next image) new.now.bytes r).0 in
      (shows, record { durable = λ i. (ok i).now.pending; rests = subst (λ (xs : List ℕ). Rests a (not s) (suc stamp) next xs new.now.bytes) (sym shows) r })

-- ---- an opening ----

-- a device of these bytes, durably, of which nothing is to be replayed
all_home : (a : Areas) (s : Bool) (stamp : ℕ) (image bytes : List ℕ) (mid new : Device) → new ≡ synced mid → mid.now.bytes ≡ bytes → IsCleared a s stamp image bytes
    → (shown a new.now.bytes ≡ image) × IsAllHome a s stamp new
all_home a s stamp image bytes mid new ok is cleared =
    let c : IsCleared a s stamp image new.now.bytes = subst (λ (xs : List ℕ). IsCleared a s stamp image xs) (sym ((λ i. (ok i).now.bytes) ∙ is)) cleared in
    let shows : shown a new.now.bytes ≡ image = (rests a s stamp [] image new.now.bytes c.rests).0 in
    (shows, record { durable = λ i. (ok i).now.pending; cleared = subst (λ (xs : List ℕ). IsCleared a s stamp xs new.now.bytes) (sym shows) c })

-- the image is at its place, durably, and all else is as before
pub record IsBrought (a : Areas) (s : Bool) (top : ℕ) (before : List ℕ) (d : Device) : Type 0 where
  pub durable : d.now.pending ≡ []
  pub room : room_of a ≤ length d.now.bytes
  pub keeps : KeepsRest a before d.now.bytes
  pub image : shown a d.now.bytes ≡ shown a before
  pub home : home_of a d.now.bytes ≡ shown a d.now.bytes
  pub newest : newest_half a d.now.bytes ≡ s
  pub stamps : AllUpTo a top d.now.bytes

module _ {a : Areas} {entries : List Entry} {old : Device} (brings : BringsHome a (shown a old.now.bytes) entries old) (room : room_of a ≤ length old.now.bytes) where
  -- while the image is brought to its place
  pub bring_leaves : {new : Device} → old.now.pending ≡ [] → Reads (IsBetween a old.now.bytes (with_home a (shown a old.now.bytes) old.now.bytes)) old new
      → LeavesWhole old new (StandsStill a old.now.bytes)
  bring_leaves none reads =
      let bytes = old.now.bytes in
      let image = shown a bytes in
      leaves_between a bytes (with_home a image bytes) (outside_refl (area a ∷ []) bytes) none (keeps_home a bytes room image brings.size)
      (λ left between. home_left a bytes left room between) reads

  -- and after a flush
  pub bring_done : {s : Bool} {top : ℕ} {new : Device} (mid : Device) → newest_half a old.now.bytes ≡ s → AllUpTo a top old.now.bytes → new ≡ synced mid
      → mid.now.bytes ≡ with_home a (shown a old.now.bytes) old.now.bytes → IsBrought a s top old.now.bytes new
  bring_done {s = s} {top = top} {new = new} mid newest stamps ok is =
      let bytes = old.now.bytes in
      let image = shown a bytes in
      let same = brought a bytes room in
      let new_is : new.now.bytes ≡ with_home a image bytes = (λ i. (ok i).now.bytes) ∙ is in
      let long : length new.now.bytes ≡ length bytes = ap length new_is ∙ length_with_home a bytes room image brings.size in
      record {
        durable = λ i. (ok i).now.pending;
        room = omega (arith, long);
        keeps = subst (KeepsRest a bytes) (sym new_is) (keeps_home a bytes room image brings.size);
        image = ap (shown a) new_is ∙ same.0;
        home = ap (home_of a) new_is ∙ home_with_home a bytes room image brings.size ∙ sym same.0 ∙ ap (shown a) (sym new_is);
        newest = ap (newest_half a) new_is ∙ same.1 ∙ newest;
        stamps = λ t. subst (λ (xs : List ℕ). StampsUpTo top xs) (sym (ap (half_of a t) new_is ∙ half_with_home a bytes room image brings.size t)) (stamps t);
      }

module _ {a : Areas} {s : Bool} {top : ℕ} {before : List ℕ} {old : Device} (b : IsBrought a s top before old) (can : CanSpell a (top + 2) []) where
  -- while an empty batch is written
  pub clear_leaves : {new : Device} → Reads (IsBetween a old.now.bytes (with_half a (not s) (spelled (top + 2) []) old.now.bytes)) old new
      → LeavesWhole old new (StandsStill a before)
  clear_leaves reads =
      let bytes = old.now.bytes in
      let content = spelled (top + 2) [] in
      leaves_between a before (with_half a (not s) content bytes) b.keeps b.durable (keeps_half a bytes b.room (not s) content (spelled_fits a (top + 2) [] can))
      (λ left between.
      clear a top bytes left b.room b.home b.stamps can
      (subst (λ (t : Bool). IsBetween a bytes (with_half a (not t) content bytes) left) (sym b.newest) between) ∙ b.image)
      reads

  -- and after a flush
  pub clear_home : {new : Device} (mid : Device) → new ≡ synced mid → mid.now.bytes ≡ with_half a (not s) (spelled (top + 2) []) old.now.bytes
      → (shown a new.now.bytes ≡ shown a before) × IsAllHome a (not s) (top + 2) new
  clear_home {new = new} mid ok is =
      let bytes = old.now.bytes in
      let content = spelled (top + 2) [] in
      let c : IsCleared a (not s) (top + 2) (shown a bytes) (with_half a (not s) content bytes) =
      subst (λ (t : Bool). IsCleared a (not t) (top + 2) (shown a bytes) (with_half a (not t) content bytes)) b.newest
      (cleared a top bytes b.room b.home b.stamps can) in
      let all = all_home a (not s) (top + 2) (shown a bytes) (with_half a (not s) content bytes) mid new ok is c in
      (all.0 ∙ b.image, all.1)

-- ---- a change past the journal ----

module _ {a : Areas} {s : Bool} {stamp : ℕ} {old : Device} (home : IsAllHome a s stamp old) (later : List ℕ) (size : length later ≡ image_bytes a) where
  -- while another image is written to its place
  pub pass_leaves : {new : Device} → Reads (IsBetween a old.now.bytes (with_home a later old.now.bytes)) old new
      → LeavesWhole old new (StandsMixed a later old.now.bytes)
  pass_leaves reads =
      let bytes = old.now.bytes in
      leaves_between a bytes (with_home a later bytes) (outside_refl (area a ∷ []) bytes) home.durable (keeps_home a bytes home.cleared.rests.room later size)
      (λ left between. past a s stamp (shown a bytes) later bytes left home.cleared size between) reads

  -- and after a flush
  pub pass_home : {new : Device} (mid : Device) → new ≡ synced mid → mid.now.bytes ≡ with_home a later old.now.bytes
      → (shown a new.now.bytes ≡ later) × IsAllHome a s stamp new
  pass_home {new = new} mid ok is =
      let bytes = old.now.bytes in
      all_home a s stamp later (with_home a later bytes) mid new ok is (passed a s stamp (shown a bytes) later bytes home.cleared size)
