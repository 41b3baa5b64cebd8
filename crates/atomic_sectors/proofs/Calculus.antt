-- What calls in a row leave of a device of atomic sectors (in the shapes of block_disk's Images, whose writes may tear anywhere).
use Rattle.std.proofs.Common.{◌≡◌, ◌⊎◌, inl, inr, ⊎_elim, ℕ, zero, suc, ◌+◌, ◌*◌, ◌/◌, ◌%◌, ◌<◌, ◌≤◌, ◌==◌, if◌then◌else◌, true, false, List, [], ◌∷◌, ◌++◌, length, get_or, refl, sym, ◌∙◌, ap, subst, append_assoc, length-append, ne_eqb, arith}
use Rattle.std.specs.Prelude.{All, Any, Contains}
use Rattle.std.proofs.lemmas.List.{ext_get_or, get_or_default}
use Rattle.std.proofs.lemmas.List.Elements.{All-nil, All-cons, All-head, All-tail, All-append, All-weaker}
use Rattle.std.proofs.Math.Nat.{div-add-mod, mod-lt}
use Rattle.block_disk.specs.Bytes.{spliced}
use Rattle.block_disk.specs.Device.{Range, Moment, Device, range_of, written, synced, SameMoments}
use Rattle.block_disk.specs.Images.{Continues}
use Rattle.block_disk.specs.Since.{IsSameOrTorn}
use Rattle.block_disk.proofs.Bytes.{get_or_part}
use Rattle.block_disk.proofs.Images.{grows_then}
use Rattle.atomic_sectors.specs.Sectors.{sector, IsMix, IsMixable, contents_since}
use Rattle.atomic_sectors.specs.Left.{MixedAt, MixedNow, MixedIn, MixedSince, LeavesWhole, AlwaysWhole, Reads, MakesSyncs, syncs_in}
use Rattle.atomic_sectors.specs.Untorn.{IsUntorn}

-- Mixes.

any_one : {X : Type 0} (P : X → Type 0) (x : X) → Any P (x ∷ []) → P x
any_one P x (zero, y, within, is, p) = subst P (sym is) p
any_one P x (suc k, y, within, is, p) = absurd (omega (arith, within))

-- contents of one size that agree in each sector are equal
pub same_sectors : (xs ys : List ℕ) → length ys ≡ length xs → ((i : ℕ) → sector i ys ≡ sector i xs) → ys ≡ xs
same_sectors xs ys size same = ext_get_or 0 ys xs size (λ j within.
    let i = j / 512 in
    let k = j % 512 in
    let low : k < 512 = mod-lt j (omega arith) in
    let is : i * 512 + k ≡ j = omega (arith, div-add-mod j 512) in
    ap (λ (n : ℕ). get_or ys n 0) (sym is)
    ∙ sym (get_or_part (i * 512) 512 ys k low)
    ∙ ap (λ (zs : List ℕ). get_or zs k 0) (same i)
    ∙ get_or_part (i * 512) 512 xs k low
    ∙ ap (λ (n : ℕ). get_or xs n 0) is)

-- a mix of one content is that content
pub mix_one : (xs image : List ℕ) → IsMix (xs ∷ []) image → image ≡ xs
mix_one xs image mix =
    same_sectors xs image (any_one (λ content. length image ≡ length content) xs mix.size)
    (λ i. any_one (λ content. sector i image ≡ sector i content) xs (mix.each i))

any_within : {X : Type 0} (P : X → Type 0) (xs ys : List X) → All (Contains ys) xs → Any P xs → Any P ys
any_within P xs ys all (k, x, within, is, p) =
    let there = subst (Contains ys) is (all k x within) in (there.0, x, there.1, there.2, p)

-- a mix of some contents is one of more
pub mix_within : (few more : List (List ℕ)) (image : List ℕ) → All (Contains more) few → IsMix few image → IsMix more image
mix_within few more image all mix = record {
  size = any_within (λ content. length image ≡ length content) few more all mix.size;
  each = λ i. any_within (λ content. sector i image ≡ sector i content) few more all (mix.each i);
}

-- What reads at each moment of calls.

-- no call
pub reads_begin : {P : List ℕ → Type 0} {d : Device} → Reads P d d
reads_begin {P = P} = record { name = refl; since = []; moments = refl; each = All-nil (λ m. P m.bytes) }

-- the device goes on
pub reads_grows : {P : List ℕ → Type 0} {old new : Device} → Reads P old new → Continues old new
reads_grows a = record { name = a.name; since = a.since; moments = a.moments }

-- calls, and then others
pub reads_then : {P : List ℕ → Type 0} {old mid new : Device} → Reads P old mid → Reads P mid new → Reads P old new
reads_then {P = P} {old = old} a b = record {
  name = b.name ∙ a.name;
  since = b.since ++ a.since;
  moments = b.moments ∙ ap (λ (ms : List Moment). b.since ++ ms) a.moments ∙ sym (append_assoc b.since a.since (old.now ∷ old.past));
  each = All-append (λ m. P m.bytes) b.since a.since b.each a.each;
}

-- what P implies
pub reads_weaker : {P Q : List ℕ → Type 0} {old new : Device} → ((b : List ℕ) → P b → Q b) → Reads P old new → Reads Q old new
reads_weaker {P = P} {Q = Q} to a = record {
  name = a.name;
  since = a.since;
  moments = a.moments;
  each = All-weaker (λ m. P m.bytes) (λ m. Q m.bytes) (λ m p. to m.bytes p) a.since a.each;
}

-- the device that is another one is it
pub reads_is : {P : List ℕ → Type 0} {old mid new : Device} → Reads P old mid → new ≡ mid → Reads P old new
reads_is {P = P} {old = old} a is = subst (λ (d : Device). Reads P old d) (sym is) a

-- one moment more, at which what reads has P
pub reads_passes : {P : List ℕ → Type 0} {old mid new : Device} → Reads P old mid → new.name ≡ mid.name → new.past ≡ mid.now ∷ mid.past → P new.now.bytes
    → Reads P old new
reads_passes {P = P} {new = new} a name past p = record {
  name = name ∙ a.name;
  since = new.now ∷ a.since;
  moments = ap (λ (ms : List Moment). new.now ∷ ms) (past ∙ a.moments);
  each = All-cons (λ m. P m.bytes) new.now a.since p a.each;
}

-- a write that succeeds
pub reads_written : {P : List ℕ → Type 0} {old mid : Device} (at : ℕ) (bytes : List ℕ) → Reads P old mid → P (spliced mid.now.bytes at bytes)
    → Reads P old (written at bytes mid)
reads_written at bytes a p = reads_passes a refl refl p

-- a sync that succeeds
pub reads_synced : {P : List ℕ → Type 0} {old mid : Device} → Reads P old mid → P mid.now.bytes → Reads P old (synced mid)
reads_synced a p = reads_passes a refl refl p

-- the same moments, as a sync that fails leaves them
pub reads_same : {P : List ℕ → Type 0} {old mid new : Device} → Reads P old mid → SameMoments mid new → Reads P old new
reads_same a same = record {
  name = same.name ∙ a.name;
  since = a.since;
  moments = (λ i. same.now i ∷ same.past i) ∙ a.moments;
  each = a.each;
}

-- a write that fails and leaves what reads
pub reads_untorn : {P : List ℕ → Type 0} {old mid new : Device} {at n : ℕ} → Reads P old mid → P mid.now.bytes → IsUntorn at n mid new → Reads P old new
reads_untorn a p (inl same, is) = reads_same a same
reads_untorn {P = P} a p (inr torn, is) = reads_passes a torn.name torn.past (subst P (sym is) p)

-- What a crash may leave of calls that begin with nothing pending.

-- with nothing pending in m, all that has read since a sync has P
contents_all : (P : List ℕ → Type 0) (since : List Moment) (m : Moment) (before : List Moment) → m.pending ≡ [] → P m.bytes → All (λ s. P s.bytes) since
    → All P (contents_since (since ++ (m ∷ before)))
contents_all P [] m before none p each =
    subst (λ rs. All P (m.bytes ∷ (if length rs == 0 then [] else contents_since before))) (sym none) (All-cons P m.bytes [] p (All-nil P))
contents_all P (s ∷ since) m before none p each =
    All-cons P s.bytes (if length s.pending == 0 then [] else contents_since (since ++ (m ∷ before))) (All-head (λ n. P n.bytes) s since each)
    (elim (length s.pending == 0) as (λ b. All P (if b then [] else contents_since (since ++ (m ∷ before)))) [
      | true ↦ All-nil P
      | false ↦ contents_all P since m before none p (All-tail (λ n. P n.bytes) s since each)
    ])

whole_in : (P : List ℕ → Type 0) (since : List Moment) (m : Moment) (before : List Moment) (t : ℕ) (image : List ℕ) → IsMixable P → m.pending ≡ [] → P m.bytes
    → All (λ s. P s.bytes) since → MixedIn t (since ++ (m ∷ before)) image → MixedIn t (m ∷ before) image ⊎ P image
whole_in P [] m before t image mixes none p each left = inl left
whole_in P (s ∷ since) m before t image mixes none p each (inl now) =
    inr (mixes (contents_since ((s ∷ since) ++ (m ∷ before))) image (contents_all P (s ∷ since) m before none p each) now.1)
whole_in P (s ∷ since) m before t image mixes none p each (inr was) =
    whole_in P since m before t image mixes none p (All-tail (λ n. P n.bytes) s since each) was

later_by : (old new : Device) → Continues old new → length old.past ≤ length new.past
later_by old new grows = omega (arith, ap length grows.moments, length-append grows.since (old.now ∷ old.past))

-- calls at whose moments what reads has P, where mixes keep P: a crash leaves only what has P
pub whole : {P : List ℕ → Type 0} {old new : Device} → IsMixable P → old.now.pending ≡ [] → P old.now.bytes → Reads P old new → LeavesWhole old new P
whole {P = P} {old = old} {new = new} mixes none p a = record {
  later = later_by old new (reads_grows a);
  grows = reads_grows a;
  each = λ t image le left. whole_in P a.since old.now old.past t image mixes none p a.each (subst (λ (ms : List Moment). MixedIn t ms image) a.moments left);
}

-- and a crash after them too
pub whole_now : {P : List ℕ → Type 0} {old new : Device} → IsMixable P → old.now.pending ≡ [] → P old.now.bytes → Reads P old new → AlwaysWhole new P
whole_now {P = P} {old = old} mixes none p a image left =
    mixes (contents_since (a.since ++ (old.now ∷ old.past))) image (contents_all P a.since old.now old.past none p a.each)
    (subst (λ (ms : List Moment). MixedAt ms image) a.moments left)

-- with nothing pending, a crash leaves what reads and nothing else
pub always_only : (d : Device) (P : List ℕ → Type 0) → d.now.pending ≡ [] → P d.now.bytes → AlwaysWhole d P
always_only d P none p image left =
    let mix = subst (λ rs. IsMix (d.now.bytes ∷ (if length rs == 0 then [] else contents_since d.past)) image) none left in
    subst P (sym (mix_one d.now.bytes image mix)) p

-- all of these are among what has read since a sync up to m
contents_within : (since : List Moment) (m : Moment) (before : List Moment) → All (λ s. s.bytes ≡ m.bytes) since
    → All (Contains (contents_since (m ∷ before))) (contents_since (since ++ (m ∷ before)))
contents_within [] m before each =
    let c = contents_since (m ∷ before) in λ k d within. (k, within, get_or_default c k (get_or c k d) d within)
contents_within (s ∷ since) m before each =
    let c = contents_since (m ∷ before) in
    let first : Contains c s.bytes = subst (Contains c) (sym (All-head (λ n. n.bytes ≡ m.bytes) s since each)) (0, omega arith, refl) in
    All-cons (Contains c) s.bytes (if length s.pending == 0 then [] else contents_since (since ++ (m ∷ before))) first
    (elim (length s.pending == 0) as (λ b. All (Contains c) (if b then [] else contents_since (since ++ (m ∷ before)))) [
      | true ↦ All-nil (Contains c)
      | false ↦ contents_within since m before (All-tail (λ n. n.bytes ≡ m.bytes) s since each)
    ])

same_in : (since : List Moment) (m : Moment) (before : List Moment) (t : ℕ) (image : List ℕ) → All (λ s. s.bytes ≡ m.bytes) since → t ≤ length before
    → MixedIn t (since ++ (m ∷ before)) image → MixedIn t (m ∷ before) image
same_in [] m before t image each le left = left
same_in (s ∷ since) m before t image each le (inl now) =
    inl (le, mix_within (contents_since ((s ∷ since) ++ (m ∷ before))) (contents_since (m ∷ before)) image (contents_within (s ∷ since) m before each) now.1)
same_in (s ∷ since) m before t image each le (inr was) =
    same_in since m before t image (All-tail (λ n. n.bytes ≡ m.bytes) s since each) le was

-- calls that change nothing that reads leave nothing new, whatever is pending
pub whole_same : {P : List ℕ → Type 0} {old new : Device} → Reads (λ b. b ≡ old.now.bytes) old new → LeavesWhole old new P
whole_same {old = old} {new = new} a = record {
  later = later_by old new (reads_grows a);
  grows = reads_grows a;
  each = λ t image le left. inl (same_in a.since old.now old.past t image a.each le (subst (λ (ms : List Moment). MixedIn t ms image) a.moments left));
}

-- How what is left goes on.

-- no call
pub leaves_begin : {P : List ℕ → Type 0} {d : Device} → LeavesWhole d d P
leaves_begin = record { later = omega arith; grows = record { name = refl; since = []; moments = refl }; each = λ t image le left. inl left }

-- calls, and then others
pub leaves_then : {P : List ℕ → Type 0} {old mid new : Device} → LeavesWhole old mid P → LeavesWhole mid new P → LeavesWhole old new P
leaves_then {old = old} {mid = mid} {new = new} a b = record {
  later = omega (arith, a.later, b.later);
  grows = grows_then old mid new a.grows b.grows;
  each = λ t image le left. ⊎_elim (λ was. a.each t image le was) (λ p. inr p) (b.each t image (omega (arith, le, a.later)) left);
}

-- what P implies
pub leaves_weaker : {P Q : List ℕ → Type 0} {old new : Device} → ((image : List ℕ) → P image → Q image) → LeavesWhole old new P → LeavesWhole old new Q
leaves_weaker to a = record {
  later = a.later;
  grows = a.grows;
  each = λ t image le left. ⊎_elim (λ was. inl was) (λ p. inr (to image p)) (a.each t image le left);
}

-- the same moments
pub leaves_same : {P : List ℕ → Type 0} {old new : Device} → SameMoments old new → LeavesWhole old new P
leaves_same same = record {
  later = omega (arith, ap length same.past);
  grows = record { name = same.name; since = []; moments = λ i. same.now i ∷ same.past i };
  each = λ t image le left. inl (subst (λ (ms : List Moment). MixedIn t ms image) (λ i. same.now i ∷ same.past i) left);
}

none_before : (ms : List Moment) (t : ℕ) (image : List ℕ) → length ms ≤ t → MixedIn t ms image → ⊥
none_before [] t image le left = left
none_before (m ∷ ms) t image le (inl now) = absurd (omega (arith, now.0))
none_before (m ∷ ms) t image le (inr was) = none_before ms t image (omega arith) was

-- an image that a crash since this very moment might have left is one that a crash now may leave
pub mixed_now : (d : Device) (image : List ℕ) → MixedSince (length d.past) d image → MixedNow d image
mixed_now d image left = ⊎_elim (λ now. now.1) (λ was. absurd (none_before d.past (length d.past) image (omega arith) was)) left

-- an image that a crash now may leave is one that a crash since an earlier moment might have left
pub mixed_since : (t : ℕ) (d : Device) (image : List ℕ) → t ≤ length d.past → MixedNow d image → MixedSince t d image
mixed_since t d image le left = inl (le, left)

-- what each image had before the calls, and those that they leave have, each image has after them
pub since_always : {P : List ℕ → Type 0} {old new : Device} → LeavesWhole old new P → AlwaysWhole old P → AlwaysWhole new P
since_always {old = old} {new = new} leaves always image left =
    ⊎_elim (λ was. always image (mixed_now old image was)) (λ p. p)
    (leaves.each (length old.past) image (omega arith) (mixed_since (length old.past) new image leaves.later left))

-- How many syncs calls make.

syncs_append : (ms ns : List Moment) → syncs_in (ms ++ ns) ≡ syncs_in ms + syncs_in ns
syncs_append [] ns = omega arith
syncs_append (m ∷ ms) ns = omega (arith, syncs_append ms ns)

-- no call
pub syncs_begin : {d : Device} → MakesSyncs 0 d d
syncs_begin = record { since = []; moments = refl; count = refl }

-- calls, and then others
pub syncs_then : {n m : ℕ} {old mid new : Device} → MakesSyncs n old mid → MakesSyncs m mid new → MakesSyncs (n + m) old new
syncs_then {old = old} a b = record {
  since = b.since ++ a.since;
  moments = b.moments ∙ ap (λ (ms : List Moment). b.since ++ ms) a.moments ∙ sym (append_assoc b.since a.since (old.now ∷ old.past));
  count = omega (arith, syncs_append b.since a.since, a.count, b.count);
}

-- the device that is another one is it
pub syncs_is : {n : ℕ} {old mid new : Device} → MakesSyncs n old mid → new ≡ mid → MakesSyncs n old new
syncs_is {n = n} {old = old} a is = subst (λ (d : Device). MakesSyncs n old d) (sym is) a

-- one moment more, with a write pending
pub syncs_passes : {n : ℕ} {old mid new : Device} (r : Range) (rest : List Range) → MakesSyncs n old mid → new.past ≡ mid.now ∷ mid.past
    → new.now.pending ≡ r ∷ rest → MakesSyncs n old new
syncs_passes {n = n} {new = new} r rest a past pending =
    let waits : (length new.now.pending == 0) ≡ false = ne_eqb (length new.now.pending) 0 (λ none. omega (arith, ap length pending, none)) in
    let count : 0 + syncs_in a.since ≡ n = omega (arith, a.count) in record {
      since = new.now ∷ a.since;
      moments = ap (λ (ms : List Moment). new.now ∷ ms) (past ∙ a.moments);
      count = ap (λ b. (if b then 1 else 0) + syncs_in a.since) waits ∙ count;
    }

-- a write that succeeds is none
pub syncs_written : {n : ℕ} {old mid : Device} (at : ℕ) (bytes : List ℕ) → MakesSyncs n old mid → MakesSyncs n old (written at bytes mid)
syncs_written {mid = mid} at bytes a = syncs_passes (range_of at bytes) mid.now.pending a refl refl

-- a sync that succeeds is one
pub syncs_synced : {n : ℕ} {old mid : Device} → MakesSyncs n old mid → MakesSyncs (n + 1) old (synced mid)
syncs_synced {mid = mid} a = record {
  since = (synced mid).now ∷ a.since;
  moments = ap (λ (ms : List Moment). (synced mid).now ∷ ms) a.moments;
  count = omega (arith, a.count);
}

-- a sync that fails leaves the same moments, and is none
pub syncs_same : {n : ℕ} {old mid new : Device} → MakesSyncs n old mid → SameMoments mid new → MakesSyncs n old new
syncs_same a same = record { since = a.since; moments = (λ i. same.now i ∷ same.past i) ∙ a.moments; count = a.count }

-- a write that fails is none
pub syncs_torn : {n : ℕ} {old mid new : Device} (at len : ℕ) → MakesSyncs n old mid → IsSameOrTorn at len mid new → MakesSyncs n old new
syncs_torn at len a (inl same) = syncs_same a same
syncs_torn {mid = mid} at len a (inr torn) = syncs_passes (record { start = at; len = len }) mid.now.pending a torn.past torn.pending

-- however the moments since are told, there were so many
pub syncs_only : {n : ℕ} {old new : Device} → MakesSyncs n old new → (since : List Moment) → new.now ∷ new.past ≡ since ++ (old.now ∷ old.past)
    → syncs_in since ≡ n
syncs_only {old = old} a since moments =
    let was = old.now ∷ old.past in
    let all = ap syncs_in (sym a.moments ∙ moments) in
    omega (arith, all, syncs_append a.since was, syncs_append since was, a.count)
