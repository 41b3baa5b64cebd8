-- How the images that a crash may leave follow the calls. What stands here as a law of specs/Laws.antt is for crates
-- above too: one that speaks of any P is of a size that no clause may have, so it is cited from here.
use Rattle.std.proofs.Common.{◌≡◌, ◌⊎◌, inl, inr, ⊎_elim, ℕ, ◌+◌, ◌<◌, ◌≤◌, List, [], ◌∷◌, ◌++◌, length, Result, Ok, Err, OnOk, IsErrOf, refl, sym, ◌∙◌, ap, subst, append_assoc, arith}
use Rattle.block_disk.specs.Bytes.{spliced}
use Rattle.block_disk.specs.Device.{Range, Moment, Device, range_of, SameOutside, Image, LeftIn, LeftSince, written, synced, SameMoments, TornWrite}
use Rattle.block_disk.specs.Images.{Continues, LeavesOnly, Always, ImageBut}
use Rattle.block_disk.specs.Laws.{AgainLaw, AlwaysLaw, BeginLaw, ButLaw, FollowsLaw, KeptLaw, NoChangeLaw, NoneLaw, NowLaw, NowTooLaw, OnlyLaw, ReadsLaw, StaysLaw, SurvivesLaw, SyncLaw, ThenLaw, WeakerLaw, WiderLaw}
use Rattle.block_disk.specs.declared.error.DiskError.{DiskError}
use Rattle.block_disk.specs.declared.error.DiskError.TheVariants.{Fault, OutOfRange}
use Rattle.block_disk.proofs.Ranges.{outside_refl, outside_trans, outside_none, outside_both, spliced_same, torn_back, torn_forth}

-- Images now.

-- what reads is one of the images
pub image_now : ReadsLaw
image_now d = outside_refl d.now.pending d.now.bytes

-- what each image has, what reads has
pub always_now : (d : Device) (P : List ℕ → Type 0) → Always d P → P d.now.bytes
always_now d P always = always d.now.bytes (image_now d)

-- with nothing pending, what reads is the only image
pub only_now : (d : Device) (image : List ℕ) → d.now.pending ≡ [] → Image d.now image → image ≡ d.now.bytes
only_now d image is left = outside_none d.now.bytes image (subst (λ (rs : List Range). SameOutside rs d.now.bytes image) is left)

-- and so each image has what it has
pub always_only : OnlyLaw
always_only d P is here image left = subst P (sym (only_now d image is left)) here

pub always_weaker : AlwaysLaw
always_weaker d P Q to always image left = to image (always image left)

pub always_same : (old new : Device) (P : List ℕ → Type 0) → SameMoments old new → Always old P → Always new P
always_same old new P same always image left = always image (subst (λ (m : Moment). Image m image) same.now left)

-- Images but for some ranges.

-- each image is one of them
pub besides_none : NoneLaw
besides_none d rs image left = (image, left, outside_refl rs image)

-- more bytes in the same ranges
pub besides_then : AgainLaw
besides_then old mid rs image always (before, left, same) =
    let earlier = always before left in (earlier.0, earlier.1, outside_trans rs earlier.0 before image earlier.2 same)

-- and then bytes in other ranges too
pub besides_union : (old mid : Device) (rs ss : List Range) (image : List ℕ) → Always mid (ImageBut old rs) → ImageBut mid ss image → ImageBut old (rs ++ ss) image
besides_union old mid rs ss image always (before, left, same) =
    let earlier = always before left in (earlier.0, earlier.1, outside_both rs ss earlier.0 before image earlier.2 same)

-- in ranges that cover more
pub besides_wider : WiderLaw
besides_wider d rs ss image to (before, left, same) = (before, left, to before image same)

pub besides_same : (old mid : Device) (rs : List Range) (image : List ℕ) → SameMoments old mid → ImageBut mid rs image → ImageBut old rs image
besides_same old mid rs image same (before, left, change) = (before, subst (λ (m : Moment). Image m before) same.now left, change)

-- over a device with nothing pending: what reads, but for the ranges
pub besides_only : ButLaw
besides_only d rs image is (before, left, same) = subst (λ (l : List ℕ). SameOutside rs l image) (only_now d before is left) same

-- what holds of each image and survives bytes in the ranges holds of each such image
pub besides_survives : KeptLaw
besides_survives d rs P always survives image (before, left, same) = survives before image (always before left) same

-- everything survives no change
pub survives_none : NoChangeLaw
survives_none P xs ys p same = subst P (sym (outside_none xs ys same)) p

-- How a run of calls goes on.

-- no call
pub begin : BeginLaw
begin d P = record { later = omega arith; grows = record { name = refl; since = []; moments = refl }; each = λ t image le left. inl left; keeps = λ t image le left. left }

-- the moments of calls, and then of others
pub grows_then : (old mid new : Device) → Continues old mid → Continues mid new → Continues old new
grows_then old mid new a b = record {
  name = b.name ∙ a.name;
  since = b.since ++ a.since;
  moments = b.moments ∙ ap (λ (ms : List Moment). b.since ++ ms) a.moments ∙ sym (append_assoc b.since a.since (old.now ∷ old.past));
}

-- calls, and then others
pub and_then : ThenLaw
and_then old mid new P a b = record {
  later = omega (arith, a.later, b.later);
  grows = grows_then old mid new a.grows b.grows;
  each = λ t image le left. ⊎_elim (λ was. a.each t image le was) (λ p. inr p) (b.each t image (omega (arith, le, a.later)) left);
  keeps = λ t image le left. b.keeps t image (omega (arith, le, a.later)) (a.keeps t image le left);
}

-- what P implies
pub weaker : WeakerLaw
weaker old new P Q to a = record {
  later = a.later;
  grows = a.grows;
  each = λ t image le left. ⊎_elim (λ was. inl was) (λ p. inr (to image p)) (a.each t image le left);
  keeps = a.keeps;
}

-- one more call, of which it is known that it leaves images from before it but for some bytes
pub follows : FollowsLaw
follows old mid new P rs a b to = and_then old mid new P a (weaker mid new (ImageBut mid rs) P to b)

-- one moment more, each of whose images has P
pub passes : (old new : Device) (P : List ℕ → Type 0) → new.name ≡ old.name → new.past ≡ old.now ∷ old.past → Always new P → LeavesOnly old new P
passes old new P name is always = record {
  later = omega (arith, ap length is);
  grows = record { name = name; since = new.now ∷ []; moments = λ i. new.now ∷ is i };
  each = λ t image le left. ⊎_elim (λ now. inr (always image now.1)) (λ was. inl (subst (λ (ms : List Moment). LeftIn t ms image) is was)) left;
  keeps = λ t image le left. inr (subst (λ (ms : List Moment). LeftIn t ms image) (sym is) left);
}

-- the same moments
pub stays : StaysLaw
stays old new P same = record {
  later = omega (arith, ap length same.past);
  grows = record { name = same.name; since = []; moments = λ i. same.now i ∷ same.past i };
  each = λ t image le left. inl (subst (λ (ms : List Moment). LeftIn t ms image) (λ i. same.now i ∷ same.past i) left);
  keeps = λ t image le left. subst (λ (ms : List Moment). LeftIn t ms image) (λ i. sym same.now i ∷ sym same.past i) left;
}

-- calls that leave images but for some bytes, after some that left the moments alone
pub stays_then : (old mid new : Device) (rs : List Range) → SameMoments old mid → LeavesOnly mid new (ImageBut mid rs) → LeavesOnly old new (ImageBut old rs)
stays_then old mid new rs same leaves =
    and_then old mid new (ImageBut old rs) (stays old mid (ImageBut old rs) same)
    (weaker mid new (ImageBut mid rs) (ImageBut old rs) (λ image from. besides_same old mid rs image same from) leaves)

none_before : (ms : List Moment) (t : ℕ) (image : List ℕ) → length ms ≤ t → LeftIn t ms image → ⊥
none_before [] t image le left = left
none_before (m ∷ ms) t image le (inl now) = absurd (omega (arith, now.0))
none_before (m ∷ ms) t image le (inr was) = none_before ms t image (omega arith) was

-- an image that a crash since this very moment might have left is one that a crash now may leave
pub left_now : NowLaw
left_now d image left = ⊎_elim (λ now. now.1) (λ was. absurd (none_before d.past (length d.past) image (omega arith) was)) left

-- an image that a crash now may leave is one that a crash since an earlier moment might have left
pub left_since : (t : ℕ) (d : Device) (image : List ℕ) → t ≤ length d.past → Image d.now image → LeftSince t d image
left_since t d image le left = inl (le, left)

-- what held of each image before the calls and holds of those that they leave, holds of each image after them
pub now_too : NowTooLaw
now_too old new P always leaves image left =
    ⊎_elim (λ was. always image (left_now old image was)) (λ p. p)
    (leaves.each (length old.past) image (omega arith) (left_since (length old.past) new image leaves.later left))

-- what holds of each image and survives bytes in the ranges goes on to hold at each moment
pub survives : SurvivesLaw
survives old new rs P always keeps leaves =
    let all = weaker old new (ImageBut old rs) P (besides_survives old rs P always keeps) leaves in (all, now_too old new P always all)

-- What a write leaves, whatever it answers.

-- a write that succeeds tears nothing more than one that fails may
pub torn_written : (at : ℕ) (bytes : List ℕ) (old : Device) → at + length bytes ≤ length old.now.bytes → TornWrite at (length bytes) old (written at bytes old)
torn_written at bytes old fits = record { name = refl; fits = fits; pending = refl; bytes = spliced_same old.now.bytes bytes at fits; past = refl }

torn_besides : (at n : ℕ) (old new : Device) → TornWrite at n old new → Always new (ImageBut old (record { start = at; len = n } ∷ []))
torn_besides at n old new torn image left =
    torn_back (record { start = at; len = n }) old.now.pending old.now.bytes new.now.bytes image torn.fits torn.bytes
    (subst (λ (rs : List Range). SameOutside rs new.now.bytes image) torn.pending left)

-- an image from before it, but for its range
pub leaves_torn : (at n : ℕ) (old new : Device) → SameMoments old new ⊎ TornWrite at n old new → LeavesOnly old new (ImageBut old (record { start = at; len = n } ∷ []))
leaves_torn at n old new (inl same) = stays old new (ImageBut old (record { start = at; len = n } ∷ [])) same
leaves_torn at n old new (inr torn) = passes old new (ImageBut old (record { start = at; len = n } ∷ [])) torn.name torn.past (torn_besides at n old new torn)

-- each image that a crash may leave after a write that succeeds: one from before it, but for its range
pub leaves_written : (at : ℕ) (bytes : List ℕ) (old new : Device) → at + length bytes ≤ length old.now.bytes → new ≡ written at bytes old
    → LeavesOnly old new (ImageBut old (range_of at bytes ∷ []))
leaves_written at bytes old new fits is =
    leaves_torn at (length bytes) old new (inr (subst (λ (d : Device). TornWrite at (length bytes) old d) (sym is) (torn_written at bytes old fits)))

-- by the clauses of `write_at`: an image from before it, but for its range
pub leaves_write : (at : ℕ) (bytes : List ℕ) (old new : Device) (r : Result (Unit {0}) DiskError)
    → OnOk r (at + length bytes ≤ length old.now.bytes)
    → OnOk r (new ≡ written at bytes old)
    → (IsErrOf r OutOfRange → (length old.now.bytes < at + length bytes) × (new ≡ old))
    → (IsErrOf r Fault → SameMoments old new ⊎ TornWrite at (length bytes) old new)
    → LeavesOnly old new (ImageBut old (range_of at bytes ∷ []))
leaves_write at bytes old new (Ok u) fits ok refused failed = leaves_written at bytes old new fits ok
leaves_write at bytes old new (Err Fault) fits ok refused failed = leaves_torn at (length bytes) old new (failed refl)
leaves_write at bytes old new (Err OutOfRange) fits ok refused failed =
    let is = (refused refl).1 in stays old new (ImageBut old (range_of at bytes ∷ [])) (record { name = λ i. (is i).name; now = λ i. (is i).now; past = λ i. (is i).past })

-- all of these are possible
pub written_possible : (at : ℕ) (bytes : List ℕ) (old : Device) (image : List ℕ) → at + length bytes ≤ length old.now.bytes
    → ImageBut old (range_of at bytes ∷ []) image → Image (written at bytes old).now image
written_possible at bytes old image fits (before, was, torn) =
    torn_forth (range_of at bytes) old.now.pending old.now.bytes (spliced old.now.bytes at bytes) before image (spliced_same old.now.bytes bytes at fits) was torn

-- What a sync leaves, whatever it answers.

-- images from before it, and no others
pub leaves_synced : SyncLaw
leaves_synced old new is =
    let always : Always (synced old) (ImageBut old []) = always_only (synced old) (ImageBut old []) refl (besides_none old [] old.now.bytes (image_now old)) in
    passes old new (ImageBut old []) (λ i. (is i).name) (λ i. (is i).past) (subst (λ (d : Device). Always d (ImageBut old [])) (sym is) always)

-- what held of each image goes on to hold
pub after_sync : (old new : Device) (P : List ℕ → Type 0) → Always old P → LeavesOnly old new (ImageBut old []) → LeavesOnly old new P × Always new P
after_sync old new P always leaves = survives old new [] P always (survives_none P) leaves

-- a sync that succeeds leaves what reads and nothing else
pub only_synced : (old new : Device) → new ≡ synced old → Always new (λ image. image ≡ old.now.bytes)
only_synced old new is image left = only_now new image (λ i. (is i).now.pending) left ∙ (λ i. (is i).now.bytes)
