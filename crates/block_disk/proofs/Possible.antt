-- The image of a crash that a disk in memory makes up is one that a crash may leave.
use Rattle.std.proofs.Common.{◌≡◌, inl, inr, ℕ, zero, suc, ◌+◌, ◌-◌, ◌<◌, ◌≤◌, List, [], ◌∷◌, length, drop, replicate, Bool, true, false, nat_le, if◌then◌else◌, refl, sym, ap, subst, arith}
use Rattle.std.proofs.lemmas.Bool.{cases_lt, le-leb, lt-leb}
use Rattle.std.proofs.lemmas.List.{length-replicate}
use Rattle.block_disk.specs.Bytes.{spliced}
use Rattle.block_disk.specs.Crash.{first_stops, cut_short, done_at, filled, crash_bytes, LeftSinceStop}
use Rattle.block_disk.specs.Device.{Range, Moment, SameOutside, Image, LeftIn, range_of}
use Rattle.block_disk.specs.Memory.{Stop, Wrote, WriteFailed, Synced, SyncFailed, Memory, bytes_after, pending_after, durable_after, moment_after, moments_before}
use Rattle.block_disk.specs.declared.crash.Fill.{Fill}
use Rattle.block_disk.specs.declared.crash.Fill.TheVariants.{Lost, Kept, Byte}
use Rattle.block_disk.proofs.Kept.{EachFits, length_after}
use Rattle.block_disk.proofs.Ranges.{outside_refl, outside_sym, outside_trans, outside_first, outside_rest, spliced_same}

-- what was durable, in the pending ranges
lost_image : (first : List ℕ) (stops : List Stop) → EachFits (length first) stops → SameOutside (pending_after stops) (bytes_after first stops) (durable_after first stops)
lost_image first [] each = outside_refl [] first
lost_image first (Wrote at bytes ∷ older) each =
    let r = range_of at bytes in
    let rs = pending_after older in
    let was = bytes_after first older in
    let back = outside_sym (r ∷ rs) was (spliced was at bytes) (outside_first r rs was (spliced was at bytes)
    (spliced_same was bytes at (omega (arith, each.0, length_after first older each.1)))) in
    outside_trans (r ∷ rs) (spliced was at bytes) was (durable_after first older) back (outside_rest r rs was (durable_after first older) (lost_image first older each.1))
lost_image first (WriteFailed at len ∷ older) each =
    outside_rest (record { start = at; len = len }) (pending_after older) (bytes_after first older) (durable_after first older) (lost_image first older each.1)
lost_image first (Synced ∷ older) each = outside_refl [] (bytes_after first older)
lost_image first (SyncFailed ∷ older) each = lost_image first older each.1

-- the ranges lie within a disk of this size
EachWithin : ℕ → List Range → Type 0
EachWithin size [] = Unit {0}
EachWithin size (r ∷ rs) = (r.start + r.len ≤ size) × EachWithin size rs

pending_within : (size : ℕ) (stops : List Stop) → EachFits size stops → EachWithin size (pending_after stops)
unfolding EachWithin
pending_within size [] each = tt
pending_within size (Wrote at bytes ∷ older) each = (each.0, pending_within size older each.1)
pending_within size (WriteFailed at len ∷ older) each = (each.0, pending_within size older each.1)
pending_within size (Synced ∷ older) each = tt
pending_within size (SyncFailed ∷ older) each = pending_within size older each.1

-- one byte, in those ranges
filled_image : (byte : ℕ) (rs : List Range) (image : List ℕ) → EachWithin (length image) rs → SameOutside rs image (filled byte rs image)
unfolding EachWithin
filled_image byte [] image within = outside_refl [] image
filled_image byte (r ∷ rs) image within =
    let bytes = replicate r.len byte in
    let n : length bytes ≡ r.len = length-replicate r.len byte in
    let mid = spliced image r.start bytes in
    let one : SameOutside (r ∷ []) image mid =
    subst (λ (m : ℕ). SameOutside (record { start = r.start; len = m } ∷ []) image mid) n (spliced_same image bytes r.start (omega (arith, n, within.0))) in
    let rest = filled_image byte rs mid (subst (λ (m : ℕ). EachWithin m rs) (sym one.size) within.1) in
    outside_trans (r ∷ rs) image mid (filled byte rs mid) (outside_first r rs image mid one) (outside_rest r rs mid (filled byte rs mid) rest)

-- each fill is possible after the stops
pub possible : (fill : Fill) (first : List ℕ) (stops : List Stop) → EachFits (length first) stops → Image (moment_after first stops) (crash_bytes fill first stops)
possible Lost first stops each = lost_image first stops each
possible Kept first stops each = outside_refl (pending_after stops) (bytes_after first stops)
possible (Byte byte) first stops each =
    filled_image byte (pending_after stops) (bytes_after first stops)
    (subst (λ (n : ℕ). EachWithin n (pending_after stops)) (sym (length_after first stops each)) (pending_within (length first) stops each))

each_drop : (size n : ℕ) (stops : List Stop) → EachFits size stops → EachFits size (drop n stops)
each_drop size zero stops each = each
each_drop size (suc n) [] each = tt
each_drop size (suc n) (s ∷ older) each = each_drop size n older each.1

each_cut : (size : ℕ) (stops : List Stop) → EachFits size stops → EachFits size (cut_short stops)
each_cut size [] each = tt
each_cut size (Wrote at bytes ∷ older) each = each
each_cut size (WriteFailed at len ∷ older) each = each
each_cut size (Synced ∷ older) each = each.1
each_cut size (SyncFailed ∷ older) each = each

-- what a crash finds done lies within
pub each_done : (size k : ℕ) (stops : List Stop) → EachFits size stops → EachFits size (done_at k stops)
each_done size k stops each = either (nat_le k (length stops))
  where
    either : (b : Bool) → EachFits size (if b then cut_short (first_stops k stops) else stops)
    either true = each_cut size (first_stops k stops) (each_drop size (length stops - k) stops each)
    either false = each

-- the moments after these stops, the latest first
abbrev moments : List ℕ → List Stop → List Moment
moments first stops = moment_after first stops ∷ moments_before first stops

-- what a crash might have left it might have left later too
left_later : (t : ℕ) (first image : List ℕ) (s : Stop) (older : List Stop) → LeftIn t (moments first older) image → LeftIn t (moments first (s ∷ older)) image
left_later t first image (Wrote at bytes) older left = inr left
left_later t first image (WriteFailed at len) older left = inr left
left_later t first image Synced older left = inr left
left_later t first image SyncFailed older left = left

left_drop : (t : ℕ) (first image : List ℕ) (n : ℕ) (stops : List Stop) → LeftIn t (moments first (drop n stops)) image → LeftIn t (moments first stops) image
left_drop t first image zero stops left = left
left_drop t first image (suc n) [] left = left
left_drop t first image (suc n) (s ∷ older) left = left_later t first image s older (left_drop t first image n older left)

-- the image of a crash in a stop is of a moment since it was begun
left_begun : (fill : Fill) (first : List ℕ) (s : Stop) (older : List Stop) → EachFits (length first) (s ∷ older)
    → LeftIn (length (moments_before first older)) (moments first (s ∷ older)) (crash_bytes fill first (cut_short (s ∷ older)))
left_begun fill first (Wrote at bytes) older each = inl (omega arith, possible fill first (Wrote at bytes ∷ older) each)
left_begun fill first (WriteFailed at len) older each = inl (omega arith, possible fill first (WriteFailed at len ∷ older) each)
left_begun fill first Synced older each = inr (inl (omega arith, possible fill first older each.1))
left_begun fill first SyncFailed older each = inl (omega arith, possible fill first (SyncFailed ∷ older) each)

-- there is a stop where some are left
one_left : (n : ℕ) (stops : List Stop) → n < length stops → (s : Stop) × (drop n stops ≡ s ∷ drop (suc n) stops)
one_left n [] within = absurd (omega arith)
one_left zero (s ∷ older) within = (s, refl)
one_left (suc n) (s ∷ older) within = one_left n older (omega arith)

left_in : (fill : Fill) (first : List ℕ) (stops : List Stop) (n : ℕ) → n < length stops → EachFits (length first) stops
    → LeftIn (length (moments_before first (drop (suc n) stops))) (moments first stops) (crash_bytes fill first (cut_short (drop n stops)))
left_in fill first stops n within each =
    let one = one_left n stops within in
    let fits = subst (EachFits (length first)) one.1 (each_drop (length first) n stops each) in
    let t = length (moments_before first (drop (suc n) stops)) in
    left_drop t first (crash_bytes fill first (cut_short (drop n stops))) n stops
    (subst (λ (ss : List Stop). LeftIn t (moments first ss) (crash_bytes fill first (cut_short ss))) (sym one.1) (left_begun fill first one.0 (drop (suc n) stops) fits))

-- and so is that of a crash after all of them
pub left_since_stop : (fill : Fill) (m : Memory) (k : ℕ) → 1 ≤ k → k ≤ length m.stops + 1 → EachFits (length m.first) m.stops
    → LeftSinceStop k m (crash_bytes fill m.first (done_at k m.stops))
left_since_stop fill m k low high each = elim (cases_lt (length m.stops) k) [
  | inl after ↦
      let none : length m.stops - (k - 1) ≡ 0 = omega arith in
      let all : done_at k m.stops ≡ m.stops = ap (λ (b : Bool). if b then cut_short (first_stops k m.stops) else m.stops) (lt-leb k (length m.stops) after) in
      let at_end : first_stops (k - 1) m.stops ≡ m.stops = ap (λ (n : ℕ). drop n m.stops) none in
      subst (λ (ss : List Stop). LeftIn (length (moments_before m.first ss)) (moments m.first m.stops) (crash_bytes fill m.first (done_at k m.stops))) (sym at_end)
      (subst (λ (ss : List Stop). LeftIn (length (moments_before m.first m.stops)) (moments m.first m.stops) (crash_bytes fill m.first ss)) (sym all)
      (inl (omega arith, possible fill m.first m.stops each)))
  | inr within ↦
      let n = length m.stops - k in
      let next : length m.stops - (k - 1) ≡ suc n = omega arith in
      let begun : done_at k m.stops ≡ cut_short (drop n m.stops) =
      ap (λ (b : Bool). if b then cut_short (first_stops k m.stops) else m.stops) (le-leb k (length m.stops) within) in
      subst (λ (j : ℕ). LeftIn (length (moments_before m.first (drop j m.stops))) (moments m.first m.stops) (crash_bytes fill m.first (done_at k m.stops))) (sym next)
      (subst (λ (ss : List Stop). LeftIn (length (moments_before m.first (drop (suc n) m.stops))) (moments m.first m.stops) (crash_bytes fill m.first ss)) (sym begun)
      (left_in fill m.first m.stops n (omega arith) each))
]
