-- At which moment of a disk its host's device is.
use Rattle.std.proofs.Common.{◌≡◌, inl, inr, ℕ, zero, suc, ◌≤◌, List, [], ◌∷◌, ◌++◌, length, drop, refl, sym, ◌∙◌, ap, subst, arith, length-append}
use Rattle.block_disk.specs.Bytes.{spliced}
use Rattle.block_disk.specs.Device.{Image, LeftIn, Moment, range_of}
use Rattle.block_disk.specs.Memory.{Stop, Wrote, WriteFailed, Synced, SyncFailed, bytes_after, moment_after, moments_before, pending_after}
use Rattle.block_disk.proofs.Ranges.{outside_first, outside_rest, outside_sym, outside_trans, spliced_same}
use Rattle.disk_deferred.specs.Joined.{AllFit, at_sync, join_write, joined, longer}
use Rattle.disk_deferred.specs.Syncs.{LeftAt, SinceLaw, durable_moments, syncs_in}
use Rattle.disk_deferred.proofs.Joins.{fewer, image_all, join_either, length_after}

-- the moments of these stops
abbrev pub moments_after : List ℕ → List Stop → List Moment
moments_after first stops = moment_after first stops ∷ moments_before first stops

-- the first moment, and one behind each sync
pub durable_after_all : (first : List ℕ) (stops : List Stop) → durable_moments (moments_after first stops) ≡ suc (syncs_in stops)
durable_after_all first [] = refl
durable_after_all first (Wrote at bytes ∷ older) = let before = durable_after_all first older in omega (arith, before)
durable_after_all first (WriteFailed at len ∷ older) = let before = durable_after_all first older in omega (arith, before)
durable_after_all first (Synced ∷ older) = let before = durable_after_all first older in omega (arith, before)
durable_after_all first (SyncFailed ∷ older) = durable_after_all first older

-- joined writes leave the syncs
syncs_longer : (newest : Stop) (more : List ℕ) (older : List Stop) → syncs_in (longer newest more ∷ older) ≡ syncs_in (newest ∷ older)
syncs_longer (Wrote from bytes) more older = refl
syncs_longer (WriteFailed from len) more older = refl
syncs_longer Synced more older = refl
syncs_longer SyncFailed more older = refl

syncs_write : (at : ℕ) (more : List ℕ) (calls : List Stop) → syncs_in (join_write at more calls) ≡ syncs_in calls
syncs_write at more [] = refl
syncs_write at more (newest ∷ older) = join_either at more newest older (λ xs. syncs_in xs ≡ syncs_in (newest ∷ older)) (λ is. syncs_longer newest more older) refl

pub syncs_joined : (stops : List Stop) → syncs_in (joined stops) ≡ syncs_in stops
syncs_joined [] = refl
syncs_joined (Wrote at more ∷ older) = syncs_write at more (joined older) ∙ syncs_joined older
syncs_joined (WriteFailed at len ∷ older) = syncs_joined older
syncs_joined (Synced ∷ older) = ap suc (syncs_joined older)
syncs_joined (SyncFailed ∷ older) = syncs_joined older

syncs_dropped : (n : ℕ) (calls : List Stop) → syncs_in (drop n calls) ≤ syncs_in calls
syncs_dropped zero calls = omega arith
syncs_dropped (suc n) [] = omega arith
syncs_dropped (suc n) (Wrote at bytes ∷ older) = syncs_dropped n older
syncs_dropped (suc n) (WriteFailed at len ∷ older) = syncs_dropped n older
syncs_dropped (suc n) (Synced ∷ older) = let fewer = syncs_dropped n older in omega (arith, fewer)
syncs_dropped (suc n) (SyncFailed ∷ older) = syncs_dropped n older

-- as many up to the last one
pub syncs_at_sync : (stops : List Stop) → syncs_in (at_sync stops) ≡ syncs_in stops
syncs_at_sync [] = refl
syncs_at_sync (Wrote at bytes ∷ older) = syncs_at_sync older
syncs_at_sync (WriteFailed at len ∷ older) = syncs_at_sync older
syncs_at_sync (Synced ∷ older) = refl
syncs_at_sync (SyncFailed ∷ older) = syncs_at_sync older

-- what a crash before a write may leave, one behind it may
image_wrote : (first : List ℕ) (at : ℕ) (bytes : List ℕ) (older : List Stop) (image : List ℕ) → AllFit (length first) (Wrote at bytes ∷ older) → Image (moment_after first older) image
    → Image (moment_after first (Wrote at bytes ∷ older)) image
image_wrote first at bytes older image fits is =
    let r = range_of at bytes in
    let rs = pending_after older in
    let was = bytes_after first older in
    let size = length_after first older fits.1 in
    let within = fits.0 in
    let back = outside_sym (r ∷ rs) was (spliced was at bytes) (outside_first r rs was (spliced was at bytes) (spliced_same was bytes at (omega (arith, size, within)))) in
    outside_trans (r ∷ rs) (spliced was at bytes) was image back (outside_rest r rs was image is)

image_failed : (first : List ℕ) (at len : ℕ) (older : List Stop) (image : List ℕ) → Image (moment_after first older) image → Image (moment_after first (WriteFailed at len ∷ older)) image
image_failed first at len older image is = outside_rest (record { start = at; len = len }) (pending_after older) (bytes_after first older) image is

-- with no sync between
left_wrote : (n : ℕ) (first : List ℕ) (at : ℕ) (bytes : List ℕ) (older : List Stop) (image : List ℕ) → AllFit (length first) (Wrote at bytes ∷ older) → LeftAt n (moments_after first older) image
    → LeftAt n (moments_after first (Wrote at bytes ∷ older)) image
left_wrote n first at bytes older image fits (inl now) = let few = now.0 in inl (omega (arith, few), image_wrote first at bytes older image fits now.1)
left_wrote n first at bytes older image fits (inr before) = let many = before.0 in inr (omega (arith, many), inr before)

left_failed : (n : ℕ) (first : List ℕ) (at len : ℕ) (older : List Stop) (image : List ℕ) → LeftAt n (moments_after first older) image → LeftAt n (moments_after first (WriteFailed at len ∷ older)) image
left_failed n first at len older image (inl now) = let few = now.0 in inl (omega (arith, few), image_failed first at len older image now.1)
left_failed n first at len older image (inr before) = let many = before.0 in inr (omega (arith, many), inr before)

-- What a crash behind some of the calls may leave, one at the last moment with as many syncs may.
pub left_at : (first : List ℕ) (stops : List Stop) (n : ℕ) (image : List ℕ) → AllFit (length first) stops → Image (moment_after first (drop n (joined stops))) image
    → LeftAt (suc (syncs_in (drop n (joined stops)))) (moments_after first stops) image
left_at first [] zero image fits is = inl (omega arith, is)
left_at first [] (suc n) image fits is = inl (omega arith, is)
left_at first (stop ∷ older) zero image fits is =
    let all = durable_after_all first (stop ∷ older) in
    let same = syncs_joined (stop ∷ older) in
    inl (omega (arith, all, same), image_all first (stop ∷ older) image fits is)
left_at first (Wrote at more ∷ older) (suc n) image fits is =
    let k = fewer n at more (joined older) in
    let before = left_at first older k.0 image fits.1 (subst (λ (xs : List Stop). Image (moment_after first xs) image) k.1 is) in
    subst (λ (xs : List Stop). LeftAt (suc (syncs_in xs)) (moments_after first (Wrote at more ∷ older)) image) (sym k.1)
    (left_wrote (suc (syncs_in (drop k.0 (joined older)))) first at more older image fits before)
left_at first (WriteFailed at len ∷ older) (suc n) image fits is = left_failed (suc (syncs_in (drop n (joined older)))) first at len older image (left_at first older n image fits.1 is)
left_at first (Synced ∷ older) (suc n) image fits is =
    let all = durable_after_all first older in
    let same = syncs_joined older in
    let few = syncs_dropped n (joined older) in
    inr (omega (arith, all, same, few), left_at first older n image fits.1 is)
left_at first (SyncFailed ∷ older) (suc n) image fits is = left_at first older n image fits.1 is

-- such an image is of some moment
pub left_in : (n : ℕ) (ms : List Moment) (image : List ℕ) → LeftAt n ms image → LeftIn 0 ms image
left_in n [] image left = left
left_in n (m ∷ before) image (inl now) = inl (omega arith, now.1)
left_in n (m ∷ before) image (inr earlier) = inr (left_in n before image earlier.1)

-- and of one since there were no more
came : (n : ℕ) (since : List Moment) (m : Moment) (before : List Moment) (image : List ℕ) → durable_moments (m ∷ before) ≤ n → LeftAt n (since ++ (m ∷ before)) image
    → LeftIn (length before) (since ++ (m ∷ before)) image
came n [] m before image few (inl now) = inl (omega arith, now.1)
came n [] m before image few (inr earlier) = let many = earlier.0 in absurd (omega (arith, few, many))
came n (x ∷ since) m before image few (inl now) = let long = length-append since (m ∷ before) in inl (omega (arith, long), now.1)
came n (x ∷ since) m before image few (inr earlier) = inr (came n since m before image few earlier.1)

pub left_since_then : SinceLaw
left_since_then n old new image grows few left =
    subst (λ (ms : List Moment). LeftIn (length old.past) ms image) (sym grows.moments)
    (came n grows.since old.now old.past image few (subst (λ (ms : List Moment). LeftAt n ms image) grows.moments left))
