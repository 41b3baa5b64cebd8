-- What a crash may leave of a host's device before some of the calls that it has made.
use Rattle.std.proofs.Common.{◌≡◌, inl, inr, ℕ, zero, suc, ◌+◌, ◌<◌, ◌≤◌, true, List, [], ◌∷◌, length, drop, sym, ◌∙◌, ap, subst, arith, length-append}
use Rattle.block_disk.specs.Bytes.{spliced}
use Rattle.block_disk.specs.Device.{Image, range_of}
use Rattle.block_disk.specs.Memory.{Stop, Wrote, WriteFailed, Synced, SyncFailed, bytes_after, moment_after, pending_after}
use Rattle.block_disk.proofs.Ranges.{outside_first, outside_rest, outside_sym, outside_trans, spliced_same}
use Rattle.disk_deferred.specs.Deferred.{onto, stop_of}
use Rattle.disk_deferred.specs.Joined.{AllFit, goes_on_with, join_write, joined, longer}
use Rattle.disk_deferred.specs.Syncs.{LeftAt, durable_moments, syncs_in}
use Rattle.disk_deferred.specs.declared.call.DeviceCall.{DeviceCall}
use Rattle.disk_deferred.proofs.Joins.{ends_at, fewer, image_all, join_either, length_after}
use Rattle.disk_deferred.proofs.Moments.{durable_after_all, moments_after, syncs_joined}

-- what a crash before a write may leave, one after it may
pub image_wrote : (first : List ℕ) (at : ℕ) (bytes : List ℕ) (older : List Stop) (image : List ℕ) → AllFit (length first) (Wrote at bytes ∷ older)
    → Image (moment_after first older) image → Image (moment_after first (Wrote at bytes ∷ older)) image
image_wrote first at bytes older image fits is =
    let r = range_of at bytes in
    let rs = pending_after older in
    let was = bytes_after first older in
    let size = length_after first older fits.1 in
    let within = fits.0 in
    let back = outside_sym (r ∷ rs) was (spliced was at bytes) (outside_first r rs was (spliced was at bytes) (spliced_same was bytes at (omega (arith, size, within)))) in
    outside_trans (r ∷ rs) (spliced was at bytes) was image back (outside_rest r rs was image is)

-- fewer calls fit too
pub fits_before : (size : ℕ) (older : List Stop) (next : List DeviceCall) → AllFit size (onto older next) → AllFit size older
fits_before size older [] fits = fits
fits_before size older (call ∷ next) fits = (fits_before size (stop_of call ∷ older) next fits).1

-- where a joined write fits, both do
fits_longer : (size at : ℕ) (more : List ℕ) (newest : Stop) (older : List Stop) → goes_on_with newest at (length more) ≡ true
    → AllFit size (longer newest more ∷ older) → (at + length more ≤ size) × AllFit size (newest ∷ older)
fits_longer size at more (Wrote from bytes) older is fits =
    let both = length-append bytes more in
    let ends = ends_at from bytes at (length more) is in
    let within = fits.0 in
    (omega (arith, both, ends, within), (omega (arith, both, within), fits.1))
fits_longer size at more (WriteFailed from len) older is fits = absurd cc
fits_longer size at more Synced older is fits = absurd cc
fits_longer size at more SyncFailed older is fits = absurd cc

fits_write : (size at : ℕ) (more : List ℕ) (calls : List Stop) → AllFit size (join_write at more calls) → (at + length more ≤ size) × AllFit size calls
fits_write size at more [] fits = fits
fits_write size at more (newest ∷ older) fits =
    join_either at more newest older (λ xs. AllFit size xs → (at + length more ≤ size) × AllFit size (newest ∷ older))
    (λ is. fits_longer size at more newest older is) (λ both. both) fits

-- so do all stops that are told as calls which fit
fits_told : (size : ℕ) (stops : List Stop) → AllFit size (joined stops) → AllFit size stops
fits_told size [] fits = tt
fits_told size (Wrote at more ∷ older) fits = let both = fits_write size at more (joined older) fits in (both.0, fits_told size older both.1)
fits_told size (WriteFailed at len ∷ older) fits = (fits.0, fits_told size older fits.1)
fits_told size (Synced ∷ older) fits = (tt, fits_told size older fits.1)
fits_told size (SyncFailed ∷ older) fits = (tt, fits_told size older fits.1)

-- a write is never joined into a sync
not_longer : (at : ℕ) (more : List ℕ) (newest : Stop) (older before : List Stop) → goes_on_with newest at (length more) ≡ true → longer newest more ∷ older ≡ Synced ∷ before → ⊥
not_longer at more (Wrote from bytes) older before goes is = cc
not_longer at more (WriteFailed from len) older before goes is = cc
not_longer at more Synced older before goes is = cc
not_longer at more SyncFailed older before goes is = cc

not_own : (at : ℕ) (more : List ℕ) (older before : List Stop) → Wrote at more ∷ older ≡ Synced ∷ before → ⊥
not_own at more older before is = cc

not_synced : (at : ℕ) (more : List ℕ) (calls before : List Stop) → join_write at more calls ≡ Synced ∷ before → ⊥
not_synced at more [] before is = not_own at more [] before is
not_synced at more (newest ∷ older) before is =
    join_either at more newest older (λ xs. xs ≡ Synced ∷ before → ⊥) (λ goes. not_longer at more newest older before goes) (λ own. not_own at more (newest ∷ older) before own) is

-- What a crash before a sync among the calls may leave, one of the disk just before that sync may.
pub left_before_sync : (first : List ℕ) (stops : List Stop) (n : ℕ) (before : List Stop) (image : List ℕ) → drop n (joined stops) ≡ Synced ∷ before
    → AllFit (length first) before → Image (moment_after first before) image
    → (suc (syncs_in before) < durable_moments (moments_after first stops)) × LeftAt (suc (syncs_in before)) (moments_after first stops) image
left_before_sync first [] zero before image is fits left = absurd cc
left_before_sync first [] (suc n) before image is fits left = absurd cc
left_before_sync first (Wrote at more ∷ older) zero before image is fits left = absurd (not_synced at more (joined older) before is)
left_before_sync first (Wrote at more ∷ older) (suc n) before image is fits left =
    let k = fewer n at more (joined older) in
    let was = left_before_sync first older k.0 before image (sym k.1 ∙ is) fits left in
    let many = was.0 in
    (omega (arith, many), inr (omega (arith, many), was.1))
left_before_sync first (WriteFailed at len ∷ older) zero before image is fits left = absurd cc
left_before_sync first (WriteFailed at len ∷ older) (suc n) before image is fits left =
    let was = left_before_sync first older n before image is fits left in
    let many = was.0 in
    (omega (arith, many), inr (omega (arith, many), was.1))
left_before_sync first (Synced ∷ older) zero before image is fits left =
    let same : joined older ≡ before = ap (drop 1) is in
    let told = fits_told (length first) older (subst (λ (xs : List Stop). AllFit (length first) xs) (sym same) fits) in
    let here = image_all first older image told (subst (λ (xs : List Stop). Image (moment_after first xs) image) (sym same) left) in
    let all = durable_after_all first older in
    let count = sym (syncs_joined older) ∙ ap syncs_in same in
    (omega (arith, all, count), inr (omega (arith, all, count), inl (omega (arith, all, count), here)))
left_before_sync first (Synced ∷ older) (suc n) before image is fits left =
    let was = left_before_sync first older n before image is fits left in
    let many = was.0 in
    (omega (arith, many), inr (omega (arith, many), was.1))
left_before_sync first (SyncFailed ∷ older) zero before image is fits left = absurd cc
left_before_sync first (SyncFailed ∷ older) (suc n) before image is fits left = left_before_sync first older n before image is fits left
