-- Stops, and the calls that they are told as.
use Rattle.std.proofs.Common.{◌≡◌, inl, inr, Bool, true, false, if◌then◌else◌, ◌==◌, nat_le, ℕ, zero, suc, ◌+◌, ◌≤◌, List, [], ◌∷◌, ◌++◌, length, get_or, drop, refl, sym, ◌∙◌, ap, subst, arith, length-append, slice_index}
use Rattle.std.proofs.lemmas.Bool.{and_parts, cases_Bool, eqb-true}
use Rattle.std.proofs.Math.ListN.{set}
use Rattle.block_disk.specs.Bytes.{spliced}
use Rattle.block_disk.specs.Device.{Image, IsClear, IsOutside, LeftIn, range_of}
use Rattle.block_disk.specs.Memory.{Stop, Wrote, WriteFailed, Synced, SyncFailed, bytes_after, moment_after, moments_before, pending_after}
use Rattle.block_disk.proofs.Bytes.{length_spliced}
use Rattle.block_disk.proofs.InUnits.{spliced_twice}
use Rattle.disk_deferred.specs.Deferred.{IsDeferring, first_in, onto, stop_of, stops_in}
use Rattle.disk_deferred.specs.Joined.{AllFit, AreShortWrites, IsAtSync, goes_on_with, join_write, joined, longer}
use Rattle.disk_deferred.specs.declared.call.DeviceCall.{DeviceCall}
use Rattle.disk_deferred.specs.declared.call.Handed.{Handed}
use Rattle.disk_deferred.specs.declared.call.TheConstants.{MOST_BYTES}
use Rattle.disk_deferred.proofs.Short.{one_short}

-- a write is joined with the newest call, or is one of its own
pub join_either : (at : ℕ) (more : List ℕ) (newest : Stop) (older : List Stop) (P : List Stop → Type 0) → (goes_on_with newest at (length more) ≡ true → P (longer newest more ∷ older))
    → P (Wrote at more ∷ newest ∷ older) → P (join_write at more (newest ∷ older))
join_either at more newest older P one own = elim (cases_Bool (goes_on_with newest at (length more))) [
  | inl is ↦ subst (λ (b : Bool). P (if b then longer newest more ∷ older else Wrote at more ∷ newest ∷ older)) (sym is) (one is)
  | inr is ↦ subst (λ (b : Bool). P (if b then longer newest more ∷ older else Wrote at more ∷ newest ∷ older)) (sym is) own
]

-- a write with which another goes on ends where that begins
pub ends_at : (from : ℕ) (bytes : List ℕ) (at more : ℕ) → goes_on_with (Wrote from bytes) at more ≡ true → from + length bytes ≡ at
ends_at from bytes at more is = let parts : ((from + length bytes == at) ≡ true) × (nat_le (length bytes + more) MOST_BYTES ≡ true) = and_parts _ _ is in eqb-true _ _ parts.0

-- outside of both is outside of the joined one
outside_both : (i from at : ℕ) (bytes more : List ℕ) → from + length bytes ≡ at → IsOutside i (range_of at more) → IsOutside i (range_of from bytes) → IsOutside i (range_of from (bytes ++ more))
outside_both i from at bytes more ends out_more (inl low) = inl low
outside_both i from at bytes more ends (inl low) (inr high) = absurd (omega (arith, ends, low, high))
outside_both i from at bytes more ends (inr past) (inr high) = let both = length-append bytes more in inr (omega (arith, both, ends, past))

clear_joined : (i at : ℕ) (more : List ℕ) (newest : Stop) (older : List Stop) → goes_on_with newest at (length more) ≡ true → IsClear i (range_of at more ∷ pending_after (newest ∷ older))
    → IsClear i (pending_after (longer newest more ∷ older))
clear_joined i at more (Wrote from bytes) older is clear = (outside_both i from at bytes more (ends_at from bytes at (length more) is) clear.0 clear.1.0, clear.1.1)
clear_joined i at more (WriteFailed from len) older is clear = clear.1
clear_joined i at more Synced older is clear = tt
clear_joined i at more SyncFailed older is clear = clear.1

clear_write : (i at : ℕ) (more : List ℕ) (calls : List Stop) → IsClear i (range_of at more ∷ pending_after calls) → IsClear i (pending_after (join_write at more calls))
clear_write i at more [] clear = clear
clear_write i at more (newest ∷ older) clear = join_either at more newest older (λ xs. IsClear i (pending_after xs)) (λ is. clear_joined i at more newest older is clear) clear

-- what no stop has pending no call has
clear_all : (i : ℕ) (stops : List Stop) → IsClear i (pending_after stops) → IsClear i (pending_after (joined stops))
clear_all i [] clear = tt
clear_all i (Wrote at more ∷ older) clear = clear_write i at more (joined older) (clear.0, clear_all i older clear.1)
clear_all i (WriteFailed at len ∷ older) clear = (clear.0, clear_all i older clear.1)
clear_all i (Synced ∷ older) clear = tt
clear_all i (SyncFailed ∷ older) clear = clear_all i older clear

-- stops keep the size
pub length_after : (first : List ℕ) (stops : List Stop) → AllFit (length first) stops → length (bytes_after first stops) ≡ length first
length_after first [] fits = refl
length_after first (Wrote at bytes ∷ older) fits =
    let same = length_after first older fits.1 in
    let within = fits.0 in
    length_spliced (bytes_after first older) bytes at (omega (arith, same, within)) ∙ same
length_after first (WriteFailed at len ∷ older) fits = length_after first older fits.1
length_after first (Synced ∷ older) fits = length_after first older fits.1
length_after first (SyncFailed ∷ older) fits = length_after first older fits.1

fits_joined : (size at : ℕ) (more : List ℕ) (newest : Stop) (older : List Stop) → goes_on_with newest at (length more) ≡ true → at + length more ≤ size → AllFit size (newest ∷ older)
    → AllFit size (longer newest more ∷ older)
fits_joined size at more (Wrote from bytes) older is within fits =
    let both = length-append bytes more in
    let ends = ends_at from bytes at (length more) is in
    (omega (arith, both, ends, within), fits.1)
fits_joined size at more (WriteFailed from len) older is within fits = fits
fits_joined size at more Synced older is within fits = fits
fits_joined size at more SyncFailed older is within fits = fits

fits_write : (size at : ℕ) (more : List ℕ) (calls : List Stop) → at + length more ≤ size → AllFit size calls → AllFit size (join_write at more calls)
fits_write size at more [] within fits = (within, tt)
fits_write size at more (newest ∷ older) within fits = join_either at more newest older (AllFit size) (λ is. fits_joined size at more newest older is within fits) (within, fits)

fits_all : (size : ℕ) (stops : List Stop) → AllFit size stops → AllFit size (joined stops)
fits_all size [] fits = tt
fits_all size (Wrote at more ∷ older) fits = fits_write size at more (joined older) fits.0 (fits_all size older fits.1)
fits_all size (WriteFailed at len ∷ older) fits = (fits.0, fits_all size older fits.1)
fits_all size (Synced ∷ older) fits = (tt, fits_all size older fits.1)
fits_all size (SyncFailed ∷ older) fits = (tt, fits_all size older fits.1)

bytes_joined : (first : List ℕ) (at : ℕ) (more : List ℕ) (newest : Stop) (older : List Stop) → goes_on_with newest at (length more) ≡ true → at + length more ≤ length first
    → AllFit (length first) (newest ∷ older) → bytes_after first (longer newest more ∷ older) ≡ spliced (bytes_after first (newest ∷ older)) at more
bytes_joined first at more (Wrote from bytes) older is within fits =
    let ends = ends_at from bytes at (length more) is in
    let size = length_after first older fits.1 in
    let image = bytes_after first older in
    sym (spliced_twice image bytes more from (omega (arith, ends, size, within))) ∙ ap (λ (k : ℕ). spliced (spliced image from bytes) k more) ends
bytes_joined first at more (WriteFailed from len) older is within fits = absurd cc
bytes_joined first at more Synced older is within fits = absurd cc
bytes_joined first at more SyncFailed older is within fits = absurd cc

bytes_write : (first : List ℕ) (at : ℕ) (more : List ℕ) (calls : List Stop) → at + length more ≤ length first → AllFit (length first) calls
    → bytes_after first (join_write at more calls) ≡ spliced (bytes_after first calls) at more
bytes_write first at more [] within fits = refl
bytes_write first at more (newest ∷ older) within fits =
    join_either at more newest older (λ xs. bytes_after first xs ≡ spliced (bytes_after first (newest ∷ older)) at more) (λ is. bytes_joined first at more newest older is within fits) refl

-- the calls make the same bytes
pub bytes_all : (first : List ℕ) (stops : List Stop) → AllFit (length first) stops → bytes_after first (joined stops) ≡ bytes_after first stops
bytes_all first [] fits = refl
bytes_all first (Wrote at more ∷ older) fits =
    bytes_write first at more (joined older) fits.0 (fits_all (length first) older fits.1) ∙ ap (λ (xs : List ℕ). spliced xs at more) (bytes_all first older fits.1)
bytes_all first (WriteFailed at len ∷ older) fits = bytes_all first older fits.1
bytes_all first (Synced ∷ older) fits = bytes_all first older fits.1
bytes_all first (SyncFailed ∷ older) fits = bytes_all first older fits.1

-- what a crash after the calls may leave, one after the stops may
pub image_all : (first : List ℕ) (stops : List Stop) (image : List ℕ) → AllFit (length first) stops → Image (moment_after first (joined stops)) image → Image (moment_after first stops) image
image_all first stops image fits is =
    let same = bytes_all first stops fits in record {
      size = is.size ∙ ap (λ (xs : List ℕ). length xs) same;
      same = λ i clear. is.same i (clear_all i stops clear) ∙ ap (λ (xs : List ℕ). slice_index xs i) same;
    }

-- an image of some moment stays one
left_later : (first : List ℕ) (stop : Stop) (older : List Stop) (image : List ℕ) → LeftIn 0 (moment_after first older ∷ moments_before first older) image
    → LeftIn 0 (moment_after first (stop ∷ older) ∷ moments_before first (stop ∷ older)) image
left_later first (Wrote at bytes) older image is = inr is
left_later first (WriteFailed at len) older image is = inr is
left_later first Synced older image is = inr is
left_later first SyncFailed older image is = is

-- with one call or more fewer, a write is one of those before it
pub fewer : (n at : ℕ) (more : List ℕ) (calls : List Stop) → (k : ℕ) × (drop (suc n) (join_write at more calls) ≡ drop k calls)
fewer n at more [] = (n, refl)
fewer n at more (newest ∷ older) = join_either at more newest older (λ xs. (k : ℕ) × (drop (suc n) xs ≡ drop k (newest ∷ older))) (λ is. (suc n, refl)) (n, refl)

-- what a crash after some of the calls may leave, one at some moment of the stops may
pub left_dropped : (first : List ℕ) (stops : List Stop) (n : ℕ) (image : List ℕ) → AllFit (length first) stops → Image (moment_after first (drop n (joined stops))) image
    → LeftIn 0 (moment_after first stops ∷ moments_before first stops) image
left_dropped first [] zero image fits is = inl (omega arith, is)
left_dropped first [] (suc n) image fits is = inl (omega arith, is)
left_dropped first (stop ∷ older) zero image fits is = inl (omega arith, image_all first (stop ∷ older) image fits is)
left_dropped first (Wrote at more ∷ older) (suc n) image fits is =
    let k = fewer n at more (joined older) in
    left_later first (Wrote at more) older image (left_dropped first older k.0 image fits.1 (subst (λ (xs : List Stop). Image (moment_after first xs) image) k.1 is))
left_dropped first (WriteFailed at len ∷ older) (suc n) image fits is = left_later first (WriteFailed at len) older image (left_dropped first older n image fits.1 is)
left_dropped first (Synced ∷ older) (suc n) image fits is = left_later first Synced older image (left_dropped first older n image fits.1 is)
left_dropped first (SyncFailed ∷ older) (suc n) image fits is = left_later first SyncFailed older image (left_dropped first older n image fits.1 is)

-- behind a sync a write is a call of its own
pub own_behind_sync : (at : ℕ) (more : List ℕ) (before : List Stop) → IsAtSync before → join_write at more before ≡ Wrote at more ∷ before
own_behind_sync at more [] is = refl
own_behind_sync at more (Wrote from bytes ∷ older) is = absurd is
own_behind_sync at more (WriteFailed from len ∷ older) is = absurd is
own_behind_sync at more (Synced ∷ older) is = refl
own_behind_sync at more (SyncFailed ∷ older) is = absurd is

-- the newest stop of calls is that of the last one
onto_last : (before : List Stop) (cs : List DeviceCall) (k : ℕ) (d : DeviceCall) → k + 1 ≡ length cs → onto before cs ≡ stop_of (get_or cs k d) ∷ drop 1 (onto before cs)
onto_last before [] k d last = absurd (omega (arith, last))
onto_last before (c ∷ []) zero d last = refl
onto_last before (c ∷ []) (suc k) d last = absurd (omega (arith, last))
onto_last before (c ∷ e ∷ cs) zero d last = absurd (omega (arith, last))
onto_last before (c ∷ e ∷ cs) (suc k) d last = onto_last (stop_of c ∷ before) (e ∷ cs) k d (omega (arith, last))

-- and with another call in its place
onto_set : (before : List Stop) (cs : List DeviceCall) (k : ℕ) (other : DeviceCall) → k + 1 ≡ length cs → onto before (set cs k other) ≡ stop_of other ∷ drop 1 (onto before cs)
onto_set before [] k other last = absurd (omega (arith, last))
onto_set before (c ∷ []) zero other last = refl
onto_set before (c ∷ []) (suc k) other last = absurd (omega (arith, last))
onto_set before (c ∷ e ∷ cs) zero other last = absurd (omega (arith, last))
onto_set before (c ∷ e ∷ cs) (suc k) other last = onto_set (stop_of c ∷ before) (e ∷ cs) k other (omega (arith, last))

-- a write that goes on with the newest call
pub join_on : (at : ℕ) (more : List ℕ) (newest : Stop) (older : List Stop) → goes_on_with newest at (length more) ≡ true → join_write at more (newest ∷ older) ≡ longer newest more ∷ older
join_on at more newest older is = ap (λ (b : Bool). if b then longer newest more ∷ older else Wrote at more ∷ newest ∷ older) is

-- the call at the last place
pub last_is : (before : List Stop) (cs : List DeviceCall) (k : ℕ) (c : DeviceCall) → k + 1 ≡ length cs → c ≡ get_or cs k c → onto before cs ≡ stop_of c ∷ drop 1 (onto before cs)
last_is before cs k c last is = onto_last before cs k c last ∙ ap (λ (e : DeviceCall). stop_of e ∷ drop 1 (onto before cs)) (sym is)

-- a write that goes on with the last call makes that longer, where there is memory
pub taken : (before : List Stop) (cs : List DeviceCall) (k : ℕ) (c d other : DeviceCall) (r : Bool) (at : ℕ) (more : List ℕ) → k + 1 ≡ length cs → c ≡ get_or cs k c → d ≡ get_or cs k d
    → goes_on_with (stop_of c) at (length more) ≡ true → stop_of other ≡ (if r then longer (stop_of d) more else stop_of d)
    → onto before (set cs k other) ≡ (if r then join_write at more (onto before cs) else onto before cs)
taken before cs k c d other true at more last is is' goes made =
    let older = drop 1 (onto before cs) in
    let one = last_is before cs k c last is in
    let two = last_is before cs k d last is' in
    let same : stop_of c ≡ stop_of d = ap (λ (xs : List Stop). get_or xs 0 (stop_of c)) (sym one ∙ two) in
    let on : goes_on_with (stop_of d) at (length more) ≡ true = subst (λ (s : Stop). goes_on_with s at (length more) ≡ true) same goes in
    onto_set before cs k other last ∙ ap (λ (s : Stop). s ∷ older) made ∙ sym (join_on at more (stop_of d) older on) ∙ ap (join_write at more) (sym two)
taken before cs k c d other false at more last is is' goes made =
    onto_set before cs k other last ∙ ap (λ (s : Stop). s ∷ drop 1 (onto before cs)) made ∙ sym (last_is before cs k d last is')

-- one write more was asked for
pub wrote_more : (handed : List Handed) (unsent calls : List DeviceCall) (bytes now : List ℕ) (stops later : List Stop) (at : ℕ) (more : List ℕ) → IsDeferring handed unsent bytes stops → at + length more ≤ length bytes
    → length more ≤ MOST_BYTES → onto [] calls ≡ join_write at more (onto [] unsent)
    → onto (stops_in handed) calls ≡ join_write at more (onto (stops_in handed) unsent) → now ≡ spliced bytes at more → later ≡ Wrote at more ∷ stops → IsDeferring handed calls now later
wrote_more handed unsent calls bytes now stops later at more was within few alone joins made is =
    let first = first_in handed in
    let same : length bytes ≡ length first = ap (λ (xs : List ℕ). length xs) was.reads ∙ length_after first stops was.fits in
    subst (λ (s : List Stop). IsDeferring handed calls now s) (sym is) record {
      reads = made ∙ ap (λ (xs : List ℕ). spliced xs at more) was.reads;
      told = ap (join_write at more) was.told ∙ sym joins;
      handed_are = was.handed_are;
      synced = was.synced;
      short = subst AreShortWrites (sym alone) (one_short at more (onto [] unsent) few was.short);
      fits = (omega (arith, same, within), was.fits);
      begun = was.begun;
    }
