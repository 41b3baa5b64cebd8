-- Calls of MOST_BYTES at most.
use Rattle.std.proofs.Common.{◌≡◌, inl, inr, Bool, true, false, ℕ, zero, suc, ◌+◌, ◌≤◌, nat_le, ◌==◌, if◌then◌else◌, List, [], ◌∷◌, ◌++◌, length, take, drop, refl, arith, length-append, length-take}
use Rattle.std.proofs.lemmas.Bool.{and_parts, leb-true}
use Rattle.block_disk.specs.Memory.{Stop, Wrote, WriteFailed, Synced, SyncFailed}
use Rattle.disk_deferred.specs.Deferred.{onto}
use Rattle.disk_deferred.specs.Handing.{AreLeft, AreToSync, IsSmall}
use Rattle.disk_deferred.specs.Joined.{AreShortWrites, goes_on_with, join_units, join_write, longer}
use Rattle.disk_deferred.specs.declared.call.DeviceCall.{DeviceCall}
use Rattle.disk_deferred.specs.declared.call.DeviceCall.TheVariants.{Write, Sync}
use Rattle.disk_deferred.specs.declared.call.TheConstants.{MOST_BYTES}

-- a write that goes on with the newest call, or not
joined_short : (from at : ℕ) (bytes more : List ℕ) (older : List Stop) (goes : Bool) → goes_on_with (Wrote from bytes) at (length more) ≡ goes → length more ≤ MOST_BYTES
    → AreShortWrites (Wrote from bytes ∷ older) → AreShortWrites (if goes then longer (Wrote from bytes) more ∷ older else Wrote at more ∷ Wrote from bytes ∷ older)
joined_short from at bytes more older true is fits short =
    let both : nat_le (length bytes + length more) MOST_BYTES ≡ true = (and_parts (from + length bytes == at) (nat_le (length bytes + length more) MOST_BYTES) is).1 in
    let few = leb-true (length bytes + length more) MOST_BYTES both in
    (omega (arith, length-append bytes more, few), short.1)
joined_short from at bytes more older false is fits short = (fits, short)

-- one more write
pub one_short : (at : ℕ) (more : List ℕ) (calls : List Stop) → length more ≤ MOST_BYTES → AreShortWrites calls → AreShortWrites (join_write at more calls)
one_short at more [] fits short = (fits, tt)
one_short at more (Wrote from bytes ∷ older) fits short = joined_short from at bytes more older (goes_on_with (Wrote from bytes) at (length more)) refl fits short
one_short at more (WriteFailed from len ∷ older) fits short = absurd short
one_short at more (Synced ∷ older) fits short = absurd short
one_short at more (SyncFailed ∷ older) fits short = absurd short

-- some more of 16 bytes each
pub units_short : (n at : ℕ) (more : List ℕ) (calls : List Stop) → AreShortWrites calls → AreShortWrites (join_units n at more calls)
units_short zero at more calls short = short
units_short (suc n) at more calls short =
    let few : length (take 16 more) ≤ MOST_BYTES = omega (arith, length-take 16 more) in
    units_short n (at + 16) (drop 16 more) (join_write at (take 16 more) calls) (one_short at (take 16 more) calls few short)

-- behind such calls
short_before : (before : List Stop) (calls : List DeviceCall) → AreShortWrites (onto before calls) → AreShortWrites before
short_before before [] short = short
short_before before (Write at bytes ∷ later) short = (short_before (Wrote at bytes.items ∷ before) later short).1
short_before before (Sync ∷ later) short = absurd (short_before (Synced ∷ before) later short)

-- and then a sync
pub up_to_sync : (before : List Stop) (calls : List DeviceCall) → AreShortWrites (onto before calls) → AreToSync (calls ++ Sync ∷ [])
up_to_sync before [] short = refl
up_to_sync before (Write at bytes ∷ later) short = ((short_before (Wrote at bytes.items ∷ before) later short).0, up_to_sync (Wrote at bytes.items ∷ before) later short)
up_to_sync before (Sync ∷ later) short = absurd (short_before (Synced ∷ before) later short)

-- the first of what is left
pub first_small : (call : DeviceCall) (later : List DeviceCall) → AreLeft (call ∷ later) → IsSmall call
first_small (Write at bytes) later (inl none) = absurd cc
first_small (Write at bytes) later (inr rest) = rest.0
first_small Sync later left = tt

-- and what is left behind it
pub left_behind : (call : DeviceCall) (later : List DeviceCall) → AreLeft (call ∷ later) → AreLeft later
left_behind (Write at bytes) later (inl none) = absurd cc
left_behind (Write at bytes) later (inr rest) = inr rest.1
left_behind Sync later (inl none) = absurd cc
left_behind Sync later (inr rest) = inl rest
