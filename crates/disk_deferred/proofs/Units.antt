-- Writes of 16 bytes each, and the calls that they are told as.
use Rattle.std.proofs.Common.{◌≡◌, inl, inr, Bool, true, false, ℕ, zero, suc, ◌+◌, ◌-◌, ◌*◌, ◌<◌, ◌≤◌, nat_le, ◌==◌, if◌then◌else◌, List, [], ◌∷◌, ◌++◌, None, length, take, drop, refl, sym, ◌∙◌, ap, subst, arith, length-append, length-take, length-drop, take-append-drop}
use Rattle.std.proofs.lemmas.Bool.{and_from, and_parts, cases_Bool, eq-eqb, eqb-true, le-leb, leb-true}
use Rattle.std.proofs.lemmas.List.{append-nil, append_assoc, drop-drop, drop-take, take-take, take_all}
use Rattle.block_disk.specs.Bytes.{spliced}
use Rattle.block_disk.specs.Device.{Device, IsClear, unit_ranges, written_units}
use Rattle.block_disk.specs.Images.{ImageBut, LeavesOnly}
use Rattle.block_disk.specs.Memory.{Memory, Stop, Wrote, WriteFailed, Synced, SyncFailed, bytes_after, device_of, units_onto}
use Rattle.block_disk.proofs.Images.{besides_wider, weaker}
use Rattle.block_disk.proofs.InUnits.{head_long, rest_long, units_bytes, units_leave}
use Rattle.block_disk.proofs.Ranges.{outside_more}
use Rattle.disk_deferred.specs.Deferred.{IsDeferring, first_in, onto, stops_in}
use Rattle.disk_deferred.specs.Joined.{AllFit, AreShortWrites, TakesAllOrNone, at_sync, goes_on_with, join_units, join_write, joined, longer}
use Rattle.disk_deferred.specs.declared.call.DeviceCall.{DeviceCall}
use Rattle.disk_deferred.specs.declared.call.Handed.{Handed}
use Rattle.disk_deferred.specs.declared.call.TheConstants.{MOST_BYTES}
use Rattle.disk_deferred.proofs.Joins.{join_on, length_after}
use Rattle.disk_deferred.proofs.Short.{units_short}

goes_on : (from : ℕ) (b : List ℕ) (at more : ℕ) → from + length b ≡ at → length b + more ≤ MOST_BYTES → goes_on_with (Wrote from b) at more ≡ true
goes_on from b at more ends fits = and_from (from + length b == at) (nat_le (length b + more) MOST_BYTES) (eq-eqb (from + length b) at ends) (le-leb (length b + more) MOST_BYTES fits)

-- what takes more takes fewer
pub goes_on_fewer : (s : Stop) (at n more : ℕ) → n ≤ more → goes_on_with s at more ≡ true → goes_on_with s at n ≡ true
goes_on_fewer (Wrote from b) at n more few is =
    let parts : ((from + length b == at) ≡ true) × (nat_le (length b + more) MOST_BYTES ≡ true) = and_parts _ _ is in
    let fits : length b + more ≤ MOST_BYTES = leb-true (length b + more) MOST_BYTES parts.1 in
    and_from (from + length b == at) (nat_le (length b + n) MOST_BYTES) parts.0 (le-leb (length b + n) MOST_BYTES (omega (arith, fits, few)))
goes_on_fewer (WriteFailed from len) at n more few is = absurd cc
goes_on_fewer Synced at n more few is = absurd cc
goes_on_fewer SyncFailed at n more few is = absurd cc

join_not_on : (at : ℕ) (more : List ℕ) (newest : Stop) (older : List Stop) → goes_on_with newest at (length more) ≡ false → join_write at more (newest ∷ older) ≡ Wrote at more ∷ newest ∷ older
join_not_on at more newest older is = ap (λ (b : Bool). if b then longer newest more ∷ older else Wrote at more ∷ newest ∷ older) is

-- writes that all go on with the newest call
on_all : (n at from : ℕ) (b bytes : List ℕ) (older : List Stop) → from + length b ≡ at → length b + n * 16 ≤ MOST_BYTES → length bytes ≡ n * 16
    → join_units n at bytes (Wrote from b ∷ older) ≡ Wrote from (b ++ bytes) ∷ older
on_all zero at from b [] older ends fits long = ap (λ (xs : List ℕ). Wrote from xs ∷ older) (sym (append-nil b))
on_all zero at from b (x ∷ xs) older ends fits long = absurd (omega (arith, long))
on_all (suc n) at from b bytes older ends fits long =
    let a : List ℕ = take 16 bytes in
    let rest : List ℕ = drop 16 bytes in
    let head : length a ≡ 16 = head_long n bytes long in
    let left : length rest ≡ n * 16 = rest_long n bytes long in
    let both : length (b ++ a) ≡ length b + length a = length-append b a in
    let within : length b + length a ≤ MOST_BYTES = omega (arith, head, fits) in
    let one : join_write at a (Wrote from b ∷ older) ≡ Wrote from (b ++ a) ∷ older = join_on at a (Wrote from b) older (goes_on from b at (length a) ends within) in
    ap (λ (cs : List Stop). join_units n (at + 16) rest cs) one
    ∙ on_all n (at + 16) from (b ++ a) rest older (omega (arith, both, head, ends)) (omega (arith, both, head, fits)) left
    ∙ ap (λ (xs : List ℕ). Wrote from xs ∷ older) (append_assoc b a rest ∙ ap (λ (xs : List ℕ). b ++ xs) (take-append-drop 16 bytes))

-- writes of which the first is a call of its own
own_all : (n at : ℕ) (bytes : List ℕ) (older : List Stop) → 0 < n → n * 16 ≤ MOST_BYTES → length bytes ≡ n * 16 → join_write at (take 16 bytes) older ≡ Wrote at (take 16 bytes) ∷ older
    → join_units n at bytes older ≡ Wrote at bytes ∷ older
own_all zero at bytes older some fits long own = absurd (omega (arith, some))
own_all (suc n) at bytes older some fits long own =
    let a : List ℕ = take 16 bytes in
    let rest : List ℕ = drop 16 bytes in
    let head : length a ≡ 16 = head_long n bytes long in
    let left : length rest ≡ n * 16 = rest_long n bytes long in
    ap (λ (cs : List Stop). join_units n (at + 16) rest cs) own
    ∙ on_all n (at + 16) at a rest older (omega (arith, head)) (omega (arith, head, fits)) left
    ∙ ap (λ (xs : List ℕ). Wrote at xs ∷ older) (take-append-drop 16 bytes)

at_all : (n at : ℕ) (run : List ℕ) (newest : Stop) (older : List Stop) → length run ≡ n * 16 → goes_on_with newest at (n * 16) ≡ true → join_units n at run (newest ∷ older) ≡ longer newest run ∷ older
at_all n at run (Wrote from b) older long is =
    let parts : ((from + length b == at) ≡ true) × (nat_le (length b + n * 16) MOST_BYTES ≡ true) = and_parts _ _ is in
    let fits : length b + n * 16 ≤ MOST_BYTES = leb-true (length b + n * 16) MOST_BYTES parts.1 in
    on_all n at from b run older (eqb-true (from + length b) at parts.0) fits long
at_all n at run (WriteFailed from len) older long is = absurd cc
at_all n at run Synced older long is = absurd cc
at_all n at run SyncFailed older long is = absurd cc

-- as one write they are joined as they are one by one
pub join_run : (n at : ℕ) (run : List ℕ) (cs : List Stop) → 0 < n → n * 16 ≤ MOST_BYTES → length run ≡ n * 16 → TakesAllOrNone n at cs → join_write at run cs ≡ join_units n at run cs
join_run n at run [] some fits long is = sym (own_all n at run [] some fits long refl)
join_run n at run (newest ∷ older) some fits long (inl all) =
    join_on at run newest older (subst (λ (k : ℕ). goes_on_with newest at k ≡ true) (sym long) all) ∙ sym (at_all n at run newest older long all)
join_run n at run (newest ∷ older) some fits long (inr none) =
    let least : 16 ≤ n * 16 = omega (arith, some) in
    let head : length (take 16 run) ≡ 16 = omega (arith, length-take 16 run, long, least) in
    let not_one : goes_on_with newest at (length (take 16 run)) ≡ false = subst (λ (k : ℕ). goes_on_with newest at k ≡ false) (sym head) none in
    let not_all : goes_on_with newest at (length run) ≡ false = elim (cases_Bool (goes_on_with newest at (length run))) [
      | inl is ↦ let one : goes_on_with newest at 16 ≡ true = goes_on_fewer newest at 16 (length run) (omega (arith, long, least)) is in absurd (let clash : true ≡ false = sym one ∙ none in cc)
      | inr is ↦ is
    ] in
    join_not_on at run newest older not_all ∙ sym (own_all n at run (newest ∷ older) some fits long (join_not_on at (take 16 run) newest older not_one))

-- n of them take the first of the bytes alone
pub join_taken : (n at : ℕ) (bytes : List ℕ) (cs : List Stop) → join_units n at (take (n * 16) bytes) cs ≡ join_units n at bytes cs
join_taken zero at bytes cs = refl
join_taken (suc n) at bytes cs =
    let all : suc n * 16 ≡ 16 + n * 16 = omega arith in
    let first : take 16 (take (suc n * 16) bytes) ≡ take 16 bytes = take-take 16 (suc n * 16) bytes (omega arith) in
    let others : drop 16 (take (suc n * 16) bytes) ≡ take (n * 16) (drop 16 bytes) = ap (λ (k : ℕ). drop 16 (take k bytes)) all ∙ drop-take 16 (n * 16) bytes in
    ap (λ (xs : List ℕ). join_units n (at + 16) xs (join_write at (take 16 (take (suc n * 16) bytes)) cs)) others
    ∙ ap (λ (xs : List ℕ). join_units n (at + 16) (take (n * 16) (drop 16 bytes)) (join_write at xs cs)) first
    ∙ join_taken n (at + 16) (drop 16 bytes) (join_write at (take 16 bytes) cs)

-- the bytes from a place on
pub rest_is : (k : ℕ) (bytes : List ℕ) → take (length bytes - k) (drop k bytes) ≡ drop k bytes
rest_is k bytes = take_all (length bytes - k) (drop k bytes) (omega (arith, length-drop k bytes))

-- and then some more
pub join_more : (n m at : ℕ) (bytes : List ℕ) (cs : List Stop) → join_units (n + m) at bytes cs ≡ join_units m (at + n * 16) (drop (n * 16) bytes) (join_units n at bytes cs)
join_more zero m at bytes cs =
    let here : at ≡ at + 0 * 16 = omega arith in
    let none : 0 + m ≡ m = omega arith in
    ap (λ (k : ℕ). join_units k at bytes cs) none ∙ ap (λ (k : ℕ). join_units m k bytes cs) here
join_more (suc n) m at bytes cs =
    let here : at + 16 + n * 16 ≡ at + suc n * 16 = omega arith in
    let all : 16 + n * 16 ≡ suc n * 16 = omega arith in
    let others : drop (n * 16) (drop 16 bytes) ≡ drop (suc n * 16) bytes = drop-drop (n * 16) 16 bytes ∙ ap (λ (k : ℕ). drop k bytes) all in
    let before : List Stop = join_units n (at + 16) (drop 16 bytes) (join_write at (take 16 bytes) cs) in
    let more : suc n + m ≡ suc (n + m) = omega arith in
    ap (λ (k : ℕ). join_units k at bytes cs) more
    ∙ join_more n m (at + 16) (drop 16 bytes) (join_write at (take 16 bytes) cs)
    ∙ ap (λ (k : ℕ). join_units m k (drop (n * 16) (drop 16 bytes)) before) here
    ∙ ap (λ (xs : List ℕ). join_units m (at + suc n * 16) xs before) others

joined_units : (n at : ℕ) (bytes : List ℕ) (stops : List Stop) → joined (units_onto n at bytes stops) ≡ join_units n at bytes (joined stops)
joined_units zero at bytes stops = refl
joined_units (suc n) at bytes stops = joined_units n (at + 16) (drop 16 bytes) (Wrote at (take 16 bytes) ∷ stops)

at_sync_units : (n at : ℕ) (bytes : List ℕ) (stops : List Stop) → at_sync (units_onto n at bytes stops) ≡ at_sync stops
at_sync_units zero at bytes stops = refl
at_sync_units (suc n) at bytes stops = at_sync_units n (at + 16) (drop 16 bytes) (Wrote at (take 16 bytes) ∷ stops)

fit_units : (size n at : ℕ) (bytes : List ℕ) (stops : List Stop) → length bytes ≡ n * 16 → at + length bytes ≤ size → AllFit size stops → AllFit size (units_onto n at bytes stops)
fit_units size zero at bytes stops long within fits = fits
fit_units size (suc n) at bytes stops long within fits =
    let head = head_long n bytes long in
    let left = rest_long n bytes long in
    fit_units size n (at + 16) (drop 16 bytes) (Wrote at (take 16 bytes) ∷ stops) left (omega (arith, left, long, within)) (omega (arith, head, long, within), fits)

-- the device of this name that a memory is
abbrev pub named : List ℕ → Memory → Device
named name m = record (device_of m) { name = name }

-- n of them take the first of the bytes alone
pub units_taken : (n at : ℕ) (bytes : List ℕ) (stops : List Stop) → units_onto n at (take (n * 16) bytes) stops ≡ units_onto n at bytes stops
units_taken zero at bytes stops = refl
units_taken (suc n) at bytes stops =
    let all : suc n * 16 ≡ 16 + n * 16 = omega arith in
    let first : take 16 (take (suc n * 16) bytes) ≡ take 16 bytes = take-take 16 (suc n * 16) bytes (omega arith) in
    let others : drop 16 (take (suc n * 16) bytes) ≡ take (n * 16) (drop 16 bytes) = ap (λ (k : ℕ). drop 16 (take k bytes)) all ∙ drop-take 16 (n * 16) bytes in
    ap (λ (xs : List ℕ). units_onto n (at + 16) xs (Wrote at (take 16 (take (suc n * 16) bytes)) ∷ stops)) others
    ∙ ap (λ (xs : List ℕ). units_onto n (at + 16) (take (n * 16) (drop 16 bytes)) (Wrote at xs ∷ stops)) first
    ∙ units_taken n (at + 16) (drop 16 bytes) (Wrote at (take 16 bytes) ∷ stops)

-- a memory with these stops
abbrev pub with_stops : List Stop → Memory → Memory
with_stops stops m = record m { stops = stops }

pub device_units : (name : List ℕ) (n at : ℕ) (bytes : List ℕ) (m : Memory) → named name (with_stops (units_onto n at bytes m.stops) m) ≡ written_units n at bytes (named name m)
device_units name zero at bytes m = refl
device_units name (suc n) at bytes m = device_units name n (at + 16) (drop 16 bytes) (with_stops (Wrote at (take 16 bytes) ∷ m.stops) m)

-- so many more units were asked for
pub wrote_units : (handed : List Handed) (unsent calls : List DeviceCall) (bytes now : List ℕ) (stops later : List Stop) (n at : ℕ) (more : List ℕ) → IsDeferring handed unsent bytes stops
    → length more ≡ n * 16 → at + length more ≤ length bytes → onto [] calls ≡ join_units n at more (onto [] unsent) → onto (stops_in handed) calls ≡ join_units n at more (onto (stops_in handed) unsent) → now ≡ spliced bytes at more
    → later ≡ units_onto n at more stops → IsDeferring handed calls now later
wrote_units handed unsent calls bytes now stops later n at more was long within alone joins made is =
    let first = first_in handed in
    let m : Memory = record { first = first; stops = stops; failures = 0; fails_in = None } in
    let same : length bytes ≡ length first = ap (λ (xs : List ℕ). length xs) was.reads ∙ length_after first stops was.fits in
    let fits : at + length more ≤ length (bytes_after first stops) = subst (λ (xs : List ℕ). at + length more ≤ length xs) was.reads within in
    subst (λ (s : List Stop). IsDeferring handed calls now s) (sym is) record {
      reads = made ∙ ap (λ (xs : List ℕ). spliced xs at more) was.reads ∙ sym (units_bytes n at more (named [] m) long fits) ∙ sym (ap (λ (d : Device). d.now.bytes) (device_units [] n at more m));
      told = joined_units n at more stops ∙ ap (join_units n at more) was.told ∙ sym joins;
      handed_are = ap joined (at_sync_units n at more stops) ∙ was.handed_are;
      synced = was.synced;
      short = subst AreShortWrites (sym alone) (units_short n at more (onto [] unsent) was.short);
      fits = fit_units (length first) n at more stops long (omega (arith, same, within)) was.fits;
      begun = was.begun;
    }

-- fewer of them lie in the ranges of all
fewer_clear : (k n at j : ℕ) → k ≤ n → IsClear j (unit_ranges n at) → IsClear j (unit_ranges k at)
fewer_clear zero n at j few clear = tt
fewer_clear (suc k) zero at j few clear = absurd (omega (arith, few))
fewer_clear (suc k) (suc n) at j few clear = (clear.0, fewer_clear k n (at + 16) j (omega (arith, few)) clear.1)

-- of n units k were written, and no other: whether the device has failed then is another matter
pub some_leave : (k n at : ℕ) (bytes : List ℕ) (old new : Device) → k ≤ n → length bytes ≡ k * 16 → at + length bytes ≤ length old.now.bytes
    → (f : ℕ) → new ≡ record (written_units k at bytes old) { failures = f } → LeavesOnly old new (ImageBut old (unit_ranges n at))
some_leave k n at bytes old new few long fits f is =
    let made = written_units k at bytes old in
    let l = weaker old made (ImageBut old (unit_ranges k at)) (ImageBut old (unit_ranges n at))
    (λ image from. besides_wider old (unit_ranges k at) (unit_ranges n at) image (λ xs ys same. outside_more (unit_ranges k at) (unit_ranges n at) xs ys (λ j clear. fewer_clear k n at j few clear) same) from)
    (units_leave k at bytes old long fits) in
    subst (λ (d : Device). LeavesOnly old d (ImageBut old (unit_ranges n at))) (sym is) record {
      later = l.later;
      grows = record { name = l.grows.name; since = l.grows.since; moments = l.grows.moments };
      each = l.each;
      keeps = l.keeps;
    }
