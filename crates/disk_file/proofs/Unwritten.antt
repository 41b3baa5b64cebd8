-- What a buffered disk's bytes, ranges and file go on to be.
use Rattle.std.proofs.Common.{◌≡◌, inl, inr, ℕ, zero, suc, ◌+◌, ◌*◌, ◌<◌, ◌≤◌, List, [], ◌∷◌, ◌++◌, length, Option, Some, None, IfSome, refl, sym, ◌∙◌, ap, subst, arith, take, drop}
use Rattle.disk_file.specs.Backing.{Held, CrashesAs, IsPendingIn, KeepsAllBut, KeepsBut, KeepsStill, ReadsBut}
use Rattle.disk_file.proofs.Again.{clear_both, clear_too, keeps_more}
use Rattle.block_disk.specs.Bytes.{spliced}
use Rattle.std.proofs.lemmas.Bool.{cases_lt}
use Rattle.block_disk.specs.Device.{Range, Device, range_of, written, written_units, Image, IsClear, IsOutside, SameOutside}
use Rattle.block_disk.proofs.Bytes.{length_spliced}
use Rattle.block_disk.proofs.InUnits.{head_long, rest_long, units_bytes}
use Rattle.block_disk.specs.Traced.{failing}
use Rattle.block_disk.proofs.Ranges.{clear_left, clear_right, outside_sym, outside_trans, outside_more, outside_rest, outside_first, spliced_same}
use Rattle.disk_file.specs.Buffered.{AllWithin, GoesOn, HasNewest, IsBuffered, IsDeferred, LastCovers}

-- what the file reads may be left by a crash
pub possible : (d : Device) (bytes : List ℕ) (rs : List Range) (file : Option Held) → IsBuffered d bytes rs file → IfSome file (λ h. Image d.now h.reads)
possible d bytes rs None kept = tt
possible d bytes rs (Some h) kept =
    subst (λ (xs : List ℕ). SameOutside d.now.pending xs h.reads) (sym kept.reads) (outside_more rs d.now.pending bytes h.reads kept.pending kept.near)

-- and so may what a crash leaves of the file, where its device lacks only some bytes
pub crashes : (stale : List Range) (d : Device) (bytes : List ℕ) (rs : List Range) (file : Option Held) → IsBuffered d bytes rs file
    → KeepsBut (d.now.pending ++ stale) d.now.bytes file → CrashesAs stale d.now file
crashes stale d bytes rs None kept lacks = tt
crashes stale d bytes rs (Some h) kept lacks = λ image left.
    let ps = d.now.pending ++ stale in
    outside_trans ps d.now.bytes h.kept.bytes image lacks
    (outside_more h.kept.pending ps h.kept.bytes image (λ i clear. kept.waits i (kept.pending i (clear_left i d.now.pending stale clear))) left)

-- what bytes read but for more ranges, once others are put among them
spliced_near : (bytes content there : List ℕ) (rs ss : List Range) (at : ℕ) → at + length content ≤ length bytes
    → ((i : ℕ) → IsClear i ss → IsClear i (range_of at content ∷ rs)) → SameOutside rs bytes there → SameOutside ss (spliced bytes at content) there
spliced_near bytes content there rs ss at fits covered near =
    let r = range_of at content in
    let put = spliced bytes at content in
    let back = outside_sym (r ∷ rs) bytes put (outside_first r rs bytes put (spliced_same bytes content at fits)) in
    outside_more (r ∷ rs) ss put there covered (outside_trans (r ∷ rs) put bytes there back (outside_rest r rs bytes there near))

-- what the file reads but for more ranges, once these bytes are in memory
reads_write : (bytes content : List ℕ) (rs ss : List Range) (file : Option Held) (at : ℕ) → at + length content ≤ length bytes
    → ((i : ℕ) → IsClear i ss → IsClear i (range_of at content ∷ rs)) → ReadsBut rs bytes file → ReadsBut ss (spliced bytes at content) file
reads_write bytes content rs ss None at fits covered near = tt
reads_write bytes content rs ss (Some h) at fits covered near = spliced_near bytes content h.reads rs ss at fits covered near

-- and what its device has
pub keeps_write : (bytes content : List ℕ) (rs ss : List Range) (file : Option Held) (at : ℕ) → at + length content ≤ length bytes
    → ((i : ℕ) → IsClear i ss → IsClear i (range_of at content ∷ rs)) → KeepsBut rs bytes file → KeepsBut ss (spliced bytes at content) file
keeps_write bytes content rs ss None at fits covered near = tt
keeps_write bytes content rs ss (Some h) at fits covered near = spliced_near bytes content h.kept.bytes rs ss at fits covered near

-- it lacks no more once these bytes are in memory, and pending
pub lacks_write : (d e : Device) (bytes content : List ℕ) (file : Option Held) (at : ℕ) → at + length content ≤ length bytes → d.now.bytes ≡ bytes
    → e.now.bytes ≡ spliced bytes at content → ((i : ℕ) → IsClear i e.now.pending → IsOutside i (range_of at content) × IsClear i d.now.pending)
    → (stale : List Range) → KeepsBut (d.now.pending ++ stale) d.now.bytes file → KeepsBut (e.now.pending ++ stale) e.now.bytes file
lacks_write d e bytes content file at fits was is covers stale kept =
    subst (λ (xs : List ℕ). KeepsBut (e.now.pending ++ stale) xs file) (sym is)
    (keeps_write bytes content (d.now.pending ++ stale) (e.now.pending ++ stale) file at fits
    (λ i clear. let first = covers i (clear_left i e.now.pending stale clear) in
    (first.0, clear_both i d.now.pending stale first.1 (clear_right i e.now.pending stale clear)))
    (subst (λ (xs : List ℕ). KeepsBut (d.now.pending ++ stale) xs file) was kept))

-- and what waits in it
waits_write : (rs ss : List Range) (r : Range) (file : Option Held) → ((i : ℕ) → IsClear i ss → IsClear i (r ∷ rs)) → IsPendingIn rs file → IsPendingIn ss file
waits_write rs ss r None covered waits = tt
waits_write rs ss r (Some h) covered waits = λ i clear. waits i (covered i clear).1

-- a write goes into memory, and its range is kept
pub buffered_write : (d : Device) (bytes content : List ℕ) (rs ss : List Range) (file : Option Held) (at : ℕ) → at + length content ≤ length bytes
    → IsBuffered d bytes rs file → AllWithin (length bytes) ss
    → ((i : ℕ) → IsClear i ss → IsClear i (range_of at content ∷ rs)) → ((i : ℕ) → IsClear i (range_of at content ∷ rs) → IsClear i ss)
    → IsBuffered (written at content d) (spliced bytes at content) ss file
buffered_write d bytes content rs ss file at fits kept within covered exact = record {
  reads = ap (λ (xs : List ℕ). spliced xs at content) kept.reads;
  within = subst (λ (n : ℕ). AllWithin n ss) (sym (length_spliced bytes content at fits)) within;
  near = reads_write bytes content rs ss file at fits covered kept.near;
  waits = waits_write rs ss (range_of at content) file covered kept.waits;
  pending = λ i clear. exact i (clear.0, kept.pending i clear.1);
  exact = λ i clear. let parts = covered i clear in (parts.0, kept.exact i parts.1);
}

-- and the file gets it later
pub deferred_write : (d : Device) (bytes content : List ℕ) (rs ss : List Range) (file : Option Held) (at : ℕ) → at + length content ≤ length bytes
    → IsDeferred d bytes rs file → AllWithin (length bytes) ss
    → ((i : ℕ) → IsClear i ss → IsClear i (range_of at content ∷ rs)) → ((i : ℕ) → IsClear i (range_of at content ∷ rs) → IsClear i ss)
    → LastCovers (range_of at content) ss → IsDeferred (written at content d) (spliced bytes at content) ss file
deferred_write d bytes content rs ss file at fits kept within covered exact newest = record {
  buffered = buffered_write d bytes content rs ss file at fits kept.buffered within covered exact;
  newest = newest;
}

-- Writes of 16 bytes each go into memory at once, and one range is kept.

-- failures are counted elsewhere
pub units_failing : (n at count : ℕ) (bytes : List ℕ) (d : Device) → failing count (written_units n at bytes d) ≡ written_units n at bytes (failing count d)
units_failing zero at count bytes d = refl
units_failing (suc n) at count bytes d = units_failing n (at + 16) count (drop 16 bytes) (written at (take 16 bytes) d)

-- outside of all that is pending after them is outside of the whole
pub units_pending : (n at : ℕ) (bytes : List ℕ) (d : Device) (i : ℕ) → length bytes ≡ n * 16 → IsClear i (written_units n at bytes d).now.pending → IsOutside i (record { start = at; len = n * 16 }) × IsClear i d.now.pending
units_pending zero at bytes d i long clear = (elim (cases_lt i at) [ inl below ↦ inl below | inr from ↦ inr (omega arith) ], clear)
units_pending (suc n) at bytes d i long clear =
    let later : IsOutside i (record { start = at + 16; len = n * 16 }) × (IsOutside i (range_of at (take 16 bytes)) × IsClear i d.now.pending) =
    units_pending n (at + 16) (drop 16 bytes) (written at (take 16 bytes) d) i (rest_long n bytes long) clear in
    let head : length (take 16 bytes) ≡ 16 = head_long n bytes long in (
      elim later.1.0 [
        | inl below ↦ inl below
        | inr from ↦ elim later.0 [ inl between ↦ absurd (omega (arith, from, head)) | inr past ↦ inr (omega arith) ]
      ],
      later.1.1,
    )

-- and outside of the whole is outside of each of them
units_clear : (n at : ℕ) (bytes : List ℕ) (d : Device) (i : ℕ) → length bytes ≡ n * 16 → IsOutside i (record { start = at; len = n * 16 }) → IsClear i d.now.pending → IsClear i (written_units n at bytes d).now.pending
units_clear zero at bytes d i long out clear = clear
units_clear (suc n) at bytes d i long out clear =
    let head : length (take 16 bytes) ≡ 16 = head_long n bytes long in
    units_clear n (at + 16) (drop 16 bytes) (written at (take 16 bytes) d) i (rest_long n bytes long)
    (elim out [ inl below ↦ inl (omega arith) | inr above ↦ inr (omega arith) ])
    (elim out [ inl below ↦ inl below | inr above ↦ inr (omega (arith, head)) ], clear)

-- a range within one that the last covers
covers_less : (r s : Range) (ss : List Range) → LastCovers r ss → r.start ≤ s.start → s.start + s.len ≤ r.start + r.len → LastCovers s ss
covers_less r s [] covers low high = covers
covers_less r s (t ∷ []) covers low high = (omega (arith, covers.0, low), omega (arith, covers.1, high))
covers_less r s (t ∷ u ∷ ss) covers low high = covers_less r s (u ∷ ss) covers low high

-- the newest of them lies within the whole
units_newest : (n at : ℕ) (bytes : List ℕ) (d : Device) (r : Range) (ss : List Range) → length bytes ≡ n * 16 → r.start ≤ at → at + n * 16 ≤ r.start + r.len → LastCovers r ss → HasNewest d.now.pending ss
    → HasNewest (written_units n at bytes d).now.pending ss
units_newest zero at bytes d r ss long low high covers newest = newest
units_newest (suc n) at bytes d r ss long low high covers newest =
    let head : length (take 16 bytes) ≡ 16 = head_long n bytes long in
    units_newest n (at + 16) (drop 16 bytes) (written at (take 16 bytes) d) r ss (rest_long n bytes long) (omega arith) (omega arith) covers
    (covers_less r (range_of at (take 16 bytes)) ss covers low (omega (arith, head)))

pub deferred_units : (n : ℕ) (d : Device) (bytes content : List ℕ) (rs ss : List Range) (file : Option Held) (at : ℕ) → 0 < n → length content ≡ n * 16 → at + length content ≤ length bytes
    → IsDeferred d bytes rs file → AllWithin (length bytes) ss
    → ((i : ℕ) → IsClear i ss → IsClear i (range_of at content ∷ rs)) → ((i : ℕ) → IsClear i (range_of at content ∷ rs) → IsClear i ss)
    → LastCovers (range_of at content) ss → IsDeferred (written_units n at content d) (spliced bytes at content) ss file
deferred_units zero d bytes content rs ss file at some long fits kept within covered exact newest = absurd (omega arith)
deferred_units (suc n) d bytes content rs ss file at some long fits kept within covered exact newest =
    let size : length d.now.bytes ≡ length bytes = ap (λ (xs : List ℕ). length xs) kept.buffered.reads in
    let head : length (take 16 content) ≡ 16 = head_long n content long in
    record {
      buffered = record {
        reads = units_bytes (suc n) at content d long (omega (arith, size, fits)) ∙ ap (λ (xs : List ℕ). spliced xs at content) kept.buffered.reads;
        within = subst (λ (k : ℕ). AllWithin k ss) (sym (length_spliced bytes content at fits)) within;
        near = reads_write bytes content rs ss file at fits covered kept.buffered.near;
        waits = waits_write rs ss (range_of at content) file covered kept.buffered.waits;
        pending = λ i clear.
            let parts = units_pending (suc n) at content d i long clear in
            exact i (subst (λ (k : ℕ). IsOutside i (record { start = at; len = k })) (sym long) parts.0, kept.buffered.pending i parts.1);
        exact = λ i clear.
            let parts = covered i clear in
            units_clear (suc n) at content d i long (subst (λ (k : ℕ). IsOutside i (record { start = at; len = k })) long parts.0) (kept.buffered.exact i parts.1);
      };
      newest = units_newest n (at + 16) (drop 16 content) (written at (take 16 content) d) (range_of at content) ss (rest_long n content long) (omega arith) (omega (arith, long)) newest
          (covers_less (range_of at content) (range_of at (take 16 content)) ss newest (omega arith) (omega (arith, long, head)));
    }

-- the last range covers the pending one that a write goes on with
pub goes_on_last : (at : ℕ) (pending rs : List Range) → GoesOn at pending → HasNewest pending rs
    → (r : Range) × LastCovers r rs × (r.start ≤ at) × (at ≤ r.start + r.len)
goes_on_last at [] rs goes newest = absurd goes
goes_on_last at (r ∷ older) rs goes newest = (r, newest, goes.0, goes.1)

-- it lacks no more after writes of 16 bytes each
pub lacks_units : (n : ℕ) (d : Device) (bytes content : List ℕ) (file : Option Held) (at : ℕ) → length content ≡ n * 16 → at + length content ≤ length bytes → d.now.bytes ≡ bytes
    → (stale : List Range) → KeepsBut (d.now.pending ++ stale) d.now.bytes file
    → KeepsBut ((written_units n at content d).now.pending ++ stale) (written_units n at content d).now.bytes file
lacks_units n d bytes content file at long fits was stale kept =
    let size : length d.now.bytes ≡ length bytes = ap (λ (xs : List ℕ). length xs) was in
    lacks_write d (written_units n at content d) bytes content file at fits was
    (units_bytes n at content d long (omega (arith, size, fits)) ∙ ap (λ (xs : List ℕ). spliced xs at content) was)
    (λ i clear. let parts = units_pending n at content d i long clear in
    (subst (λ (k : ℕ). IsOutside i (record { start = at; len = k })) (sym long) parts.0, parts.1))
    stale kept

-- what it lacks by the ranges that aren't in the file
lacks_unwritten : (d : Device) (bytes : List ℕ) (rs : List Range) (file : Option Held) → IsBuffered d bytes rs file → (stale : List Range)
    → KeepsBut (d.now.pending ++ stale) d.now.bytes file → KeepsBut (rs ++ stale) bytes file
lacks_unwritten d bytes rs file kept stale had =
    keeps_more (d.now.pending ++ stale) (rs ++ stale) bytes file (λ i clear. clear_too i rs d.now.pending stale (kept.exact i) clear)
    (subst (λ (xs : List ℕ). KeepsBut (d.now.pending ++ stale) xs file) kept.reads had)

-- a sync that fails leaves it lacking no more
pub lacks_after_fault : (d : Device) (bytes : List ℕ) (rs : List Range) (old new : Option Held) → IsBuffered d bytes rs old → KeepsStill rs bytes old new → (stale : List Range)
    → KeepsBut (d.now.pending ++ stale) d.now.bytes old → KeepsBut (d.now.pending ++ stale) d.now.bytes new
lacks_after_fault d bytes rs old new kept still stale had =
    subst (λ (xs : List ℕ). KeepsBut (d.now.pending ++ stale) xs new) (sym kept.reads)
    (keeps_more (rs ++ stale) (d.now.pending ++ stale) bytes new (λ i clear. clear_too i d.now.pending rs stale (kept.pending i) clear)
    (still stale (lacks_unwritten d bytes rs old kept stale had)))

-- and one that succeeds has brought it all that was written
pub lacks_after_sync : (d : Device) (bytes : List ℕ) (rs : List Range) (old new : Option Held) → IsBuffered d bytes rs old → KeepsAllBut rs bytes old new → (stale : List Range)
    → KeepsBut (d.now.pending ++ stale) d.now.bytes old → KeepsBut stale d.now.bytes new
lacks_after_sync d bytes rs old new kept all stale had =
    subst (λ (xs : List ℕ). KeepsBut stale xs new) (sym kept.reads) (all stale (lacks_unwritten d bytes rs old kept stale had))
