-- What a journal may leave, a host's device might have left at some moment since the journal's last sync.
use Rattle.std.proofs.Common.{◌≡◌, inl, inr, ℕ, ◌<◌, ◌≤◌, List, [], ◌∷◌, ◌++◌, length, take, get_or, Result, Ok, Err, OnErr, OnOk, refl, sym, ◌∙◌, ap, subst, arith, length-take}
use Rattle.block_disk.specs.Bytes.{spliced}
use Rattle.block_disk.specs.Device.{Device, Image, IsClear, LeftIn, LeftSince, Moment, SameOutside, synced as with_sync}
use Rattle.block_disk.specs.Memory.{Stop, Wrote, Synced, bytes_after, moment_after, moments_before, pending_after}
use Rattle.block_disk.specs.declared.error.Fault.{Fault}
use Rattle.block_disk.proofs.Bytes.{length_spliced}
use Rattle.block_disk.proofs.Ranges.{outside_more}
use Rattle.atomic_sectors.specs.Left.{AlwaysWhole, LeavesWhole, MixedSince}
use Rattle.atomic_sectors.proofs.Calculus.{mixed_now}
use Rattle.disk_deferred.specs.Deferred.{Deferred, onto, stop_of}
use Rattle.disk_deferred.specs.Host.{HaveMet, Host}
use Rattle.disk_deferred.specs.Joined.{AllFit}
use Rattle.disk_deferred.specs.Syncs.{syncs_in}
use Rattle.disk_deferred.specs.declared.call.DeviceCall.{DeviceCall}
use Rattle.disk_deferred.specs.declared.call.DeviceCall.TheVariants.{Write, Sync}
use Rattle.disk_deferred.proofs.Joins.{length_after}
use Rattle.disk_deferred.proofs.Onto.{onto_append}
use Rattle.host_journal.specs.Hosted.{Hosted, StandsFor}
use Rattle.law_hosted.specs.Safe.{LeavesBy, LeavesSince}
use Rattle.law_journaled.specs.Given.{AtSync, Besides, GivenSince, Makes, WasGiven}
use Rattle.law_journaled.specs.Left.{AtRest, HoldsDisk, HoldsSince, HostLeavesLaw, JournalLeftLaw, LeftOnceMade, LiesOver, Orders, Syncs}
use Rattle.law_journaled.proofs.Earlier.{host_before, met_before}
use Rattle.law_journaled.proofs.Front.{take_outside, take_spliced}
use Rattle.law_journaled.proofs.Joined.{fits_before}

-- What the journal was given since its last sync.

-- what the host has made since
made_since : (synced given made : List Stop) → GivenSince synced given made → (since : List DeviceCall) × (made ≡ onto synced since)
made_since synced _ _ AtSync = ([], refl)
made_since synced _ _ (Makes call given made since) =
    let was = made_since synced given made since in
    (was.0 ++ call ∷ [], ap (λ (calls : List Stop). stop_of call ∷ calls) was.1 ∙ sym (onto_append synced was.0 (call ∷ [])))
made_since synced _ _ (Besides given made since) = made_since synced given made since

-- no call takes a sync back
syncs_onto : (made : List Stop) (calls : List DeviceCall) → syncs_in made ≤ syncs_in (onto made calls)
syncs_onto made [] = omega arith
syncs_onto made (Write at bytes ∷ calls) = syncs_onto (stop_of (Write at bytes) ∷ made) calls
syncs_onto made (Sync ∷ calls) = let more = syncs_onto (stop_of Sync ∷ made) calls in omega (arith, more)

-- the calls made by then fit too
fits_synced : (size : ℕ) (synced given made : List Stop) → GivenSince synced given made → AllFit size made → AllFit size synced
fits_synced size synced _ _ AtSync fits = fits
fits_synced size synced _ _ (Makes call given made since) fits = fits_synced size synced given made since fits.1
fits_synced size synced _ _ (Besides given made since) fits = fits_synced size synced given made since fits

module _ (first bytes : List ℕ) (synced : List Stop) (reads : take (length first) bytes ≡ bytes_after first synced) where
  -- In its first bytes the journal's heap reads what the host's calls make.
  pub given_reads : (given made : List Stop) → GivenSince synced given made → AllFit (length first) made
      → (length first ≤ length (bytes_after bytes given)) × (take (length first) (bytes_after bytes given) ≡ bytes_after first made)
  given_reads _ _ AtSync fits =
      let size = length_after first synced fits in
      let long : length (take (length first) bytes) ≡ length (bytes_after first synced) = ap length reads in
      (omega (arith, size, long, length-take (length first) bytes), reads)
  given_reads _ _ (Makes (Write at more) given made since) fits =
      let was = given_reads given made since fits.1 in
      let low = was.0 in
      let within = fits.0 in
      let size = length_spliced (bytes_after bytes given) more.items at (omega (arith, low, within)) in
      (omega (arith, low, size), take_spliced (length first) (bytes_after bytes given) more.items at low within ∙ ap (λ (xs : List ℕ). spliced xs at more.items) was.1)
  given_reads _ _ (Makes Sync given made since) fits = given_reads given made since fits.1
  given_reads _ _ (Besides given made since) fits = given_reads given made since fits

-- what the host's calls have not pending, the journal's heap hasn't
given_clear : (i : ℕ) (synced given made : List Stop) → GivenSince synced given made → IsClear i (pending_after made) → IsClear i (pending_after given)
given_clear i synced _ _ AtSync clear = tt
given_clear i synced _ _ (Makes (Write at bytes) given made since) clear = (clear.0, given_clear i synced given made since clear.1)
given_clear i synced _ _ (Makes Sync given made since) clear = tt
given_clear i synced _ _ (Besides given made since) clear = tt

none_past : (t : ℕ) (ms : List Moment) (image : List ℕ) → LeftIn t ms image → t < length ms
none_past t [] image left = elim left [ ]
none_past t (m ∷ before) image (inl now) = let low = now.0 in omega (arith, low)
none_past t (m ∷ before) image (inr was) = let less = none_past t before image was in omega (arith, less)

module _ (d : Deferred) (c : Host) (met : HaveMet d c) (synced : List Stop) (bytes : List ℕ) (older : List Moment)
    (reads : take (length d.memory.first) bytes ≡ bytes_after d.memory.first synced) (fits : AllFit (length d.memory.first) c.made) where
  -- a crash at one moment of the journal's heap
  found : (given made : List Stop) (next : List DeviceCall) (image : List ℕ) → GivenSince synced given made → onto made next ≡ c.made → Image (moment_after bytes given) image
      → LeftOnceMade synced c.made d (take (length d.memory.first) image)
  found given made next image since is left =
      let first = d.memory.first in
      let fit = fits_before (length first) made next (subst (λ (calls : List Stop). AllFit (length first) calls) (sym is) fits) in
      let same = (given_reads first bytes synced reads given made since fit).1 in
      let front = take_outside (length first) (pending_after given) (bytes_after bytes given) image left in
      let front_is : SameOutside (pending_after given) (bytes_after first made) (take (length first) image) =
      subst (λ (xs : List ℕ). SameOutside (pending_after given) xs (take (length first) image)) same front in
      let more = made_since synced given made since in
      record {
        host = host_before c made next;
        met = met_before d c met fits made next is;
        since = more.0;
        after = more.1;
        next = next;
        before = sym is;
        leaves = outside_more (pending_after given) (pending_after made) (bytes_after first made) (take (length first) image) (λ i clear. given_clear i synced given made since clear) front_is;
      }

  -- a crash at some moment of it since the last sync
  found_in : (given made : List Stop) (next : List DeviceCall) (image : List ℕ) → GivenSince synced given made → onto made next ≡ c.made
      → LeftIn (length older) ((moment_after bytes given ∷ moments_before bytes given) ++ older) image → LeftOnceMade synced c.made d (take (length d.memory.first) image)
  found_in _ _ next image AtSync is (inl now) = found [] synced next image AtSync is now.1
  found_in _ _ next image AtSync is (inr was) = let less = none_past (length older) older image was in absurd (omega (arith, less))
  found_in _ _ next image (Makes (Write at more) given made since) is (inl now) = found (Wrote at more.items ∷ given) (Wrote at more.items ∷ made) next image (Makes (Write at more) given made since) is now.1
  found_in _ _ next image (Makes (Write at more) given made since) is (inr was) = found_in given made (Write at more ∷ next) image since is was
  found_in _ _ next image (Makes Sync given made since) is (inl now) = found (Synced ∷ given) (Synced ∷ made) next image (Makes Sync given made since) is now.1
  found_in _ _ next image (Makes Sync given made since) is (inr was) = found_in given made (Sync ∷ next) image since is was
  found_in _ _ next image (Besides given made since) is (inl now) = found (Synced ∷ given) made next image (Besides given made since) is now.1
  found_in _ _ next image (Besides given made since) is (inr was) = found_in given made next image since is was

-- What a crash of the journal's heap might have left since its last sync, one of the host's device might have.
left_once : (d : Deferred) (c : Host) (synced : List Stop) (heap : Device) (base : ℕ) (image : List ℕ) → HaveMet d c → WasGiven d.memory.first synced c.made heap base
    → LeftSince base heap image → LeftOnceMade synced c.made d (take (length d.memory.first) image)
left_once d c synced heap base image met was left =
    let now : LeftIn base ((moment_after was.bytes was.given ∷ moments_before was.bytes was.given) ++ was.older) image =
    subst (λ (ms : List Moment). LeftIn base ms image) was.moments left in
    found_in d c met synced was.bytes was.older was.reads was.fits was.given c.made [] image was.since refl
    (subst (λ (t : ℕ). LeftIn t ((moment_after was.bytes was.given ∷ moments_before was.bytes was.given) ++ was.older) image) was.last now)

-- what the journal's heap reads
pub heap_reads : (first : List ℕ) (synced made : List Stop) (heap : Device) (base : ℕ) (was : WasGiven first synced made heap base) → heap.now.bytes ≡ bytes_after was.bytes was.given
heap_reads first synced made heap base was = ap (λ (ms : List Moment). (get_or ms 0 heap.now).bytes) was.moments

-- A sync besides.
pub and_besides : (first : List ℕ) (synced made : List Stop) (heap : Device) (base : ℕ) → WasGiven first synced made heap base → WasGiven first synced made (with_sync heap) base
and_besides first synced made heap base was = record {
  bytes = was.bytes;
  given = Synced ∷ was.given;
  older = was.older;
  reads = was.reads;
  since = Besides was.given made was.since;
  moments = λ i. record { bytes = heap_reads first synced made heap base was i; pending = [] } ∷ was.moments i;
  last = was.last;
  fits = was.fits;
}

-- what a journal leaves between its calls
abbrev pub Possible : Hosted → Type 0
Possible j = AlwaysWhole j.disk (StandsFor j.areas (LeftSince j.base j.heap))

module _ (x : Hosted) (d : Deferred) (c : Host) (synced : List Stop) (over : LiesOver d c synced x) where
  -- an order or a sync, whatever the answer
  given_on : (heap : Device) (answer : Result (Unit {0}) Fault) → OnOk answer (heap ≡ with_sync x.heap) → OnErr answer (heap ≡ x.heap)
      → WasGiven d.memory.first synced c.made heap x.base
  given_on heap (Ok u) ok err = subst (λ (h : Device). WasGiven d.memory.first synced c.made h x.base) (sym ok) (and_besides d.memory.first synced c.made x.heap x.base over.given)
  given_on heap (Err why) ok err = subst (λ (h : Device). WasGiven d.memory.first synced c.made h x.base) (sym err) over.given

  module _ (possible : Possible x) (Q : List ℕ → Type 0) (to : (image : List ℕ) → LeftOnceMade synced c.made d image → Q image) where
    stands : (heap : Device) (image : List ℕ) → WasGiven d.memory.first synced c.made heap x.base → StandsFor x.areas (LeftSince x.base heap) image
        → StandsFor x.areas (λ whole. Q (take (length d.memory.first) whole)) image
    stands heap image was is = record { label = is.label; image = to _ (left_once d c synced heap x.base _ over.met was is.image) }

    stands_in : (y : Hosted) (answer : Result (Unit {0}) Fault) (image : List ℕ) → OnOk answer (y.heap ≡ with_sync x.heap) → OnErr answer (y.heap ≡ x.heap)
        → LeavesWhole x.disk y.disk (StandsFor x.areas (LeftSince x.base y.heap)) → MixedSince (length x.disk.past) y.disk image
        → StandsFor x.areas (λ whole. Q (take (length d.memory.first) whole)) image
    stands_in y answer image ok err leaves left = elim (leaves.each (length x.disk.past) image (omega arith) left) [
      | inl was ↦ stands x.heap image over.given (possible image (mixed_now x.disk image was))
      | inr is ↦ stands y.heap image (given_on y.heap answer ok err) is
    ]

    -- So it holds what has Q, if all that might have been left so has it.
    pub holds_disk : HoldsDisk x d Q
    holds_disk _ image AtRest left = stands x.heap image over.given (possible image (mixed_now x.disk image left))
    holds_disk _ image (Orders y answer orders) left = stands_in y answer image orders.ok orders.err orders.left left
    holds_disk _ image (Syncs y answer syncs) left = stands_in y answer image syncs.ok syncs.err syncs.left left

pub left_now : (j : Hosted) → Possible j → JournalLeftLaw j
left_now j possible d c synced over = holds_disk j d c synced over possible (LeftOnceMade synced c.made d) (λ image once. once)

-- A host's device leaves it.
pub leaves_by : (synced made : List Stop) (d : Deferred) (image : List ℕ) → (once : LeftOnceMade synced made d image) → LeavesBy d once.host image
leaves_by synced made d image once = record { met = once.met; next = []; more = once.host.left; left = refl; leaves = once.leaves }

pub syncs_once : (synced made : List Stop) (d : Deferred) (image : List ℕ) → (once : LeftOnceMade synced made d image) → syncs_in synced ≤ syncs_in once.host.made
syncs_once synced made d image once = let more = syncs_onto synced once.since in let same = ap syncs_in once.after in omega (arith, more, same)

pub host_leaves : HostLeavesLaw
host_leaves synced made d image once = (once.host, leaves_by synced made d image once, syncs_once synced made d image once)

-- So it holds what has P, if all has P that a host's device leaves.
pub holds_since : (j : Hosted) → Possible j → (old : Device) (d : Deferred) (P : List ℕ → Type 0) → ((c : Host) (image : List ℕ) → LeavesSince old d c image → P image)
    → HoldsSince j old d P
holds_since j possible old d P to c synced over all = holds_disk j d c synced over possible P
    (λ image once.
    let more = syncs_once synced c.made d image once in
    to once.host image (record { by = leaves_by synced c.made d image once; made = omega (arith, all, more) }))
