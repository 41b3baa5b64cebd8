-- How a journal goes on to have what its heap's host makes.
use Rattle.std.proofs.Common.{◌≡◌, inl, inr, ℕ, ◌+◌, ◌≤◌, List, [], ◌∷◌, length, take, get_or, Vec, sym, ◌∙◌, ap, subst}
use Rattle.std.specs.Global.{Global}
use Rattle.block_disk.specs.Bytes.{spliced}
use Rattle.block_disk.specs.Device.{Device, Moment, range_of, synced as with_sync, written}
use Rattle.block_disk.specs.Memory.{Stop, Wrote, Synced, bytes_after, moment_after}
use Rattle.disk_deferred.specs.Joined.{AllFit}
use Rattle.disk_deferred.specs.declared.call.DeviceCall.TheVariants.{Write, Sync}
use Rattle.host_journal.specs.Hosted.{Hosted}
use Rattle.law_journaled.specs.Steps.{GivenFaultLaw, GivenOrderLaw, GivenSyncLaw, GivenFirstLaw, GivenWriteLaw}
use Rattle.law_journaled.specs.Given.{AtSync, Makes, WasGiven}
use Rattle.law_journaled.proofs.Left.{and_besides, given_reads, heap_reads}

-- just after a sync
pub given_at : (first : List ℕ) (made : List Stop) (heap : Device) (base : ℕ) → heap.now.pending ≡ [] → base ≡ length heap.past
    → take (length first) heap.now.bytes ≡ bytes_after first made → AllFit (length first) made → WasGiven first made made heap base
given_at first made heap base none past reads fits = record {
  bytes = heap.now.bytes;
  given = [];
  older = heap.past;
  reads = reads;
  since = AtSync;
  moments = λ i. record { bytes = heap.now.bytes; pending = none i } ∷ heap.past;
  last = past;
  fits = fits;
}

pub first_on : GivenFirstLaw
first_on first made j none past reads fits = given_at first made j.heap j.base none past reads fits

-- the latest moment of the heap's device
heap_now : (first : List ℕ) (synced made : List Stop) (heap : Device) (base : ℕ) (was : WasGiven first synced made heap base) → heap.now ≡ moment_after was.bytes was.given
heap_now first synced made heap base was = ap (λ (ms : List Moment). get_or ms 0 heap.now) was.moments

and_written : (first : List ℕ) (synced made : List Stop) (at : ℕ) (bytes : Vec ℕ Global) (heap : Device) (base : ℕ) → WasGiven first synced made heap base → at + length bytes.items ≤ length first
    → WasGiven first synced (Wrote at bytes.items ∷ made) (written at bytes.items heap) base
and_written first synced made at bytes heap base was within =
    let now = heap_now first synced made heap base was in
    record {
      bytes = was.bytes;
      given = Wrote at bytes.items ∷ was.given;
      older = was.older;
      reads = was.reads;
      since = Makes (Write at bytes) was.given made was.since;
      moments = λ i. record { bytes = spliced (now i).bytes at bytes.items; pending = range_of at bytes.items ∷ (now i).pending } ∷ was.moments i;
      last = was.last;
      fits = (within, was.fits);
    }

and_synced : (first : List ℕ) (synced made : List Stop) (heap : Device) (base : ℕ) → WasGiven first synced made heap base → WasGiven first synced (Synced ∷ made) (with_sync heap) base
and_synced first synced made heap base was = record {
  bytes = was.bytes;
  given = Synced ∷ was.given;
  older = was.older;
  reads = was.reads;
  since = Makes Sync was.given made was.since;
  moments = λ i. record { bytes = heap_reads first synced made heap base was i; pending = [] } ∷ was.moments i;
  last = was.last;
  fits = (tt, was.fits);
}

-- all that was made reads so
reads_made : (first : List ℕ) (synced made : List Stop) (heap : Device) (base : ℕ) → WasGiven first synced made heap base → take (length first) heap.now.bytes ≡ bytes_after first made
reads_made first synced made heap base was =
    ap (take (length first)) (heap_reads first synced made heap base was) ∙ (given_reads first was.bytes synced was.reads was.given made was.since was.fits).1

pub wrote_on : GivenWriteLaw
wrote_on first synced made at bytes x y took writes within =
    subst (λ (h : Hosted). WasGiven first synced (Wrote at bytes.items ∷ made) h.heap h.base) (sym writes.ok) (and_written first synced made at bytes x.heap x.base took within)

pub ordered_on : GivenOrderLaw
ordered_on first synced made x y took orders =
    let at = λ (calls : List Stop) (was : WasGiven first synced calls (with_sync x.heap) x.base).
    subst (λ (b : ℕ). WasGiven first synced calls y.heap b) (sym orders.base) (subst (λ (h : Device). WasGiven first synced calls h x.base) (sym orders.ok) was) in
    (at (Synced ∷ made) (and_synced first synced made x.heap x.base took), at made (and_besides first synced made x.heap x.base took))

pub synced_on : GivenSyncLaw
synced_on first synced made x y took syncs =
    let none : y.heap.now.pending ≡ [] = ap (λ (h : Device). h.now.pending) syncs.ok in
    let same : y.heap.now.bytes ≡ x.heap.now.bytes = ap (λ (h : Device). h.now.bytes) syncs.ok in
    let reads : take (length first) y.heap.now.bytes ≡ bytes_after first made = ap (take (length first)) same ∙ reads_made first synced made x.heap x.base took in
    (given_at first (Synced ∷ made) y.heap y.base none syncs.base reads (tt, took.fits), given_at first made y.heap y.base none syncs.base reads took.fits)

pub failed_on : GivenFaultLaw
failed_on first synced made x y why took (inl orders) =
    subst (λ (b : ℕ). WasGiven first synced made y.heap b) (sym orders.base) (subst (λ (h : Device). WasGiven first synced made h x.base) (sym orders.err) took)
failed_on first synced made x y why took (inr syncs) =
    subst (λ (b : ℕ). WasGiven first synced made y.heap b) (sym syncs.base_err) (subst (λ (h : Device). WasGiven first synced made h x.base) (sym syncs.err) took)
