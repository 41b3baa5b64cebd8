use Rattle.std.proofs.Common.{◌≤◌, refl, ap, subst, sym, ◌∙◌}
use Rattle.disk_deferred.specs.declared.call.TheConstants.{MOST_BYTES}
use Rattle.zelamiku.specs.HeapDoors.{filled_of, told_of}
use Rattle.zelamiku.specs.declared.words.Call.{Call}
use Rattle.zelamiku.proofs.HostCallLemmas.{first_told, small_told}
use Rattle.zelamiku.proofs.heap_calls.next_call.Goals as goal

pub returns-in-Heap-clause-told : goal.returns-in-Heap-clause-told
returns-in-Heap-clause-told c =
    let first = first_told c.next_call.result c.fetch.new.self.calls.left c.next_call.ensures.first in
    rw c.in-Heap.is (
      c.fetch.new.self,
      c.fetch.ensures.heap,
      c.fetch.ensures.fetches,
      record { told = c.tell.ensures.call ∙ ap told_of first; small = subst (λ (call : Call). call.size ≤ MOST_BYTES) (sym c.tell.ensures.call) (small_told c.next_call.result c.next_call.ensures.small); bytes = c.tell.ensures.bytes ∙ ap (λ call. filled_of call c.args.bytes.now) first; ok = refl },
      refl,
    )

pub returns-in-Closed-clause-told : goal.returns-in-Closed-clause-told
returns-in-Closed-clause-told c =
    let host = c.fetch-in-Closed.new.self in
    let first = first_told c.next_call-in-Closed.result host.left c.next_call-in-Closed.ensures.first in
    rw c.in-Closed.is (
      record { disk = c.in-Closed.closed.disk; calls = host },
      refl,
      c.fetch-in-Closed.ensures.fetches,
      record { told = c.tell-in-Closed.ensures.call ∙ ap told_of first; small = subst (λ (call : Call). call.size ≤ MOST_BYTES) (sym c.tell-in-Closed.ensures.call) (small_told c.next_call-in-Closed.result c.next_call-in-Closed.ensures.small); bytes = c.tell-in-Closed.ensures.bytes ∙ ap (λ call. filled_of call c.args.bytes.now) first; ok = refl },
      refl,
    )

pub returns-in-Journal-clause-told : goal.returns-in-Journal-clause-told
returns-in-Journal-clause-told c =
    let y = c.fetch-in-Journal.new.self in
    let first = first_told c.next_call-in-Journal.result y.calls.left c.next_call-in-Journal.ensures.first in
    rw c.in-Journal.is (
      y,
      c.fetch-in-Journal.ensures.same,
      c.fetch-in-Journal.ensures.fetches,
      record { told = c.tell-in-Journal.ensures.call ∙ ap told_of first; small = subst (λ (call : Call). call.size ≤ MOST_BYTES) (sym c.tell-in-Journal.ensures.call) (small_told c.next_call-in-Journal.result c.next_call-in-Journal.ensures.small); bytes = c.tell-in-Journal.ensures.bytes ∙ ap (λ call. filled_of call c.args.bytes.now) first; ok = refl },
      refl,
    )
