use Rattle.std.proofs.Common.{refl}
use Rattle.zelamiku.proofs.HostCallLemmas.{first_made}
use Rattle.zelamiku.proofs.heap_calls.call_done.Goals as goal

pub returns-in-Heap : goal.returns-in-Heap
returns-in-Heap c =
    let x = c.in-Heap.heap in
    let y = c.done.new.self in
    rw c.in-Heap.is (y, c.done.ensures.heap, first_made x.calls.left x.calls y.calls c.done.result c.of_done.result c.done.ensures.none c.done.ensures.one c.of_done.ensures, refl)

pub returns-in-Closed : goal.returns-in-Closed
returns-in-Closed c =
    let x = c.in-Closed.closed in
    let host = c.done-in-Closed.new.self in
    rw c.in-Closed.is (
      record { disk = x.disk; calls = host },
      refl,
      first_made x.calls.left x.calls host c.done-in-Closed.result c.of_done-in-Closed.result c.done-in-Closed.ensures.none c.done-in-Closed.ensures.one c.of_done-in-Closed.ensures,
      refl,
    )

pub returns-in-Journal : goal.returns-in-Journal
returns-in-Journal c =
    let x = c.in-Journal.journal in
    let y = c.done-in-Journal.new.self in
    rw c.in-Journal.is (
      y,
      c.done-in-Journal.ensures.same,
      first_made x.calls.left x.calls y.calls c.done-in-Journal.result c.of_done-in-Journal.result c.done-in-Journal.ensures.none c.done-in-Journal.ensures.one c.of_done-in-Journal.ensures,
      refl,
    )
