use Rattle.std.proofs.Common.{refl}
use Rattle.host_heap.specs.declared.closing.NotClosed.TheVariants.{Running, CallsLeft, InUse, Stopped}
use Rattle.zelamiku.specs.HeapDoors.{IsNotYetClosed, IsNowClosed}
use Rattle.zelamiku.proofs.heap_calls.closed_of.Goals as goal

pub returns-in-Ok : goal.returns-in-Ok
returns-in-Ok c = rw c.in-Heap.is (IsNowClosed c.in-Ok.closed c.in-Ok.ensures.ok c.in-Ok.ensures.calls refl refl)

pub returns-in-Err-Running : goal.returns-in-Err-Running
returns-in-Err-Running c = rw c.in-Heap.is (IsNotYetClosed (Running c.in-Err-Running.heap) (rw c.in-Err-Running.field-0-is at c.in-Err-Running.ensures.refused) refl refl)

pub returns-in-Err-CallsLeft : goal.returns-in-Err-CallsLeft
returns-in-Err-CallsLeft c = rw c.in-Heap.is (IsNotYetClosed (CallsLeft c.in-Err-CallsLeft.heap) (rw c.in-Err-CallsLeft.field-0-is at c.in-Err-CallsLeft.ensures.refused) refl refl)

pub returns-in-Err-InUse : goal.returns-in-Err-InUse
returns-in-Err-InUse c = rw c.in-Heap.is (IsNotYetClosed (InUse c.in-Err-InUse.heap) (rw c.in-Err-InUse.field-0-is at c.in-Err-InUse.ensures.refused) refl refl)

pub returns-in-Err-Stopped : goal.returns-in-Err-Stopped
returns-in-Err-Stopped c =
    rw c.in-Heap.is (IsNotYetClosed (Stopped c.in-Err-Stopped.closed c.in-Err-Stopped.refusal) (rw c.in-Err-Stopped.field-0-is at c.in-Err-Stopped.ensures.refused) refl c.of_close.ensures)
