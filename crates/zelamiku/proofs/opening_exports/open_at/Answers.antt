use Rattle.std.proofs.Common.{List, refl, subst, ◌∙◌}
use Rattle.host_heap.specs.declared.error.HostError.TheVariants.{NoMemory}
use Rattle.recover.specs.declared.report.Dropped.{Dropped as Section}
use Rattle.zelamiku.specs.ReportDoors.{IsOpen, NotOpen, TellsEach}
use Rattle.zelamiku.proofs.Emptiness.{nothing_still}
use Rattle.zelamiku.proofs.opening_exports.open_at.Goals as goal

pub returns-in_default : goal.returns-in_default
returns-in_default c =
    let none = nothing_still c.args.place.now.handle.state c.is_taken.new.place.handle.state c.is_taken.ensures.still c.if-is_taken.ensures.told in
    rw none (NotOpen NoMemory tt c.nothing.ensures c.tell_dropped.ensures (c.in_default.ensures.err ∙ c.is_taken.ensures.still ∙ none) refl)

pub returns-in-Ok-put_new : goal.returns-in-Ok-put_new
returns-in-Ok-put_new c =
    let dropped = c.tell_dropped-in-Ok.new.dropped in
    let each : TellsEach c.in-Ok.report.dropped.items dropped = subst (λ (sections : List Section). TellsEach sections dropped) c.deref.ensures.value c.tell_dropped-in-Ok.ensures in
    let none = nothing_still c.args.place.now.handle.state c.is_taken.new.place.handle.state c.is_taken.ensures.still c.if-is_taken.ensures.told in
    rw none (IsOpen c.in-Ok.heap c.in-Ok.report c.in-Ok.ensures c.of_heap-found.ensures each c.in-Ok-put_new.ensures.ok refl)

pub returns-in-Err : goal.returns-in-Err
returns-in-Err c =
    let none = nothing_still c.args.place.now.handle.state c.is_taken.new.place.handle.state c.is_taken.ensures.still c.if-is_taken.ensures.told in
    rw none (NotOpen c.in-Err.refusal c.in-Err.ensures c.of_refusal.ensures c.tell_dropped.ensures (c.is_taken.ensures.still ∙ none) c.of_host.ensures)
