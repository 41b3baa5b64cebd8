use Rattle.std.proofs.Common.{ℕ, ◌≤◌, List, arith, subst, ◌∙◌}
use Rattle.host_heap.specs.Opening.{RefusesMaking}
use Rattle.image_parts.specs.declared.guard_row.GuardRow.{GuardRow}
use Rattle.zelamiku.specs.HeapDoors.{NotMade, rows_of}
use Rattle.zelamiku.proofs.heap_calls.format.Goals as goal

pub returns : goal.returns
returns c =
    let lanes = c.in-Ok.ensures in
    let why = c.in-Err.refusal in
    let low : c.args.lanes ≤ 255 = omega (arith, lanes.0) in
    NotMade
    why
    low
    (subst (λ (n : ℕ). RefusesMaking c.args.objects (rows_of c.args.fields.now) n c.args.capacity why) lanes.1
    (subst (λ (rows : List GuardRow). RefusesMaking c.args.objects rows c.in-Ok.lanes c.args.capacity why) (c.deref.ensures.value ∙ c.in-Ok-rows_of.ensures) c.in-Err.ensures))
    c.of_host.ensures
