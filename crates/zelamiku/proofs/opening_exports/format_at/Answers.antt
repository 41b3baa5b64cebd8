use Rattle.std.proofs.Common.{refl, ◌∙◌}
use Rattle.zelamiku.specs.HeapDoors.{IsFormatted, NotFormatted}
use Rattle.zelamiku.proofs.Emptiness.{nothing_still}
use Rattle.zelamiku.proofs.opening_exports.format_at.Goals as goal

pub returns-in-Ok-put_new : goal.returns-in-Ok-put_new
returns-in-Ok-put_new c =
    rw (nothing_still c.args.place.now.handle.state c.is_taken.new.place.handle.state c.is_taken.ensures.still c.if-is_taken.ensures.told) (IsFormatted c.in-Ok.heap c.in-Ok.ensures c.size-bytes.ensures c.in-Ok-put_new.ensures.ok refl)

pub returns-in-Err : goal.returns-in-Err
returns-in-Err c =
    let none = nothing_still c.args.place.now.handle.state c.is_taken.new.place.handle.state c.is_taken.ensures.still c.if-is_taken.ensures.told in
    rw none (NotFormatted c.in-Err.ensures refl (c.is_taken.ensures.still ∙ none))
