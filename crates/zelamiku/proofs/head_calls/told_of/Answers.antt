use Rattle.std.proofs.Common.{refl, arith}
use Rattle.zelamiku.specs.HeadDoors.{IsImage}
use Rattle.zelamiku.proofs.head_calls.told_of.Goals as goal

pub returns-in-Some : goal.returns-in-Some
returns-in-Some c =
    let over = c.if-begun-lt-HEAD_BYTES.false in
    IsImage c.in-Some.layout (omega (arith, over)) c.in-Some.ensures.some c.head_of.ensures refl
