use Rattle.std.proofs.Common.{◌-◌, length, refl, arith}
use Rattle.zelamiku.specs.PoolDoors.{LaysOut}
use Rattle.zelamiku.proofs.pool_calls.lay_out.Goals as goal

pub returns-clause-laid : goal.returns-clause-laid
returns-clause-laid c =
    let some = c.if-count-lt2.false in
    let few = c.if-count.false in
    LaysOut (length c.args.fields.now - 1) (omega arith) (omega arith) (omega arith) c.write_fields.ensures.each refl
