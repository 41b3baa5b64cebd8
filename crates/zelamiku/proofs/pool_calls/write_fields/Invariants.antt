use Rattle.zelamiku.specs.PoolDoors.{AreFieldsBelow}
use Rattle.zelamiku.proofs.pool_calls.write_fields.Given as goal

-- the fields so far are the pool's
abbrev pub invariant-loop-cell : goal.invariant-loop-cell
invariant-loop-cell l = AreFieldsBelow l.object l.slots l.cell l.fields
