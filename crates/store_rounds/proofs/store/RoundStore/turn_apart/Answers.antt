use Rattle.store_rounds.proofs.Composing.{only_logs, then_settles}
use Rattle.store_rounds.proofs.store.RoundStore.turn_apart.Goals as goal

pub returns-in-Ok : goal.returns-in-Ok
returns-in-Ok g c = then_settles g.D.Disk.device c.args.stable.now.cut _ _ _ _ c.in-Ok.ensures c.settle.ensures

pub returns-in-Err : goal.returns-in-Err
returns-in-Err g c = only_logs g.D.Disk.device c.args.stable.now.cut _ _ _ c.requires.serves c.in-Err.ensures
