use Rattle.durable.proofs.Making.{apply_makes, home_makes, home_refuses, log_makes, log_refuses, made_as, settle_makes, trim_makes}
use Rattle.durable.proofs.store.Store.make.Goals as goal

pub returns-in-Apply : goal.returns-in-Apply
returns-in-Apply g c = made_as c.in-Apply.is (apply_makes g.D.Disk.device _ _ c.in-Apply.lane c.in-Apply.«record» c.apply.result c.apply.ensures)

pub returns-in-Ok : goal.returns-in-Ok
returns-in-Ok g c = made_as c.in-Log.is (log_makes c.in-Ok.ensures)

pub returns-in-Err : goal.returns-in-Err
returns-in-Err g c = made_as c.in-Log.is (log_refuses c.in-Err.ensures)

pub returns-in-Ok-home_step : goal.returns-in-Ok-home_step
returns-in-Ok-home_step g c = made_as c.in-Home.is (home_makes g.D.Disk.device _ _ c.in-Ok-home_step.field-0 c.in-Ok-home_step.ensures)

pub returns-in-Err-home_step : goal.returns-in-Err-home_step
returns-in-Err-home_step g c = made_as c.in-Home.is (home_refuses g.D.Disk.device _ _ c.in-Err-home_step.reason c.in-Err-home_step.ensures)

pub returns-in-Settle : goal.returns-in-Settle
returns-in-Settle g c = made_as c.in-Settle.is (settle_makes g.D.Disk.device _ _ c.settle.result c.settle.ensures)

pub returns-in-Trim : goal.returns-in-Trim
returns-in-Trim g c = made_as c.in-Trim.is (trim_makes g.D.Disk.device _ _ c.trim.result c.trim.ensures)
