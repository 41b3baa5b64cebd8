use Rattle.heap_model.specs.Sections.{actions}
use Rattle.heap_model.specs.Past.{applied}
use Rattle.store_rounds.proofs.Running.{round_runs}
use Rattle.trim_helper.proofs.Rounding.{ok_weaker, round_settles}
use Rattle.trim_helper.proofs.settling.make_durable.Goals as goal

pub returns-clause-settles : goal.returns-clause-settles
returns-clause-settles g c = λ s p has. round_settles g.D.Disk.device c.args.store.now c.round.new.self s p has c.round.result c.round.ensures (c.stable_law.ensures.exists (actions (applied p)))

pub returns-clause-still : goal.returns-clause-still
returns-clause-still g c = λ s p has off. (c.round.ensures.writes.still off).1

pub returns-clause-running : goal.returns-clause-running
returns-clause-running g c = ok_weaker c.round.result _ _ (λ both. both.1) c.round.ensures.writes.running

pub returns-clause-cause : goal.returns-clause-cause
returns-clause-cause g c = c.round.ensures.writes.cause

pub returns-clause-takes : goal.returns-clause-takes
returns-clause-takes g c = (round_runs g.D.Disk.device c.args.store.now c.round.new.self c.round.result c.round.ensures).takes

pub returns-clause-layout : goal.returns-clause-layout
returns-clause-layout g c = c.round.ensures.writes.layout

pub returns-clause-threads : goal.returns-clause-threads
returns-clause-threads g c = c.round.ensures.writes.threads
