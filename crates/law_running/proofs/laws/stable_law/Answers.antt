use Rattle.law_running.proofs.Told.{keeps_told, read_kept, rest_kept, rest_read, rises, round_read, session_read}
use Rattle.law_running.proofs.laws.stable_law.Goals as goal

pub returns-clause-keeps : goal.returns-clause-keeps
returns-clause-keeps g c = keeps_told

pub returns-clause-rises : goal.returns-clause-rises
returns-clause-rises g c = rises

pub returns-clause-rest : goal.returns-clause-rest
returns-clause-rest g c = rest_read g.D.Disk.device

pub returns-clause-read : goal.returns-clause-read
returns-clause-read g c = session_read g.D.Disk.device

pub returns-clause-since : goal.returns-clause-since
returns-clause-since g c = read_kept g.D.Disk.device c.round_law.ensures.run

pub returns-clause-in_round : goal.returns-clause-in_round
returns-clause-in_round g c = round_read g.D.Disk.device c.round_law.ensures.run c.seen_law.ensures

pub returns-clause-at_rest : goal.returns-clause-at_rest
returns-clause-at_rest g c = rest_kept g.D.Disk.device c.round_law.ensures.run
