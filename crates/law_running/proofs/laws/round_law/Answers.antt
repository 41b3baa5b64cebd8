use Rattle.law_running.proofs.Running.{between_kept, closing_kept, more_kept, now_kept, round_kept, served_kept, since_kept, told_kept}
use Rattle.law_running.proofs.laws.round_law.Goals as goal

pub returns-clause-run : goal.returns-clause-run
returns-clause-run g c = served_kept c.log_law.ensures c.released_law.ensures.released c.released_law.ensures.older c.two_syncs_law.ensures g.D.Disk.device c.sent_law.ensures c.own_log_law.ensures c.seen_law.ensures

pub returns-clause-round : goal.returns-clause-round
returns-clause-round g c = round_kept c.log_law.ensures c.released_law.ensures.released c.released_law.ensures.older c.two_syncs_law.ensures g.D.Disk.device c.sent_law.ensures c.own_log_law.ensures c.seen_law.ensures

pub returns-clause-opened : goal.returns-clause-opened
returns-clause-opened g c = since_kept c.log_law.ensures c.released_law.ensures.released c.released_law.ensures.older c.two_syncs_law.ensures g.D.Disk.device c.sent_law.ensures c.own_log_law.ensures c.seen_law.ensures

pub returns-clause-between : goal.returns-clause-between
returns-clause-between g c = between_kept c.log_law.ensures c.released_law.ensures.released c.released_law.ensures.older c.two_syncs_law.ensures g.D.Disk.device c.sent_law.ensures c.own_log_law.ensures c.seen_law.ensures

pub returns-clause-more : goal.returns-clause-more
returns-clause-more g c = more_kept

pub returns-clause-told : goal.returns-clause-told
returns-clause-told g c = told_kept

pub returns-clause-now : goal.returns-clause-now
returns-clause-now g c = now_kept c.log_law.ensures c.released_law.ensures.released c.released_law.ensures.older c.two_syncs_law.ensures g.D.Disk.device c.sent_law.ensures c.own_log_law.ensures c.seen_law.ensures

pub returns-clause-closing : goal.returns-clause-closing
returns-clause-closing g c = closing_kept c.log_law.ensures c.released_law.ensures.released c.released_law.ensures.older c.two_syncs_law.ensures g.D.Disk.device c.sent_law.ensures c.own_log_law.ensures c.seen_law.ensures
