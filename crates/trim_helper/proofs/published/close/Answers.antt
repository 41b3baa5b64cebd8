use Rattle.trim_helper.proofs.Counting.{have_published}
use Rattle.trim_helper.proofs.SeatLemmas.{one_history, read_low}
use Rattle.trim_helper.proofs.published.close.Goals as goal

pub returns-clause-history : goal.returns-clause-history
returns-clause-history c = let e = c.close.ensures.ended in let h = c.requires.helper in
    record {
      history = e.history;
      one = one_history c.args.shared.plan c.args.helper _ e h.all;
      later = e.later;
      spelled = e.spelled;
      values = e.values;
    }

pub returns-clause-read : goal.returns-clause-read
returns-clause-read c = read_low c.args.shared.plan c.args.helper _ c.close.ensures.ended

pub returns-clause-published : goal.returns-clause-published
returns-clause-published c = have_published c.args.helper c.close.ensures.published
