use Rattle.law_hosted.proofs.Copies.{copy_keeps}
use Rattle.law_hosted.proofs.Running.{closing_keeps, round_keeps, run_keeps}
use Rattle.law_hosted.proofs.Stopped.{still_closing, still_round}
use Rattle.law_hosted.proofs.laws.running_law.Goals as goal

pub returns-clause-run : goal.returns-clause-run
returns-clause-run c = run_keeps c.round_law.ensures.run

pub returns-clause-round : goal.returns-clause-round
returns-clause-round c = round_keeps c.round_law.ensures.run c.seen_law.ensures

pub returns-clause-closing : goal.returns-clause-closing
returns-clause-closing c = closing_keeps c.round_law.ensures.closing

pub returns-clause-copy : goal.returns-clause-copy
returns-clause-copy c = copy_keeps c.round_law.ensures.now

pub returns-clause-still : goal.returns-clause-still
returns-clause-still c = still_round (run_keeps c.round_law.ensures.run)

pub returns-clause-still_closing : goal.returns-clause-still_closing
returns-clause-still_closing c = still_closing (run_keeps c.round_law.ensures.run)
