use Rattle.recover_logs.proofs.TallyLemmas.{frees_first}
use Rattle.recover_logs.proofs.settled.rests_after.Goals as goal

pub tally-held-requires : goal.tally-held-requires
tally-held-requires c = record { held = frees_first c.args.records.now c.args.settled c.requires.held }
