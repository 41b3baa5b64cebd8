use Rattle.std.proofs.Common.{[]}
use Rattle.heap_model.specs.Log.{log_from}
use Rattle.store_round_memory.proofs.survey.Survey.find.Goals as goal

pub returns-clause-tells : goal.returns-clause-tells
returns-clause-tells c = c.sort_changed.ensures.tells c.args.counts.now (log_from c.args.records.now) [] c.note_all.ensures.tells
