use Rattle.std.proofs.Common.{rules}
use Rattle.thread_steps.proofs.Growing.{misses_fat}
use Rattle.thread_steps.proofs.waiting.try_retake.Goals as goal

pub returns-in-Err : goal.returns-in-Err
returns-in-Err c = record {
  seat = search rules;
  mark = search rules;
  told = misses_fat _ _ c.args.object _ _ c.in-Err.ensures.missed c.stands.ensures c.in-Err.ensures.differs c.requires.free_of;
  slot = search rules;
  found = search rules;
  grips = search rules;
}
