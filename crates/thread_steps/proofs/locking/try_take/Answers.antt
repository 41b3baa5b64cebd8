use Rattle.std.proofs.Common.{◌∙◌, rules}
use Rattle.thread_steps.proofs.Growing.{misses_thin, misses_fat}
use Rattle.thread_steps.proofs.locking.try_take.Goals as goal

pub returns-in-Err : goal.returns-in-Err
returns-in-Err c = record {
  seat = search rules;
  clear = search rules;
  told = misses_thin _ _ c.args.object _ _ c.in-Err.ensures.missed.0 c.in-Err.ensures.missed.1 c.stands.ensures c.in-Err.ensures.differs c.requires.free_of (c.requires.slot ∙ c.in-None.is);
  slot = search rules;
  found = search rules;
  lasting = search rules;
  grips = search rules;
}

pub returns-in-Err-try_take_fat : goal.returns-in-Err-try_take_fat
returns-in-Err-try_take_fat c = record {
  seat = search rules;
  clear = search rules;
  told = misses_fat _ _ c.args.object _ _ c.in-Err-try_take_fat.ensures.missed c.stands-in-Err-try_take_fat.ensures c.in-Err-try_take_fat.ensures.differs c.requires.free_of;
  slot = search rules;
  found = search rules;
  lasting = search rules;
  grips = search rules;
}
