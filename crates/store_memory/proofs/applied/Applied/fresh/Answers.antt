use Rattle.std.proofs.Common.{subst}
use Rattle.heap_model.specs.Log.{log_from}
use Rattle.store_memory.specs.Limits.{AreWithin, FitWords}
use Rattle.store_memory.specs.Memory.{Memory}
use Rattle.store_memory.proofs.applied.Applied.fresh.Goals as goal

pub returns-clause-words : goal.returns-clause-words
returns-clause-words c = subst (λ (m : Memory). FitWords (log_from m.fresh)) c.self.view_is c.self.invariant.words

pub returns-clause-within : goal.returns-clause-within
returns-clause-within c = subst AreWithin c.self.view_is c.self.invariant.within
