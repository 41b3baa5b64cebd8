use Rattle.std.proofs.Common.{sym, ◌∙◌}
use Rattle.undo_log.specs.OldValues.{Holds, IsUnsettled}
use Rattle.undo_log.proofs.Once.{takes_once}
use Rattle.undo_log.proofs.laws.one_value_law.Goals as goal

pub returns : goal.returns
returns c guard f lanes settled cell v w a b = takes_once guard f lanes (IsUnsettled settled) (Holds cell) v w (λ p q. p ∙ sym q) a b
