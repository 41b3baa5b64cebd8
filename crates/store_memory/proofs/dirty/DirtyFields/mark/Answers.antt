use Rattle.store_memory.proofs.DirtyLaws.{marked_again}
use Rattle.store_memory.proofs.dirty.DirtyFields.mark.Goals as goal

pub returns-then-is_dirty-clause-marked : goal.returns-then-is_dirty-clause-marked
returns-then-is_dirty-clause-marked c = λ f lt. marked_again c.args.self.now c.args.field.0 (c.is_dirty.ensures c.if-is_dirty.true) f
