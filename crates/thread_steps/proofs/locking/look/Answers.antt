use Rattle.std.proofs.Common.{sym, ap, ◌∙◌}
use Rattle.lock_word.specs.Spelling.{slot_named}
use Rattle.thread_steps.proofs.Growing.{agrees_looked, agrees_through, after_looks}
use Rattle.thread_steps.proofs.locking.look.Goals as goal

pub returns-in-Fat-clause-agrees : goal.returns-in-Fat-clause-agrees
returns-in-Fat-clause-agrees c = agrees_through _ _ c.args.object _ _ c.in-Fat.index c.look_fat-fat.ensures.told c.stands.ensures (ap slot_named (sym c.shape.ensures.shape ∙ c.in-Fat.is))

pub returns-in-Free-clause-agrees : goal.returns-in-Free-clause-agrees
returns-in-Free-clause-agrees c = agrees_looked _ _ c.args.object _ c.look-lock.ensures.told c.stands-in-Free.ensures (ap slot_named (sym c.shape.ensures.shape ∙ c.in-Free.is))

pub returns-in-Thin-clause-agrees : goal.returns-in-Thin-clause-agrees
returns-in-Thin-clause-agrees c = agrees_looked _ _ c.args.object _ c.look-lock.ensures.told c.stands-in-Thin.ensures (ap slot_named (sym c.shape.ensures.shape ∙ c.in-Thin.is))

pub returns-in-Fat-clause-told : goal.returns-in-Fat-clause-told
returns-in-Fat-clause-told c = after_looks _ _ _ c.args.object _ _ c.in-Fat.index _ (sym c.shape.ensures.shape ∙ c.in-Fat.is) c.look-lock.ensures.told c.look-lock.ensures.news c.look_fat-fat.ensures.told
