use Rattle.std.proofs.Common.{sym, subst}
use Rattle.heap_model.specs.declared.record.Record.{Record}
use Rattle.store_memory.specs.Apply.{Takes}
use Rattle.store_memory.proofs.applied.Applied.apply.Goals as goal

pub returns-in-Acq : goal.returns-in-Acq
returns-in-Acq c = subst (λ (r : Record). Takes c.args.lane.0 r c.args.self.now c.take_acquire.new.self c.take_acquire.result) (sym c.in-Acq.is) c.take_acquire.ensures

pub returns-in-Rel : goal.returns-in-Rel
returns-in-Rel c = subst (λ (r : Record). Takes c.args.lane.0 r c.args.self.now c.take_release.new.self c.take_release.result) (sym c.in-Rel.is) c.take_release.ensures

pub returns-in-WaitRel : goal.returns-in-WaitRel
returns-in-WaitRel c = subst (λ (r : Record). Takes c.args.lane.0 r c.args.self.now c.take_wait.new.self c.take_wait.result) (sym c.in-WaitRel.is) c.take_wait.ensures

pub returns-in-Put : goal.returns-in-Put
returns-in-Put c = subst (λ (r : Record). Takes c.args.lane.0 r c.args.self.now c.take_store.new.self c.take_store.result) (sym c.in-Put.is) c.take_store.ensures
