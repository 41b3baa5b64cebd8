use Rattle.std.proofs.Common.{◌∷◌, [], sym, subst}
use Rattle.heap_model.specs.declared.record.Record.{Record as AnyRecord}
use Rattle.store_memory.specs.Sections.{Adds}
use Rattle.store_memory.proofs.sections.LoggedSections.push.Goals as goal

pub returns-in-Acq : goal.returns-in-Acq
returns-in-Acq c = subst (λ (r : AnyRecord). Adds ((c.args.lane.0, r) ∷ []) c.args.self.now c.add.new.self) (sym c.in-Acq.is) c.add.ensures

pub returns-in-Rel : goal.returns-in-Rel
returns-in-Rel c = subst (λ (r : AnyRecord). Adds ((c.args.lane.0, r) ∷ []) c.args.self.now c.add-in-Rel.new.self) (sym c.in-Rel.is) c.add-in-Rel.ensures

pub returns-in-WaitRel : goal.returns-in-WaitRel
returns-in-WaitRel c = subst (λ (r : AnyRecord). Adds ((c.args.lane.0, r) ∷ []) c.args.self.now c.add-in-WaitRel.new.self) (sym c.in-WaitRel.is) c.add-in-WaitRel.ensures

pub returns-in-Put : goal.returns-in-Put
returns-in-Put c = subst (λ (r : AnyRecord). Adds ((c.args.lane.0, r) ∷ []) c.args.self.now c.add-in-Put.new.self) (sym c.in-Put.is) c.add-in-Put.ensures
