use Rattle.std.proofs.Common.{ℕ, ◌≡◌, List, length, refl, sym, ap, subst, arith}
use Rattle.heap_model.specs.declared.record.Record.{Record}
use Rattle.heap_model.specs.Record.{undo_of}
use Rattle.heap_model.specs.Sections.{Action, action}
use Rattle.dependence.specs.Next.{IsNext, IsObjectBelow}
use Rattle.store_memory.specs.Sections.{with_action}
use Rattle.store_memory.proofs.sections.tell.Goals as goal

pub push-requires-clause-object : goal.push-requires-clause-object
push-requires-clause-object c = subst (λ (r : Record). IsObjectBelow 4096 (undo_of r)) c.in-Acq.is c.requires.object

pub push-requires-clause-next : goal.push-requires-clause-next
push-requires-clause-next c = subst (λ (r : Record). IsNext c.args.graph.now.log c.args.lane.0 (action r)) c.in-Acq.is c.requires.next

pub returns-in-Acq-clause-log : goal.returns-in-Acq-clause-log
returns-in-Acq-clause-log c = subst (λ (r : Record). c.push.new.self.log ≡ with_action (c.args.lane.0, action r) c.args.graph.now.log) (sym c.in-Acq.is) c.push.ensures.log

pub returns-in-Acq-clause-room : goal.returns-in-Acq-clause-room
returns-in-Acq-clause-room c = omega (arith, c.push.ensures.room, ap (λ (xs : List (ℕ × Action)). length xs) c.push.ensures.log)

pub push-requires-in-Rel-clause-object : goal.push-requires-in-Rel-clause-object
push-requires-in-Rel-clause-object c = subst (λ (r : Record). IsObjectBelow 4096 (undo_of r)) c.in-Rel.is c.requires.object

pub push-requires-in-Rel-clause-next : goal.push-requires-in-Rel-clause-next
push-requires-in-Rel-clause-next c = subst (λ (r : Record). IsNext c.args.graph.now.log c.args.lane.0 (action r)) c.in-Rel.is c.requires.next

pub returns-in-Rel-clause-log : goal.returns-in-Rel-clause-log
returns-in-Rel-clause-log c = subst (λ (r : Record). c.push-in-Rel.new.self.log ≡ with_action (c.args.lane.0, action r) c.args.graph.now.log) (sym c.in-Rel.is) c.push-in-Rel.ensures.log

pub returns-in-Rel-clause-room : goal.returns-in-Rel-clause-room
returns-in-Rel-clause-room c = omega (arith, c.push-in-Rel.ensures.room, ap (λ (xs : List (ℕ × Action)). length xs) c.push-in-Rel.ensures.log)

pub push-requires-in-WaitRel-clause-object : goal.push-requires-in-WaitRel-clause-object
push-requires-in-WaitRel-clause-object c = subst (λ (r : Record). IsObjectBelow 4096 (undo_of r)) c.in-WaitRel.is c.requires.object

pub push-requires-in-WaitRel-clause-next : goal.push-requires-in-WaitRel-clause-next
push-requires-in-WaitRel-clause-next c = subst (λ (r : Record). IsNext c.args.graph.now.log c.args.lane.0 (action r)) c.in-WaitRel.is c.requires.next

pub returns-in-WaitRel-clause-log : goal.returns-in-WaitRel-clause-log
returns-in-WaitRel-clause-log c = subst (λ (r : Record). c.push-in-WaitRel.new.self.log ≡ with_action (c.args.lane.0, action r) c.args.graph.now.log) (sym c.in-WaitRel.is) c.push-in-WaitRel.ensures.log

pub returns-in-WaitRel-clause-room : goal.returns-in-WaitRel-clause-room
returns-in-WaitRel-clause-room c = omega (arith, c.push-in-WaitRel.ensures.room, ap (λ (xs : List (ℕ × Action)). length xs) c.push-in-WaitRel.ensures.log)

pub returns-in-Put-clause-log : goal.returns-in-Put-clause-log
returns-in-Put-clause-log c = subst (λ (r : Record). c.args.graph.now.log ≡ with_action (c.args.lane.0, action r) c.args.graph.now.log) (sym c.in-Put.is) refl
