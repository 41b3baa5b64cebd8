use Rattle.std.proofs.Common.{Option, OnOk, IfErr, sym, subst, ◌∙◌}
use Rattle.heap_model.specs.Setting.{Setting}
use Rattle.heap_model.specs.declared.record.Record.{Record}
use Rattle.heap_model.specs.Past.{Past}
use Rattle.script_machine.specs.States.{Tells}
use Rattle.script_machine.specs.Machine.{Keeps, RefusesRecord}
use Rattle.script_machine.proofs.StoreLemmas.{took, not_took}
use Rattle.script_machine.proofs.store_calls.keep_record.Goals as goal

pub returns-in-Some-clause-kept : goal.returns-in-Some-clause-kept
returns-in-Some-clause-kept c =
    let x = c.args.store.now in
    let y = c.apply.new.self in
    let t = c.args.thread.0 in
    let step = c.apply.ensures in
    subst (λ (r : Option Record). OnOk c.apply.result (Keeps x t r y)) (sym c.in-Some.is ∙ c.record_of.ensures)
    (took x y t c.in-Some.next c.apply.result step.answer step.ok step.disk step.layout step.running)

pub returns-in-Some-clause-refused : goal.returns-in-Some-clause-refused
returns-in-Some-clause-refused c =
    let x = c.args.store.now in
    let t = c.args.thread.0 in
    subst (λ (r : Option Record). IfErr c.apply.result (λ e. (s : Setting) (p : Past) → Tells x s p → RefusesRecord x s p t r e)) (sym c.in-Some.is ∙ c.record_of.ensures)
    (not_took x t c.in-Some.next c.apply.result c.apply.ensures.answer)
