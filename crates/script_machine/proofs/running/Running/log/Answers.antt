use Rattle.std.proofs.Common.{◌≡◌, ◌∙◌, sym, inl, inr, refl, subst}
use Rattle.block_disk.specs.Memory.{Memory}
use Rattle.durable.specs.Calls.{RefusesLog}
use Rattle.heap_model.specs.Past.{after_log}
use Rattle.durable.specs.Store.{Parts}
use Rattle.durable.specs.declared.doubt.Doubt.TheVariants.{Logging}
use Rattle.script_machine.specs.Agreement.{Agrees, setting_from}
use Rattle.script_machine.specs.States.{Live}
use Rattle.script_machine.specs.Machine.{Running, LogsRecords}
use Rattle.script_machine.proofs.AgreementLemmas.{refused-log, same-told}
use Rattle.script_machine.proofs.SchemaLemmas.{called_of}
use Rattle.script_machine.proofs.StoreLemmas.{live, told-unchanged, refused-line}
use Rattle.script_machine.proofs.running.Running.log.Goals as goal
use Rattle.script_machine.proofs.running.Running.log.Goals.{in-Ok, in-Err+in-Ok-refused_call}

pub refused_call-requires : goal.refused_call-requires
refused_call-requires c =
    let g = c.self.invariant in
    refused-log c.self.inside.store.known g.past c.in-Err.why g.running (c.in-Err.ensures.answer (setting_from c.self.inside.monitors g.first) g.past g.tells)

pub invariant_of-result : goal.invariant_of-result
invariant_of-result c =
    let a = c.self.inside.monitors in
    let x = c.self.inside.store in
    let y = c.log_step.new.self in
    let g = c.self.invariant in
    let step = c.log_step.ensures in
    elim c.match-log_step.branch [
      | in-Ok w ↦ same-told a x y g (after_log g.past) refl (rw w.in-Ok.is at step.ok (setting_from a g.first) g.past g.tells) step.writes.layout (rw w.in-Ok.is at step.writes.running).1
          (called_of a g.first g.past Logging x y.disk g.tells g.running (step.writes.shown (setting_from a g.first) g.past g.tells) g.of_schema)
      | in-Err+in-Ok-refused_call w ↦
          let told = sym w.refused_call.ensures ∙ w.in-Ok-refused_call.is in
          let same : y ≡ x = told-unchanged x y w.in-Err.why w.in-Ok-refused_call.refusal told (rw w.in-Err.is at step.writes.refused) in
          subst (λ (z : Parts Memory). Agrees a z) (sym same) g
    ]

pub returns : goal.returns
returns c =
    let a = c.self.inside.monitors in
    let x = c.self.inside.store in
    let y = c.log_step.new.self in
    let step = c.log_step.ensures in
    subst (λ (m : Live). LogsRecords (Running m) c.match-log_step.answer (Running (live a y)) m) c.self.view_is
    (elim c.match-log_step.branch [
      | in-Ok w ↦ rw w.answer-is (inl (record {
        store = y;
        records = w.in-Ok.records;
        call = record { answers = refl; runs = refl; layout = step.writes.layout; ran = c.self.invariant.running; running = (rw w.in-Ok.is at step.writes.running).1; shown = step.writes.shown };
        takes = record { sequence = step.writes.sequence; any_sequence = step.writes.any_sequence };
        stands = step.any_moment;
        count = λ s p t. (rw w.in-Ok.is at step.answer s p t).1;
        after = λ s p t. rw w.in-Ok.is at step.ok s p t;
      }))
      | in-Err+in-Ok-refused_call w ↦
          let told = sym w.refused_call.ensures ∙ w.in-Ok-refused_call.is in
          rw w.answer-is (inr (refused-line a x y (λ s p reason. RefusesLog x.known p reason) w.in-Err.why w.in-Ok-refused_call.refusal told
          (told-unchanged x y w.in-Err.why w.in-Ok-refused_call.refusal told (rw w.in-Err.is at step.writes.refused)) (λ s p t. rw w.in-Err.is at step.answer s p t)))
    ])
