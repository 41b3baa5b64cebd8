use Rattle.std.proofs.Common.{◌≡◌, ◌<◌, ◌∙◌, sym, inl, inr, refl, subst, ap}
use Rattle.block_disk.specs.Memory.{Memory}
use Rattle.heap_model.specs.Sections.{actions}
use Rattle.image_parts.specs.declared.layout.Layout.{Layout}
use Rattle.durable.specs.Calls.{RefusesSettle}
use Rattle.heap_model.specs.Past.{after_settle}
use Rattle.durable.specs.Store.{Parts}
use Rattle.durable.specs.declared.doubt.Doubt.TheVariants.{Settling}
use Rattle.script_machine.specs.Agreement.{Agrees, setting_from}
use Rattle.script_machine.specs.States.{Live}
use Rattle.script_machine.specs.Machine.{Running, Settles}
use Rattle.script_machine.proofs.AgreementLemmas.{refused-settle, same-told}
use Rattle.script_machine.proofs.SchemaLemmas.{called_of}
use Rattle.script_machine.proofs.StoreLemmas.{live, told-unchanged, refused-line}
use Rattle.script_machine.proofs.running.Running.settle.Goals as goal
use Rattle.script_machine.proofs.running.Running.settle.Goals.{in-Ok+in-Ok-acknowledged_counts, in-Err+in-Ok-refused_call}

pub refused_call-requires : goal.refused_call-requires
refused_call-requires c =
    let g = c.self.invariant in
    let s = setting_from c.self.inside.monitors g.first in
    refused-settle c.self.inside.store.known s g.past c.in-Err.why g.running (c.in-Err.ensures.answer s g.past g.tells)

pub invariant_of-result : goal.invariant_of-result
invariant_of-result c =
    let a = c.self.inside.monitors in
    let x = c.self.inside.store in
    let y = c.settle.new.self in
    let g = c.self.invariant in
    let step = c.settle.ensures in
    elim c.match-settle.branch [
      | in-Ok+in-Ok-acknowledged_counts w ↦
          let stable = c.stable_law.ensures.exists (actions g.past.logged) in
          same-told a x y g (after_settle g.past stable.0) refl (rw w.in-Ok.is at step.ok (setting_from a g.first) g.past stable.0 g.tells stable.1) step.writes.layout
          (rw w.in-Ok.is at step.writes.running).1
          (called_of a g.first g.past Settling x y.disk g.tells g.running (step.writes.shown (setting_from a g.first) g.past g.tells) g.of_schema)
      | in-Err+in-Ok-refused_call w ↦
          let told = sym w.refused_call.ensures ∙ w.in-Ok-refused_call.is in
          let same : y ≡ x = told-unchanged x y w.in-Err.why w.in-Ok-refused_call.refusal told (rw w.in-Err.is at step.writes.refused) in
          subst (λ (z : Parts Memory). Agrees a z) (sym same) g
    ]

pub returns : goal.returns
returns c =
    let a = c.self.inside.monitors in
    let x = c.self.inside.store in
    let y = c.settle.new.self in
    let step = c.settle.ensures in
    let lanes : y.known.layout.lanes ≡ x.known.layout.lanes = ap (λ (l : Layout). l.lanes) step.writes.layout in
    subst (λ (m : Live). Settles (Running m) c.match-settle.answer (Running (live a y)) m) c.self.view_is
    (elim c.match-settle.branch [
      | in-Ok+in-Ok-acknowledged_counts w ↦
          let told = w.in-Ok-acknowledged_counts.ensures in
          rw w.answer-is (inl (record {
            store = y;
            sections = w.in-Ok-acknowledged_counts.counts.items;
            answers = refl;
            runs = refl;
            layout = step.writes.layout;
            ran = c.self.invariant.running;
            running = (rw w.in-Ok.is at step.writes.running).1;
            shown = step.writes.shown;
            takes = record { sequence = step.writes.sequence; any_sequence = step.writes.any_sequence };
            stands = step.any_moment;
            clean = λ s p t. (rw w.in-Ok.is at step.answer s p t).1;
            lanes = told.count ∙ lanes;
            after = λ s p cut t stable. rw w.in-Ok.is at step.ok s p cut t stable;
            counts = λ s p cut t stable l in'. told.counts s (after_settle p cut) (rw w.in-Ok.is at step.ok s p cut t stable) l (subst (λ n. l < n) (sym lanes) in');
          }))
      | in-Err+in-Ok-refused_call w ↦
          let told = sym w.refused_call.ensures ∙ w.in-Ok-refused_call.is in
          rw w.answer-is (inr (refused-line a x y (RefusesSettle x.known) w.in-Err.why w.in-Ok-refused_call.refusal told
          (told-unchanged x y w.in-Err.why w.in-Ok-refused_call.refusal told (rw w.in-Err.is at step.writes.refused)) (λ s p t. rw w.in-Err.is at step.answer s p t)))
    ])
