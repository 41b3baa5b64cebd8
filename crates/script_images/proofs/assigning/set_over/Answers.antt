use Rattle.std.specs.Prelude.{string_bytes}
use Rattle.std.proofs.lemmas.Result.{IfErr-weaker, IfOk-weaker}
use Rattle.script_images.proofs.ValueLemmas.{set_plan, unset_plan}
use Rattle.script_images.proofs.assigning.set_over.Goals as goal

pub returns-clause-ok : goal.returns-clause-ok
returns-clause-ok c =
    IfOk-weaker c.play_plan-played.result _ _
    (λ played so. set_plan c.args.given c.args.texts.now c.args.image.now c.in-Ok.schema (string_bytes c.plan.new.lines) c.plan.new.heap.items _ _ played.image.items played.text.items c.in-Ok.ensures.ok c.deref.ensures c.deref-2.ensures.value so)
    c.play_plan-played.ensures.ok

pub returns-clause-refused : goal.returns-clause-refused
returns-clause-refused c =
    IfErr-weaker c.play_plan-played.result _ _
    (λ fault refused. unset_plan c.args.given c.args.texts.now c.args.image.now c.in-Ok.schema (string_bytes c.plan.new.lines) c.plan.new.heap.items _ fault c.in-Ok.ensures.ok c.deref.ensures refused)
    c.play_plan-played.ensures.refused
