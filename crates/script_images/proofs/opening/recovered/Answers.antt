use Rattle.std.proofs.Common.{◌∙◌, ap, sym}
use Rattle.std.proofs.lemmas.Result.{IfOk-weaker}
use Rattle.image_file.specs.declared.error.ImageFault.TheVariants as images
use Rattle.image_file.specs.declared.error.NamedFault.TheVariants.{Image}
use Rattle.recover_heap.specs.declared.error.RecoverError.{RecoverError}
use Rattle.script_images.proofs.OpeningLemmas.{down_recovered, down_refused, memory_wanted}
use Rattle.script_images.proofs.opening.recovered.Goals as goal

pub returns-in-Some-clause-refused : goal.returns-in-Some-clause-refused
returns-in-Some-clause-refused c =
    down_refused c.args.machine.now c.in-Ok.answer c.in-Some.why c.step.new.self c.refused-in-Some.result c.requires (sym c.in-Some.ensures)
    (c.refused-in-Some.ensures ∙ ap (λ (why : RecoverError). Image (images.Image why)) c.reason_of.ensures) c.in-Ok.ensures.ok

pub returns-in-None-clause-ok : goal.returns-in-None-clause-ok
returns-in-None-clause-ok c =
    IfOk-weaker c.told-text.result _ _ (λ told is. down_recovered c.args.machine.now c.in-Ok.answer told.items c.step.new.self c.requires (sym c.in-None.ensures) is c.in-Ok.ensures.ok) c.told-text.ensures.text

pub returns-in-None-clause-refused : goal.returns-in-None-clause-refused
returns-in-None-clause-refused c = memory_wanted c.args.machine.now c.told-text.result c.told-text.ensures.memory
