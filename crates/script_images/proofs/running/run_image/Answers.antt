use Rattle.script_lines.specs.Lines.{lines_of}
use Rattle.image_file.proofs.BesideLemmas.{stays_after}
use Rattle.script_images.proofs.RunLemmas.{not_had}
use Rattle.script_images.proofs.running.run_image.Goals as goal

pub returns-in-Err-clause-ends : goal.returns-in-Err-clause-ends
returns-in-Err-clause-ends g c =
    not_had c.args.given (lines_of c.args.script.now) c.args.ending c.args.is_strict _ _ (g.W.Write.contents c.args.writer.now) c.in-Err.why c.of_file.result c.of_file.ensures c.place_for.ensures.same

pub returns-in-Ok-clause-beside : goal.returns-in-Ok-clause-beside
returns-in-Ok-clause-beside g c = stays_after c.place_for.ensures.beside c.run_on.ensures.beside
