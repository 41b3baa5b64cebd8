use Rattle.script_lines.specs.Lines.{lines_of}
use Rattle.script_images.proofs.RunLemmas.{after_recovery}
use Rattle.script_images.proofs.playing.play_down.Goals as goal

pub returns-in-Err-run_as-clause-refused : goal.returns-in-Err-run_as-clause-refused
returns-in-Err-run_as-clause-refused c =
    after_recovery c.args.machine.now c.recovered.new.machine c.in-Ok.text.items c.in-Ok.ensures.ok (lines_of c.args.script.now) c.args.ending c.args.is_strict
    c.in-Err-run_as.fault c.in-Err-run_as.ensures.refused
