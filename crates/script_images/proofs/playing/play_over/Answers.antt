use Rattle.std.proofs.lemmas.Result.{IfOk-weaker}
use Rattle.script_lines.specs.Lines.{lines_of}
use Rattle.script_images.proofs.RunLemmas.{all_refused, plays}
use Rattle.script_images.proofs.playing.play_over.Goals as goal

pub returns-clause-ok : goal.returns-clause-ok
returns-clause-ok c =
    IfOk-weaker c.play_down-played.result _ _ (λ played so. plays c.args.given (lines_of c.args.script.now) c.args.ending c.args.is_strict c.args.image.now c.in-Ok.machine c.in-Ok.ensures.ok played.image.items played.text.items so) c.play_down-played.ensures.ok

pub returns-clause-refused : goal.returns-clause-refused
returns-clause-refused c =
    all_refused c.args.given (lines_of c.args.script.now) c.args.ending c.args.is_strict c.args.image.now c.in-Ok.machine c.in-Ok.ensures.ok c.play_down-played.result c.play_down-played.ensures.refused
