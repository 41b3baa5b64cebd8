use Rattle.std.proofs.Common.{ℕ, List, subst}
use Rattle.std.specs.Io.KnownBytes.{Appends}
use Rattle.script_lines.specs.Lines.{lines_of}
use Rattle.script_play.specs.Runs.{AppendsPart}
use Rattle.image_file.specs.Images.{IsThere}
use Rattle.image_file.proofs.BesideLemmas.{stays_after}
use Rattle.script_images.proofs.RunLemmas.{not_held, not_put}
use Rattle.script_images.proofs.running.run_on.Goals as goal

pub returns-in-Err-clause-ends : goal.returns-in-Err-clause-ends
returns-in-Err-clause-ends g c =
    not_held c.args.given (lines_of c.args.script.now) c.args.ending c.args.is_strict _ _ (g.W.Write.contents c.args.writer.now) c.in-Err.fault c.in-Err.ensures.refused c.in-Err.ensures.same

pub returns-in-Err-put_image-clause-ends : goal.returns-in-Err-put_image-clause-ends
returns-in-Err-put_image-clause-ends g c =
    not_put c.args.given (lines_of c.args.script.now) c.args.ending c.args.is_strict (g.P.Images.holds c.args.images.now c.args.path.now) (g.P.Images.holds c.play_held.new.images c.args.path.now) (g.P.Images.holds c.put_image.new.images c.args.path.now)
    (g.W.Write.contents c.args.writer.now) c.in-Ok.played.image.items c.in-Ok.played.text.items c.deref.result.now c.in-Err-put_image.why c.of_file.result
    c.of_file.ensures c.in-Ok.ensures.ok c.play_held.ensures.same c.deref.ensures.value c.in-Err-put_image.ensures.err

pub returns-in-Ok-put-clause-ends : goal.returns-in-Ok-put-clause-ends
returns-in-Ok-put-clause-ends g c = record {
  left = c.in-Ok.played.image.items;
  text = c.in-Ok.played.text.items;
  played = c.in-Ok.ensures.ok;
  is_there = subst (λ (l : List ℕ). IsThere l (g.P.Images.holds c.put_image.new.images c.args.path.now)) c.deref.ensures.value c.in_default.ensures.ok;
  written = subst (λ (l : List ℕ). Appends (g.W.Write.contents c.args.writer.now) (g.W.Write.contents c.put.new.writer) l) c.deref-2.ensures.value c.in-Ok-put.ensures.ok;
}

pub returns-clause-ends : goal.returns-clause-ends
returns-clause-ends g c = record {
  left = c.in-Ok.played.image.items;
  text = c.in-Ok.played.text.items;
  played = c.in-Ok.ensures.ok;
  is_there = subst (λ (l : List ℕ). IsThere l (g.P.Images.holds c.put_image.new.images c.args.path.now)) c.deref.ensures.value c.in_default.ensures.ok;
  part = subst (λ (l : List ℕ). AppendsPart (g.W.Write.contents c.args.writer.now) (g.W.Write.contents c.put.new.writer) l) c.deref-2.ensures.value c.in-Err-put.ensures.part;
}

pub returns-in-Err-put_image-clause-beside : goal.returns-in-Err-put_image-clause-beside
returns-in-Err-put_image-clause-beside g c = stays_after c.play_held.ensures.beside c.put_image.ensures.beside

pub returns-in-Ok-put-clause-beside : goal.returns-in-Ok-put-clause-beside
returns-in-Ok-put-clause-beside g c = stays_after c.play_held.ensures.beside c.put_image.ensures.beside

pub returns-clause-beside : goal.returns-clause-beside
returns-clause-beside g c = stays_after c.play_held.ensures.beside c.put_image.ensures.beside
