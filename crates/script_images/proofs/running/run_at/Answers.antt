use Rattle.std.proofs.Common.{List, ℕ, Option, inl, inr, refl, subst, sym}
use Rattle.std.proofs.KnownBytes.{Appends-nil}
use Rattle.script_lines.specs.Lines.{lines_of}
use Rattle.image_file.proofs.BesideLemmas.{stays_before}
use Rattle.script_images.specs.Running.{RunsHeld}
use Rattle.script_images.proofs.running.run_at.Goals as goal

pub returns-in-Err-clause-ends : goal.returns-in-Err-clause-ends
returns-in-Err-clause-ends g c = inl (refl, Appends-nil (g.W.Write.contents c.args.writer.now))

pub returns-clause-ends : goal.returns-clause-ends
returns-clause-ends g c =
    let given = c.in-Ok.given in
    let script = c.read_lines-script.result.0.items in
    let ending = c.read_lines-script.result.1 in
    let had = g.P.Images.holds c.args.images.now c.args.path.now in
    let old = g.W.Write.contents c.args.writer.now in
    let new = g.W.Write.contents c.run_image-ended.new.writer in
    inr (
      script,
      ending,
      c.read_lines-script.ensures,
      record {
        given = given;
        is_named = c.in-Ok.ensures.ok;
        runs = subst (λ (has : Option (List ℕ)). RunsHeld given (lines_of script) ending c.args.is_strict c.run_image-ended.result had has old new) (sym c.tidy.ensures.same) (rw c.deref.ensures.value at c.run_image-ended.ensures.ends);
      },
    )

pub returns-clause-beside : goal.returns-clause-beside
returns-clause-beside g c = stays_before c.run_image-ended.ensures.beside c.tidy.ensures.beside
