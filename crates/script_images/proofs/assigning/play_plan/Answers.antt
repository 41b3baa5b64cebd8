use Rattle.std.proofs.Common.{List, ℕ, Some, true, refl, inl, inr, subst, sym}
use Rattle.std.proofs.lemmas.Result.{IfErr-weaker, IfOk-weaker}
use Rattle.script_lines.specs.Lines.{lines_of}
use Rattle.script_lines.specs.declared.reader.Ending.TheVariants.{Whole}
use Rattle.script_images.specs.Assigning.{HasHeap}
use Rattle.script_images.specs.Playing.{PlaysOver, RefusesToPlay}
use Rattle.script_images.specs.declared.playing.Played.{Played}
use Rattle.script_images.proofs.assigning.play_plan.Goals as goal

pub returns-in-Ok-clause-ok : goal.returns-in-Ok-clause-ok
returns-in-Ok-clause-ok c =
    let plays = subst (λ (l : List ℕ). PlaysOver (Some c.args.schema) (lines_of l) Whole true c.args.image.now c.in-Ok.played.image.items c.in-Ok.played.text.items) c.as_bytes-script.ensures.value c.in-Ok.ensures.ok in
    IfOk-weaker c.checked.result _ _ (λ same so. record {
      plays = subst (λ (p : Played). PlaysOver (Some c.args.schema) (lines_of c.args.lines.now) Whole true c.args.image.now p.image.items p.text.items) (sym so.0) plays;
      has = subst (λ (p : Played). HasHeap c.args.heap.now p.image.items) (sym so.0) so.1;
    }) c.checked.ensures.ok

pub returns-in-Ok-clause-refused : goal.returns-in-Ok-clause-refused
returns-in-Ok-clause-refused c = IfErr-weaker c.checked.result _ _ (λ fault unchecked. inr unchecked) c.checked.ensures.refused

pub returns-in-Err-clause-refused : goal.returns-in-Err-clause-refused
returns-in-Err-clause-refused c =
    inl (c.in-Err.fault, refl, subst (λ (l : List ℕ). RefusesToPlay (Some c.args.schema) (lines_of l) Whole true c.args.image.now c.in-Err.fault) c.as_bytes-script.ensures.value c.in-Err.ensures.refused)
