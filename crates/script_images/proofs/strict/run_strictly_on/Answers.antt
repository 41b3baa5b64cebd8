use Rattle.std.proofs.Common.{◌+◌, ap, inr, subst, sym, ◌∙◌}
use Rattle.script_lines.specs.Lines.{lines_of}
use Rattle.script_play.specs.Runs.{IsMissing}
use Rattle.script_images.proofs.StrictLemmas.{fit_on, printed_front}
use Rattle.script_images.proofs.strict.run_strictly_on.Goals as goal
use Rattle.script_images.proofs.strict.run_strictly_on.Goals.{in-TooLong, in-Fault, in-NoMemory}

pub returns : goal.returns
returns g c =
    let ending = c.args.ending in
    let lines = lines_of c.args.lines.now in
    let missing : IsMissing ending c.match-ending.kind = elim c.match-ending.branch [
      | in-TooLong w ↦ subst (λ e. IsMissing e c.match-ending.kind) (sym w.in-TooLong.is) w.kind-is
      | in-Fault w ↦ subst (λ e. IsMissing e c.match-ending.kind) (sym w.in-Fault.is) w.kind-is
      | in-NoMemory w ↦ subst (λ e. IsMissing e c.match-ending.kind) (sym w.in-NoMemory.is) w.kind-is
    ] in (
      inr (record {
        counted = ap (λ n. n + 1) c.in-Ok.ensures.count;
        why = missing;
        before = fit_on _ _ _ _ _ c.in-Ok.ensures.ok;
      }),
      (λ _. printed_front _ lines _ c.in-Ok.played _ _ c.in-Ok.ensures.count c.in-Ok.ensures.ok),
      (λ e. elim c.match-ending.branch [
        | in-TooLong w ↦ absurd (let no = sym w.kind-is ∙ e in cc)
        | in-Fault w ↦ absurd (let no = sym w.kind-is ∙ e in cc)
        | in-NoMemory w ↦ absurd (let no = sym w.kind-is ∙ e in cc)
      ]),
    )
