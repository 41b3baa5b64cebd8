use Rattle.std.proofs.Common.{◌+◌, sym, ap, subst, ◌∙◌, inr}
use Rattle.script_play.proofs.PlayLemmas.{prints-fit, prints-front}
use Rattle.script_lines.specs.Lines.{lines_of}
use Rattle.script_play.specs.Runs.{IsMissing}
use Rattle.script_play.proofs.play.run_on.Goals as goal
use Rattle.script_play.proofs.play.run_on.Goals.{in-TooLong, in-Fault, in-NoMemory}

pub returns-in-Whole : goal.returns-in-Whole
returns-in-Whole g c = (c.in-Whole.is, prints-fit _ _ _ _ _ c.in_ok-played.ensures.ok, c.in_ok-played.ensures.ok)

pub returns : goal.returns
returns g c =
    let ending = c.args.ending in
    let lines = lines_of c.args.lines.now in
    let missing : IsMissing ending c.match-ending.kind = elim c.match-ending.branch [
      | in-TooLong w ↦ subst (λ e. IsMissing e c.match-ending.kind) (sym w.in-TooLong.is) w.kind-is
      | in-Fault w ↦ subst (λ e. IsMissing e c.match-ending.kind) (sym w.in-Fault.is) w.kind-is
      | in-NoMemory w ↦ subst (λ e. IsMissing e c.match-ending.kind) (sym w.in-NoMemory.is) w.kind-is
    ] in (
      inr (record {
        counted = ap (λ n. n + 1) c.in_ok-played.ensures.count;
        why = missing;
        before = prints-fit _ _ _ _ _ c.in_ok-played.ensures.ok;
      }),
      (λ _. prints-front _ lines _ c.in_ok-played.played _ _ c.in_ok-played.ensures.count c.in_ok-played.ensures.ok),
      (λ e. elim c.match-ending.branch [
        | in-TooLong w ↦ absurd (let no = sym w.kind-is ∙ e in cc)
        | in-Fault w ↦ absurd (let no = sym w.kind-is ∙ e in cc)
        | in-NoMemory w ↦ absurd (let no = sym w.kind-is ∙ e in cc)
      ]),
    )
