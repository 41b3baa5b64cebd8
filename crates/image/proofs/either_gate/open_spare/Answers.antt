use Rattle.std.proofs.Common.{ℕ, List, ap, ◌∙◌, arith, rules}
use Rattle.image_parts.specs.Calls.{after}
use Rattle.image.specs.Commit.{body_calls}
use Rattle.image_parts.specs.Control.{control_of}
use Rattle.image_parts.specs.Slots.{other}
use Rattle.image.proofs.EitherGates.{content_spells}
use Rattle.image.proofs.Committed.{commits, turned_starts}
use Rattle.image.proofs.either_gate.open_spare.Goals as goal

pub commit_by_opening-requires-clause-steady : goal.commit_by_opening-requires-clause-steady
commit_by_opening-requires-clause-steady g c =
    let r = c.requires.steady in (
      r.0,
      control_of c.args.next c.args.rows.now,
      r.1,
      content_spells c.args.layout.now c.args.rows.now c.args.next c.content_of-content.result (omega (arith, r.2)) (omega arith) c.requires.rows c.content_of-content.ensures,
      r.2,
    )

pub returns-in-Ok-clause-commits : goal.returns-in-Ok-clause-commits
returns-in-Ok-clause-commits g c =
    let r = c.requires.steady in
    let made = c.in-Ok.ensures.commits (control_of c.args.next c.args.rows.now)
    (content_spells c.args.layout.now c.args.rows.now c.args.next c.content_of-content.result (omega (arith, r.2)) (omega arith) c.requires.rows c.content_of-content.ensures) in
    commits turned_starts made.ok made.durable
    (made.calls ∙ ap (λ (bytes : List ℕ). after (body_calls (other c.args.chosen) bytes) (g.D.Disk.device c.args.disk.now)) c.content_of-content.ensures)
    made.any_moment (search rules)

pub returns-in-Err-clause-commits : goal.returns-in-Err-clause-commits
returns-in-Err-clause-commits g c =
    let r = c.requires.steady in
    let made = c.commit_by_opening.ensures.commits (control_of c.args.next c.args.rows.now)
    (content_spells c.args.layout.now c.args.rows.now c.args.next c.content_of-content.result (omega (arith, r.2)) (omega arith) c.requires.rows c.content_of-content.ensures) in
    commits turned_starts tt tt tt made.any_moment (search rules)
