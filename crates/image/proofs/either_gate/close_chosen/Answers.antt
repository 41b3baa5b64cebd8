use Rattle.std.proofs.Common.{◌≡◌, ◌+◌, ℕ, List, take, drop, length, ap, ◌∙◌, arith, length-drop, rules}
use Rattle.std.proofs.lemmas.List.{take_all}
use Rattle.image_parts.specs.Calls.{after}
use Rattle.image.specs.Commit.{turning_calls}
use Rattle.image_parts.specs.Control.{control_of}
use Rattle.image.proofs.EitherGates.{closing_spells}
use Rattle.image.proofs.Committed.{commits, turned_starts}
use Rattle.image.proofs.either_gate.close_chosen.Goals as goal

-- all of the content behind its first bytes
rest : (n : ℕ) (content : List ℕ) → length content ≡ n + 8 → take n (drop 8 content) ≡ drop 8 content
rest n content long = take_all n (drop 8 content) (omega (arith, length-drop 8 content, long))

pub returns-in-Ok-clause-commits : goal.returns-in-Ok-clause-commits
returns-in-Ok-clause-commits g c =
    let made = c.in-Ok.ensures.commits (control_of c.args.next c.args.rows.now)
    (closing_spells c.args.layout.now c.args.rows.now c.args.next c.content_of-content.result _ _ c.requires.some (omega arith) c.requires.rows c.content_of-content.ensures
    (rest 1032 c.content_of-content.result (omega arith)) c.requires.stands) in
    commits turned_starts made.ok made.durable
    (made.calls ∙ ap (λ (bytes : List ℕ). after (turning_calls c.args.chosen bytes) (g.D.Disk.device c.args.disk.now))
    (rest 1032 c.content_of-content.result (omega arith) ∙ ap (drop 8) c.content_of-content.ensures))
    made.any_moment (search rules)

pub returns-in-Err-clause-commits : goal.returns-in-Err-clause-commits
returns-in-Err-clause-commits g c =
    let made = c.commit_by_closing.ensures.commits (control_of c.args.next c.args.rows.now)
    (closing_spells c.args.layout.now c.args.rows.now c.args.next c.content_of-content.result _ _ c.requires.some (omega arith) c.requires.rows c.content_of-content.ensures
    (rest 1032 c.content_of-content.result (omega arith)) c.requires.stands) in
    commits turned_starts tt tt tt made.any_moment (search rules)
