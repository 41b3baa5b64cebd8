use Rattle.std.proofs.Common.{◌≡◌, ◌+◌, ℕ, [], ◌∷◌, ap, ◌∙◌, rules}
use Rattle.image_parts.specs.Slots.{other, body_at, slot_at}
use Rattle.image.proofs.Commits.{now_whole}
use Rattle.image.proofs.Turning.{after_rest, after_turn, steady_turned, two_made}
use Rattle.image.proofs.Committed.{commits, turned_starts}
use Rattle.image.proofs.one_gate.commit_by_closing.Goals as goal

pub returns-in_err-write_through-clause-commits : goal.returns-in_err-write_through-clause-commits
returns-in_err-write_through-clause-commits g c = λ new spelled.
    commits turned_starts
    (search rules)
    (search rules)
    (search rules)
    (
    λ old steady was.
    let place_is : c.body.result + 8 ≡ body_at (other c.args.chosen) + 8 = ap (λ (k : ℕ). k + 8) (c.body.ensures ∙ ap body_at c.other-slot.ensures) in
    after_rest c.args.layout.now (g.D.Disk.device c.args.disk.now) c.args.chosen old new steady c.args.rest.now c.requires.long c.requires.open spelled (c.body.result + 8) place_is
    (g.D.Disk.device c.write_through.new.disk) c.write_through.ensures.any_moment
    )
    (search rules)

pub returns-in_err-write_through-2-clause-commits : goal.returns-in_err-write_through-2-clause-commits
returns-in_err-write_through-2-clause-commits g c = λ new spelled.
    commits turned_starts
    (search rules)
    (search rules)
    (search rules)
    (
    λ old steady was.
    let d = g.D.Disk.device c.args.disk.now in
    let d1 = g.D.Disk.device c.write_through.new.disk in
    let place_is : c.body.result + 8 ≡ body_at (other c.args.chosen) + 8 = ap (λ (k : ℕ). k + 8) (c.body.ensures ∙ ap body_at c.other-slot.ensures) in
    after_turn c.args.layout.now d c.args.chosen old new steady c.args.rest.now c.requires.long c.requires.open spelled (c.body.result + 8) place_is d1 c.write_through.ensures.any_moment
    (now_whole d d1 (c.body.result + 8) c.args.rest.now c.in_ok-write_through.ensures.ok) c.start.result c.start.ensures (g.D.Disk.device c.write_through-2.new.disk) c.write_through-2.ensures.any_moment
    )
    (search rules)

pub returns-clause-commits : goal.returns-clause-commits
returns-clause-commits g c = λ new spelled.
    commits turned_starts
    (
    let d = g.D.Disk.device c.args.disk.now in
    let d1 = g.D.Disk.device c.write_through.new.disk in
    let d2 = g.D.Disk.device c.write_through-2.new.disk in
    let r = c.requires.steady in
    let place_is : c.body.result + 8 ≡ body_at (other c.args.chosen) + 8 = ap (λ (k : ℕ). k + 8) (c.body.ensures ∙ ap body_at c.other-slot.ensures) in
    steady_turned c.args.layout.now d c.args.chosen r.0 new r.1 c.args.rest.now c.requires.long c.requires.open spelled (c.body.result + 8) place_is d1 c.write_through.ensures.any_moment
    (now_whole d d1 (c.body.result + 8) c.args.rest.now c.in_ok-write_through.ensures.ok) c.start.result c.start.ensures d2 c.write_through-2.ensures.any_moment
    (now_whole d1 d2 c.start.result (0 ∷ []) c.in_ok-write_through-2.ensures.ok)
    )
    (search rules)
    (
    let place_is : c.body.result + 8 ≡ body_at (other c.args.chosen) + 8 = ap (λ (k : ℕ). k + 8) (c.body.ensures ∙ ap body_at c.other-slot.ensures) in
    two_made (g.D.Disk.device c.args.disk.now) (g.D.Disk.device c.write_through.new.disk) (g.D.Disk.device c.write_through-2.new.disk)
    (c.body.result + 8) (body_at (other c.args.chosen) + 8) c.start.result (slot_at c.args.chosen) c.args.rest.now (0 ∷ []) place_is c.start.ensures
    c.in_ok-write_through.ensures.ok c.in_ok-write_through-2.ensures.ok
    )
    (
    λ old steady was.
    let d = g.D.Disk.device c.args.disk.now in
    let d1 = g.D.Disk.device c.write_through.new.disk in
    let place_is : c.body.result + 8 ≡ body_at (other c.args.chosen) + 8 = ap (λ (k : ℕ). k + 8) (c.body.ensures ∙ ap body_at c.other-slot.ensures) in
    after_turn c.args.layout.now d c.args.chosen old new steady c.args.rest.now c.requires.long c.requires.open spelled (c.body.result + 8) place_is d1 c.write_through.ensures.any_moment
    (now_whole d d1 (c.body.result + 8) c.args.rest.now c.in_ok-write_through.ensures.ok) c.start.result c.start.ensures (g.D.Disk.device c.write_through-2.new.disk) c.write_through-2.ensures.any_moment
    )
    (search rules)
