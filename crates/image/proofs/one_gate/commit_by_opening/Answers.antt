use Rattle.std.proofs.Common.{◌≡◌, ◌<◌, [], ◌∷◌, ap, ◌∙◌, arith, rules}
use Rattle.image_parts.specs.Slots.{other, body_at, slot_at}
use Rattle.image.proofs.Commits.{now_whole}
use Rattle.image_parts.proofs.SlotLemmas.{sequence_spelled}
use Rattle.image.proofs.Opening.{after_body, after_opening, steady_opened}
use Rattle.image.proofs.Turning.{two_made}
use Rattle.image.proofs.Committed.{commits, turned_starts}
use Rattle.image.proofs.one_gate.commit_by_opening.Goals as goal

pub returns-in_err-write_through-clause-commits : goal.returns-in_err-write_through-clause-commits
returns-in_err-write_through-clause-commits g c = λ new spelled.
    commits turned_starts
    (search rules)
    (search rules)
    (search rules)
    (
    λ old steady newer.
    let place_is : c.body.result ≡ body_at (other c.args.chosen) = c.body.ensures ∙ ap body_at c.other-slot.ensures in
    after_body c.args.layout.now (g.D.Disk.device c.args.disk.now) c.args.chosen old new steady c.args.content.now c.requires.long c.requires.closed spelled newer c.body.result place_is
    (g.D.Disk.device c.write_through.new.disk) c.write_through.ensures.any_moment
    )
    (search rules)

pub returns-in_err-write_through-2-clause-commits : goal.returns-in_err-write_through-2-clause-commits
returns-in_err-write_through-2-clause-commits g c = λ new spelled.
    commits turned_starts
    (search rules)
    (search rules)
    (search rules)
    (
    λ old steady newer.
    let d = g.D.Disk.device c.args.disk.now in
    let d1 = g.D.Disk.device c.write_through.new.disk in
    let place_is : c.body.result ≡ body_at (other c.args.chosen) = c.body.ensures ∙ ap body_at c.other-slot.ensures in
    after_opening c.args.layout.now d c.args.chosen old new steady c.args.content.now c.requires.long c.requires.closed spelled newer c.body.result place_is d1 c.write_through.ensures.any_moment
    (now_whole d d1 c.body.result c.args.content.now c.in_ok-write_through.ensures.ok) c.start.result (c.start.ensures ∙ ap slot_at c.other-slot.ensures) (g.D.Disk.device c.write_through-2.new.disk) c.write_through-2.ensures.any_moment
    )
    (search rules)

pub returns-clause-commits : goal.returns-clause-commits
returns-clause-commits g c = λ new spelled.
    commits turned_starts
    (
    let d = g.D.Disk.device c.args.disk.now in
    let d1 = g.D.Disk.device c.write_through.new.disk in
    let d2 = g.D.Disk.device c.write_through-2.new.disk in
    let r = c.requires.steady in
    let bytes = c.args.content.now in
    let newer : r.0.sequence < new.sequence = omega (arith, sequence_spelled c.args.layout.now bytes new spelled, sequence_spelled c.args.layout.now bytes r.1 r.3, r.4) in
    let place_is : c.body.result ≡ body_at (other c.args.chosen) = c.body.ensures ∙ ap body_at c.other-slot.ensures in
    steady_opened c.args.layout.now d c.args.chosen r.0 new r.2 c.args.content.now c.requires.long c.requires.closed spelled newer c.body.result place_is d1 c.write_through.ensures.any_moment
    (now_whole d d1 c.body.result c.args.content.now c.in_ok-write_through.ensures.ok) c.start.result (c.start.ensures ∙ ap slot_at c.other-slot.ensures) d2 c.write_through-2.ensures.any_moment
    (now_whole d1 d2 c.start.result (165 ∷ []) c.in_ok-write_through-2.ensures.ok)
    )
    (search rules)
    (
    let place_is : c.body.result ≡ body_at (other c.args.chosen) = c.body.ensures ∙ ap body_at c.other-slot.ensures in
    let at_is : c.start.result ≡ slot_at (other c.args.chosen) = c.start.ensures ∙ ap slot_at c.other-slot.ensures in
    two_made (g.D.Disk.device c.args.disk.now) (g.D.Disk.device c.write_through.new.disk) (g.D.Disk.device c.write_through-2.new.disk)
    c.body.result (body_at (other c.args.chosen)) c.start.result (slot_at (other c.args.chosen)) c.args.content.now (165 ∷ []) place_is at_is
    c.in_ok-write_through.ensures.ok c.in_ok-write_through-2.ensures.ok
    )
    (
    λ old steady newer.
    let d = g.D.Disk.device c.args.disk.now in
    let d1 = g.D.Disk.device c.write_through.new.disk in
    let place_is : c.body.result ≡ body_at (other c.args.chosen) = c.body.ensures ∙ ap body_at c.other-slot.ensures in
    after_opening c.args.layout.now d c.args.chosen old new steady c.args.content.now c.requires.long c.requires.closed spelled newer c.body.result place_is d1 c.write_through.ensures.any_moment
    (now_whole d d1 c.body.result c.args.content.now c.in_ok-write_through.ensures.ok) c.start.result (c.start.ensures ∙ ap slot_at c.other-slot.ensures) (g.D.Disk.device c.write_through-2.new.disk) c.write_through-2.ensures.any_moment
    )
    (search rules)
