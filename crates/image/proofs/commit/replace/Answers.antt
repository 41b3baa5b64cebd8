use Rattle.std.proofs.Common.{◌≡◌, ◌<◌, [], ◌∷◌, refl, ap, ◌∙◌, arith, rules}
use Rattle.image_parts.specs.Slots.{other, slot_at, body_at}
use Rattle.image.proofs.Commits.{commit_made, now_whole, after_close, after_body, after_open, steady_before, steady_new}
use Rattle.image_parts.proofs.SlotLemmas.{sequence_spelled}
use Rattle.image.proofs.Committed.{commits}
use Rattle.image.proofs.commit.replace.Goals as goal

pub returns-in_err-close-clause-commits : goal.returns-in_err-close-clause-commits
returns-in_err-close-clause-commits g c = λ new spelled.
    commits steady_before
    (search rules)
    (search rules)
    (search rules)
    (
    λ old steady newer.
    let d0 = g.D.Disk.device c.args.disk.now in
    let d1 = g.D.Disk.device c.close.new.disk in
    let at_is : c.start-gate.result ≡ slot_at (other c.args.chosen) = c.start-gate.ensures ∙ ap slot_at c.other-slot.ensures in
    after_close c.args.layout.now d0 c.args.chosen old steady new c.args.content.now spelled c.requires.long newer c.start-gate.result at_is (body_at (other c.args.chosen)) refl d1 c.close.ensures.any_moment
    )
    (search rules)

pub returns-in_err-write_through-clause-commits : goal.returns-in_err-write_through-clause-commits
returns-in_err-write_through-clause-commits g c = λ new spelled.
    commits steady_before
    (search rules)
    (search rules)
    (search rules)
    (
    λ old steady newer.
    let d0 = g.D.Disk.device c.args.disk.now in
    let d1 = g.D.Disk.device c.close.new.disk in
    let d2 = g.D.Disk.device c.write_through.new.disk in
    let at_is : c.start-gate.result ≡ slot_at (other c.args.chosen) = c.start-gate.ensures ∙ ap slot_at c.other-slot.ensures in
    let place_is : c.body.result ≡ body_at (other c.args.chosen) = c.body.ensures ∙ ap body_at c.other-slot.ensures in
    after_body c.args.layout.now d0 c.args.chosen old steady new c.args.content.now spelled c.requires.long newer c.start-gate.result at_is c.body.result place_is d1 c.close.ensures.any_moment
    c.in_ok-close.ensures.closed d2 c.write_through.ensures.any_moment
    )
    (search rules)

pub returns-in_err-write_through-2-clause-commits : goal.returns-in_err-write_through-2-clause-commits
returns-in_err-write_through-2-clause-commits g c = λ new spelled.
    commits steady_before
    (search rules)
    (search rules)
    (search rules)
    (
    λ old steady newer.
    let d0 = g.D.Disk.device c.args.disk.now in
    let d1 = g.D.Disk.device c.close.new.disk in
    let d2 = g.D.Disk.device c.write_through.new.disk in
    let d3 = g.D.Disk.device c.write_through-2.new.disk in
    let at_is : c.start-gate.result ≡ slot_at (other c.args.chosen) = c.start-gate.ensures ∙ ap slot_at c.other-slot.ensures in
    let place_is : c.body.result ≡ body_at (other c.args.chosen) = c.body.ensures ∙ ap body_at c.other-slot.ensures in
    after_open c.args.layout.now d0 c.args.chosen old steady new c.args.content.now spelled c.requires.long newer c.start-gate.result at_is c.body.result place_is d1 c.close.ensures.any_moment
    c.in_ok-close.ensures.closed d2 c.write_through.ensures.any_moment (now_whole d1 d2 c.body.result c.args.content.now c.in_ok-write_through.ensures.ok) d3 c.write_through-2.ensures.any_moment
    )
    (search rules)

pub returns-clause-commits : goal.returns-clause-commits
returns-clause-commits g c = λ new spelled.
    commits steady_before
    (
    let d0 = g.D.Disk.device c.args.disk.now in
    let d1 = g.D.Disk.device c.close.new.disk in
    let d2 = g.D.Disk.device c.write_through.new.disk in
    let d3 = g.D.Disk.device c.write_through-2.new.disk in
    let at_is : c.start-gate.result ≡ slot_at (other c.args.chosen) = c.start-gate.ensures ∙ ap slot_at c.other-slot.ensures in
    let place_is : c.body.result ≡ body_at (other c.args.chosen) = c.body.ensures ∙ ap body_at c.other-slot.ensures in
    let r = c.requires.steady in
    let bytes = c.args.content.now in
    let newer : r.0.sequence < new.sequence = omega (arith, sequence_spelled c.args.layout.now bytes new spelled, sequence_spelled c.args.layout.now bytes r.1 r.3, r.4) in
    steady_new c.args.layout.now d0 c.args.chosen r.0 r.2 new bytes spelled c.requires.long newer c.start-gate.result at_is c.body.result place_is d1 c.close.ensures.any_moment
    c.in_ok-close.ensures.closed d2 c.write_through.ensures.any_moment (now_whole d1 d2 c.body.result c.args.content.now c.in_ok-write_through.ensures.ok) d3 c.write_through-2.ensures.any_moment (now_whole d2 d3 c.start-gate.result (165 ∷ []) c.in_ok-write_through-2.ensures.ok)
    )
    (search rules)
    (
    let d0 = g.D.Disk.device c.args.disk.now in
    let d1 = g.D.Disk.device c.close.new.disk in
    let d2 = g.D.Disk.device c.write_through.new.disk in
    let d3 = g.D.Disk.device c.write_through-2.new.disk in
    let at_is : c.start-gate.result ≡ slot_at (other c.args.chosen) = c.start-gate.ensures ∙ ap slot_at c.other-slot.ensures in
    let place_is : c.body.result ≡ body_at (other c.args.chosen) = c.body.ensures ∙ ap body_at c.other-slot.ensures in
    commit_made c.args.chosen c.args.content.now d0 d1 d2 d3 c.start-gate.result c.body.result at_is place_is
    c.in_ok-close.ensures.calls c.in_ok-write_through.ensures.ok c.in_ok-write_through-2.ensures.ok
    )
    (
    λ old steady newer.
    let d0 = g.D.Disk.device c.args.disk.now in
    let d1 = g.D.Disk.device c.close.new.disk in
    let d2 = g.D.Disk.device c.write_through.new.disk in
    let d3 = g.D.Disk.device c.write_through-2.new.disk in
    let at_is : c.start-gate.result ≡ slot_at (other c.args.chosen) = c.start-gate.ensures ∙ ap slot_at c.other-slot.ensures in
    let place_is : c.body.result ≡ body_at (other c.args.chosen) = c.body.ensures ∙ ap body_at c.other-slot.ensures in
    after_open c.args.layout.now d0 c.args.chosen old steady new c.args.content.now spelled c.requires.long newer c.start-gate.result at_is c.body.result place_is d1 c.close.ensures.any_moment
    c.in_ok-close.ensures.closed d2 c.write_through.ensures.any_moment (now_whole d1 d2 c.body.result c.args.content.now c.in_ok-write_through.ensures.ok) d3 c.write_through-2.ensures.any_moment
    )
    (search rules)
