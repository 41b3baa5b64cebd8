use Rattle.std.proofs.Common.{◌≡◌, ◌∙◌, ap, sym, subst, List, ℕ}
use Rattle.std.proofs.lemmas.Result.{err_from_is_err_and}
use Rattle.block_disk.specs.Device.{Moment}
use Rattle.block_disk.specs.Bytes.{part}
use Rattle.image_parts.specs.Slots.{body}
use Rattle.image_parts.specs.Control.{Spells}
use Rattle.image_parts.proofs.Choices.{refused, none_spelled, picked_shows, body_read}
use Rattle.image_parts.proofs.choice.choose_control.Goals as goal

pub returns-in_err-slot-clause-exact : goal.returns-in_err-slot-clause-exact
returns-in_err-slot-clause-exact g c =
    let image = (g.D.Disk.device c.args.disk.now).now.bytes in
    let p = err_from_is_err_and c.from_residual.result c.from_residual.ensures.1 in
    rw (p.1, p.2) (refused c.args.layout.now image c.in_err-slot.field-0.0 c.in_err-slot.ensures.exact)

pub returns-in_default-clause-exact : goal.returns-in_default-clause-exact
returns-in_default-clause-exact g c =
    let l = c.args.layout.now in
    let image = (g.D.Disk.device c.args.disk.now).now.bytes in
    let s = c.in_ok-slot.slot in
    let out = c.read_within.new.out in
    let is : out ≡ body s image = body_read image out s c.body.result c.body.ensures (c.in_ok-read_within.ensures.ok ∙ ap (λ (m : Moment). part c.body.result 1040 m.bytes) c.pick.ensures.same.now) in (
      (s, c.in_ok-slot.ensures.exact.0),
      none_spelled l image s c.in_ok-slot.ensures.exact (λ d spells. c.in_default.ensures.none d (subst (λ (b : List ℕ). Spells l b d) (sym is) spells)),
    )

pub returns-clause-exact : goal.returns-clause-exact
returns-clause-exact g c =
    let l = c.args.layout.now in
    let image = (g.D.Disk.device c.args.disk.now).now.bytes in
    let s = c.in_ok-slot.slot in
    let out = c.read_within.new.out in
    let is : out ≡ body s image = body_read image out s c.body.result c.body.ensures (c.in_ok-read_within.ensures.ok ∙ ap (λ (m : Moment). part c.body.result 1040 m.bytes) c.pick.ensures.same.now) in
    picked_shows l image s c.in-Some.control c.requires.fits c.in_ok-slot.ensures.exact (subst (λ (b : List ℕ). Spells l b c.in-Some.control) is c.in-Some.ensures.some)
