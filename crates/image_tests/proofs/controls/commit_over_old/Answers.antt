use Rattle.std.proofs.Common.{◌≡◌, [], refl, sym, ap, subst, ◌∙◌}
use Rattle.block_disk.specs.Device.{Device, Moment}
use Rattle.block_disk.specs.Memory.{device_of}
use Rattle.image_parts.specs.Slots.{Shows}
use Rattle.image_tests.proofs.controls.commit_over_old.Goals as goal

pub commit_control-requires-clause-rows : goal.commit_control-requires-clause-rows
commit_control-requires-clause-rows c = c.in-Ok-choose_control.ensures.exact.spells.valid.rows

pub commit_control-requires-clause-steady : goal.commit_control-requires-clause-steady
commit_control-requires-clause-steady c =
    let found = c.in-Ok-choose_control in
    let d : Device = device_of c.choose_control.new.disk in
    let same = found.ensures.same.now in
    let rest : d.now.pending ≡ [] = ap (λ (m : Moment). m.pending) same ∙ ap (λ (e : Device). e.now.pending) c.in-Ok-sync.ensures.ok in
    let shows : Shows c.args.layout.now d.now.bytes found.chosen found.control = subst (λ (m : Moment). Shows c.args.layout.now m.bytes found.chosen found.control) (sym same) found.ensures.exact in
    (found.control, c.steady_law.ensures.now c.args.layout.now d found.chosen found.control rest shows, refl)
