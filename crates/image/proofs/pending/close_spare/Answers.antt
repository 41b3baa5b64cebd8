use Rattle.std.proofs.Common.{◌≡◌, ℕ, ap, subst, ◌∙◌}
use Rattle.block_disk.specs.Images.{LeavesOnly}
use Rattle.image.specs.Commit.{ClosedOrSame}
use Rattle.image_parts.specs.Slots.{other, slot_at}
use Rattle.image.proofs.Spares.{spare_shuts}
use Rattle.image.proofs.pending.close_spare.Goals as goal

pub returns-clause-any_moment : goal.returns-clause-any_moment
returns-clause-any_moment g c = λ old steady.
    let d = g.D.Disk.device c.args.disk.now in
    let e = g.D.Disk.device c.shut.new.disk in
    let at_is : c.start.result ≡ slot_at (other c.args.chosen) = c.start.ensures ∙ ap slot_at c.other-slot.ensures in
    spare_shuts c.args.layout.now d c.args.chosen old steady e (subst (λ (k : ℕ). LeavesOnly d e (ClosedOrSame d k)) at_is c.shut.ensures.any_moment)
