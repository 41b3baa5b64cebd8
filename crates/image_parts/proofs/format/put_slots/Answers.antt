use Rattle.std.proofs.Common.{◌∙◌}
use Rattle.block_disk.specs.Device.{written}
use Rattle.image_parts.proofs.format.put_slots.Goals as goal

pub returns-clause-calls : goal.returns-clause-calls
returns-clause-calls g c =
    let d0 = g.D.Disk.device c.args.disk.now in
    c.in_ok-write_within-2.ensures.ok
    ∙ (λ i. written (c.start-2.ensures i) (c.clear_slot.ensures i) ((c.in_ok-write_within.ensures.ok ∙ (λ j. written (c.start.ensures j) (c.fill_slot.ensures j) d0)) i))
