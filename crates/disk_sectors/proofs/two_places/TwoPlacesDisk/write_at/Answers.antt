use Rattle.std.proofs.Common.{ℕ, ◌+◌, ◌≤◌, List, length, subst, rules}
use Rattle.disk_sectors.specs.Places.{Reads}
use Rattle.disk_sectors.proofs.TwoAreas.{kept_written}
use Rattle.disk_sectors.proofs.two_places.TwoPlacesDisk.write_at.Goals as goal

pub invariant_of-self : goal.invariant_of-self
invariant_of-self g c =
    let d = c.self.inside in
    let on = (g.S.Sectors.device d.sectors).now.bytes in
    let fits : c.args.at + length c.args.bytes.now ≤ length d.image.items = search rules in
    rw (c.write_image.ensures.image, c.write.ensures) (
      c.self.invariant.0,
      kept_written d.size d.gate.is_firm d.gate.turn d.fresh d.stale c.write_image.new.fresh c.write_image.new.stale d.image.items d.trace.past.device.now (g.S.Sectors.device d.sectors)
          c.args.at c.args.bytes.now fits c.write_image.ensures.count.0 c.write_image.ensures.count.1
          (λ reads. subst (λ (xs : List ℕ). Reads d.size (length d.fresh) d.gate.turn c.write_image.new.fresh c.write_image.new.stale xs on) c.write_image.ensures.image
          (c.write_image.ensures.reads d.gate.turn on reads))
          c.self.invariant.1,
    )
