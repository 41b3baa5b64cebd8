use Rattle.std.proofs.Common.{length, refl}
use Rattle.disk_sectors.proofs.TwoAreas.{reads_written}
use Rattle.disk_sectors.proofs.places.write_image.Goals as goal

pub returns-clause-reads : goal.returns-clause-reads
returns-clause-reads c = λ turn on reads.
    rw c.put.ensures
    (reads_written c.args.size (length c.args.fresh.now) turn c.args.fresh.now c.args.stale.now c.mark.new.self c.mark-2.new.self c.args.image.now.items on c.args.at c.args.bytes.now
    refl c.requires.count c.requires.fits c.mark.ensures.marked c.mark-2.ensures.marked reads)
