use Rattle.std.proofs.Common.{sym, subst}
use Rattle.block_disk.specs.Device.{Device}
use Rattle.image_parts.specs.Format.{IsFresh}
use Rattle.image_parts.proofs.Fresh.{format_made, fresh_made}
use Rattle.image_parts.proofs.format.write_header.Goals as goal

pub returns-clause-calls : goal.returns-clause-calls
returns-clause-calls g c =
    format_made c.args.layout.now c.args.schema.now (g.D.Disk.device c.args.disk.now) (g.D.Disk.device c.put_name.new.disk) (g.D.Disk.device c.put_slots.new.disk) (g.D.Disk.device c.put_fields.new.disk)
    (g.D.Disk.device c.make_durable.new.disk) (g.D.Disk.device c.write_through.new.disk) c.in_ok-put_name.ensures.calls c.in_ok-put_slots.ensures.calls c.in_ok-put_fields.ensures.calls c.in_ok-make_durable.ensures.ok c.in_ok-write_through.ensures.ok

pub returns-clause-ok : goal.returns-clause-ok
returns-clause-ok g c =
    let made = format_made c.args.layout.now c.args.schema.now (g.D.Disk.device c.args.disk.now) (g.D.Disk.device c.put_name.new.disk) (g.D.Disk.device c.put_slots.new.disk) (g.D.Disk.device c.put_fields.new.disk)
    (g.D.Disk.device c.make_durable.new.disk) (g.D.Disk.device c.write_through.new.disk) c.in_ok-put_name.ensures.calls c.in_ok-put_slots.ensures.calls c.in_ok-put_fields.ensures.calls c.in_ok-make_durable.ensures.ok c.in_ok-write_through.ensures.ok in
    subst (λ (d : Device). IsFresh c.args.schema.now c.args.layout.now d.now.bytes) (sym made) (fresh_made c.args.layout.now c.args.schema.now (g.D.Disk.device c.args.disk.now) c.requires.schema c.requires.fits)
