use Rattle.std.proofs.Common.{ap, sym, ◌∙◌, ◌≡◌, replicate}
use Rattle.block_disk.specs.Device.{new_device}
use Rattle.image_parts.specs.Calls.{after}
use Rattle.image_parts.specs.Format.{format_calls}
use Rattle.image_parts.specs.Layout.{size_of}
use Rattle.disk_sector_file.specs.ImageDisks.{room_for}
use Rattle.image_file.proofs.format.formatted.Goals as goal

pub returns-in-Ok-format-clause-ok : goal.returns-in-Ok-format-clause-ok
returns-in-Ok-format-clause-ok g c =
    let made = c.in-Ok-format.made in
    let layout_is = c.layout-layout.ensures.layout ∙ c.in-Ok-format.ensures.layout in
    let disks : g.D.Disk.device c.into_disk.result ≡ g.D.Disk.device made.disk = ap (λ d. g.D.Disk.device d) c.into_disk.ensures.disk in
    record {
      limits = c.in-Ok-format.ensures.limits;
      layout_is = layout_is;
      made = disks
          ∙ c.in-Ok-format.ensures.calls
          ∙ ap (λ l. after (format_calls l c.args.schema.now) (g.D.Disk.device c.in-Ok.disk)) (sym c.layout-layout.ensures.layout)
          ∙ ap (after (format_calls c.layout-layout.result c.args.schema.now)) (c.in-Ok.ensures.ok ∙ ap (λ n. new_device (replicate (room_for c.args.new.kind n) 0)) (c.requires ∙ ap size_of (sym layout_is)));
    }

pub returns-in-Ok-format-clause-durable : goal.returns-in-Ok-format-clause-durable
returns-in-Ok-format-clause-durable g c = c.into_disk.ensures.recovered.durable
