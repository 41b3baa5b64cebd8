use Rattle.std.proofs.Common.{◌∙◌, sym}
use Rattle.image_parts.specs.Calls.{after}
use Rattle.image_parts.specs.Format.{format_calls}
use Rattle.store_image.proofs.formatting.format.Goals as goal

pub returns-in-Ok-write_header-clause-calls : goal.returns-in-Ok-write_header-clause-calls
returns-in-Ok-write_header-clause-calls g c =
    let is = c.of-in-Ok-write_header.ensures in
    (λ i. g.D.Disk.device (is i).disk) ∙ c.in-Ok-write_header.ensures.calls
    ∙ (λ i. after (format_calls (sym is i).layout c.args.schema.now) (g.D.Disk.device c.args.disk))
