use Rattle.script_images.proofs.OpeningLemmas.{disk_over}
use Rattle.script_images.proofs.opening.machine_over.Goals as goal

pub down-requires : goal.down-requires
down-requires c =
    disk_over c.disk_law.ensures c.args.given c.args.image.now c.in-Ok.disk c.schema_on.new.disk c.in-Ok-schema_on.schema c.in-Ok.ensures c.in-Ok-schema_on.ensures.ok c.schema_on.ensures.same
